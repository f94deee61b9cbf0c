-- What the inner steps of a trace promise one another; the promise of the trace itself cites nothing here but how much room is enough.
-- Assumes nothing.
use Rattle.std.specs.Prelude.{◌≡◌, ◌≢◌, ℕ, ◌+◌, ◌-◌, ◌*◌, ◌≤◌, ◌<◌, true, false, List, [], ◌∷◌, ◌++◌, length, get_or, ℤ}
use Rattle.rules.specs.declared.Verdict.{Verdict}
use Rattle.rules.specs.Numbers.{Figures}
use Rattle.rules.specs.Report.{text, spaced}
use Rattle.rules.specs.Trace.{Listing, signed, gain_words, scans_before, bad_end, holds_pass}
use Rattle.report.specs.Bytes.{scan_bytes, move_bytes, trace_bytes}

-- where the lists hold the pass, room of this length holds every text, so that it is never refused
abbrev pub EnoughTold : Verdict → List ℕ → Figures → List ℕ → List ℕ → Listing → List ℕ → Type 0
EnoughTold v sizes f sides marks l room =
    length sides ≡ length sizes → length marks ≡ length sizes → holds_pass sizes f l ≡ true
    → trace_bytes (length sizes) (length l.recipes) ≤ length room → v.number ≢ 3

-- so many bytes are enough for move i with its scans
abbrev pub move_room : Listing → ℕ → ℕ
move_room l i = move_bytes + scan_bytes * (get_or l.ends i 0 - scans_before l i)

-- the lists hold the first n moves and the scans of each
pub record MovesHeld (n : ℕ) (l : Listing) : Type 0 where
  pub tried : n ≤ length l.tried
  pub gained : n ≤ length l.gained
  pub cuts : n ≤ length l.cuts
  pub ends : n ≤ length l.ends
  pub scans : (i : ℕ) → i < n → bad_end l i ≡ false

-- ---- the lines of a pass, grouped as they are written

-- a move, its gain when chosen and the cut after it
unfoldable pub move_line : ℕ → ℤ → ℕ → List ℕ
move_line file gain cut = text "move" ++ spaced (file ∷ []) ++ signed gain ++ spaced (cut ∷ []) ++ (10 ∷ [])

unfoldable pub gains_line : List ℤ → List ℕ
gains_line gains = text "gains" ++ gain_words gains ++ (10 ∷ [])
