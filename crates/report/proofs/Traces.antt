-- The lines of a trace: as pieces and as forms. Assumes nothing.
use mathlib.Core.Path.{◌≡◌, refl, sym, ap}
use Prim.Native.Nat.{ℕ, zero, suc, ◌+◌, ◌-◌, ◌*◌, ◌≤◌, ◌<◌}
use mathlib.Core.Bool.{Bool, true, false, not}
use mathlib.Core.List.{List, [], ◌∷◌, ◌++◌, append-nil, append_assoc}
use native.Mathlib.Omega.{arith}
use native.Mathlib.Nat.{zero-add}
use native.Mathlib.Numerals.{add-one}
use lib.ListN.{length, get_or}
use lib.IntN.{ℤ, pos}
use Rattle.std.specs.Bool.{MatchBool}
use Rattle.std.specs.List.{range_with_len, HoldsAt, AllWithin}
use Rattle.std.proofs.lemmas.List.FromFn.{length-range_with_len, get_or-range_with_len}
use borrow.Author.Tests.{ltb-false, leb-true, eqb-true, not-true}
use Rattle.rules.specs.Numbers.{Figures}
use Rattle.rules.specs.Cases.{pass_numbers}
use Rattle.rules.specs.Job.{Job}
use Rattle.rules.specs.Lists.{some_below, up_to}
use Rattle.rules.specs.Split.{size_on}
use Rattle.rules.specs.Report.{text, spaced, line, first_lines, size_line, sides_line}
use Rattle.rules.specs.Trace.{Listing, signed, scan_lines, scans_before, move_lines, moves_lines, pass_lines, bad_end, holds_pass}
use Rattle.rules.proofs.Tests.{or_no, and_yes}
use Rattle.rules.proofs.Searches.{none_below, some-here, some-none}
use Rattle.report.specs.declared.text.Text.{Text}
use Rattle.report.specs.declared.pass.PassLines.{PassLines}
use Rattle.report.specs.Bytes.{scan_bytes, move_bytes}
use Rattle.report.specs.Cases.{listed}
use Rattle.report.specs.Laying.{pieces, shown, filled}
use Rattle.report.specs.Tracing.{MovesHeld, move_line, move_room, gains_line}
use Rattle.report.specs.Writing.{Wrote}
use Rattle.report.proofs.Forms.{joined}
use Rattle.report.proofs.Laying.{grows, Laying, growing-more, wrote_as}

-- ---- texts that grow by a line for each scan or move

abbrev pub scan_line : Listing → ℕ → ℕ → List ℕ
scan_line l a k = line "scan" (get_or l.recipes (a + k) 0 ∷ get_or l.kinds (a + k) 0 ∷ [])

pub scan-pieces : (l : Listing) (a n : ℕ) → pieces (scan_line l a) (up_to n) ≡ scan_lines l a n
unfolding scan_lines
scan-pieces l a = grows (scan_line l a) (scan_lines l a) refl (λ n. refl)

pub move-pieces : (l : Listing) (n : ℕ) → pieces (move_lines l) (up_to n) ≡ moves_lines l n
unfolding moves_lines
move-pieces l = grows (move_lines l) (moves_lines l) refl (λ n. refl)

module _ (l : Listing) {a end k : ℕ} {old mid new : Text} where
  pub scan-more : a ≤ k → k < end → Laying (scan_line l a) (up_to (end - a)) (k - a) (scan_bytes * (k - a)) old mid
      → Wrote (line "scan" (get_or l.recipes k 0 ∷ get_or l.kinds k 0 ∷ [])) scan_bytes mid new
      → Laying (scan_line l a) (up_to (end - a)) (k + 1 - a) (scan_bytes * (k + 1 - a)) old new
  scan-more b h x w =
      let next : k + 1 - a ≡ k - a + 1 = omega arith in
      let here : a + (k - a) ≡ k = omega arith in
      rw next (growing-more x _ (omega arith) (wrote_as scan_bytes w (rw here refl) (omega arith)) (omega arith))

-- a move, and its scans
pub move-parts : (l : Listing) (i : ℕ)
    → move_line (get_or l.tried i 0) (get_or l.gained i (pos 0)) (get_or l.cuts i 0) ++ scan_lines l (scans_before l i) (get_or l.ends i 0 - scans_before l i)
    ≡ move_lines l i
unfolding move_line move_lines
move-parts l i = simp append_assoc

-- ---- the lists hold the pass

pub record PassHeld (sizes : List ℕ) (f : Figures) (l : Listing) : Type 0 where
  pub gains : length l.gains ≡ length sizes
  pub few : f.tried ≤ length sizes
  pub moves : MovesHeld f.tried l

pub held_tells : (sizes : List ℕ) (f : Figures) (l : Listing) → holds_pass sizes f l ≡ true → PassHeld sizes f l
held_tells sizes f l h =
    let ends = and_yes _ _ h in
    let end = and_yes _ _ ends.0 in
    let cut = and_yes _ _ end.0 in
    let gain = and_yes _ _ cut.0 in
    let file = and_yes _ _ gain.0 in
    let each = and_yes _ _ file.0 in
    record {
      gains = eqb-true (length l.gains) (length sizes) each.0;
      few = leb-true f.tried (length sizes) each.1;
      moves = record {
        tried = leb-true f.tried (length l.tried) file.1;
        gained = leb-true f.tried (length l.gained) gain.1;
        cuts = leb-true f.tried (length l.cuts) cut.1;
        ends = leb-true f.tried (length l.ends) end.1;
        scans = none_below (bad_end l) f.tried (not-true (some_below (bad_end l) f.tried) ends.1);
      };
    }

pub lines-held : (p : PassLines) → PassHeld p.split.files.sizes.now (pass_numbers p.passed) (listed p.lists)
lines-held p = held_tells p.split.files.sizes.now (pass_numbers p.passed) (listed p.lists) p.held

-- whether a search found a bad end
pub scans-held : (l : Listing) (n : ℕ) (r : Bool)
    → MatchBool r ((k : ℕ) × (k < length (range_with_len 0 n)) × HoldsAt (λ i. bad_end l i ≡ true) (range_with_len 0 n) k)
    (AllWithin (λ i. bad_end l i ≡ false) (range_with_len 0 n) 0 (length (range_with_len 0 n)))
    → not r ≡ not (some_below (bad_end l) n)
scans-held l n true m =
    let k : m.0 < n = omega (arith, m.1, length-range_with_len 0 n) in
    ap not (sym (some-here (bad_end l) n m.0 k (rw (get_or-range_with_len 0 n m.0 0 k, zero-add m.0) at (m.2 0))))
scans-held l n false m =
    ap not (sym (some-none (bad_end l) n (λ k h. rw (get_or-range_with_len 0 n k 0 h, zero-add k) at (m k 0 (omega arith) (omega (arith, length-range_with_len 0 n))))))

-- the scans of a move end no earlier than they begin, and within the scan lists
record InOrder (recipes kinds : List ℕ) (first end : ℕ) : Type 0 where
  pub rising : first ≤ end
  pub told : end ≤ length recipes
  pub kind : end ≤ length kinds

in_order : (l : Listing) (i : ℕ) → bad_end l i ≡ false → InOrder l.recipes l.kinds (scans_before l i) (get_or l.ends i 0)
in_order l i h =
    let end : ℕ = get_or l.ends i 0 in
    let late = or_no _ _ h in
    let early = or_no _ _ late.0 in
    record {
      rising = ltb-false end (scans_before l i) early.0;
      told = ltb-false (length l.recipes) end early.1;
      kind = ltb-false (length l.kinds) end late.1;
    }

-- ---- forms filled in

pub scan-form : (recipe kind : ℕ) → filled (recipe ∷ kind ∷ []) (text "scan 0 1\n") ≡ line "scan" (recipe ∷ kind ∷ [])
unfolding line spaced text pieces shown
scan-form recipe kind = simp (append_assoc, append-nil)

file-form : (n : ℕ) → filled (n ∷ []) (text "move 0") ≡ text "move" ++ spaced (n ∷ [])
unfolding spaced text pieces shown
file-form n = refl

cut-form : (n : ℕ) → filled (n ∷ []) (text " 0\n") ≡ spaced (n ∷ []) ++ (10 ∷ [])
unfolding spaced text pieces shown
cut-form n = simp append-nil

pub move-form : (file : ℕ) (gain : ℤ) (cut : ℕ) → filled (file ∷ []) (text "move 0") ++ signed gain ++ filled (cut ∷ []) (text " 0\n") ≡ move_line file gain cut
unfolding move_line
move-form file gain cut = rw (file-form file, cut-form cut) (simp append_assoc)

figures-form : (a b c d t k s v : ℕ) → filled (a ∷ b ∷ c ∷ d ∷ t ∷ k ∷ s ∷ v ∷ []) (text "cut 0 1\nsize 2 3\ntried 4\nkept 5\nscans 6\nvisits 7\n")
    ≡ line "cut" (a ∷ b ∷ []) ++ line "size" (c ∷ d ∷ []) ++ line "tried" (t ∷ []) ++ line "kept" (k ∷ []) ++ line "scans" (s ∷ []) ++ line "visits" (v ∷ [])
unfolding line spaced text pieces shown
figures-form a b c d t k s v =
    let ns : List ℕ = a ∷ b ∷ c ∷ d ∷ t ∷ k ∷ s ∷ v ∷ [] in
    let cut : filled ns (text "cut 0 1\n") ≡ line "cut" (a ∷ b ∷ []) = simp (append_assoc, append-nil) in
    let size : filled ns (text "size 2 3\n") ≡ line "size" (c ∷ d ∷ []) = simp (append_assoc, append-nil) in
    let tried : filled ns (text "tried 4\n") ≡ line "tried" (t ∷ []) = simp append-nil in
    let kept : filled ns (text "kept 5\n") ≡ line "kept" (k ∷ []) = simp append-nil in
    let scans : filled ns (text "scans 6\n") ≡ line "scans" (s ∷ []) = simp append-nil in
    let visits : filled ns (text "visits 7\n") ≡ line "visits" (v ∷ []) = simp append-nil in
    joined ns (text "cut 0 1\nsize 2 3\ntried 4\nkept 5\nscans 6\n") (text "visits 7\n")
    (joined ns (text "cut 0 1\nsize 2 3\ntried 4\nkept 5\n") (text "scans 6\n")
    (joined ns (text "cut 0 1\nsize 2 3\ntried 4\n") (text "kept 5\n")
    (joined ns (text "cut 0 1\nsize 2 3\n") (text "tried 4\n") (joined ns (text "cut 0 1\n") (text "size 2 3\n") cut size) tried) kept) scans) visits

pub pass-form : (job : Job) (f : Figures) (sides : List ℕ) (l : Listing) (b : ℕ) → b ≡ size_on job 1 sides
    → first_lines f.unread f.holding ++ moves_lines l f.tried ++ gains_line l.gains
    ++ filled (f.before ∷ f.cut ∷ f.size ∷ b ∷ f.tried ∷ f.kept ∷ f.scans ∷ f.visits ∷ []) (text "cut 0 1\nsize 2 3\ntried 4\nkept 5\nscans 6\nvisits 7\n")
    ++ sides_line job sides
    ≡ pass_lines job f sides l
unfolding pass_lines gains_line size_line
pass-form job f sides l b e = rw (figures-form f.before f.cut f.size b f.tried f.kept f.scans f.visits, e) (simp append_assoc)

-- ---- how many scans

-- where the lists hold the moves, their scans are no more than the scan lists have
pub before-held : (l : Listing) (n : ℕ) → MovesHeld n l → scans_before l n ≤ length l.recipes
before-held l zero h = omega arith
before-held l (suc n) h = (in_order l n (h.scans n (omega arith))).told

pub before_small : (l : Listing) (n : ℕ) → ((i : ℕ) → get_or l.ends i 0 < 65536) → scans_before l n < 65536
before_small l zero h = omega arith
before_small l (suc n) h = h n

-- ---- a loop over the moves, with their scans

abbrev pub moves_room : Listing → ℕ → ℕ
moves_room l i = move_bytes * i + scan_bytes * scans_before l i

module _ (l : Listing) {n i : ℕ} (m : MovesHeld n l) (h : i < n) where
  pub moves-grow : moves_room l i + move_room l i ≤ moves_room l (i + 1)
  moves-grow = rw (add-one i) (omega (arith, (in_order l i (m.scans i h)).rising))
