-- What the program `trace` prints: one pass, move by move, with the scans of each, as bytes. Assumes nothing.
use Rattle.std.specs.Prelude.{ℕ, zero, suc, ◌+◌, ◌-◌, Bool, true, false, not, ◌&&◌, ◌||◌, List, [], ◌∷◌, ◌++◌, length, get_or, leb, ltb, eqb, ℤ, pos, negsuc}
use Rattle.rules.specs.Numbers.{Figures}
use Rattle.rules.specs.Lists.{some_below}
use Rattle.rules.specs.Job.{Job, Limits, Lent}
use Rattle.rules.specs.Check.{is_done}
use Rattle.rules.specs.Run.{pass_ends}
use Rattle.rules.specs.Stored.{job_of, read_verdict}
use Rattle.rules.specs.Report.{text, digits, spaced, line, refusal, first_lines, size_line, sides_line, tells, of_files, Printing, telling, all_room, all_lent}

-- the lists that tell of a pass: the gain list, the four move lists and the two scan lists
pub record Listing : Type 0 where
  pub gains : List ℤ
  pub tried : List ℕ
  pub gained : List ℤ
  pub cuts : List ℕ
  pub ends : List ℕ
  pub recipes : List ℕ
  pub kinds : List ℕ

abbrev pub listing_of : List ℤ → List ℕ → List ℤ → List ℕ → List ℕ → List ℕ → List ℕ → Listing
listing_of gains tried gained cuts ends recipes kinds = record {
  gains = gains;
  tried = tried;
  gained = gained;
  cuts = cuts;
  ends = ends;
  recipes = recipes;
  kinds = kinds;
}

-- all that a pass was lent but the scratch
abbrev pub listing : Lent → Listing
listing l = listing_of l.gains l.tried l.gained l.cuts l.ends l.recipes l.kinds

-- a gain after one space, with its sign where it is below zero
unfoldable pub signed : ℤ → List ℕ
signed (pos n) = 32 ∷ digits n
signed (negsuc n) = 32 ∷ 45 ∷ digits (suc n)

unfoldable pub gain_words : List ℤ → List ℕ
gain_words [] = []
gain_words (g ∷ gs) = signed g ++ gain_words gs

-- n scans, from scan a on
unfoldable pub scan_lines : Listing → ℕ → ℕ → List ℕ
scan_lines l a zero = []
scan_lines l a (suc n) = scan_lines l a n ++ line "scan" (get_or l.recipes (a + n) 0 ∷ get_or l.kinds (a + n) 0 ∷ [])

-- where the scans of move i begin: where those of the move before it end
abbrev pub scans_before : Listing → ℕ → ℕ
scans_before l zero = 0
scans_before l (suc i) = get_or l.ends i 0

-- move i, its gain when chosen and the cut after it, then its scans
unfoldable pub move_lines : Listing → ℕ → List ℕ
move_lines l i =
    text "move" ++ spaced (get_or l.tried i 0 ∷ []) ++ signed (get_or l.gained i (pos 0)) ++ spaced (get_or l.cuts i 0 ∷ []) ++ (10 ∷ [])
    ++ scan_lines l (scans_before l i) (get_or l.ends i 0 - scans_before l i)

-- the first n moves
unfoldable pub moves_lines : Listing → ℕ → List ℕ
moves_lines l zero = []
moves_lines l (suc n) = moves_lines l n ++ move_lines l n

-- the moves tried, the gain list at the end, and the figures of the pass
unfoldable pub pass_lines : Job → Figures → List ℕ → Listing → List ℕ
pass_lines job f sides l =
    first_lines f.unread f.holding
    ++ moves_lines l f.tried
    ++ text "gains" ++ gain_words l.gains ++ (10 ∷ [])
    ++ line "cut" (f.before ∷ f.cut ∷ [])
    ++ size_line job f.size sides
    ++ line "tried" (f.tried ∷ [])
    ++ line "kept" (f.kept ∷ [])
    ++ line "scans" (f.scans ∷ [])
    ++ line "visits" (f.visits ∷ [])
    ++ sides_line job sides

-- the trace of a pass's answer, refused or not
unfoldable pub trace : Job → Figures → List ℕ → Listing → List ℕ
trace job f sides l = tells f.verdict (pass_lines job f sides l)

-- ---- the call that makes a trace's bytes

-- the scans of move i end before they begin, or beyond the scan lists
abbrev pub bad_end : Listing → ℕ → Bool
bad_end l i =
    let e = get_or l.ends i 0 in
    ltb e (scans_before l i) || ltb (length l.recipes) e || ltb (length l.kinds) e

-- the lists hold what is told: a gain for each file, as many moves as were tried and no more than there are files, and the scans of each
abbrev pub holds_pass : List ℕ → Figures → Listing → Bool
holds_pass sizes f l =
    eqb (length l.gains) (length sizes) && leb f.tried (length sizes)
    && leb f.tried (length l.tried) && leb f.tried (length l.gained)
    && leb f.tried (length l.cuts) && leb f.tried (length l.ends)
    && not (some_below (bad_end l) f.tried)

unfoldable pub tracing : Limits → List ℕ → List ℕ → Figures → List ℕ → Listing → List ℕ → Printing
tracing most sizes marks f sides l room = telling most sizes marks sides f.verdict (holds_pass sizes f l) (trace (of_files sizes marks) f sides l) room

-- ---- the program: it reads a stored job from standard input and makes one pass

unfoldable pub traces : ℕ → Limits → List ℕ → List ℕ
traces edition most input =
    let v = read_verdict most input (all_room most) in
    let job = job_of input in
    let e = pass_ends edition most job (all_lent most job) in
    elim (is_done v) [ true ↦ trace job e.answer e.sides (listing e.lent) | false ↦ refusal v ]
