-- Document 02, order 12: edition 3 of the choice, by binding numbers, levels and gain vectors (source document 004), and what is told of its pass. Assumes nothing.
use Rattle.std.specs.Prelude.{ℕ, ◌-◌, Bool, false, true, not, cond, ◌&&◌, ◌||◌, List, [], ◌∷◌, ltb, eqb, ℤ}
use Rattle.std.proofs.Math.Option.{Option}
use Rattle.std.specs.Int.Signed.{lt_z}
use Rattle.rules.specs.Numbers.{Figures}
use Rattle.rules.specs.Lists.{count, diff}
use Rattle.rules.specs.Job.{Job, file_count, recipes}
use Rattle.rules.specs.Split.{other, side_of, on_side, holds}
use Rattle.rules.specs.Move.{State, start, free, locked_on, moved, legal, dist_after, first_below, moves_by}
use Rattle.rules.specs.Pass.{Pass}

-- ---- the binding number

-- a count, or unlimited
pub data Binding : Type 0 where
  counted : ℕ → Binding
  unlimited : Binding

-- the number is n; unlimited equals no number
abbrev pub is_number : ℕ → Binding → Bool
is_number n (counted m) = eqb m n
is_number n unlimited = false

-- the number is above 0; unlimited is
abbrev pub above_zero : Binding → Bool
above_zero (counted m) = ltb 0 m
above_zero unlimited = true

-- how many files of r on side u are free
unfoldable pub free_files : State → ℕ → List ℕ → ℕ
free_files st u r = count (λ x. on_side st.sides u x && free st x) r

-- a count, or unlimited if there are locked files
abbrev pub binding_of : ℕ → ℕ → Binding
binding_of n locked = cond (eqb locked 0) (counted n) unlimited

-- for a recipe and a side, the count of its free files there, or unlimited if a locked file of it is there; locked is pinned, or moved in this pass
unfoldable pub binding : State → ℕ → List ℕ → Binding
binding st u r = binding_of (free_files st u r) (locked_on st u r)

-- ---- levels

-- the own-side number is i and the other-side number above 0
abbrev pub adds : ℕ → Binding → Binding → Bool
adds i own other = is_number i own && above_zero other

-- the own-side number is above 0 and the other-side number is i − 1
abbrev pub takes : ℕ → Binding → Binding → Bool
takes i own other = above_zero own && is_number (i - 1) other

-- r is a recipe of f of which a test on its own-side and other-side number holds
abbrev pub binds_by : (Binding → Binding → Bool) → State → ℕ → List ℕ → Bool
binds_by test st f r = holds r f && test (binding st (side_of st.sides f) r) (binding st (other (side_of st.sides f)) r)

-- level i of f counts its recipes that add, less those that take. Unread files, and recipes with fewer than two readable ones, count in no level: `recipes` leaves them out
unfoldable pub level : Job → State → ℕ → ℕ → ℤ
level job st i f = diff (count (binds_by (adds i) st f) (recipes job)) (count (binds_by (takes i) st f) (recipes job))

-- the gain vector: three signed numbers, levels 1 to 3
unfoldable pub vector : Job → State → ℕ → List ℤ
vector job st f = level job st 1 f ∷ level job st 2 f ∷ level job st 3 f ∷ []

-- the first is the greater, compared from level 1 on: it is greater at the first place where they differ
unfoldable pub greater_vector : List ℤ → List ℤ → Bool
greater_vector [] b = false
greater_vector (x ∷ a) [] = false
greater_vector (x ∷ a) (y ∷ b) = lt_z y x || (not (lt_z x y) && greater_vector a b)

-- ---- the choice

-- f has the greater vector
abbrev pub above : Job → State → ℕ → ℕ → Bool
above job st f g = greater_vector (vector job st f) (vector job st g)

-- f goes before the lower-numbered g: `goes` says so, or neither and it has the less distance
abbrev pub better_by : (ℕ → ℕ → Bool) → (ℕ → ℕ) → ℕ → ℕ → Bool
better_by goes dists f g = goes f g || (not (goes g f) && ltb (dists f) (dists g))

-- of all legal moves the greatest vector; of equals the least distance; of equals the lowest file number
unfoldable pub choose_vector : Job → State → Option ℕ
choose_vector job st = first_below (legal job st) (better_by (above job st) (dist_after job st)) (file_count job)

-- the moves of a pass: stop when no legal move exists. A file moves once, so C turns are enough
unfoldable pub vector_tries : Job → List ℕ → List ℕ
vector_tries job sides = moves_by (choose_vector job) moved (file_count job) (start job sides)

-- ---- what is told of its pass

-- no scans: the scan lists, the fourth move list and visits are zeros. The gains listed stay document 01's, which level 1 is
abbrev pub unscanned : Pass → Pass
unscanned p = record {
  tried = p.tried;
  gained = p.gained;
  cuts = p.cuts;
  ends = [];
  scanned = [];
  gains = p.gains;
  kept = p.kept;
  visited = 0;
  cut_before = p.cut_before;
  cut_after = p.cut_after;
  sides_after = p.sides_after;
  size_after = p.size_after;
  unread = p.unread;
  holding = p.holding;
}

-- and in the answer scan and visit counts are zeros
abbrev pub without_scans : Figures → Figures
without_scans a = record {
  verdict = a.verdict;
  before = a.before;
  cut = a.cut;
  size = a.size;
  tried = a.tried;
  kept = a.kept;
  scans = 0;
  visits = 0;
  unread = a.unread;
  holding = a.holding;
}
