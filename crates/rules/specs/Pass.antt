-- Document 01, "One pass", from the end of the moves on. Assumes nothing.
use Rattle.std.specs.Prelude.{ℕ, ◌*◌, cond, List, [], ◌∷◌, map, length, take, eqb, ℤ, pos}
use Rattle.rules.specs.Lists.{up_to, best_up_to, listed}
use Rattle.rules.specs.Job.{Job, file_count, recipe_count, views, recipes, Lent, scratch_for}
use Rattle.rules.specs.Split.{cut, gain, unread_files, unread_recipes, size_a}
use Rattle.rules.specs.Move.{State, start, free, moved, after, moves, Scan, scans, ends_from, visits}

-- ---- the move lists

-- each move's gain when chosen
unfoldable pub gains_when : List (List ℕ) → State → List ℕ → List ℤ
gains_when rs st [] = []
gains_when rs st (f ∷ fs) = gain st.sides rs f ∷ gains_when rs (moved st f) fs

-- the cut after each move
unfoldable pub cuts_after : List (List ℕ) → State → List ℕ → List ℕ
cuts_after rs st [] = []
cuts_after rs st (f ∷ fs) = cut (moved st f).sides rs ∷ cuts_after rs (moved st f) fs

-- ---- the prefix kept

-- the cut after the first k moves
unfoldable pub cut_at : List (List ℕ) → State → List ℕ → ℕ → ℕ
cut_at rs st ms k = cut (after st (take k ms)).sides rs

-- the prefix of moves with the least cut, the shortest of equals; no move at all is a prefix
unfoldable pub keeps : List (List ℕ) → State → List ℕ → ℕ
keeps rs st ms = best_up_to (cut_at rs st ms) (length ms)

-- ---- the gain list

-- what stands for f after the moves: a moved file keeps the gain it had when chosen
unfoldable pub standing : List (List ℕ) → State → List ℕ → ℕ → ℤ
standing rs st [] f = gain st.sides rs f
standing rs st (m ∷ ms) f = cond (eqb m f) (gain st.sides rs f) (standing rs (moved st m) ms f)

-- the gain list of n files; a pinned file holds 0
unfoldable pub gains_after : List (List ℕ) → ℕ → State → List ℕ → List ℤ
gains_after rs n st ms = map (λ f. cond (free st f) (standing rs st ms f) (pos 0)) (up_to n)

-- the gain list that a pass starts with
abbrev pub start_gains : List (List ℕ) → ℕ → State → List ℤ
start_gains rs n st = gains_after rs n st []

-- ---- one pass

pub record Pass : Type 0 where
  -- the moves tried, each with its gain when chosen, the cut after it and the scans listed so far
  pub tried : List ℕ
  pub gained : List ℤ
  pub cuts : List ℕ
  pub ends : List ℕ
  pub scanned : List Scan
  pub gains : List ℤ
  pub kept : ℕ
  pub visited : ℕ
  pub cut_before : ℕ
  pub cut_after : ℕ
  pub sides_after : List ℕ
  pub size_after : ℕ
  -- files that could not be read, and recipes that hold one (document 02, order 5)
  pub unread : ℕ
  pub holding : ℕ

-- the pass that tries these moves
unfoldable pub pass_of : Job → List ℕ → List ℕ → Pass
pass_of job sides ms =
    let rs = recipes job in
    let st = start job sides in
    let k = keeps rs st ms in
    let cs = scans rs st ms in
    let last = (after st (take k ms)).sides in
    record {
      tried = ms;
      gained = gains_when rs st ms;
      cuts = cuts_after rs st ms;
      ends = ends_from rs 0 st ms;
      scanned = cs;
      gains = gains_after rs (file_count job) st ms;
      kept = k;
      visited = visits (views job) cs;
      cut_before = cut sides rs;
      cut_after = cut last rs;
      sides_after = last;
      size_after = size_a job last;
      unread = unread_files job;
      holding = unread_recipes job;
    }

-- the moves of document 01 from these sides, and the pass that tries them
abbrev pub tries : Job → List ℕ → List ℕ
tries job sides = moves job (start job sides)

abbrev pub pass : Job → List ℕ → Pass
pass job sides = pass_of job sides (tries job sides)

-- the lent lists after a pass: the first C move entries and first 4N scan entries hold the lists, then zeros; further entries stay.
-- The scratch numbers named are 0, any beyond stay
unfoldable pub leaves : ℕ → Job → Lent → Pass → Lent
leaves edition job l p =
    let c = file_count job in
    let n = 4 * recipe_count job in
    record {
      gains = p.gains;
      tried = listed c 0 p.tried l.tried;
      gained = listed c (pos 0) p.gained l.gained;
      cuts = listed c 0 p.cuts l.cuts;
      ends = listed c 0 p.ends l.ends;
      recipes = listed n 0 (map (λ s. s.recipe) p.scanned) l.recipes;
      kinds = listed n 0 (map (λ s. s.kind) p.scanned) l.kinds;
      scratch = listed (scratch_for edition job) 0 [] l.scratch;
    }
