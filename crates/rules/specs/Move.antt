-- Document 01, "One pass", up to the scans: legal moves, the choice, a move's scans, and what the scans listed do. Assumes nothing.
use Rattle.std.specs.Prelude.{◌≡◌, ℕ, zero, suc, ◌+◌, ◌-◌, ◌*◌, ◌<◌, Bool, true, false, not, cond, ◌&&◌, ◌||◌, List, [], ◌∷◌, ◌++◌, map, length, get_or, take, drop, set, ltb, eqb, ℤ, pos, negsuc, ◌+ℤ◌}
use Rattle.std.proofs.Math.Option.{Option, none, some}
use Rattle.std.specs.Int.Signed.{lt_z}
use Rattle.rules.specs.Lists.{total, count, those}
use Rattle.rules.specs.Job.{Job, file_count, recipes}
use Rattle.rules.specs.Split.{other, side_of, on_side, count_on, holds, gain, weight, size_a, balanced}

-- ---- a state: each file's side, and its lock, which is 0 while the file is free

pub record State : Type 0 where
  pub sides : List ℕ
  pub locks : List ℕ

-- all unpinned files start free, pinned ones locked
abbrev pub start : Job → List ℕ → State
start job sides = record { sides = sides; locks = job.marks }

abbrev pub lock_of : State → ℕ → ℕ
lock_of st f = get_or st.locks f 0

abbrev pub free : State → ℕ → Bool
free st f = eqb (lock_of st f) 0

-- how many files of r on side u are locked
unfoldable pub locked_on : State → ℕ → List ℕ → ℕ
locked_on st u r = count (λ x. on_side st.sides u x && not (free st x)) r

-- lock the file, change its side
unfoldable pub moved : State → ℕ → State
moved st f = record { sides = set st.sides f (other (side_of st.sides f)); locks = set st.locks f 1 }

-- where a list of steps, one after the other, leads
unfoldable pub steps_by {ℓ κ} : {S : Type ℓ} {A : Type κ} → (S → A → S) → S → List A → S
steps_by step s [] = s
steps_by step s (f ∷ fs) = steps_by step (step s f) fs

-- the state after a list of moves
abbrev pub after : State → List ℕ → State
after st fs = steps_by moved st fs

-- a list of moves, each of a file then still free, whoever chose them
pub data Frees : State → List ℕ → Type 0 where
  stop : {st : State} → Frees st []
  move : {st : State} {f : ℕ} {fs : List ℕ} → f < length st.sides → f < length st.locks → lock_of st f ≡ 0
      → Frees (moved st f) fs → Frees st (f ∷ fs)

-- ---- the choice

-- |A| after the move of f
unfoldable pub size_after : Job → State → ℕ → ℕ
size_after job st f = size_a job (moved st f).sides

-- a move is legal if the file is free and the split after it is balanced
unfoldable pub legal : Job → State → ℕ → Bool
legal job st f = free st f && balanced job (size_after job st f)

abbrev pub distance : ℕ → ℕ → ℕ
distance x y = (x - y) + (y - x)

-- between den·|A| after the move and num·W
unfoldable pub dist_after : Job → State → ℕ → ℕ
dist_after job st f = distance (job.den * size_after job st f) (job.num * weight job)

-- f has the greater gain
abbrev pub greater : (ℕ → ℤ) → ℕ → ℕ → Bool
greater gains f g = lt_z (gains g) (gains f)

-- f goes before the lower-numbered g: it has the greater gain, or an equal one and the less distance
abbrev pub better : (ℕ → ℤ) → (ℕ → ℕ) → ℕ → ℕ → Bool
better gains dists f g = greater gains f g || (not (greater gains g f) && ltb (dists f) (dists g))

-- the best of those below f, against f
unfoldable pub challenge : (ℕ → Bool) → (ℕ → ℕ → Bool) → Option ℕ → ℕ → Option ℕ
challenge ok goes none f = cond (ok f) (some f) none
challenge ok goes (some g) f = cond (ok f && goes f g) (some f) (some g)

-- of the numbers below n that are ok, the one that goes first; of equals the lowest
unfoldable pub first_below : (ℕ → Bool) → (ℕ → ℕ → Bool) → ℕ → Option ℕ
first_below ok goes zero = none
first_below ok goes (suc n) = challenge ok goes (first_below ok goes n) n

-- the legal move of greatest gain; of equals the least distance; of equals the lowest file number
unfoldable pub choose : Job → State → Option ℕ
choose job st = first_below (legal job st) (better (gain st.sides (recipes job)) (dist_after job st)) (file_count job)

-- pick, step, and so on until nothing is picked, at most n times; s is all that the choice goes by
unfoldable pub moves_by {ℓ} : {S : Type ℓ} → (S → Option ℕ) → (S → ℕ → S) → ℕ → S → List ℕ
moves_by pick step zero s = []
moves_by pick step (suc n) s = elim (pick s) [ none ↦ [] | some f ↦ f ∷ moves_by pick step n (step s f) ]

-- the moves of a pass: stop when no legal move exists. A file moves once, so C turns are enough
unfoldable pub moves : Job → State → List ℕ
moves job st = moves_by (choose job) moved (file_count job) st

-- ---- scans

pub record Scan : Type 0 where
  pub recipe : ℕ
  pub kind : ℕ

-- the first file of r on side u; where one file is there, that file
unfoldable pub file_on : List ℕ → ℕ → List ℕ → ℕ
file_on sides u [] = 0
file_on sides u (x ∷ r) = cond (on_side sides u x) x (file_on sides u r)

abbrev pub kind_if : Bool → ℕ → List ℕ
kind_if true k = k ∷ []
kind_if false k = []

-- the kinds of scan of r, a recipe of f, at the move of f from side s to side t.
-- T counts its files on the side moved to, before the move, and F those left on the other side, after it
unfoldable pub kinds_in : State → ℕ → List ℕ → List ℕ
kinds_in st f r =
    let s = side_of st.sides f in
    let t = other s in
    let st' = moved st f in
    let T = count_on st.sides t r in
    let F = count_on st'.sides s r in
    kind_if (eqb T 0) 1
    ++ kind_if (eqb T 1 && free st (file_on st.sides t r)) 2
    ++ kind_if (eqb F 0) 3
    ++ kind_if (eqb F 1 && free st' (file_on st'.sides s r)) 4

unfoldable pub kinds_of : State → ℕ → List ℕ → List ℕ
kinds_of st f r = cond (holds r f) (kinds_in st f r) []

-- the scans of a move, of the recipes rs in rising number from j on
unfoldable pub scans_from : State → ℕ → ℕ → List (List ℕ) → List Scan
scans_from st f j [] = []
scans_from st f j (r ∷ rs) = map (λ k. record { recipe = j; kind = k }) (kinds_of st f r) ++ scans_from st f (suc j) rs

abbrev pub scans_of : List (List ℕ) → State → ℕ → List Scan
scans_of rs st f = scans_from st f 0 rs

-- the scans of a list of moves
unfoldable pub scans : List (List ℕ) → State → List ℕ → List Scan
scans rs st [] = []
scans rs st (f ∷ fs) = scans_of rs st f ++ scans rs (moved st f) fs

-- where each move's scans end; n scans are listed before them
unfoldable pub ends_from : List (List ℕ) → ℕ → State → List ℕ → List ℕ
ends_from rs n st [] = []
ends_from rs n st (f ∷ fs) = let e = n + length (scans_of rs st f) in e ∷ ends_from rs e (moved st f) fs

-- each scan counts all files of its recipe, also when none of them is free
unfoldable pub visits : List (List ℕ) → List Scan → ℕ
visits whole cs = total (λ c. length (get_or whole c.recipe [])) cs

-- ---- what scans do to the gain list

-- the files that a scan of kind k changes, if they are free: kinds 1 and 3 every one, kind 2 the one on the side moved to, kind 4 the one left
abbrev pub reaches : Bool → Bool → ℕ → Bool
reaches there left k = eqb k 1 || eqb k 3 || (eqb k 2 && there) || (eqb k 4 && left)

-- st is the state after the move, t the side moved to
abbrev pub touches : State → ℕ → ℕ → ℕ → Bool
touches st t k x = free st x && reaches (on_side st.sides t x) (on_side st.sides (other t) x) k

-- kinds 1 and 4 gain 1, kinds 2 and 3 lose 1
abbrev pub raises : ℕ → Bool
raises k = eqb k 1 || eqb k 4

abbrev pub change : ℕ → ℤ
change k = cond (raises k) (pos 1) (negsuc 0)

-- one scan over the pins of its recipe
unfoldable pub scan_pins : State → ℕ → ℕ → List ℕ → List ℤ → List ℤ
scan_pins st t k [] g = g
scan_pins st t k (x ∷ xs) g =
    scan_pins st t k xs (cond (touches st t k x) (set g x (get_or g x (pos 0) +ℤ change k)) g)

-- scans, one after the other
unfoldable pub scan_all : List (List ℕ) → State → ℕ → List Scan → List ℤ → List ℤ
scan_all rs st t [] g = g
scan_all rs st t (c ∷ cs) g = scan_all rs st t cs (scan_pins st t c.kind (get_or rs c.recipe []) g)

-- the same, change by change: a file, and what its gain is changed by
pub record Change : Type 0 where
  pub file : ℕ
  pub by : ℤ

-- by a scan of kind k
abbrev pub change_of : ℕ → ℕ → Change
change_of k x = record { file = x; by = change k }

-- the changes of one scan, pin by pin
unfoldable pub changes_in : State → ℕ → ℕ → List ℕ → List Change
changes_in st t k r = map (change_of k) (those (touches st t k) r)

-- those of scans, one after the other; a file may stand there twice
unfoldable pub changes_by : List (List ℕ) → State → ℕ → List Scan → List Change
changes_by rs st t [] = []
changes_by rs st t (c ∷ cs) = changes_in st t c.kind (get_or rs c.recipe []) ++ changes_by rs st t cs

-- those of the move of f, in the order in which they happen
abbrev pub changes_of : List (List ℕ) → State → ℕ → List Change
changes_of rs st f = changes_by rs (moved st f) (other (side_of st.sides f)) (scans_of rs st f)

-- the gain list after one of them
abbrev pub changed : List ℤ → Change → List ℤ
changed g c = set g c.file (get_or g c.file (pos 0) +ℤ c.by)

-- the replay of what the lists say, and of nothing else: at each move the scans listed from n, where the last move's end, up to where its own end
unfoldable pub replay : List (List ℕ) → State → List ℕ → ℕ → List ℕ → List Scan → List ℤ → List ℤ
replay rs st [] n ends cs g = g
replay rs st (f ∷ fs) n ends cs g =
    let e = get_or ends 0 0 in
    replay rs (moved st f) fs e (drop 1 ends) (drop (e - n) cs)
    (scan_all rs (moved st f) (other (side_of st.sides f)) (take (e - n) cs) g)
