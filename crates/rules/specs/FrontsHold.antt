-- What holds of edition 2's choice (document 02, order 9), a fact to a field: its buckets, the front of a vault, its pass and its run. Assumes nothing.
use Rattle.std.specs.Prelude.{◌≡◌, ℕ, suc, ◌≤◌, ◌<◌, Bool, true, false, not, cond, ◌&&◌, List, [], ◌∷◌, ◌++◌, map, length, get_or, take, ltb, eqb, ℤ, pos, negsuc}
use Rattle.std.proofs.Math.Option.{Option, none, some}
use Rattle.std.specs.Int.Signed.{lt_z}
use Rattle.rules.specs.Lists.{bit, those}
use Rattle.rules.specs.Job.{Job, file_count, files, recipes}
use Rattle.rules.specs.Split.{other, side_of, on_side, times, is_free}
use Rattle.rules.specs.Move.{State, start, free, moved, steps_by, legal, dist_after, Change, changes_of}
use Rattle.rules.specs.Fronts.{Buckets, start_buckets, moved_on, gain_in, in_vault, front_of, front_tries, tries_by}
use Rattle.rules.specs.RoundTrip.{Sideless}
use Rattle.rules.specs.Theorems.{state_at, ScansHold, Lawful, PassHoldsBy, LawfulTry, RunHoldsBy}

-- ---- the front of a vault

-- each free file stands in the list once, and no other number does
abbrev pub Standing : Job → Buckets → Type 0
Standing job b = (f : ℕ) → times f b.entered ≡ bit (ltb f (file_count job) && free b.state f)

-- how many stand before f
unfoldable pub place_of : List ℕ → ℕ → ℕ
place_of [] f = 0
place_of (x ∷ xs) f = cond (eqb x f) 0 (suc (place_of xs f))

-- f is a free file of vault u; no free file there has a greater gain, and of those with no less a gain none entered later
pub record Front (job : Job) (b : Buckets) (u f : ℕ) : Type 0 where
  pub below : f < file_count job
  pub unlocked : free b.state f ≡ true
  pub there : in_vault b u f ≡ true
  pub greatest : (g : ℕ) → g < file_count job → free b.state g ≡ true → in_vault b u g ≡ true → lt_z (gain_in job b f) (gain_in job b g) ≡ false
  pub latest : (g : ℕ) → g < file_count job → free b.state g ≡ true → in_vault b u g ≡ true → lt_z (gain_in job b g) (gain_in job b f) ≡ false
      → place_of b.entered f ≤ place_of b.entered g

-- with no word of buckets: of the files that pass the test, the first in the list that goes before all others; f goes before a later g if `goes f g`
abbrev pub over : (ℕ → ℕ → Bool) → ℕ → Option ℕ → ℕ
over goes f none = f
over goes f (some g) = cond (goes f g) f g

unfoldable pub foremost : (ℕ → Bool) → (ℕ → ℕ → Bool) → List ℕ → Option ℕ
foremost ok goes [] = none
foremost ok goes (f ∷ fs) = cond (ok f) (some (over goes f (foremost ok goes fs))) (foremost ok goes fs)

abbrev pub no_less : (ℕ → ℤ) → ℕ → ℕ → Bool
no_less gains f g = not (lt_z (gains f) (gains g))

-- (FrontsProved `fronts-hold`, of a sound job and a list of its free files)
pub record FrontsHold (job : Job) (b : Buckets) : Type 0 where
  -- the front file of the highest nonempty bucket is such a file, and the only one; a vault without one has no free file
  pub front : (u f : ℕ) → front_of job b u ≡ some f → Front job b u f
  pub only : (u f : ℕ) → Front job b u f → front_of job b u ≡ some f
  pub empty : (u : ℕ) → front_of job b u ≡ none → (f : ℕ) → f < file_count job → free b.state f ≡ true → in_vault b u f ≡ false
  -- the first in the list of the vault's files of greatest gain
  pub foremost : (u : ℕ) → front_of job b u ≡ foremost (in_vault b u) (no_less (gain_in job b)) b.entered

-- ---- any moves, each of a file then still free, whoever chose them (FrontsProved `buckets-hold`, of a sound job, sides that a pass may start from and such moves)

-- the buckets after the first k moves
abbrev pub buckets_at : Job → List ℕ → List ℕ → ℕ → Buckets
buckets_at job sides ms k = steps_by (moved_on job) (start_buckets job sides) (take k ms)

-- the files that enter, one after the other: at each move those that its scans change, scan by scan, pins in order
unfoldable pub entries : Job → State → List ℕ → List ℕ
entries job st [] = []
entries job st (f ∷ fs) = map (λ c. c.file) (changes_of (recipes job) st f) ++ entries job (moved st f) fs

-- all of the first k moves, after the free files, in rising number
abbrev pub entries_to : Job → List ℕ → List ℕ → ℕ → List ℕ
entries_to job sides ms k = those (is_free job) (files job) ++ entries job (start job sides) (take k ms)

-- the latest first
abbrev pub put : List ℕ → ℕ → List ℕ
put fs f = f ∷ fs

abbrev pub latest_first : List ℕ → List ℕ
latest_first fs = steps_by put [] fs

pub record BucketsHold (job : Job) (sides ms : List ℕ) : Type 0 where
  -- after every move they are those of the state there, and the list holds its free files, each once
  pub seen : (k : ℕ) → (buckets_at job sides ms k).state ≡ state_at job sides ms k
  pub standing : (k : ℕ) → Standing job (buckets_at job sides ms k)
  -- of two that stand there the first entered last
  pub latest : (k x y : ℕ) → 1 ≤ times x (buckets_at job sides ms k).entered → 1 ≤ times y (buckets_at job sides ms k).entered
      → place_of (buckets_at job sides ms k).entered x < place_of (buckets_at job sides ms k).entered y
      → place_of (latest_first (entries_to job sides ms k)) x < place_of (latest_first (entries_to job sides ms k)) y
  pub fronts : (k : ℕ) → FrontsHold job (buckets_at job sides ms k)

-- the changes of one move go one way: a file of the vault moved to loses, one of the vault left gains. So two changes of a file never undo each other, and whoever enters
-- has a new bucket (OneWay `one_way`, of any recipes and a move of a free file)
abbrev pub OneWay : List (List ℕ) → State → ℕ → Type 0
OneWay rs st f = (d : Change) (i : ℕ) → i < length (changes_of rs st f)
    → (get_or (changes_of rs st f) i d).by ≡ cond (on_side (moved st f).sides (other (side_of st.sides f)) (get_or (changes_of rs st f) i d).file) (negsuc 0) (pos 1)

-- ---- edition 2's choice

-- f is the front of its vault and its move is legal. Where the other vault's front is legal too, it has no greater gain; if it has no less, it is no nearer; and if it is as near, f is A's
pub record ChosenFront (job : Job) (b : Buckets) (f : ℕ) : Type 0 where
  pub front : Front job b (side_of b.state.sides f) f
  pub lawful : legal job b.state f ≡ true
  pub greatest : (g : ℕ) → Front job b (other (side_of b.state.sides f)) g → legal job b.state g ≡ true → lt_z (gain_in job b f) (gain_in job b g) ≡ false
  pub nearest : (g : ℕ) → Front job b (other (side_of b.state.sides f)) g → legal job b.state g ≡ true → lt_z (gain_in job b g) (gain_in job b f) ≡ false
      → dist_after job b.state f ≤ dist_after job b.state g
  pub from_a : (g : ℕ) → Front job b (other (side_of b.state.sides f)) g → legal job b.state g ≡ true → lt_z (gain_in job b g) (gain_in job b f) ≡ false
      → dist_after job b.state g ≤ dist_after job b.state f → side_of b.state.sides f ≡ 0

-- the buckets after the first k moves of edition 2's pass
abbrev pub fronts_at : Job → List ℕ → ℕ → Buckets
fronts_at job sides k = buckets_at job sides (front_tries job sides) k

-- its pass (FrontsProved `pass-holds-fronts`, of a sound job and sides that a pass may start from)
pub record PassHoldsFronts (job : Job) (sides : List ℕ) : Type 0 where
  -- its moves are lawful, so all that holds whoever chose holds of it; and of its scans and buckets
  pub lawful : Lawful job sides (front_tries job sides)
  pub any : PassHoldsBy job sides (front_tries job sides)
  pub scans : ScansHold job sides (front_tries job sides)
  pub buckets : BucketsHold job sides (front_tries job sides)
  -- each move is the choice there, and the only one; when the moves end neither vault's front is a legal move: C turns never end a pass
  pub each : (i : ℕ) → i < length (front_tries job sides) → ChosenFront job (fronts_at job sides i) (get_or (front_tries job sides) i 0)
  pub only : (i f : ℕ) → i < length (front_tries job sides) → ChosenFront job (fronts_at job sides i) f → f ≡ get_or (front_tries job sides) i 0
  pub ended : (u f : ℕ) → u ≤ 1 → Front job (fronts_at job sides (length (front_tries job sides))) u f
      → legal job (state_at job sides (front_tries job sides) (length (front_tries job sides))) f ≡ false

-- ---- by edition (FrontsProved `editions-hold`, of a sound job)

pub record EditionsHold (job : Job) : Type 0 where
  -- whatever the edition its moves are lawful, so all that holds of a run whoever chose holds of it
  pub lawful : (edition : ℕ) → LawfulTry job (tries_by edition job)
  pub run : (edition : ℕ) → RunHoldsBy job (tries_by edition job)
  -- and they do not go by the job's own sides
  pub sideless : (edition : ℕ) → Sideless (tries_by edition) job
