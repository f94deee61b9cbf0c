-- What holds of edition 3's choice (document 02, order 12), a fact to a field: its levels, its pass, its run, and what is told of them. Assumes nothing.
use Rattle.std.specs.Prelude.{◌≡◌, ◌≢◌, ℕ, ◌*◌, ◌≤◌, ◌<◌, Bool, true, false, List, map, length, get_or, pos}
use Rattle.std.proofs.Math.Option.{none, some}
use Rattle.std.specs.Int.Signed.{lt_z}
use Rattle.rules.specs.declared.Verdict.{Verdict}
use Rattle.rules.specs.Lists.{count, those, diff}
use Rattle.rules.specs.Job.{Job, Limits, file_count, recipe_count, is_read, enough, views, recipes, Lent, scratch_for}
use Rattle.rules.specs.Split.{on_side, count_on, holds, recipes_with, gain}
use Rattle.rules.specs.Move.{State, lock_of, legal, dist_after}
use Rattle.rules.specs.Pass.{Pass, pass_of, leaves}
use Rattle.rules.specs.Run.{settles, pass_by, passes, last_of, last_by, figures_of}
use Rattle.rules.specs.Levels.{counted, unlimited, binding, adds, takes, binds_by, level, above, choose_vector, vector_tries, unscanned, without_scans}
use Rattle.rules.specs.Theorems.{state_at, Left, Lawful, PassHoldsBy, LawfulTry, state_in, RunHoldsBy}
use Rattle.rules.specs.RoundTrip.{Sideless, ResettledHoldsBy}
use Rattle.rules.specs.Emptied.{BothHold}
use Rattle.rules.specs.SettledYes.{NoneLessens, TakesGreatest}

-- ---- binding numbers and levels

-- of a recipe and a side, file by file (Levels `binding-holds`, of any state, side and recipe)
pub record BindingHolds (st : State) (u : ℕ) (r : List ℕ) : Type 0 where
  -- unlimited if a locked file of it is there
  pub locked : (x : ℕ) → holds r x ≡ true → on_side st.sides u x ≡ true → lock_of st x ≢ 0 → binding st u r ≡ unlimited
  -- else the count of all its files there
  pub free : ((x : ℕ) → holds r x ≡ true → on_side st.sides u x ≡ true → lock_of st x ≡ 0) → binding st u r ≡ counted (count_on st.sides u r)

-- the recipes that have two readable files, each without its unread ones
abbrev pub readable : Job → List (List ℕ)
readable job = those enough (map (those (is_read job)) (views job))

-- (Levels `levels-hold`, of any job and a state where every side is 0 or 1)
pub record LevelsHold (job : Job) (st : State) : Type 0 where
  -- level 1 of a free file is its gain by document 01
  pub first : (f : ℕ) → lock_of st f ≡ 0 → level job st 1 f ≡ gain st.sides (recipes job) f
  -- unread files, and recipes with fewer than two readable ones, count in no level
  pub read : (i f : ℕ) → level job st i f ≡ diff (count (binds_by (adds i) st f) (readable job)) (count (binds_by (takes i) st f) (readable job))
  -- a level lies from minus p to plus p (source document 004, observation 2)
  pub range : (i f : ℕ) →
      (lt_z (level job st i f) (diff 0 (recipes_with (recipes job) f)) ≡ false)
      × (lt_z (pos (recipes_with (recipes job) f)) (level job st i f) ≡ false)

-- ---- the choice

-- f is legal, and no legal move comes before it: `goes` puts none first; of those that f is not put before none is nearer, and those of lower number are further
pub record ChosenBy (job : Job) (st : State) (goes : ℕ → ℕ → Bool) (f : ℕ) : Type 0 where
  pub below : f < file_count job
  pub lawful : legal job st f ≡ true
  pub greatest : (g : ℕ) → g < file_count job → legal job st g ≡ true → goes g f ≡ false
  pub nearest : (g : ℕ) → g < file_count job → legal job st g ≡ true → goes f g ≡ false → dist_after job st f ≤ dist_after job st g
  pub lowest : (g : ℕ) → g < f → legal job st g ≡ true → goes f g ≡ false → dist_after job st f < dist_after job st g

-- by the vectors: no legal move has a greater one, and so on
abbrev pub ChosenVector : Job → State → ℕ → Type 0
ChosenVector job st f = ChosenBy job st (above job st) f

-- (LevelsProved `choice-holds`, of any job and state)
pub record ChoiceHolds (job : Job) (st : State) : Type 0 where
  -- what is chosen is such a file, and such a file is chosen; there is only one
  pub chosen : (f : ℕ) → choose_vector job st ≡ some f → ChosenVector job st f
  pub found : (f : ℕ) → ChosenVector job st f → choose_vector job st ≡ some f
  pub only : (f g : ℕ) → ChosenVector job st f → ChosenVector job st g → f ≡ g
  -- nothing is chosen exactly if no move is legal
  pub ended : choose_vector job st ≡ none → (g : ℕ) → g < file_count job → legal job st g ≡ false
  pub stuck : ((g : ℕ) → g < file_count job → legal job st g ≡ false) → choose_vector job st ≡ none

-- ---- its pass (LevelsProved `pass-holds-vectors`, of a sound job and sides that a pass may start from)

-- the state after its first k moves
abbrev pub vectors_at : Job → List ℕ → ℕ → State
vectors_at job sides k = state_at job sides (vector_tries job sides) k

pub record PassHoldsVectors (job : Job) (sides : List ℕ) : Type 0 where
  -- its moves are lawful, so all that holds whoever chose holds of it; demand 3 is not claimed
  pub lawful : Lawful job sides (vector_tries job sides)
  pub any : PassHoldsBy job sides (vector_tries job sides)
  -- each move is the choice there, and the only one; when the moves end no legal move is left: C turns never end a pass
  pub each : (i : ℕ) → i < length (vector_tries job sides) → ChosenVector job (vectors_at job sides i) (get_or (vector_tries job sides) i 0)
  pub only : (i f : ℕ) → i < length (vector_tries job sides) → ChosenVector job (vectors_at job sides i) f → f ≡ get_or (vector_tries job sides) i 0
  pub ended : (f : ℕ) → f < file_count job → legal job (vectors_at job sides (length (vector_tries job sides))) f ≡ false
  -- no legal move has a greater gain
  pub gains : (i g : ℕ) → i < length (vector_tries job sides) → g < file_count job → legal job (vectors_at job sides i) g ≡ true
      → lt_z (gain (vectors_at job sides i).sides (recipes job) (get_or (vector_tries job sides) i 0)) (gain (vectors_at job sides i).sides (recipes job) g) ≡ false
  -- the gains listed are level 1: with each move, and in the gain list of a moved file when it was chosen, of a file still free after the last move
  pub listed : (i : ℕ) → i < length (vector_tries job sides)
      → get_or (pass_of job sides (vector_tries job sides)).gained i (pos 0) ≡ level job (vectors_at job sides i) 1 (get_or (vector_tries job sides) i 0)
  pub kept : (i : ℕ) → i < length (vector_tries job sides)
      → get_or (pass_of job sides (vector_tries job sides)).gains (get_or (vector_tries job sides) i 0) (pos 0) ≡ level job (vectors_at job sides i) 1 (get_or (vector_tries job sides) i 0)
  pub afresh : (f : ℕ) → f < file_count job → lock_of (vectors_at job sides (length (vector_tries job sides))) f ≡ 0
      → get_or (pass_of job sides (vector_tries job sides)).gains f (pos 0) ≡ level job (vectors_at job sides (length (vector_tries job sides))) 1 f

-- ---- its run

-- (LevelsProved `vectors-hold`, of a sound job)
pub record VectorsHold (job : Job) : Type 0 where
  -- all that holds of a run whoever chose holds of it: that its passes are at most the starting cut plus one, say
  pub lawful : LawfulTry job (vector_tries job)
  pub run : RunHoldsBy job (vector_tries job)
  -- it does not go by the job's own sides
  pub sideless : Sideless vector_tries job
  -- order 10's first statement: it takes a greatest gain, so that where it settled no single legal move lessens the cut
  pub greatest : TakesGreatest job (vector_tries job)
  pub least : settles (last_by job (vector_tries job)) ≡ true → NoneLessens job (last_by job (vector_tries job)).sides_after

-- (LevelsProved `vectors-accepted`, of a job that passes 1 to 10)
pub record VectorsAccepted (most : Limits) (job : Job) : Type 0 where
  -- no vault is emptied: in every pass after every move, and in the split returned
  pub within : (i k : ℕ) → i < length (passes job (vector_tries job)) → BothHold job (state_in job (vector_tries job) i k).sides
  pub ran : BothHold job (last_by job (vector_tries job)).sides_after
  -- order 10's second statement: settled, a run on the result makes one pass, keeps no move and returns the same sides
  pub again : ResettledHoldsBy vector_tries most job

-- ---- what is told of them

-- the lent lists after its pass (LevelsProved `left-unscanned`, of a sound job, sides that a pass may start from and lists that fit)
pub record LeftUnscanned (job : Job) (l : Lent) (sides : List ℕ) : Type 0 where
  -- the lists of the moves and the gain list as ever; further entries stay
  pub left : Left 3 job l (unscanned (pass_by job (vector_tries job) sides))
  -- the fourth move list and the scan lists are zeros
  pub ends : (i : ℕ) → i < file_count job → get_or (leaves 3 job l (unscanned (pass_by job (vector_tries job) sides))).ends i 0 ≡ 0
  pub recipes : (i : ℕ) → i < 4 * recipe_count job → get_or (leaves 3 job l (unscanned (pass_by job (vector_tries job) sides))).recipes i 0 ≡ 0
  pub kinds : (i : ℕ) → i < 4 * recipe_count job → get_or (leaves 3 job l (unscanned (pass_by job (vector_tries job) sides))).kinds i 0 ≡ 0
  -- scratch is as in edition 1
  pub scratch : scratch_for 3 job ≡ scratch_for 1 job

-- the answer (LevelsProved `told-unscanned`, of any passes): the last pass and the figures are those that there would be, but for scans and visits
pub record ToldUnscanned (v : Verdict) (first : Pass) (ps : List Pass) : Type 0 where
  pub last : last_of (unscanned first) (map unscanned ps) ≡ unscanned (last_of first ps)
  pub figures : figures_of v (unscanned first) (map unscanned ps) ≡ without_scans (figures_of v first ps)
