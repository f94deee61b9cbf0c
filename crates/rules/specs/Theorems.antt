-- What holds of the definitions, a fact to a field. A line above each record names its proof and what that asks. Assumes nothing.
use Rattle.std.specs.Prelude.{◌≡◌, ◌≢◌, ℕ, zero, suc, ◌+◌, ◌*◌, ◌≤◌, ◌<◌, Bool, true, false, List, [], ◌∷◌, ◌++◌, map, length, get_or, take, eqb, ℤ, pos, ◌-ℤ◌}
use Rattle.std.specs.Int.Signed.{lt_z}
use Rattle.rules.specs.declared.Verdict.{Verdict}
use Rattle.rules.specs.declared.Header.{Header}
use Rattle.rules.specs.Lists.{total, count, diff, sum, onto, AllBelow}
use Rattle.rules.specs.Job.{Job, Limits, TwoByte, file_count, recipe_count, pin_count, bound, pin, views, recipes, Lent, scratch_for, fits}
use Rattle.rules.specs.Split.{side_of, cut, times, holds, recipes_with, gain, size_of, unread_files, unread_recipes, size_on, weight, size_a, balanced}
use Rattle.rules.specs.Check.{done, refuse_at, Row, Rows, none, one, ◌followed_by◌, over_most, may_empty, sound_rows, all_rows, check_sound, check_rest, check, is_edition, lent_rows, check_lent, measure}
use Rattle.rules.specs.Move.{State, start, lock_of, free, steps_by, after, legal, dist_after, Scan, scan_pins, scan_all, Change, changes_in, changes_by, changes_of, changed, replay}
use Rattle.rules.specs.Pass.{cut_at, start_gains, Pass, pass_of, tries, leaves}
use Rattle.rules.specs.Run.{settles, pass_by, passes, last_by, first_pass, run_by, last_pass, no_figures, no_run_figures, left_by, unchanged, figures_of, run_figures_of, pass_ends, run_ends}
use Rattle.rules.specs.Report.{all_room, all_lent, prints}
use Rattle.rules.specs.Trace.{traces}
use Rattle.rules.specs.Writing.{resettles}
use Rattle.rules.specs.Stored.{blocks_for, header_of, job_of, Room, roomy, read_rows, read_verdict, written, no_header, reading}

-- ---- an accepted job has what the theorems ask

-- every file's side is 0 or 1
abbrev pub Binary : List ℕ → Type 0
Binary sides = (f : ℕ) → side_of sides f ≤ 1

-- no recipe holds a file twice
abbrev pub Distinct : List (List ℕ) → Type 0
Distinct rs = (j f : ℕ) → times f (get_or rs j []) ≤ 1

-- what checks 1 to 6 let through (SoundJob `sound`, where `check_sound` answers 0)
pub record Sound (most : Limits) (job : Job) : Type 0 where
  pub some_file : 1 ≤ file_count job
  pub some_recipe : 1 ≤ recipe_count job
  pub few_files : file_count job ≤ most.files
  pub few_recipes : recipe_count job ≤ most.recipes
  pub few_pins : pin_count job ≤ most.pins
  pub sides_long : length job.sides ≡ file_count job
  pub marks_long : length job.marks ≡ file_count job
  pub first : bound job 0 ≡ 0
  pub two : (j : ℕ) → j < recipe_count job → 2 + bound job j ≤ bound job (suc j)
  pub last : bound job (recipe_count job) ≡ pin_count job
  pub pins_below : (k : ℕ) → k < pin_count job → pin job k < file_count job
  pub apart : (j i k : ℕ) → j < recipe_count job → bound job j ≤ i → i < k → k < bound job (suc j) → k < pin_count job → pin job i ≢ pin job k
  pub sizes : (f : ℕ) → f < file_count job → 1 ≤ size_of job f
  pub binary : Binary job.sides
  pub marks : (f : ℕ) → get_or job.marks f 0 ≤ 2

-- what checks 1 to 10 let through (Proved `accepted`, where `check` answers 0)
pub record Accepted (most : Limits) (job : Job) : Type 0 where
  pub sound : Sound most job
  pub distinct : Distinct (recipes job)
  pub ratio : (1 ≤ job.num) × (job.num < job.den) × (job.den ≤ most.den)
  pub wide : (1 ≤ job.k) × (job.k ≤ 4)
  pub free : (f : ℕ) × (f < file_count job) × (get_or job.marks f 0 ≡ 0)
  pub filled : may_empty job ≡ false
  pub balanced : balanced job (size_a job job.sides) ≡ true

-- sides that a pass may start from (Proved `given-sides`, and `MovesHold.next`)
pub record Sides (job : Job) (sides : List ℕ) : Type 0 where
  pub long : length sides ≡ file_count job
  pub binary : Binary sides

-- ---- any moves, each of a file then still free, whoever chose them (Proved `moves-hold`, of a sound job, such sides and such moves)

-- the state after the first k moves
abbrev pub state_at : Job → List ℕ → List ℕ → ℕ → State
state_at job sides ms k = after (start job sides) (take k ms)

pub record MovesHold (job : Job) (sides ms : List ℕ) : Type 0 where
  -- the gain list left behind: a pinned file holds 0, a moved file keeps the gain it had when chosen, a file still free has its gain worked out afresh
  pub all : length (pass_of job sides ms).gains ≡ file_count job
  pub pinned : (f : ℕ) → f < file_count job → get_or job.marks f 0 ≢ 0 → get_or (pass_of job sides ms).gains f (pos 0) ≡ pos 0
  pub chosen : (i : ℕ) → i < length ms → get_or (pass_of job sides ms).gains (get_or ms i 0) (pos 0) ≡ get_or (pass_of job sides ms).gained i (pos 0)
  pub afresh : (f : ℕ) → f < file_count job → lock_of (state_at job sides ms (length ms)) f ≡ 0
      → get_or (pass_of job sides ms).gains f (pos 0) ≡ gain (state_at job sides ms (length ms)).sides (recipes job) f
  -- a gain lies from minus p to plus p
  pub range : (k f : ℕ) →
      (lt_z (gain (state_at job sides ms k).sides (recipes job) f) (diff 0 (recipes_with (recipes job) f)) ≡ false)
      × (lt_z (pos (recipes_with (recipes job) f)) (gain (state_at job sides ms k).sides (recipes job) f) ≡ false)
  -- after every move the starting cut less the gains so far is the present cut, which is the one listed, and the two vault sizes add up to W
  pub cuts : (k : ℕ) → pos (cut sides (recipes job)) -ℤ sum (take k (pass_of job sides ms).gained) ≡ pos (cut_at (recipes job) (start job sides) ms k)
  pub present : (k : ℕ) → k < length ms → get_or (pass_of job sides ms).cuts k 0 ≡ cut_at (recipes job) (start job sides) ms (suc k)
  pub sizes : (k : ℕ) → size_on job 0 (state_at job sides ms k).sides + size_on job 1 (state_at job sides ms k).sides ≡ weight job
  -- no file moves twice, so moves are at most C
  pub once : (f : ℕ) → times f ms ≤ 1
  pub few : length ms ≤ file_count job
  -- the prefix kept is one of the moves tried, has the least cut of all prefixes, none included, and is the shortest such
  pub prefix : (pass_of job sides ms).kept ≤ length ms
  pub least : (k : ℕ) → k ≤ length ms → (pass_of job sides ms).cut_after ≤ cut_at (recipes job) (start job sides) ms k
  pub shortest : (k : ℕ) → k < (pass_of job sides ms).kept → (pass_of job sides ms).cut_after < cut_at (recipes job) (start job sides) ms k
  -- so a pass never raises the cut; one that leaves it equal keeps no move, and the sides as they are
  pub falls : (pass_of job sides ms).cut_after ≤ (pass_of job sides ms).cut_before
  pub still : settles (pass_of job sides ms) ≡ true → ((pass_of job sides ms).kept ≡ 0) × ((pass_of job sides ms).sides_after ≡ sides)
  -- another pass may start from the sides left
  pub next : Sides job (pass_of job sides ms).sides_after
  -- a pinned file is not moved: after every move, and in the sides left, it is where it was
  pub stays : (k f : ℕ) → get_or job.marks f 0 ≢ 0 → side_of (state_at job sides ms k).sides f ≡ side_of sides f
  pub remains : (f : ℕ) → get_or job.marks f 0 ≢ 0 → side_of (pass_of job sides ms).sides_after f ≡ side_of sides f

-- ---- the scans, the replay and the visits of such moves (Proved `scans-hold`, of the same)

-- the gain list after the first k moves: the starting gains, and then only what is listed
abbrev pub replayed_to : Job → List ℕ → List ℕ → ℕ → List ℤ
replayed_to job sides ms k =
    let p = pass_of job sides ms in
    replay (recipes job) (start job sides) (take k p.tried) 0 p.ends p.scanned (start_gains (recipes job) (file_count job) (start job sides))

pub record ScansHold (job : Job) (sides ms : List ℕ) : Type 0 where
  -- after every move the replay gives each free file's gain worked out afresh
  pub fresh : (k f : ℕ) → f < file_count job → lock_of (state_at job sides ms k) f ≡ 0
      → get_or (replayed_to job sides ms k) f (pos 0) ≡ gain (state_at job sides ms k).sides (recipes job) f
  -- and a move leaves the entry of every file that is then locked
  pub locked : (k f : ℕ) → k < length ms → f < file_count job → lock_of (state_at job sides ms (suc k)) f ≢ 0
      → get_or (replayed_to job sides ms (suc k)) f (pos 0) ≡ get_or (replayed_to job sides ms k) f (pos 0)
  -- each move makes the changes of its scans, in their order
  pub changed : (k : ℕ) → k < length ms
      → replayed_to job sides ms (suc k) ≡ steps_by changed (replayed_to job sides ms k) (changes_of (recipes job) (state_at job sides ms k) (get_or ms k 0))
  -- replayed to the end it is the gain list left behind
  pub gains : replayed_to job sides ms (length ms) ≡ (pass_of job sides ms).gains
  -- no recipe is scanned more than four times, so scans are at most 4N, and visits at most 4P
  pub four : (j : ℕ) → count (λ c. eqb c.recipe j) (pass_of job sides ms).scanned ≤ 4
  pub scans : length (pass_of job sides ms).scanned ≤ 4 * recipe_count job
  pub visits : (pass_of job sides ms).visited ≤ 4 * pin_count job

-- scans change a gain list by their changes, one after the other, and by nothing else (Changes `scans-change`, of any recipes, state and side moved to)
pub record ScansChange (rs : List (List ℕ)) (st : State) (t : ℕ) : Type 0 where
  pub one : (k : ℕ) (r : List ℕ) (g : List ℤ) → scan_pins st t k r g ≡ steps_by changed g (changes_in st t k r)
  pub all : (cs : List Scan) (g : List ℤ) → scan_all rs st t cs g ≡ steps_by changed g (changes_by rs st t cs)
  -- each is of a file that is free, and that a recipe holds
  pub free : (cs : List Scan) (d : Change) (i : ℕ) → i < length (changes_by rs st t cs) → free st (get_or (changes_by rs st t cs) i d).file ≡ true
  pub held : (cs : List Scan) (d : Change) (i : ℕ) → i < length (changes_by rs st t cs) → (j : ℕ) × (holds (get_or rs j []) (get_or (changes_by rs st t cs) i d).file ≡ true)

-- ---- what a lent list holds afterwards, entry by entry

-- the first n entries hold xs, then z; further entries stay (Entries `listed-holds`)
pub record Listed {ℓ} {A : Type ℓ} (n : ℕ) (z : A) (xs old new : List A) : Type ℓ where
  pub long : length new ≡ length old
  pub holds : (d : A) (i : ℕ) → i < length xs → get_or new i d ≡ get_or xs i d
  pub then : (d : A) (i : ℕ) → length xs ≤ i → i < n → get_or new i d ≡ z
  pub further : (d : A) (i : ℕ) → n ≤ i → get_or new i d ≡ get_or old i d

-- (Proved `left`, of a sound job, moves that hold with their scans, and lists that fit)
pub record Left (edition : ℕ) (job : Job) (l : Lent) (p : Pass) : Type 0 where
  pub gains : (leaves edition job l p).gains ≡ p.gains
  pub tried : Listed (file_count job) 0 p.tried l.tried (leaves edition job l p).tried
  pub gained : Listed (file_count job) (pos 0) p.gained l.gained (leaves edition job l p).gained
  pub cuts : Listed (file_count job) 0 p.cuts l.cuts (leaves edition job l p).cuts
  pub ends : Listed (file_count job) 0 p.ends l.ends (leaves edition job l p).ends
  pub recipes : Listed (4 * recipe_count job) 0 (map (λ s. s.recipe) p.scanned) l.recipes (leaves edition job l p).recipes
  pub kinds : Listed (4 * recipe_count job) 0 (map (λ s. s.kind) p.scanned) l.kinds (leaves edition job l p).kinds
  pub scratch : Listed (scratch_for edition job) 0 [] l.scratch (leaves edition job l p).scratch

-- ---- the replay of the lists that the caller is left with, zeros and all (Proved `replayed`, of a sound job and moves whose scans hold)

-- the scans that the two scan lists tell of
unfoldable pub scans_told : List ℕ → List ℕ → List Scan
scans_told [] ks = []
scans_told (j ∷ js) [] = []
scans_told (j ∷ js) (k ∷ ks) = record { recipe = j; kind = k } ∷ scans_told js ks

-- the gain list after the first k moves: the starting gains, and then only what these lists tell of
abbrev pub replayed_by : Job → List ℕ → Lent → ℕ → List ℤ
replayed_by job sides l k =
    replay (recipes job) (start job sides) (take k l.tried) 0 l.ends (scans_told l.recipes l.kinds)
    (start_gains (recipes job) (file_count job) (start job sides))

pub record Replayed (edition : ℕ) (job : Job) (l : Lent) (sides ms : List ℕ) : Type 0 where
  -- it is the replay of the pass, so all that holds of that one holds of it
  pub same : (k : ℕ) → k ≤ length ms → replayed_by job sides (leaves edition job l (pass_of job sides ms)) k ≡ replayed_to job sides ms k
  -- after every move tried it gives each free file's gain worked out afresh
  pub fresh : (k f : ℕ) → k ≤ length ms → f < file_count job → lock_of (state_at job sides ms k) f ≡ 0
      → get_or (replayed_by job sides (leaves edition job l (pass_of job sides ms)) k) f (pos 0) ≡ gain (state_at job sides ms k).sides (recipes job) f
  -- and after the last the gain list left
  pub gains : replayed_by job sides (leaves edition job l (pass_of job sides ms)) (length ms) ≡ (leaves edition job l (pass_of job sides ms)).gains
  -- the last of the ends is the number of scans, 0 where there is none
  pub last : get_or (0 ∷ (leaves edition job l (pass_of job sides ms)).ends) (length ms) 0 ≡ length (pass_of job sides ms).scanned
  -- of as many recipes listed, visits are the sum of their lengths, and none stands there more than four times
  pub visits : (pass_of job sides ms).visited ≡ total (λ j. length (get_or (views job) j [])) (take (length (pass_of job sides ms).scanned) (leaves edition job l (pass_of job sides ms)).recipes)
  pub four : (j : ℕ) → times j (take (length (pass_of job sides ms).scanned) (leaves edition job l (pass_of job sides ms)).recipes) ≤ 4

-- ---- one pass, whoever chose its moves (Proved `pass-holds-by`, of a sound job, sides that a pass may start from and lawful moves)

-- each move is of a file then free, and legal where it is made: so what holds of any moves of free files holds of these (Proved `lawful-frees`)
pub record Lawful (job : Job) (sides ms : List ℕ) : Type 0 where
  pub below : (i : ℕ) → i < length ms → get_or ms i 0 < file_count job
  pub legal : (i : ℕ) → i < length ms → legal job (state_at job sides ms i) (get_or ms i 0) ≡ true

pub record PassHoldsBy (job : Job) (sides ms : List ℕ) : Type 0 where
  -- all that holds of any moves holds of these: the cut is not raised, say, and a pinned file not moved
  pub moves : MovesHold job sides ms
  -- from a balanced start the split after every move is balanced, and so is the one returned
  pub balance : balanced job (size_a job sides) ≡ true → (k : ℕ) → balanced job (size_a job (state_at job sides ms k).sides) ≡ true
  pub returns : balanced job (size_a job sides) ≡ true → balanced job (pass_of job sides ms).size_after ≡ true

-- ---- a run, whoever chose its moves (Proved `run-holds-by`, of a sound job and a lawful try)

-- from whatever sides a pass may start, lawful moves are tried
abbrev pub LawfulTry : Job → (List ℕ → List ℕ) → Type 0
LawfulTry job try = (sides : List ℕ) → Sides job sides → Lawful job sides (try sides)

-- the sides that pass i of a run starts from
unfoldable pub start_sides : Job → (List ℕ → List ℕ) → ℕ → List ℕ
start_sides job try zero = job.sides
start_sides job try (suc i) = (pass_by job try (start_sides job try i)).sides_after

-- the state after the first k moves of pass i of a run
abbrev pub state_in : Job → (List ℕ → List ℕ) → ℕ → ℕ → State
state_in job try i k = state_at job (start_sides job try i) (try (start_sides job try i)) k

pub record RunHoldsBy (job : Job) (try : List ℕ → List ℕ) : Type 0 where
  -- pass after pass, each from the sides that the one before left
  pub some : 1 ≤ length (passes job try)
  pub first : (d : Pass) → get_or (passes job try) 0 d ≡ pass_by job try job.sides
  pub each : (d : Pass) (i : ℕ) → suc i < length (passes job try) → get_or (passes job try) (suc i) d ≡ pass_by job try (get_or (passes job try) i d).sides_after
  pub sides : (d : Pass) (i : ℕ) → i < length (passes job try) → Sides job (get_or (passes job try) i d).sides_after
  pub from : (d : Pass) (i : ℕ) → i < length (passes job try) → get_or (passes job try) i d ≡ pass_by job try (start_sides job try i)
  -- from which a pass may start; so all that holds of a pass holds of each
  pub begins : (i : ℕ) → Sides job (start_sides job try i)
  pub held : (i : ℕ) → PassHoldsBy job (start_sides job try i) (try (start_sides job try i))
  -- every pass but the last lessened the cut, so passes are at most the starting cut plus one
  pub lessened : (d : Pass) (i : ℕ) → suc i < length (passes job try) → (get_or (passes job try) i d).cut_after < (get_or (passes job try) i d).cut_before
  pub few : length (passes job try) ≤ suc (cut job.sides (recipes job))
  -- without a cap a run ends settled: its turns never end it; with one, passes are at most the cap, and as many where it is not settled
  pub settled : job.cap ≡ 0 → settles (last_by job try) ≡ true
  pub capped : job.cap ≢ 0 → length (passes job try) ≤ job.cap
  pub full : settles (last_by job try) ≡ false → length (passes job try) ≡ job.cap
  -- what is reported is true of the split returned; another run may start from it, and it is balanced
  pub cut : (last_by job try).cut_after ≡ cut (last_by job try).sides_after (recipes job)
  pub size : (last_by job try).size_after ≡ size_a job (last_by job try).sides_after
  pub next : Sides job (last_by job try).sides_after
  pub returns : balanced job (size_a job job.sides) ≡ true → balanced job (last_by job try).size_after ≡ true
  -- from a balanced start so is every split met within the run: in every pass, after every move
  pub balance : balanced job (size_a job job.sides) ≡ true → (i k : ℕ) → i < length (passes job try) → balanced job (size_a job (state_in job try i k).sides) ≡ true
  -- a pinned file is not moved: in every pass, after every move, in the sides that the pass leaves and in those returned, it is where it was
  pub stays : (i k f : ℕ) → i < length (passes job try) → get_or job.marks f 0 ≢ 0 → side_of (state_in job try i k).sides f ≡ side_of job.sides f
  pub remains : (d : Pass) (i f : ℕ) → i < length (passes job try) → get_or job.marks f 0 ≢ 0 → side_of (get_or (passes job try) i d).sides_after f ≡ side_of job.sides f
  pub pinned : (f : ℕ) → get_or job.marks f 0 ≢ 0 → side_of (last_by job try).sides_after f ≡ side_of job.sides f

-- ---- document 01's own choice, edition 1

-- f is legal, and no legal move comes before it: none has a greater gain; of those with no less a gain none is nearer, and those of lower number are further (Choice `chosen`)
pub record Chosen (job : Job) (st : State) (f : ℕ) : Type 0 where
  pub below : f < file_count job
  pub lawful : legal job st f ≡ true
  pub greatest : (g : ℕ) → g < file_count job → legal job st g ≡ true → lt_z (gain st.sides (recipes job) f) (gain st.sides (recipes job) g) ≡ false
  pub nearest : (g : ℕ) → g < file_count job → legal job st g ≡ true → lt_z (gain st.sides (recipes job) g) (gain st.sides (recipes job) f) ≡ false
      → dist_after job st f ≤ dist_after job st g
  pub lowest : (g : ℕ) → g < f → legal job st g ≡ true → lt_z (gain st.sides (recipes job) g) (gain st.sides (recipes job) f) ≡ false
      → dist_after job st f < dist_after job st g

-- its pass (Proved `pass-holds`, of a sound job and sides that a pass may start from)
pub record PassHolds (job : Job) (sides : List ℕ) : Type 0 where
  -- its moves are lawful, so all that holds whoever chose holds of it; and of its scans
  pub lawful : Lawful job sides (tries job sides)
  pub any : PassHoldsBy job sides (tries job sides)
  pub scans : ScansHold job sides (tries job sides)
  -- each move is the choice there, and the only one; when the moves end no legal move is left: C turns never end a pass
  pub each : (i : ℕ) → i < length (tries job sides) → Chosen job (state_at job sides (tries job sides) i) (get_or (tries job sides) i 0)
  pub only : (i f : ℕ) → i < length (tries job sides) → Chosen job (state_at job sides (tries job sides) i) f → f ≡ get_or (tries job sides) i 0
  pub ended : (f : ℕ) → f < file_count job → legal job (state_at job sides (tries job sides) (length (tries job sides))) f ≡ false

-- its run has nothing of its own but these passes (Proved `run_holds`, of a sound job)
abbrev pub RunHolds : Job → Type 0
RunHolds job = RunHoldsBy job (tries job)

-- ---- the numbers for no

-- all rows in a list, and row i of one
unfoldable pub in_order : Rows → List Row
in_order none = []
in_order (one r) = r ∷ []
in_order (xs followed_by ys) = in_order xs ++ in_order ys

abbrev pub row_of : List Row → ℕ → Row
row_of rows i = get_or rows i (record { number = 0; given = false; place = 0 })

-- what a row says
abbrev pub said_by : Row → Verdict
said_by r = record { number = r.number; place = r.place }

-- row i is given, and no earlier one is
pub record FirstRow (rows : List Row) (i : ℕ) : Type 0 where
  pub below : i < length rows
  pub given : (row_of rows i).given ≡ true
  pub earlier : (j : ℕ) → j < i → (row_of rows j).given ≡ false

-- the first row that is given is the answer (Refusals `first-given`, of any rows without number 0)
pub record FirstGiven (rows : List Row) (answer : Verdict) : Type 0 where
  -- number and place are those of a row that is given where no earlier one is
  pub given : (i : ℕ) → FirstRow rows i → answer ≡ said_by (row_of rows i)
  -- a number is given only so
  pub only : (n : ℕ) → n ≢ 0 → answer.number ≡ n → (i : ℕ) × FirstRow rows i × ((row_of rows i).number ≡ n) × (answer ≡ said_by (row_of rows i))
  -- done exactly if no row is given
  pub none : answer.number ≡ 0 → (i : ℕ) → (row_of rows i).given ≡ false
  pub passed : ((i : ℕ) → (row_of rows i).given ≡ false) → answer ≡ done

-- the check of any job; `lent` says that the lent lists are right (Checking `check-holds`)
pub record CheckHolds (most : Limits) (job : Job) (lent : Bool) : Type 0 where
  -- each number is given exactly when the table says, with its place: 1 to 10, and 1 to 6
  pub table : FirstGiven (in_order (all_rows most job lent)) (check most job lent)
  pub table_of_sound : FirstGiven (in_order (sound_rows most job lent)) (check_sound most job lent)
  -- what is let through is exactly what is sound, and what is accepted
  pub sound : check_sound most job lent ≡ done → Sound most job × (lent ≡ true)
  pub sound_passes : Sound most job → lent ≡ true → check_sound most job lent ≡ done
  pub accepted : check most job lent ≡ done → Accepted most job × (lent ≡ true)
  pub accepted_passes : Accepted most job → lent ≡ true → check most job lent ≡ done

-- a number with a place stands at the lowest that passes the test, and is given only if one does (Verdicts `at-lowest`)
pub record AtLowest (k : ℕ) (test : ℕ → Bool) (n : ℕ) : Type 0 where
  pub given : (refuse_at k test n).number ≢ 0 →
      ((refuse_at k test n).number ≡ k) × ((refuse_at k test n).place < n) × (test (refuse_at k test n).place ≡ true)
      × ((i : ℕ) → i < (refuse_at k test n).place → test i ≡ false)
  pub ungiven : (refuse_at k test n).number ≡ 0 → (i : ℕ) → i < n → test i ≡ false

-- ---- the answers (Proved `answers`, of any input)

pub record Answers (edition : ℕ) (most : Limits) (job : Job) (l : Lent) : Type 0 where
  -- each number is given exactly when the table says, with its place: 32 before all others
  pub table : FirstGiven (in_order (lent_rows edition most job l)) (check_lent edition most job l)
  -- number 0 has place 0, and is given only of an edition that there is and if the lent lists fit
  pub place : (check_lent edition most job l).number ≡ 0 → check_lent edition most job l ≡ done
  pub fitting : (check_lent edition most job l).number ≡ 0 → (is_edition edition ≡ true) × (fits edition job l ≡ true)
  -- a refusal changes no lent list, and all its other numbers are 0
  pub pass_refused : (check_lent edition most job l).number ≢ 0 → pass_ends edition most job l ≡ unchanged job l (no_figures (check_lent edition most job l))
  pub run_refused : (check_lent edition most job l).number ≢ 0 → run_ends edition most job l ≡ unchanged job l (no_run_figures (check_lent edition most job l))
  -- else the figures and lists are those of the pass, and of the run's passes
  pub pass_done : (check_lent edition most job l).number ≡ 0
      → pass_ends edition most job l ≡ left_by edition job l (figures_of done (first_pass edition job) (first_pass edition job ∷ [])) (first_pass edition job)
  pub run_done : (check_lent edition most job l).number ≡ 0
      → run_ends edition most job l ≡ left_by edition job l (run_figures_of done (first_pass edition job) (run_by edition job)) (last_pass edition job)
  -- the measure
  pub measure_refused : (check_sound most job true).number ≢ 0 → measure most job ≡ record { verdict = check_sound most job true; cut = 0; size = 0; unread = 0; holding = 0 }
  pub measure_done : (check_sound most job true).number ≡ 0
      → measure most job
      ≡ record { verdict = done; cut = cut job.sides (recipes job); size = size_a job job.sides; unread = unread_files job; holding = unread_recipes job }

-- ---- reading (Reading `read-holds`, of any input, and `written-holds`)

pub record ReadHolds (most : Limits) (bytes : List ℕ) (room : Room) : Type 0 where
  -- each number is given exactly when the table says, with its place
  pub table : FirstGiven (in_order (read_rows most bytes room)) (read_verdict most bytes room)
  -- refused, it answers zeros and writes nothing
  pub refused : (read_verdict most bytes room).number ≢ 0 →
      reading most bytes room ≡ record { answer = record { verdict = read_verdict most bytes room; header = no_header }; room = room }
  -- else it writes the job's entries and answers the header's seven figures
  pub reads : (read_verdict most bytes room).number ≡ 0 →
      reading most bytes room ≡ record { answer = record { verdict = read_verdict most bytes room; header = header_of bytes }; room = written (job_of bytes) room }
  -- for which there is room
  pub enough : (read_verdict most bytes room).number ≡ 0 → roomy (header_of bytes) room ≡ true
  -- the job has as many files, recipes and pins as the header says
  pub files : file_count (job_of bytes) ≡ (header_of bytes).files
  pub recipes : recipe_count (job_of bytes) ≡ (header_of bytes).recipes
  pub pins : pin_count (job_of bytes) ≡ (header_of bytes).pins
  -- a job that is read passes 1 to 6, so the run's own check adds 7 to 10
  pub sound : (read_verdict most bytes room).number ≡ 0 → Sound most (job_of bytes)
  pub adds : (read_verdict most bytes room).number ≡ 0 → check most (job_of bytes) true ≡ check_rest most (job_of bytes)
  -- its k is 1 to 4
  pub wide : (read_verdict most bytes room).number ≡ 0 → (1 ≤ (job_of bytes).k) × ((job_of bytes).k ≤ 4)
  -- every number of it is a two-byte number, where each byte is one
  pub small : AllBelow 256 bytes → TwoByte (job_of bytes)

-- what a list lent to the reader holds afterwards: the entries written, and those beyond as they were
pub record Written (xs old : List ℕ) : Type 0 where
  pub long : length xs ≤ length old → length (onto xs old) ≡ length old
  pub holds : (i : ℕ) → i < length xs → get_or (onto xs old) i 0 ≡ get_or xs i 0
  pub stays : (i : ℕ) → length xs ≤ i → get_or (onto xs old) i 0 ≡ get_or old i 0

-- ---- the programs (CutOff `longer-same` and Lending `lends-enough`, of any input)

-- how many bytes the largest job has
abbrev pub most_bytes : Limits → ℕ
most_bytes most = 512 * (1 + blocks_for 126 most.files + blocks_for 253 (most.recipes + 1) + blocks_for 253 most.pins)

-- a program that takes up more bytes than those of the largest job need read no further: what it prints is the same
pub record Longer (most : Limits) (k : ℕ) (input : List ℕ) : Type 0 where
  pub same : (edition : ℕ) → most_bytes most < k → prints edition most (take k input) ≡ prints edition most input
  pub traced : (edition : ℕ) → most_bytes most < k → traces edition most (take k input) ≡ traces edition most input
  pub handed : (edition : ℕ) → most_bytes most < k → resettles edition most (take k input) ≡ resettles edition most input

-- a program has room for every job that passes 1 and 2, so 3 is never given
pub record LendsEnough (most : Limits) (input : List ℕ) : Type 0 where
  -- for reading what a header tells of, and for the run or the pass of a job by any edition
  pub room : (h : Header) → over_most most h.files h.recipes h.pins ≡ false → roomy h (all_room most) ≡ true
  pub lent : (edition : ℕ) (job : Job) → over_most most (file_count job) (recipe_count job) (pin_count job) ≡ false → fits edition job (all_lent most job) ≡ true
  -- neither by reading nor by the check of the job that was read
  pub read : (read_verdict most input (all_room most)).number ≢ 3
  pub made : (edition : ℕ) → (read_verdict most input (all_room most)).number ≡ 0 → (check_lent edition most (job_of input) (all_lent most (job_of input))).number ≢ 3
