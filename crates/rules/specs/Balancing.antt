-- What holds of making a balanced start, a fact to a field. A line above each record names its proof and what that asks. Assumes nothing.
use Rattle.std.specs.Prelude.{◌≡◌, ◌≢◌, ℕ, ◌≤◌, ◌<◌, Bool, true, false, not, ◌&&◌, List, [], ◌∷◌, length, get_or, take}
use Rattle.std.proofs.Math.Option.{none, some}
use Rattle.std.specs.Int.Signed.{lt_z}
use Rattle.rules.specs.declared.Verdict.{Verdict}
use Rattle.rules.specs.Lists.{listed}
use Rattle.rules.specs.Job.{Job, Limits, file_count, recipes, Lent, scratch_for, fits, limits_of}
use Rattle.rules.specs.Split.{side_of, cut, gain, is_free, size_a, balanced}
use Rattle.rules.specs.Check.{done, ◌or_else◌, check_start, check, is_edition, check_lent}
use Rattle.rules.specs.Move.{start, after, Frees}
use Rattle.rules.specs.Stored.{job_of, read_verdict}
use Rattle.rules.specs.Report.{refusal, all_room, all_lent}
use Rattle.rules.specs.Writing.{blocks_of, with_sides}
use Rattle.rules.specs.Marked.{small, archive}
use Rattle.rules.specs.Balance.{too_large, too_small, heavy, free_on, balance_choice, balance_moves, balance_sides, none_balanced, check_before_start, balance_rows, balance_check, balance_verdict, balancing_of, balance_figures, no_balance_figures, balancing, balance_lines, balances}
use Rattle.rules.specs.Theorems.{Sides, state_at, MovesHold, ScansHold, Listed, in_order, FirstGiven, most_bytes}

-- ---- the two tests are the halves of the balance test (Balance `halves`, of any job and any |A|)

pub record Halves (job : Job) (a : ℕ) : Type 0 where
  -- balanced is neither, and A is never both
  pub neither : balanced job a ≡ (not (too_small job a) && not (too_large job a))
  pub apart : too_large job a ≡ true → too_small job a ≡ false
  -- a side to move from is there exactly where the split is not balanced
  pub even : balanced job a ≡ true → heavy job a ≡ none
  pub uneven : heavy job a ≡ none → balanced job a ≡ true

-- ---- the moves (Balancing `balance-holds`, of a sound job, at every k over 0)

-- the sides after the first k moves
abbrev pub balanced_to : Job → ℕ → List ℕ
balanced_to job k = (state_at job job.sides (balance_moves job) k).sides

-- f is a free file of side u; none there has a greater gain, and those of lower number have a lesser one (Balance `greatest`)
pub record Greatest (job : Job) (sides : List ℕ) (u f : ℕ) : Type 0 where
  pub below : f < file_count job
  pub free : is_free job f ≡ true
  pub there : side_of sides f ≡ u
  pub greatest : (g : ℕ) → g < file_count job → is_free job g ≡ true → side_of sides g ≡ u → lt_z (gain sides (recipes job) f) (gain sides (recipes job) g) ≡ false
  pub lowest : (g : ℕ) → g < f → is_free job g ≡ true → side_of sides g ≡ u → lt_z (gain sides (recipes job) g) (gain sides (recipes job) f) ≡ true

-- sides that the free files can have: all other files are where they are in the job
pub record Assignment (job : Job) (sides : List ℕ) : Type 0 where
  pub long : length sides ≡ length job.sides
  pub stays : (f : ℕ) → f < file_count job → is_free job f ≡ false → side_of sides f ≡ side_of job.sides f
  pub binary : (f : ℕ) → f < file_count job → is_free job f ≡ true → side_of sides f ≤ 1

pub record BalanceHolds (job : Job) : Type 0 where
  -- each move is of a file then still free, so what holds of any such moves holds of these: they are at most C (`few`), and no file is moved twice (`once`)
  pub frees : Frees (start job job.sides) (balance_moves job)
  pub moves : MovesHold job job.sides (balance_moves job)
  pub scans : ScansHold job job.sides (balance_moves job)
  -- all moves are from the side that held too much at the start, and at each of them that side still does
  pub from : (u i : ℕ) → heavy job (size_a job job.sides) ≡ some u → i < length (balance_moves job) → side_of job.sides (get_or (balance_moves job) i 0) ≡ u
  pub while : (u i : ℕ) → heavy job (size_a job job.sides) ≡ some u → i < length (balance_moves job) → heavy job (size_a job (balanced_to job i)) ≡ some u
  -- each is of the greatest gain worked out afresh at that moment, of equals the lowest number, and is the only such
  pub each : (u i : ℕ) → heavy job (size_a job job.sides) ≡ some u → i < length (balance_moves job) → Greatest job (balanced_to job i) u (get_or (balance_moves job) i 0)
  pub only : (u i f : ℕ) → heavy job (size_a job job.sides) ≡ some u → i < length (balance_moves job) → Greatest job (balanced_to job i) u f
      → f ≡ get_or (balance_moves job) i 0
  -- when the moves end no choice is left: C turns never end them
  pub ended : balance_choice job (after (start job job.sides) (balance_moves job)) ≡ none
  -- so the split is balanced, or the side that still holds too much has no free file
  pub empty : (u f : ℕ) → heavy job (size_a job (balance_sides job)) ≡ some u → f < file_count job → free_on job (balance_sides job) u f ≡ false
  -- a start that is balanced is left as it is, with no move
  pub still : balanced job (size_a job job.sides) ≡ true → (balance_moves job ≡ []) × (balance_sides job ≡ job.sides)
  -- a pass may start from the sides left; files that are not free keep their side
  pub sides : Sides job (balance_sides job)
  pub stays : (f : ℕ) → is_free job f ≡ false → side_of (balance_sides job) f ≡ side_of job.sides f
  -- and they are balanced, where the free files can be
  pub balances : none_balanced job ≡ false → balanced job (size_a job (balance_sides job)) ≡ true

-- ---- the numbers for no: the first row that is given is the answer (Balancing `balance-rows`, of any job)

abbrev pub BalanceRows : Limits → Job → Bool → Type 0
BalanceRows most job lent = FirstGiven (in_order (balance_rows most job lent)) (balance_check most job lent)

-- ---- 9 is given exactly if no assignment of the free files is balanced (Balancing `balance-refuses`, of any job)

pub record BalanceRefuses (most : Limits) (job : Job) (lent : Bool) : Type 0 where
  -- where it is given, none is
  pub given : (balance_check most job lent).number ≡ 9 → (sides : List ℕ) → Assignment job sides → balanced job (size_a job sides) ≡ false
  -- where none is, it is given, after 1 to 8 and 10
  pub exactly : (check_before_start most job lent).number ≡ 0 → ((sides : List ℕ) → Assignment job sides → balanced job (size_a job sides) ≡ false)
      → balance_check most job lent ≡ record { number = 9; place = 0 }
  -- where the job passes, one is: the sides that the moves leave
  pub possible : (balance_check most job lent).number ≡ 0 → Assignment job (balance_sides job) × (balanced job (size_a job (balance_sides job)) ≡ true)
  -- 1 to 8 and 10 are those of the check of a job, as before; it ends in a 9 of its own
  pub before : check most job lent ≡ (check_before_start most job lent or_else check_start job)
  pub numbers : ((check_before_start most job lent).number ≤ 10) × ((check_before_start most job lent).number ≢ 9)
  pub first : (check_before_start most job lent).number ≢ 0 → balance_check most job lent ≡ check_before_start most job lent

-- ---- the call (Balancing `balance-answers`, of any input)

pub record BalanceAnswers (most : Limits) (job : Job) (scratch : List ℕ) : Type 0 where
  -- number 0 has place 0, and is given only if the scratch is long enough
  pub place : (balance_verdict most job scratch).number ≡ 0 → balance_verdict most job scratch ≡ done
  pub fitting : (balance_verdict most job scratch).number ≡ 0 → scratch_for 1 job ≤ length scratch
  -- a refusal changes neither sides nor scratch, and all its other numbers are 0
  pub refused : (balance_verdict most job scratch).number ≢ 0
      → balancing most job scratch ≡ balancing_of (no_balance_figures (balance_verdict most job scratch)) job.sides scratch
  -- else the sides are left as moved, and the cut and |A| told are those of the sides left
  pub made : (balance_verdict most job scratch).number ≡ 0
      → balancing most job scratch ≡ balancing_of (balance_figures job done) (balance_sides job) (listed (scratch_for 1 job) 0 [] scratch)
  pub cut : (balance_verdict most job scratch).number ≡ 0 → (balancing most job scratch).answer.cut ≡ cut (balancing most job scratch).sides (recipes job)
  pub size : (balance_verdict most job scratch).number ≡ 0 → (balancing most job scratch).answer.size ≡ size_a job (balancing most job scratch).sides
  -- the scratch numbers named are 0, any beyond stay
  pub zeros : (balance_verdict most job scratch).number ≡ 0 → Listed (scratch_for 1 job) 0 [] scratch (balancing most job scratch).scratch
  -- what is left is balanced, and the check of the job with these sides answers done: a pass or run on it by any edition is never refused
  pub even : (balance_verdict most job scratch).number ≡ 0 → balanced job (size_a job (balancing most job scratch).sides) ≡ true
  pub passes : (balance_verdict most job scratch).number ≡ 0 → check most (with_sides job (balancing most job scratch).sides) true ≡ done
  pub runs : (balance_verdict most job scratch).number ≡ 0 → (edition : ℕ) (l : Lent) → is_edition edition ≡ true → fits edition (with_sides job (balancing most job scratch).sides) l ≡ true
      → check_lent edition most (with_sides job (balancing most job scratch).sides) l ≡ done

-- ---- the program (Balancing `program-holds`, of any input)

-- reading's refusal, or that of the balancing
abbrev pub balances_verdict : Limits → List ℕ → Verdict
balances_verdict most input = read_verdict most input (all_room most) or_else balance_verdict most (job_of input) (all_lent most (job_of input)).scratch

pub record BalanceProgram (most : Limits) (input : List ℕ) : Type 0 where
  -- refused, nothing goes to standard output
  pub refused : (balances_verdict most input).number ≢ 0 → balances most input ≡ record { output = []; errors = refusal (balances_verdict most input) }
  -- else the stored job with the balanced sides, and what is told of it to standard error
  pub made : (balances_verdict most input).number ≡ 0
      → balances most input
      ≡ record {
        output = blocks_of (with_sides (job_of input) (balance_sides (job_of input)));
        errors = balance_lines (job_of input) (balance_figures (job_of input) done) (balance_sides (job_of input));
      }
  -- which reads back as that job, and whose check then answers done
  pub reads : (balances_verdict most input).number ≡ 0 → read_verdict most (balances most input).output (all_room most) ≡ done
  pub same : (balances_verdict most input).number ≡ 0 → job_of (balances most input).output ≡ with_sides (job_of input) (balance_sides (job_of input))
  pub passes : (balances_verdict most input).number ≡ 0 → check most (job_of (balances most input).output) true ≡ done
  -- it lends scratch enough, so 3 is never given
  pub enough : (balances_verdict most input).number ≢ 3
  -- and it need read no further than the largest job goes
  pub longer : (k : ℕ) → most_bytes most < k → balances most (take k input) ≡ balances most input

-- ---- three jobs, worked by hand (Worked `worked`)

-- six files of size 1 and recipes {0,1}, {1,2}, {2,3}, {3,4}, {4,5}: A may hold 2 to 4
abbrev pub chain6 : List ℕ → Job
chain6 sides = small sides (0 ∷ 2 ∷ 4 ∷ 6 ∷ 8 ∷ 10 ∷ []) (0 ∷ 1 ∷ 1 ∷ 2 ∷ 2 ∷ 3 ∷ 3 ∷ 4 ∷ 4 ∷ 5 ∷ [])

pub record BalanceWorked : Type 0 where
  -- all in B: file 0 has gain -1, as file 5, and the lower number; then file 1 has gain 0 and file 5 still -1. With 2 in A it stops
  pub from_b : balance_moves (chain6 (1 ∷ 1 ∷ 1 ∷ 1 ∷ 1 ∷ 1 ∷ [])) ≡ 0 ∷ 1 ∷ []
  pub told : balance_figures (chain6 (1 ∷ 1 ∷ 1 ∷ 1 ∷ 1 ∷ 1 ∷ [])) done ≡ record { verdict = done; moves = 2; cut = 1; size = 2; unread = 0; holding = 0 }
  -- all but file 5 in A: file 4 has gain 0. With 4 in A it stops
  pub from_a : balance_moves (chain6 (0 ∷ 0 ∷ 0 ∷ 0 ∷ 0 ∷ 1 ∷ [])) ≡ 4 ∷ []
  -- order 2's job: A may be 6 or 7 and starts at 10, with no free file there: no assignment is balanced
  pub nine : balance_check (limits_of 4 2 4 2) archive true ≡ record { number = 9; place = 0 }
