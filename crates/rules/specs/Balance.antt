-- Document 02, order 3: make a balanced start. Its moves, its check, what the call answers and leaves behind, and the program `balance`.
-- Assumes nothing.
use Rattle.std.specs.Prelude.{ℕ, ◌*◌, Bool, true, false, not, cond, ◌&&◌, ◌||◌, List, [], ◌∷◌, ◌++◌, length, leb}
use Rattle.std.proofs.Math.Option.{Option, none, some}
use Rattle.rules.specs.declared.Verdict.{Verdict}
use Rattle.rules.specs.Numbers.{BalanceFigures}
use Rattle.rules.specs.Lists.{bit, total, listed}
use Rattle.rules.specs.Job.{Job, Limits, file_count, files, recipes, scratch_for}
use Rattle.rules.specs.Split.{on_side, cut, gain, is_free, weighs, unread_files, unread_recipes, weight, tolerance, size_a, large_enough, small_enough}
use Rattle.rules.specs.Check.{is_done, ◌or_else◌, Rows, ◌followed_by◌, row, first_given, sound_rows, goal_rows}
use Rattle.rules.specs.Move.{State, start, moved, after, greater, first_below, moves_by}
use Rattle.rules.specs.Stored.{job_of, read_verdict}
use Rattle.rules.specs.Report.{line, first_lines, size_line, tells, of_files, Printing, telling, all_room, all_lent}
use Rattle.rules.specs.Writing.{with_sides, HandedOut, hands_out}

-- ---- the two halves of the balance test: a split is balanced if A is neither

unfoldable pub too_large : Job → ℕ → Bool
too_large job a = not (small_enough job.num job.den (weight job) (tolerance job) a)

unfoldable pub too_small : Job → ℕ → Bool
too_small job a = not (large_enough job.num job.den (weight job) (tolerance job) a)

-- ---- the choice

-- the side to move from: A while A is too large, B while A is too small
unfoldable pub heavy : Job → ℕ → Option ℕ
heavy job a = cond (too_large job a) (some 0) (cond (too_small job a) (some 1) none)

-- f is a free file of side u; free means mark 0
abbrev pub free_on : Job → List ℕ → ℕ → ℕ → Bool
free_on job sides u f = is_free job f && on_side sides u f

-- the free file of side u with the greatest gain, the lowest number among equals
unfoldable pub greatest_on : Job → List ℕ → ℕ → Option ℕ
greatest_on job sides u = first_below (free_on job sides u) (greater (gain sides (recipes job))) (file_count job)

-- gains as they stand; nothing where the split is balanced, or where no such file is there
unfoldable pub balance_choice : Job → State → Option ℕ
balance_choice job st = elim (heavy job (size_a job st.sides)) [ none ↦ none | some u ↦ greatest_on job st.sides u ]

-- ---- the moves, and the sides as they leave them

-- a file moves once, so C turns are enough
unfoldable pub balance_moves : Job → List ℕ
balance_moves job = moves_by (balance_choice job) moved (file_count job) (start job job.sides)

abbrev pub balance_sides : Job → List ℕ
balance_sides job = (after (start job job.sides) (balance_moves job)).sides

-- ---- its check: 1 to 8 and 10 as before, and a 9 of its own

-- the least that |A| can be: all free files in B
unfoldable pub least_a : Job → ℕ
least_a job = total (λ f. bit (not (is_free job f) && on_side job.sides 0 f) * weighs job f) (files job)

-- the most that |A| can be: all free files in A
unfoldable pub most_a : Job → ℕ
most_a job = total (λ f. bit (is_free job f || on_side job.sides 0 f) * weighs job f) (files job)

-- no assignment of the free files is balanced: A is too large with the least, or too small with the most
unfoldable pub none_balanced : Job → Bool
none_balanced job = too_large job (least_a job) || too_small job (most_a job)

abbrev pub before_start_rows : Limits → Job → Bool → Rows
before_start_rows most job lent = sound_rows most job lent followed_by goal_rows most job

unfoldable pub check_before_start : Limits → Job → Bool → Verdict
check_before_start most job lent = first_given (before_start_rows most job lent)

abbrev pub balance_rows : Limits → Job → Bool → Rows
balance_rows most job lent = before_start_rows most job lent followed_by row 9 (none_balanced job) 0

unfoldable pub balance_check : Limits → Job → Bool → Verdict
balance_check most job lent = first_given (balance_rows most job lent)

-- ---- the call: it is lent the job, whose sides change, and a pass's scratch

abbrev pub balance_verdict : Limits → Job → List ℕ → Verdict
balance_verdict most job scratch = balance_check most job (leb (scratch_for 1 job) (length scratch))

-- what it answers, and what the sides and the scratch then hold
pub record Balancing : Type 0 where
  pub answer : BalanceFigures
  pub sides : List ℕ
  pub scratch : List ℕ

-- of the answer and the lists of a call, for contracts
abbrev pub balancing_of : BalanceFigures → List ℕ → List ℕ → Balancing
balancing_of a sides scratch = record { answer = a; sides = sides; scratch = scratch }

-- the moves made, and the cut and |A| after
unfoldable pub balance_figures : Job → Verdict → BalanceFigures
balance_figures job v = record {
  verdict = v;
  moves = length (balance_moves job);
  cut = cut (balance_sides job) (recipes job);
  size = size_a job (balance_sides job);
  unread = unread_files job;
  holding = unread_recipes job;
}

-- all other numbers of a refused answer are 0
abbrev pub no_balance_figures : Verdict → BalanceFigures
no_balance_figures v = record { verdict = v; moves = 0; cut = 0; size = 0; unread = 0; holding = 0 }

-- the sides are left as moved, the scratch numbers named are 0 and any beyond stay; refused, no list changes
unfoldable pub balancing : Limits → Job → List ℕ → Balancing
balancing most job scratch =
    let v = balance_verdict most job scratch in
    elim (is_done v) [
      | true ↦ balancing_of (balance_figures job v) (balance_sides job) (listed (scratch_for 1 job) 0 [] scratch)
      | false ↦ balancing_of (no_balance_figures v) job.sides scratch
    ]

-- ---- the program `balance`: it reads a stored job from standard input, balances it, and writes it with the sides as moved

-- what it tells of them
unfoldable pub balance_lines : Job → BalanceFigures → List ℕ → List ℕ
balance_lines job a sides =
    first_lines a.unread a.holding
    ++ line "moves" (a.moves ∷ [])
    ++ line "cut" (a.cut ∷ [])
    ++ size_line job a.size sides

-- of its answer, refused or not; and the call that makes these bytes, as for a report
unfoldable pub balance_report : Job → BalanceFigures → List ℕ → List ℕ
balance_report job a sides = tells a.verdict (balance_lines job a sides)

unfoldable pub balance_reporting : Limits → List ℕ → List ℕ → BalanceFigures → List ℕ → List ℕ → Printing
balance_reporting most sizes marks a sides room = telling most sizes marks sides a.verdict true (balance_report (of_files sizes marks) a sides) room

-- the balancing of a job, lent the program's own scratch
abbrev pub all_balancing : Limits → Job → Balancing
all_balancing most job = balancing most job (all_lent most job).scratch

unfoldable pub balances : Limits → List ℕ → HandedOut
balances most input =
    let job = job_of input in
    let e = all_balancing most job in
    hands_out (read_verdict most input (all_room most) or_else e.answer.verdict) (with_sides job e.sides) (balance_lines job e.answer e.sides)
