-- What is handed out of a job. Assumes nothing.
use Rattle.std.specs.Prelude.{◌≡◌, ℕ, ◌*◌, true, List, [], length}
use Rattle.rules.specs.declared.Verdict.{Verdict}
use Rattle.rules.specs.Numbers.{RunFigures}
use Rattle.rules.specs.Numbers.{BalanceFigures}
use Rattle.rules.specs.Job.{Job, Limits}
use Rattle.rules.specs.Run.{Ended}
use Rattle.rules.specs.Stored.{block_count}
use Rattle.rules.specs.Report.{refusal, into_room, all_run}
use Rattle.rules.specs.Writing.{header_for, blocks_of, check_written, with_sides, HandedOut, hands_out}
use Rattle.rules.specs.Balance.{Balancing, balance_lines, balance_reporting, all_balancing}

-- a refusal's line
abbrev pub refused_out : Verdict → HandedOut
refused_out v = record { output = []; errors = refusal v }

-- the blocks of a job, and lines
abbrev pub made_out : Job → List ℕ → HandedOut
made_out job lines = record { output = blocks_of job; errors = lines }

-- of a job and the end of its run, refused or not; and of a job, with the hander's own lists
abbrev pub end_out : Job → Ended RunFigures → HandedOut
end_out job e = hands_out e.answer.figures.verdict (with_sides job e.sides) []

abbrev pub run_out : ℕ → Limits → Job → HandedOut
run_out edition most job = end_out job (all_run edition most job)

-- of a balancing's answer that is not refused and the job with the sides after it
abbrev pub balanced_out : BalanceFigures → Job → HandedOut
balanced_out answer job = made_out job (balance_lines job answer job.sides)

-- of a job and its balancing, refused or not; and of a job, with the hander's own scratch
abbrev pub answer_out : Job → Balancing → HandedOut
answer_out job e = hands_out e.answer.verdict (with_sides job e.sides) (balance_lines job e.answer e.sides)

abbrev pub balancing_out : Limits → Job → HandedOut
balancing_out most job = answer_out job (all_balancing most job)

-- what handing out a balanced job needs to know: its lines are refused only for want of room; it can be written with its new sides; and its blocks are n bytes
pub record Made (most : Limits) (answer : BalanceFigures) (job : Job) (n : ℕ) : Type 0 where
  pub told : (room : List ℕ) → balance_reporting most job.sizes job.marks answer job.sides room ≡ into_room (balance_lines job answer job.sides) room
  pub passes : (check_written most job true).number ≡ 0
  pub blocks : n ≡ 512 * block_count (header_for job)
  pub sides_long : length job.sides ≡ length job.sizes
  pub marks_long : length job.marks ≡ length job.sizes
