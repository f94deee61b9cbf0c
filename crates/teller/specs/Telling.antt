-- What is told of a job by an edition of the choice, with the teller's own lists. Assumes nothing.
use Rattle.std.specs.Prelude.{ℕ, true, false, List}
use Rattle.rules.specs.Job.{Job, Limits}
use Rattle.rules.specs.Run.{pass_ends}
use Rattle.rules.specs.Check.{is_done}
use Rattle.rules.specs.Stored.{job_of, read_verdict}
use Rattle.rules.specs.Report.{refusal, report, all_room, all_lent, all_run}
use Rattle.rules.specs.Trace.{listing, trace}

-- the report of a run
abbrev pub run_report : ℕ → Limits → Job → List ℕ
run_report edition most job = let e = all_run edition most job in report job e.answer e.sides

-- the trace of a pass
abbrev pub pass_trace : ℕ → Limits → Job → List ℕ
pass_trace edition most job = let e = pass_ends edition most job (all_lent most job) in trace job e.answer e.sides (listing e.lent)

-- of a stored job: this text of the job that reading lets through, or its refusal
unfoldable pub told_of : (Job → List ℕ) → Limits → List ℕ → List ℕ
told_of text most input =
    let v = read_verdict most input (all_room most) in
    elim (is_done v) [ true ↦ text (job_of input) | false ↦ refusal v ]
