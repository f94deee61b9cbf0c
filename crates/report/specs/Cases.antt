-- What a report, a trace and a comparison are made of as src/ has it: an answer, or the number and place that refused it. Assumes nothing.
use Rattle.std.specs.Prelude.{ℕ, List, Result, Ok, Err}
use Rattle.rules.specs.declared.Verdict.{Verdict}
use Rattle.rules.specs.declared.Passed.{Passed}
use Rattle.rules.specs.declared.Ran.{Ran}
use Rattle.rules.specs.declared.Balanced.{Balanced}
use Rattle.rules.specs.Numbers.{Compared}
use Rattle.rules.specs.Cases.{pass_numbers, run_numbers, balance_numbers}
use Rattle.rules.specs.Job.{Limits}
use Rattle.rules.specs.Check.{done}
use Rattle.rules.specs.Report.{Printing, into_room, refusal, reporting}
use Rattle.rules.specs.Trace.{Listing, tracing}
use Rattle.rules.specs.Balance.{balance_reporting}
use Rattle.rules.specs.Compare.{compared, refused_of}
use Rattle.report.specs.declared.RefusedJob.{RefusedJob}
use Rattle.report.specs.declared.Listing.{Listing as Lists}
use Rattle.rules.specs.Trace.{listing_of}
use Rattle.report.specs.Comparison.{comparison_telling}

-- the lists of a pass as rules has them
abbrev pub listed : Lists → Listing
listed l = listing_of l.gains.now l.tried.now l.gained.now l.cuts.now l.ends.now l.recipes.now l.kinds.now

-- the report of a run, or a refusal's line
abbrev pub run_telling : Limits → List ℕ → List ℕ → Result Ran Verdict → List ℕ → List ℕ → Printing
run_telling most sizes marks (Ok r) sides room = reporting most sizes marks (run_numbers r) sides room
run_telling most sizes marks (Err v) sides room = into_room (refusal v) room

-- that of a balancing
abbrev pub balance_telling : Limits → List ℕ → List ℕ → Result Balanced Verdict → List ℕ → List ℕ → Printing
balance_telling most sizes marks (Ok b) sides room = balance_reporting most sizes marks (balance_numbers b) sides room
balance_telling most sizes marks (Err v) sides room = into_room (refusal v) room

-- the trace of a pass
abbrev pub pass_telling : Limits → List ℕ → List ℕ → Result Passed Verdict → List ℕ → Listing → List ℕ → Printing
pass_telling most sizes marks (Ok p) sides l room = tracing most sizes marks (pass_numbers p) sides l room
pass_telling most sizes marks (Err v) sides l room = into_room (refusal v) room

-- the lines of a comparison; a refusal is of a job
abbrev pub differences_telling : Limits → Result ℕ RefusedJob → List ℕ → List ℕ → Printing
differences_telling most (Ok n) numbers room = comparison_telling most (compared 0 done n) numbers room
differences_telling most (Err r) numbers room = into_room (refused_of r.job r.verdict) room

abbrev pub differences_told : Result ℕ RefusedJob → Compared
differences_told (Ok n) = compared 0 done n
differences_told (Err r) = compared r.job r.verdict 0
