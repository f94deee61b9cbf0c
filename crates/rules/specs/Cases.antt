-- The answers of the calls as src/ has them, each a `Result`, and the numbers of documents 01 and 02 for each of their cases. Every promise uses these.
-- Assumes nothing.
use Rattle.std.specs.Prelude.{ℕ, Result, Ok, Err}
use Rattle.rules.specs.declared.refusal.Refusal.{Refusal}
use Rattle.rules.specs.declared.Verdict.{Verdict}
use Rattle.rules.specs.declared.Measured.{Measured}
use Rattle.rules.specs.declared.Passed.{Passed}
use Rattle.rules.specs.declared.Ran.{Ran}
use Rattle.rules.specs.declared.Balanced.{Balanced}
use Rattle.rules.specs.declared.HandedOut.{HandedOut}
use Rattle.rules.specs.declared.Header.{Header}
use Rattle.rules.specs.Numbers.{verdict_of, Measure, Figures, RunFigures, ReadFigures, Printed, Handed, BalanceFigures}
use Rattle.rules.specs.Check.{done}
use Rattle.rules.specs.Run.{no_figures, no_run_figures}
use Rattle.rules.specs.Stored.{no_header}
use Rattle.rules.specs.Balance.{no_balance_figures}

-- a check
abbrev pub as_verdict : Result (Unit {0}) Refusal → Verdict
as_verdict (Ok _) = done
as_verdict (Err r) = verdict_of r

-- the measure
abbrev pub as_measure : Result Measured Refusal → Measure
as_measure (Ok m) = record { verdict = done; cut = m.cut; size = m.size; unread = m.unread; holding = m.holding }
as_measure (Err r) = record { verdict = verdict_of r; cut = 0; size = 0; unread = 0; holding = 0 }

-- a pass
abbrev pub pass_numbers : Passed → Figures
pass_numbers p = record {
  verdict = done;
  before = p.before;
  cut = p.cut;
  size = p.size;
  tried = p.tried;
  kept = p.kept;
  scans = p.scans;
  visits = p.visits;
  unread = p.unread;
  holding = p.holding;
}

abbrev pub as_figures : Result Passed Refusal → Figures
as_figures (Ok p) = pass_numbers p
as_figures (Err r) = no_figures (verdict_of r)

-- a run
abbrev pub run_numbers : Ran → RunFigures
run_numbers r = record { figures = pass_numbers r.figures; passes = r.passes; settled = r.settled }

abbrev pub as_run_figures : Result Ran Refusal → RunFigures
as_run_figures (Ok r) = run_numbers r
as_run_figures (Err r) = no_run_figures (verdict_of r)

-- a pass and a run of which a refusal has any number and place
abbrev pub pass_told : Result Passed Verdict → Figures
pass_told (Ok p) = pass_numbers p
pass_told (Err v) = no_figures v

abbrev pub run_told : Result Ran Verdict → RunFigures
run_told (Ok r) = run_numbers r
run_told (Err v) = no_run_figures v

-- reading
abbrev pub as_read_figures : Result Header Refusal → ReadFigures
as_read_figures (Ok h) = record { verdict = done; header = h }
as_read_figures (Err r) = record { verdict = verdict_of r; header = no_header }

-- making a report: how many bytes it has
abbrev pub as_printed : Result ℕ Refusal → Printed
as_printed (Ok n) = record { verdict = done; bytes = n }
as_printed (Err r) = record { verdict = verdict_of r; bytes = 0 }

-- handing out
abbrev pub as_handed : Result HandedOut Refusal → Handed
as_handed (Ok h) = record { verdict = done; output = h.output; errors = h.errors }
as_handed (Err r) = record { verdict = verdict_of r; output = 0; errors = 0 }

-- balancing
abbrev pub balance_numbers : Balanced → BalanceFigures
balance_numbers b = record { verdict = done; moves = b.moves; cut = b.cut; size = b.size; unread = b.unread; holding = b.holding }

abbrev pub as_balance_figures : Result Balanced Refusal → BalanceFigures
as_balance_figures (Ok b) = balance_numbers b
as_balance_figures (Err r) = no_balance_figures (verdict_of r)
