-- A refusal told is what rules tells of an answer with that verdict and no figures, as long as its number is not 0. Assumes nothing.
use mathlib.Core.Path.{◌≡◌, sym}
use mathlib.Core.Logic.{◌≢◌}
use mathlib.Core.List.{List}
use Prim.Native.Nat.{ℕ}
use Rattle.std.specs.Prelude.{Err}
use Rattle.rules.specs.declared.Verdict.{Verdict}
use Rattle.rules.specs.Job.{Limits}
use Rattle.rules.specs.Run.{no_figures, no_run_figures}
use Rattle.rules.specs.Report.{reporting}
use Rattle.rules.specs.Balance.{no_balance_figures, balance_reporting}
use Rattle.rules.specs.Trace.{Listing, tracing}
use Rattle.rules.specs.Compare.{compared}
use Rattle.rules.proofs.Reports.{reporting-refusal, tracing-refusal}
use Rattle.rules.proofs.Balancing.{balance-refusal}
use Rattle.report.specs.declared.RefusedJob.{RefusedJob}
use Rattle.report.specs.Cases.{run_telling, balance_telling, pass_telling, differences_telling, differences_told}
use Rattle.report.specs.Comparison.{comparison_telling}
use Rattle.report.proofs.Comparisons.{comparison-refused}

module _ (most : Limits) (sizes marks : List ℕ) (v : Verdict) (h : v.number ≢ 0) (sides room : List ℕ) where
  pub run-refused : run_telling most sizes marks (Err v) sides room ≡ reporting most sizes marks (no_run_figures v) sides room
  run-refused = sym (reporting-refusal most sizes marks (no_run_figures v) sides room h)

  pub balance-refused : balance_telling most sizes marks (Err v) sides room ≡ balance_reporting most sizes marks (no_balance_figures v) sides room
  balance-refused = sym (balance-refusal most sizes marks (no_balance_figures v) sides room h)

  pub pass-refused : (l : Listing) → pass_telling most sizes marks (Err v) sides l room ≡ tracing most sizes marks (no_figures v) sides l room
  pass-refused l = sym (tracing-refusal most sizes marks (no_figures v) sides l room h)

pub differences-refused : (most : Limits) (r : RefusedJob) → r.verdict.number ≢ 0 → (numbers room : List ℕ)
    → differences_telling most (Err r) numbers room ≡ comparison_telling most (differences_told (Err r)) numbers room
differences-refused most r h numbers room = sym (comparison-refused most (compared r.job r.verdict 0) numbers room h)
