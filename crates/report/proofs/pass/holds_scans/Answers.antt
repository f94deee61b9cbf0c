use mathlib.Core.Path.{◌≡◌}
use mathlib.Core.Bool.{true, false}
use Rattle.std.proofs.Common.{rules}
use Rattle.std.proofs.lemmas.Iterator.{YieldsList-from_range, cases_from_any}
use borrow.Author.Tests.{tests}
use Rattle.rules.specs.Trace.{bad_end}
use Rattle.report.specs.Cases.{listed}
use Rattle.report.proofs.Traces.{scans-held}
use Rattle.report.proofs.pass.holds_scans.Goals as goal

pub returns : goal.returns
returns c =
    let l = listed c.args.lists in
    scans-held l c.args.n c.any.result
    (cases_from_any _ _ _ (λ i. bad_end l i ≡ true) (λ i. bad_end l i ≡ false) c.any.ensures.ran (YieldsList-from_range 0 c.args.n c.args.n (cc) (search rules))
    (λ x q k. search (rules, tests)) (λ x q k. search (rules, tests)))
