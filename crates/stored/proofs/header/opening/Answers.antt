use Rattle.std.proofs.Common.{ap, ◌∙◌}
use Rattle.std.specs.Prelude.{Result}
use Rattle.rules.specs.declared.Verdict.{Verdict}
use Rattle.rules.specs.declared.Header.{Header}
use Rattle.rules.specs.declared.refusal.Refusal.{Refusal}
use Rattle.rules.specs.Cases.{as_read_figures}
use Rattle.rules.proofs.Exits.{exit-is}
use Rattle.stored.proofs.Readings.{header-refused, figures-refused, total-told, figures-allowed}
use Rattle.stored.proofs.header.opening.Goals as goal

abbrev verdict_in : Result Header Refusal → Verdict
verdict_in r = (as_read_figures r).verdict

pub returns-in_err-header-clause-verdict : goal.returns-in_err-header-clause-verdict
returns-in_err-header-clause-verdict c = ap verdict_in (exit-is _ _ c.from_residual.ensures.1) ∙ header-refused _ _ _ _ c.in_err-header.ensures.verdict

pub returns-in_err-figures_verdict-clause-verdict : goal.returns-in_err-figures_verdict-clause-verdict
returns-in_err-figures_verdict-clause-verdict c =
    let z = c.in_ok-header.ensures in
    ap verdict_in (exit-is _ _ c.from_residual-in_err-figures_verdict.ensures.1) ∙ figures-refused _ _ _ z.verdict z.header _ c.in_err-figures_verdict.ensures

pub returns-in_err-refuse_if-clause-verdict : goal.returns-in_err-refuse_if-clause-verdict
returns-in_err-refuse_if-clause-verdict c =
    let z = c.in_ok-header.ensures in
    ap verdict_in (exit-is _ _ c.from_residual-in_err-refuse_if.ensures.1)
    ∙ total-told _ _ _ z.verdict z.header c.in_ok-figures_verdict.ensures c.block_count.ensures c.in_err-refuse_if.ensures.numbers

pub returns-clause-verdict : goal.returns-clause-verdict
returns-clause-verdict c =
    let z = c.in_ok-header.ensures in
    total-told _ _ _ z.verdict z.header c.in_ok-figures_verdict.ensures c.block_count.ensures c.in_ok-refuse_if.ensures.numbers

pub returns-clause-allowed : goal.returns-clause-allowed
returns-clause-allowed c = figures-allowed _ _ _ c.in_ok-figures_verdict.ensures
