use Rattle.std.proofs.Common.{ap, refl, ◌∙◌}
use Rattle.std.specs.Prelude.{Result}
use borrow.Author.Tests.{lt-ltb}
use Rattle.rules.specs.declared.Verdict.{Verdict}
use Rattle.rules.specs.declared.Header.{Header}
use Rattle.rules.specs.declared.refusal.Refusal.{Refusal}
use Rattle.rules.specs.Cases.{as_read_figures}
use Rattle.rules.proofs.Verdicts.{refuse-stop}
use Rattle.rules.proofs.Exits.{exit-is}
use Rattle.stored.proofs.Readings.{header-read, header-told}
use Rattle.stored.proofs.header.take_header.Goals as goal

abbrev verdict_in : Result Header Refusal → Verdict
verdict_in r = (as_read_figures r).verdict

pub returns-then-bytes-lt512-clause-verdict : goal.returns-then-bytes-lt512-clause-verdict
returns-then-bytes-lt512-clause-verdict c = refuse-stop 19 0 _ (lt-ltb _ 512 c.if-bytes-lt512.true) refl

pub returns-in_err-block_verdict-clause-verdict : goal.returns-in_err-block_verdict-clause-verdict
returns-in_err-block_verdict-clause-verdict c =
    ap verdict_in (exit-is _ _ c.from_residual.ensures.1)
    ∙ header-told _ c.if-bytes-lt512.false c.block_at-block.ensures c.k_in.ensures c.header_values.ensures c.in_err-block_verdict.ensures

pub returns-clause-verdict : goal.returns-clause-verdict
returns-clause-verdict c = header-told _ c.if-bytes-lt512.false c.block_at-block.ensures c.k_in.ensures c.header_values.ensures c.in_ok-block_verdict.ensures

pub returns-clause-header : goal.returns-clause-header
returns-clause-header c = header-read _ c.block_at-block.ensures c.header_in.ensures
