use mathlib.Core.Path.{◌≡◌, ◌∙◌}
use Rattle.std.proofs.Common.{rules, count_by}
use Rattle.rules.specs.Split.{on_side, count_on}
use Rattle.rules.proofs.Chains.{counted}
use Rattle.job.proofs.figures.count_on.Goals as goal

pub returns : goal.returns
unfolding count_on
returns c =
    let a = c.args in
    let counts : c.count.result ≡ count_by (on_side a.table.now a.u) a.list.now = search rules in counts ∙ counted (on_side a.table.now a.u) a.list.now
