-- The first file that reaches the bar is the first that goes before the best so far. Assumes nothing.
use Rattle.std.proofs.Common.{◌≡◌, rules}
use Rattle.choice.specs.Reaching.{after}
use Rattle.choice.proofs.FirstFound.{first-found}
use Rattle.choice.proofs.FilesPassed.{Gives, next-found}
use Rattle.choice.proofs.edition1.next_first.Goals as goal

pub returns-clause-next : goal.returns-clause-next
returns-clause-next c =
    let a = c.args in
    let bar = c.bar_of-bar.result in
    let from : c.map_or-from.result ≡ after a.best = search rules in
    next-found a.window a.size a.standing a.scratch.now bar (record { is = c.bar_of-bar.ensures; small = search rules; legal = c.requires.best_is_legal }) from c.find_map.result
    (first-found _ _ _ (Gives a.window a.size a.standing a.scratch.now bar) (λ k o q e. (search rules, (search rules, search rules))) _ c.find_map.ensures.runs)
