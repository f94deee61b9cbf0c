-- The first file that passes the code's test is the first rival. Assumes nothing.
use Rattle.std.proofs.Common.{rules}
use Rattle.choice.proofs.FirstFound.{first-found}
use Rattle.levels.proofs.FilesPassed.{Gives, next-found}
use Rattle.levels.proofs.edition3.next_rival.Goals as goal

pub returns : goal.returns
returns c =
    let a = c.args in
    next-found a.window a.size a.least a.standing a.scratch.now c.requires.from_in_bounds c.find_map.result
    (first-found _ _ _ (Gives a.window a.size a.least a.standing a.scratch.now) (λ k o q e. (search rules, (search rules, search rules))) _ c.find_map.ensures.runs)
