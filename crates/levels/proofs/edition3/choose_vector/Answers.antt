-- By lists that fit and lists that do not. Assumes nothing.
use Rattle.std.proofs.Common.{◌≡◌, ◌<◌, IfSome, length, rules, sym, ◌∙◌}
use Rattle.std.specs.Option.{option_map}
use Rattle.choice.specs.Cases.{as_best}
use Rattle.levels.specs.Vectors.{vector_choice}
use Rattle.levels.specs.Leading.{best_by}
use Rattle.levels.proofs.FilesPassed.{choice-unfit, choice-fit}
use Rattle.levels.proofs.edition3.choose_vector.Goals as goal

pub returns-then-not-fit-clause-value : goal.returns-then-not-fit-clause-value
returns-then-not-fit-clause-value c =
    let x = c.args.extent in
    let s = c.args.standing in
    choice-unfit x.files x.recipes x.pins c.args.window c.args.size s.sizes.now s.sides.now s.gains.now c.args.scratch.now (sym c.fit.ensures ∙ c.if-not-fit.true)

made : (c : goal.After-map) → (as_best (length c.args.standing.sizes.now) c.map.result ≡ vector_choice c.args.extent.files c.args.extent.recipes c.args.extent.pins c.args.window c.args.size
    c.args.standing.sizes.now c.args.standing.sides.now c.args.standing.gains.now c.args.scratch.now) × IfSome c.map.result (λ best. best.file < length c.args.standing.sizes.now)
made c =
    let x = c.args.extent in
    let s = c.args.standing in
    let mapped : c.map.result ≡ option_map best_by c.first_of.result = search rules in
    rw mapped
    (choice-fit x.files x.recipes x.pins c.args.window c.args.size s.sizes.now s.sides.now s.gains.now c.args.scratch.now (sym c.fit.ensures ∙ c.if-not-fit.false) c.first_of.ensures)

pub returns-clause-value : goal.returns-clause-value
returns-clause-value c = (made c).0

pub returns-clause-file : goal.returns-clause-file
returns-clause-file c = (made c).1
