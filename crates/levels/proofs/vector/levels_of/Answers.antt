-- Each level so far is that of the recipes passed. Assumes nothing.
use Rattle.std.proofs.Common.{◌∙◌, [], ◌∷◌, rules}
use mir.Syntax.{w32}
use mir.Val.{SFits}
use mir.Facts.{to_z-of_z}
use Rattle.levels.proofs.Walked.{leveled-none, leveled-few, leveled-more, leveled-all}
use Rattle.levels.proofs.vector.levels_of.Goals as goal

pub loop-recipe-init : goal.loop-recipe-init
loop-recipe-init c = record { second = leveled-none; third = leveled-none }

pub with-second-requires-clause-room : goal.with-second-requires-clause-room
with-second-requires-clause-room c = leveled-few c.loop-recipe.invariant.second c.requires.0

pub with-third-requires-clause-room : goal.with-third-requires-clause-room
with-third-requires-clause-room c = leveled-few c.loop-recipe.invariant.third c.requires.0

pub loop-recipe-preserved : goal.loop-recipe-preserved
loop-recipe-preserved c =
    let h = c.loop-recipe-test.true in
    let i = c.loop-recipe.invariant in
    let a = c.args in
    record {
      second = leveled-more a.own.now a.other.now a.n i.second h c.from-j.ensures c.number_at-mine.ensures c.number_at-theirs.ensures c.with-second.ensures.up c.with-second.ensures.down;
      third = leveled-more a.own.now a.other.now a.n i.third h c.from-j.ensures c.number_at-mine.ensures c.number_at-theirs.ensures c.with-third.ensures.up c.with-third.ensures.down;
    }

pub returns : goal.returns
returns c =
    let i = c.loop-recipe.invariant in
    let second : SFits w32 c.value.result = search rules in
    let third : SFits w32 c.value-2.result = search rules in
    let one = to_z-of_z c.ranges.gain in
    let two = to_z-of_z second ∙ c.value.ensures ∙ leveled-all i.second c.loop-recipe-test.false in
    let three = to_z-of_z third ∙ c.value-2.ensures ∙ leveled-all i.third c.loop-recipe-test.false in
    λ x. one x ∷ two x ∷ three x ∷ []
