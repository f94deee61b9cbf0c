-- Each level so far is that of the recipes passed. Assumes nothing.
use Rattle.levels.specs.Numbers.{counts_from}
use Rattle.levels.proofs.Walked.{Leveled}
use Rattle.levels.proofs.vector.levels_of.Given as goal

abbrev pub invariant-loop-recipe : goal.invariant-loop-recipe
invariant-loop-recipe l = record {
  second : Leveled (counts_from l.own l.other l.n) 2 l.list l.recipe-index l.second.up l.second.down;
  third : Leveled (counts_from l.own l.other l.n) 3 l.list l.recipe-index l.third.up l.third.down;
}
