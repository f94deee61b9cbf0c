-- The differences of the first j recipes are noted, at most one a recipe. Assumes nothing.
use Rattle.rules.specs.Lists.{in_turn}
use Rattle.rules.specs.Compare.{recipe_differences}
use Rattle.stored.specs.Steps.{job_taken}
use Rattle.comparer.specs.Finding.{Adds}
use Rattle.comparer.proofs.notes.Notes.recipes.Given as goal

abbrev pub invariant-loop-j : goal.invariant-loop-j
invariant-loop-j l = Adds l.j l.initial.self (in_turn (recipe_differences (job_taken l.old) (job_taken l.new)) l.j) l.self
