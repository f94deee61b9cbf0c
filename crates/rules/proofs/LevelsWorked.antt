-- The jobs of specs/LevelsWorked.antt that are worked by hand. Assumes nothing.
use mathlib.Core.Path.{refl}
use Rattle.rules.specs.Lists.{total, count, those, largest, up_to, lowest, best_up_to, diff}
use Rattle.rules.specs.Job.{view_of, files, views, read_in, recipes}
use Rattle.rules.specs.Split.{count_on, is_cut, cut, times, alone, together, gain, unread_files, unread_recipes, weight, smax, size_on, balanced}
use Rattle.rules.specs.Check.{bad_pin, check}
use Rattle.rules.specs.Move.{locked_on, moved, steps_by, size_after, legal, dist_after, challenge, first_below, choose, moves_by, moves}
use Rattle.rules.specs.Pass.{cuts_after, cut_at, keeps, pass_of}
use Rattle.rules.specs.Run.{passes_by, most_passes, passes}
use Rattle.rules.specs.Levels.{free_files, binding, level, vector, greater_vector, choose_vector, vector_tries}
use Rattle.rules.specs.LevelsWorked.{LevelsWorked}

pub worked : LevelsWorked
unfolding total count those largest up_to lowest best_up_to diff view_of files views read_in recipes count_on is_cut cut times alone together gain unread_files unread_recipes weight smax size_on balanced bad_pin check locked_on moved steps_by size_after legal dist_after challenge first_below choose moves_by moves cuts_after cut_at keeps pass_of passes_by most_passes passes free_files binding level vector greater_vector choose_vector vector_tries
worked = record {
  figure1·checked = refl;
  figure1·moved = refl;
  figure1·gains = refl;
  figure1·first = refl;
  figure1·vectors = refl;
  figure1·third = refl;
  figure1·afterB = refl;
  figure1·afterA = refl;
  figure1·passes = refl;
  figure2·checked = refl;
  figure2·gains = refl;
  figure2·afterB = refl;
  figure2·vectors = refl;
  figure2·above = refl;
  figure2·third = refl;
  third·checked = refl;
  third·vectors = refl;
  third·first = refl;
  third·third = refl;
  chain·vectors = refl;
  chain·passes = refl;
  chain·locked = refl;
  torn·vectors = refl;
  ring·checked = refl;
  ring·vectors = refl;
  ring·first = refl;
  ring·third = refl;
  ring·moves = (refl, refl);
}
