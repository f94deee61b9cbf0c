-- The jobs of specs/FrontsWorked.antt that are worked by hand. Assumes nothing.
use mathlib.Core.Path.{refl}
use Rattle.rules.specs.Lists.{total, count, those, largest, up_to, lowest, best_up_to, diff}
use Rattle.rules.specs.Job.{view_of, files, views, read_in, recipes}
use Rattle.rules.specs.Split.{count_on, is_cut, cut, times, alone, together, gain, unread_files, unread_recipes, weight, smax, size_on, balanced}
use Rattle.rules.specs.Check.{bad_pin, check}
use Rattle.rules.specs.Move.{moved, steps_by, size_after, legal, dist_after, challenge, first_below, choose, moves_by, moves, file_on, kinds_in, kinds_of, scans_from, scans, ends_from, visits, changes_in, changes_by}
use Rattle.rules.specs.Pass.{gains_when, cuts_after, cut_at, keeps, standing, gains_after, pass_of}
use Rattle.rules.specs.Run.{passes_by, most_passes, passes}
use Rattle.rules.specs.Fronts.{entered_first, moved_on, front_below, front_of, choose_front, front_tries}
use Rattle.rules.specs.FrontsWorked.{filled, FrontsWorked}

pub worked : FrontsWorked
unfolding total count those largest up_to lowest best_up_to diff view_of files views read_in recipes count_on is_cut cut times alone together gain unread_files unread_recipes weight smax size_on balanced bad_pin check moved steps_by size_after legal dist_after challenge first_below choose moves_by moves file_on kinds_in kinds_of scans_from scans ends_from visits changes_in changes_by gains_when cuts_after cut_at keeps standing gains_after pass_of passes_by most_passes passes entered_first moved_on front_below front_of choose_front front_tries filled
worked = record {
  checked = refl;
  moves = refl;
  start = refl;
  after6 = refl;
  after7 = refl;
  after4 = refl;
  after2 = refl;
  twice = refl;
  after5 = refl;
  left = refl;
  pass = refl;
  first = refl;
  early·checked = refl;
  early·told = refl;
  early·passes = refl;
  early·cut = refl;
  early·legal = refl;
  early·less = refl;
  early·first = refl;
}
