-- The jobs of specs/Balancing.antt that are worked by hand. Assumes nothing.
use mathlib.Core.Path.{refl}
use Rattle.rules.specs.Lists.{those, total, count, largest, up_to, lowest, diff}
use Rattle.rules.specs.Job.{view_of, files, views, read_in, recipes}
use Rattle.rules.specs.Split.{count_on, is_cut, cut, times, alone, together, gain, unread_files, unread_recipes, weight, smax, size_on}
use Rattle.rules.specs.Check.{bad_pin}
use Rattle.rules.specs.Move.{moved, steps_by, challenge, first_below, moves_by}
use Rattle.rules.specs.Balance.{too_large, too_small, heavy, greatest_on, balance_choice, balance_moves, least_a, most_a, none_balanced, balance_check, balance_figures}
use Rattle.rules.specs.Balancing.{BalanceWorked}

pub worked : BalanceWorked
unfolding total count largest up_to lowest diff view_of files views read_in recipes those count_on is_cut cut times alone together gain unread_files unread_recipes weight smax size_on bad_pin moved steps_by challenge first_below moves_by too_large too_small heavy greatest_on balance_choice balance_moves least_a most_a none_balanced balance_check balance_figures
worked = record { from_b = refl; told = refl; from_a = refl; nine = refl }
