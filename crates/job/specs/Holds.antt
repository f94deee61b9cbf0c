-- What each vault holds of a recipe, as one walk over its files counts it. Assumes nothing.
use Rattle.std.specs.Prelude.{ℕ, ◌+◌, Bool, not, ◌&&◌, List, eqb}
use Rattle.rules.specs.Lists.{bit, those}
use Rattle.rules.specs.Job.{is_read}
use Rattle.rules.specs.Split.{count_on}
use Rattle.rules.specs.Move.{locked_on}
use Rattle.job.specs.Parts.{of_marks}
use Rattle.job.specs.declared.holds.Held.{Held}
use Rattle.job.specs.declared.holds.Vaults.{Vaults}

-- the readable files of r on side u, and those of them that are locked
abbrev pub held_on : List ℕ → List ℕ → ℕ → List ℕ → Held
held_on sides marks u r =
    let read = those (is_read (of_marks marks)) r in
    record { all = count_on sides u read; locked = locked_on (record { sides = sides; locks = marks }) u read }

abbrev pub tally_of : List ℕ → List ℕ → List ℕ → Vaults
tally_of sides marks r = record { a = held_on sides marks 0 r; b = held_on sides marks 1 r }

-- one file more, of the given mark, on the side or not
abbrev pub with_pin : Held → ℕ → Bool → Held
with_pin held mark there = record {
  all = held.all + bit (not (eqb mark 2) && there);
  locked = held.locked + bit (not (eqb mark 2) && (there && not (eqb mark 0)));
}
