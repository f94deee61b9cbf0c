use Rattle.job.specs.Given.{the_pins}
use Rattle.job.proofs.OwnRecipe.{PinsPassed}
use Rattle.job.proofs.pins.first_bad_pin.Given as goal

abbrev pub invariant-loop-j : goal.invariant-loop-j
invariant-loop-j l = PinsPassed (the_pins l.placed.book) l.initial.held l.held l.j
