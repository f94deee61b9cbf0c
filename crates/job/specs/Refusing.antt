-- A test that refuses, by whatever has a number and a place. Assumes nothing.
use Rattle.std.specs.Prelude.{Bool, true, false, Result, Ok, Err}
use Rattle.rules.specs.declared.Verdict.{Verdict}
use Rattle.rules.specs.Check.{done}

-- refused, where the test passes; else done
abbrev pub refused_if : {R : Type 0} → Bool → R → Result (Unit {0}) R
refused_if true r = Err r
refused_if false r = Ok tt

-- the numbers of a check that refuses by an R
abbrev pub numbers_by : {R : Type 0} → (R → Verdict) → Result (Unit {0}) R → Verdict
numbers_by numbers (Ok _) = done
numbers_by numbers (Err r) = numbers r
