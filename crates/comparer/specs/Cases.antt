-- The answer of a comparison as src/ has it, and document 02's numbers for each case. Assumes nothing.
use Rattle.std.specs.Prelude.{ℕ, Result, Ok, Err}
use Rattle.rules.specs.Numbers.{verdict_of, Compared}
use Rattle.rules.specs.Check.{done}
use Rattle.rules.specs.Compare.{compared}
use Rattle.comparer.specs.declared.NotCompared.{NotCompared}
use Rattle.comparer.specs.declared.NotCompared.TheVariants.{Refused, TooShort}

abbrev pub as_compared : Result ℕ NotCompared → Compared
as_compared (Ok n) = compared 0 done n
as_compared (Err (Refused job refusal)) = compared job (verdict_of refusal) 0
as_compared (Err (TooShort needed)) = compared 0 (record { number = 30; place = 0 }) needed
