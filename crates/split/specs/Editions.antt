-- The editions of the choice and their numbers. Assumes nothing.
use Rattle.std.specs.Prelude.{◌≡◌, ℕ, Result, Ok, Err}
use Rattle.rules.specs.declared.refusal.Refusal.{Refusal}
use Rattle.rules.specs.Numbers.{verdict_of}
use Rattle.rules.specs.Check.{check_edition}
use Rattle.split.specs.declared.editions.Edition.{Edition}
use Rattle.split.specs.declared.editions.Edition.TheVariants.{One, Two}

abbrev pub edition_number : Edition → ℕ
edition_number One = 1
edition_number Two = 2

-- what a number names: the edition of that number, or the refusal of one that there is not
abbrev pub EditionOf : ℕ → Result Edition Refusal → Type 0
EditionOf n (Ok edition) = edition_number edition ≡ n
EditionOf n (Err refusal) = verdict_of refusal ≡ check_edition n
