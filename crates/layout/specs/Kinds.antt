-- The kinds of block as src/ has them, and document 01's numbers for them. Assumes nothing.
use Rattle.std.specs.Prelude.{ℕ}
use Rattle.layout.specs.declared.kinds.Kind.{Kind}
use Rattle.layout.specs.declared.kinds.Kind.TheVariants.{Header, Files, Bounds, Pins}

abbrev pub kind_number : Kind → ℕ
kind_number Header = 1
kind_number Files = 2
kind_number Bounds = 3
kind_number Pins = 4
