-- What the writer's inner steps promise one another; the promise of writing itself cites nothing here. Assumes nothing.
use Rattle.std.specs.Prelude.{ℕ, List, ◌∷◌, ◌++◌, replicate}
use Rattle.rules.specs.Lists.{onto}
use Rattle.rules.specs.Writing.{two_bytes, value_bytes}

-- the number, the kind, the count of values and the values so far, in a block of zeros
unfoldable pub filled : ℕ → ℕ → ℕ → List ℕ → List ℕ
filled b kind n vs = onto (two_bytes b ++ (kind ∷ n ∷ value_bytes vs)) (replicate 512 0)
