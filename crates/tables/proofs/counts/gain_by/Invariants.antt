-- Both counts are those of the recipes passed. Assumes nothing.
use Rattle.std.proofs.Common.{ℕ, List, length, get_or}
use Rattle.rules.specs.Lists.{bit}
use Rattle.rules.specs.Split.{on_side}
use Rattle.rules.proofs.Count.{Summed}
use Rattle.tables.proofs.counts.gain_by.Given as goal

-- n of the first k recipes of the list have u in the table
abbrev pub Counted : List ℕ → List ℕ → ℕ → ℕ → ℕ → Type 0
Counted list table u k n = Summed (λ i. bit (on_side table u (get_or list i 0))) 1 (length list) k n

abbrev pub invariant-loop-j : goal.invariant-loop-j
invariant-loop-j l = Counted l.list l.own 1 l.j-index l.up × Counted l.list l.other 0 l.j-index l.down
