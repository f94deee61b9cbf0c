-- A list of MOST_DIFFERENCES records is never too short. Assumes nothing.
use mathlib.Core.Path.{sym, ap, ◌∙◌}
use mathlib.Core.Logic.{◌≢◌}
use Prim.Native.Nat.{ℕ, ◌≤◌}
use mathlib.Core.List.{List}
use lib.ListN.{length}
use Rattle.std.specs.Prelude.{Result}
use Rattle.rules.specs.declared.Difference.{Difference}
use Rattle.rules.specs.Compare.{Comparing}
use Rattle.rules.proofs.Comparing.{compare-holds}
use Rattle.layout.proofs.WholeInput.{most}
use Rattle.comparer.specs.declared.NotCompared.{NotCompared}
use Rattle.comparer.specs.Cases.{as_compared}
use Rattle.comparer.proofs.Unique.{Promised}
use Rattle.comparer.specs.declared.TheConstants.{MOST_DIFFERENCES}

-- as the code has it
abbrev pub most_records : ℕ
most_records = MOST_DIFFERENCES

pub never-short : (old new : List ℕ) (room after : List Difference) (a : Result ℕ NotCompared) → Promised old new room a after
    → most_records ≤ length room → (as_compared a).verdict.number ≢ 30
never-short old new room after a p h z =
    (compare-holds most old new room).enough h (sym (ap (λ (x : Comparing). x.answer.verdict.number) p) ∙ z)
