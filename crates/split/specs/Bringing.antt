-- What the code brings to the front after a move, by what it is handed of it. Assumes nothing.
use Rattle.std.specs.Prelude.{ℕ, List}
use Rattle.rules.specs.Lists.{those}
use Rattle.rules.specs.Job.{view_of}
use Rattle.rules.specs.Move.{State, touches}
use Rattle.buckets.specs.declared.slots.Buckets.{Buckets}
use Rattle.tables.specs.Zones.{state_of}
use Rattle.split.specs.declared.fronts.AfterMove.{AfterMove}
use Rattle.split.specs.Links.{brought_all, touched_by}

abbrev pub state_after : AfterMove → State
state_after m = state_of m.moved.sides.now m.moved.locks.now

-- of these files those that a scan of this kind changed
abbrev pub changed : AfterMove → ℕ → List ℕ → List ℕ
changed m kind fs = those (touches (state_after m) m.moved.side kind) fs

-- the files that the scans of the move changed
abbrev pub changed_all : AfterMove → List ℕ
changed_all m =
    touched_by (state_after m) m.moved.side (view_of m.scans.recipes.bounds.now m.scans.recipes.pins.now) m.scans.listed.now m.scans.kinds.now

-- the links of the buckets with these files brought to the front
abbrev pub brought : AfterMove → List ℕ → Buckets → List ℕ
brought m fs b = brought_all b.shape m.moved.sides.now m.gains.now fs b.links.now
