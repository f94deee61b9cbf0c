-- The promise of each public call settles what it answers and leaves: any two results that meet it, of the same arguments, have the same
-- answer and lent lists. The promises cited are those that the check reads from the contracts in src/. Assumes nothing.
use mathlib.Core.List.{List}
use Prim.Native.Nat.{ℕ}
use lib.IntN.{ℤ}
use Rattle.std.specs.Prelude.{Result}
use Rattle.rules.specs.declared.refusal.Refusal.{Refusal}
use Rattle.rules.proofs.Settling.{Settles, both}
use Rattle.job.specs.declared.figures.Surveyed.{Surveyed}
use Rattle.tables.specs.declared.zones.Zones.{Zones}
use Rattle.tables.proofs.Settled.{laid-once}
use Rattle.tables.proofs.end_moves.Kinds as end-moves-kinds
use Rattle.tables.proofs.end_moves.Reads as end-moves
use Rattle.tables.proofs.end_scans.Kinds as end-scans-kinds
use Rattle.tables.proofs.end_scans.Reads as end-scans
use Rattle.tables.proofs.turn.Kinds as turn-kinds
use Rattle.tables.proofs.turn.Reads as turn
use Rattle.tables.proofs.zones.Extent.zones.Kinds as zones-kinds
use Rattle.tables.proofs.zones.Extent.zones.Reads as zones
use Rattle.tables.proofs.zones.Extent.side_at.Kinds as side-at-kinds
use Rattle.tables.proofs.zones.Extent.side_at.Reads as side-at
use Rattle.tables.proofs.lay_out.Kinds as lay-out-kinds
use Rattle.tables.proofs.lay_out.Reads as lay-out

-- the sides and the four move lists
pub end-moves-settled : Settles 3 end-moves-kinds.ps end-moves-kinds.r (List ℕ × List ℕ × List ℤ × List ℕ × List ℕ)
    (λ κs x e. (e.0.now, e.1.0.now.tried.now, e.1.0.now.gained.now, e.1.0.now.cuts.now, e.1.0.now.ends.now)) end-moves.Post
end-moves-settled κs a x y e f p q =
    λ i. (both p.1.0 q.1.0 i, both p.1.1.0 q.1.1.0 i, both p.1.1.1 q.1.1.1 i, both p.1.1.2 q.1.1.2 i, both p.1.1.3 q.1.1.3 i)

-- the two scan lists and the scratch
pub end-scans-settled : Settles 3 end-scans-kinds.ps end-scans-kinds.r (List ℕ × List ℕ × List ℕ)
    (λ κs x e. (e.0.now.recipes.now, e.0.now.kinds.now, e.1.0.now)) end-scans.Post
end-scans-settled κs a x y e f p q = λ i. (both p.1.0.0 q.1.0.0 i, both p.1.0.1 q.1.0.1 i, both p.1.1 q.1.1 i)

-- the answer and the sides
pub turn-settled : Settles 1 turn-kinds.ps turn-kinds.r (ℕ × List ℕ) (λ κs x e. (x, e.0.now)) turn.Post
turn-settled κs a x y e f p q = λ i. (both p.0 q.0 i, both p.1 q.1 i)

-- the answer
pub zones-of-settled : Settles 0 zones-kinds.ps zones-kinds.r Zones (λ κs x e. x) zones.Post
zones-of-settled κs a x y e f p q = both p q

pub side-at-settled : Settles 0 side-at-kinds.ps side-at-kinds.r ℕ (λ κs x e. x) side-at.Post
side-at-settled κs a x y e f p q = both p q

-- the answer, the gains and the scratch
pub lay-out-settled : Settles 4 lay-out-kinds.ps lay-out-kinds.r (Result Surveyed Refusal × List ℤ × List ℕ)
    (λ κs x e. (x, e.1.1.1.1.0.now, e.1.1.1.1.1.0.now)) lay-out.Post
lay-out-settled κs a x y e f p q =
    let s = laid-once x y p q in
    λ i. (s.0 i, s.1 i, s.2 i)
