-- Where zones begin, and the counts of each side, of two neighbouring lists of n counts. Assumes nothing.
use mathlib.Core.Path.{◌≡◌, ap}
use Prim.Native.Nat.{ℕ, ◌+◌, ◌≤◌}
use mathlib.Core.Bool.{Bool, true, false, cond}
use native.Mathlib.Omega.{arith}
use lib.Dec.{eqb}
use Rattle.tables.specs.declared.zones.Zones.{Zones}
use Rattle.tables.specs.Zones.{cells_at, starts_at, counts_at, side_at, zones_of}

-- each zone by itself
pub zones-are : {r : Zones} (c p : ℕ) → r ≡ zones_of c p → (r.cells ≡ cells_at c) × (r.starts ≡ starts_at c p) × (r.counts ≡ counts_at c p)
zones-are c p e = (ap (λ (z : Zones). z.cells) e, ap (λ (z : Zones). z.starts) e, ap (λ (z : Zones). z.counts) e)

-- no later than the second list
pub side-within : (at n u : ℕ) → side_at at n u ≤ at + n
side-within at n u = go (eqb u 0)
  where
    go : (b : Bool) → cond b at (at + n) ≤ at + n
    go true = omega arith
    go false = omega arith

-- as far from `at` as in a zone of its own
pub side-from : (at n u : ℕ) → side_at at n u ≡ at + side_at 0 n u
side-from at n u = go (eqb u 0)
  where
    go : (b : Bool) → cond b at (at + n) ≡ at + cond b 0 (0 + n)
    go true = omega arith
    go false = omega arith
