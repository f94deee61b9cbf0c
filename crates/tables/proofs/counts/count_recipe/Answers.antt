-- No count is above the length of the recipe. Assumes nothing.
use Rattle.std.proofs.Common.{◌≡◌, ℕ, ◌+◌, ◌*◌, ◌<◌, List, length, ap, ap₂, ◌∙◌, arith}
use lib.ListN.{set}
use Rattle.rules.proofs.Count.{count_on-le}
use Rattle.rules.proofs.Locked.{locked_on-le}
use Rattle.rules.proofs.Readable.{those-short}
use Rattle.rules.specs.Job.{is_read}
use Rattle.job.specs.Parts.{of_marks}
use Rattle.job.specs.Holds.{held_on}
use Rattle.job.specs.declared.holds.Held.{Held}
use Rattle.job.specs.declared.holds.Vaults.{Vaults}
use Rattle.tables.specs.Zones.{state_of}
use Rattle.tables.specs.Building.{readable}
use Rattle.tables.specs.Counting.{counted}
use Rattle.tables.proofs.Buildable.{own_read, own-short}
use Rattle.tables.proofs.counts.count_recipe.Goals as goal

few : (sides marks r : List ℕ) (u : ℕ) {h : Held} → h ≡ held_on sides marks u r → length r < 65536 → (h.all < 65536) × (h.locked < 65536)
few sides marks r u e l =
    let read = readable marks r in
    let short = those-short (is_read (of_marks marks)) r in (
      omega (arith, ap (λ (y : Held). y.all) e, count_on-le sides u read, short),
      omega (arith, ap (λ (y : Held). y.locked) e, locked_on-le (state_of sides marks) u read, short),
    )

pub count_side-requires : goal.count_side-requires
count_side-requires c =
    let b = c.args.job.buildable in
    let f = few _ _ _ _ (ap (λ (v : Vaults). v.a) c.tally-held.ensures) (omega (arith, own-short c.args.job c.requires.0 c.two_readable.ensures, b.few_pins)) in
    (f.0, f.1, omega (arith, b.few_recipes), omega arith)

pub count_side-requires-2 : goal.count_side-requires-2
count_side-requires-2 c =
    let b = c.args.job.buildable in
    let f = few _ _ _ _ (ap (λ (v : Vaults). v.b) c.tally-held.ensures) (omega (arith, own-short c.args.job c.requires.0 c.two_readable.ensures, b.few_pins)) in
    (f.0, f.1, omega (arith, b.few_recipes), omega arith)

pub returns : goal.returns
unfolding counted
returns c =
    let x = c.args in
    let n = c.count-n.result in
    c.count_side-2.ensures
    ∙ ap₂ (λ (v : Vaults) (z : List ℕ). set (set z (n + x.j) v.b.all) (n + x.j + 2 * n) v.b.locked) c.tally-held.ensures
    (c.count_side.ensures ∙ ap (λ (v : Vaults). set (set x.zone.now x.j v.a.all) (x.j + 2 * n) v.a.locked) c.tally-held.ensures)
    ∙ ap₂ (λ (m : ℕ) (r : List ℕ). counted (state_of x.job.sides.now x.job.marks.now) m x.j r x.zone.now) c.count-n.ensures (own_read x.job c.requires.0 c.two_readable.ensures)
