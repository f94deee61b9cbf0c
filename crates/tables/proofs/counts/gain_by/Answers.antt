-- Neither count is above the length of the list. Assumes nothing.
use Rattle.std.proofs.Common.{ℕ, ap, ap₂, ◌∙◌, ◌<◌, arith, get_or, eqb}
use Rattle.rules.specs.Lists.{bit, diff}
use Rattle.rules.specs.Split.{on_side, count_on}
use Rattle.rules.proofs.Count.{summed-none, summed-bit, summed-entries}
use Rattle.tables.specs.Counting.{gain_by}
use Rattle.tables.proofs.Starting.{sub_back}
use Rattle.tables.proofs.counts.gain_by.Goals as goal

pub loop-j-init : goal.loop-j-init
loop-j-init c = (summed-none, summed-none)

pub loop-j-preserved : goal.loop-j-preserved
loop-j-preserved c =
    let a = c.args in
    let i = c.loop-j.invariant in (
      summed-bit (λ j. on_side a.own.now 1 (get_or a.list.now j 0)) i.0 (omega arith) (c.bit-up.ensures.0 ∙ ap (λ (s : ℕ). bit (eqb s 1)) c.entry_at.ensures),
      summed-bit (λ j. on_side a.other.now 0 (get_or a.list.now j 0)) i.1 (omega arith) (c.bit-down.ensures.0 ∙ ap (λ (s : ℕ). bit (eqb s 0)) c.entry_at-in-loop-j.ensures),
    )

few : (c : goal.After-loop-j) → (c.loop-j.up < 65536) × (c.loop-j.down < 65536)
few c =
    let i = c.loop-j.invariant in
    (omega (arith, i.0.small, i.0.stop, c.requires), omega (arith, i.1.small, i.1.stop, c.requires))

pub returns : goal.returns
unfolding gain_by count_on
returns c =
    let a = c.args in
    let i = c.loop-j.invariant in
    sub_back c.loop-j.up c.loop-j.down (few c).0 (few c).1
    ∙ ap₂ diff (summed-entries (on_side a.own.now 1) a.list.now i.0 (omega arith)) (summed-entries (on_side a.other.now 0) a.list.now i.1 (omega arith))
