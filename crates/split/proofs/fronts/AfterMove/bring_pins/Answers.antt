-- Assumes nothing.
use mathlib.Core.Path.{refl, sym, ap, ◌∙◌}
use mathlib.Core.List.{List, [], ◌∷◌}
use Prim.Native.Nat.{ℕ}
use lib.ListN.{get_or, take}
use Rattle.rules.specs.Lists.{those}
use Rattle.rules.specs.Move.{steps_by, touches}
use Rattle.split.specs.Bringing.{state_after, changed, brought}
use Rattle.split.proofs.LinksSteps.{those-more, same_then, brought-more}
use Rattle.split.proofs.fronts.AfterMove.bring_pins.Goals as goal

pub loop-f-init : goal.loop-f-init
unfolding those steps_by
loop-f-init c = record { same_lists = record { links = refl; shape = refl }; links = refl }

pub loop-f-preserved : goal.loop-f-preserved
loop-f-preserved c =
    let a = c.args in
    let m = a.self in
    let k = c.loop-f.f-index in
    let i = c.loop-f.invariant in
    let b = c.bring_one.ensures in
    record {
      same_lists = same_then i.same_lists b.same_lists;
      links =
          b.links_after
          ∙ brought-more m (changed m a.kind (take k a.pins.now)) (changed m a.kind (get_or a.pins.now k 0 ∷ [])) i.same_lists i.links
          ∙ ap (λ (fs : List ℕ). brought m fs a.buckets.now) (sym (those-more (touches (state_after m) m.moved.side a.kind) a.pins.now k c.loop-f-test.true));
    }
