use Rattle.std.proofs.Common.{rules, refl, add-one}
use Rattle.buckets.specs.Links.{emptied}
use Rattle.buckets.proofs.slots.Buckets.empty.Goals as goal

pub loop-s-init : goal.loop-s-init
unfolding emptied
loop-s-init c = record { same_lists = record { links = refl; shape = refl }; emptied = refl }

pub loop-s-preserved : goal.loop-s-preserved
unfolding emptied
loop-s-preserved c =
    record {
      same_lists = search rules;
      emptied = rw (add-one c.loop-s.s) (rw (c.from.ensures, c.loop-s.invariant.emptied) at c.put.ensures.value);
    }
