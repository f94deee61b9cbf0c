use Rattle.std.proofs.Common.{rules, refl, ◌≡◌, add-one, arith}
use Rattle.buckets.specs.Entries.{entered_below, entered_all}
use Rattle.buckets.proofs.slots.Buckets.enter_all.Goals as goal

pub returns-in_default-clause-value : goal.returns-in_default-clause-value
unfolding entered_all
returns-in_default-clause-value c = rw c.in_default.ensures refl

pub loop-f-init : goal.loop-f-init
unfolding entered_below
loop-f-init c = record { same_lists = record { links = refl; shape = refl }; entered = refl }

pub loop-f-preserved : goal.loop-f-preserved
unfolding entered_below
loop-f-preserved c =
    record {
      same_lists = search rules;
      entered = rw (add-one c.loop-f.f) (search rules);
    }

pub returns-clause-value : goal.returns-clause-value
unfolding entered_all
returns-clause-value c =
    let fit = c.in-Some.ensures in
    let all : c.loop-f.f ≡ c.in-Some.places.shape.files = omega arith in
    rw fit.0 cc
