use Rattle.job.proofs.Walking.{counted_none, counted-more, counted-all}
use Rattle.job.proofs.holds.tally.Goals as goal

pub loop-pin-init : goal.loop-pin-init
loop-pin-init c = let h = c.default-held.ensures in record { a = counted_none h.0.0 h.0.1; b = counted_none h.1.0 h.1.1 }

pub loop-pin-preserved : goal.loop-pin-preserved
loop-pin-preserved c =
    let i = c.loop-pin.invariant in record {
      a = counted-more i.a c.loop-pin-test.true (cc c.with_pin-held.ensures);
      b = counted-more i.b c.loop-pin-test.true (cc c.with_pin-held-in-loop-pin.ensures);
    }

pub returns : goal.returns
returns c =
    let i = c.loop-pin.invariant in
    let a = counted-all i.a c.loop-pin-test.false in
    let b = counted-all i.b c.loop-pin-test.false in
    λ i. record { a = a i; b = b i }
