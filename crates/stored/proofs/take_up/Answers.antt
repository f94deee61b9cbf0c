use Rattle.stored.proofs.Readings.{taken-up}
use Rattle.stored.proofs.take_up.Goals as goal

pub returns : goal.returns
returns c =
    let e = c.take_job.ensures in
    let w = taken-up _ _ _ e.verdict e.header e.lists in
    record { read_value = w.0; result_value = w.1 }
