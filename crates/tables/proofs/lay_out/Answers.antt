-- The survey's answer decides: refused, nothing changes; let through, the job is one that the builders can lay out. Assumes nothing.
use Rattle.std.proofs.Common.{refl}
use Rattle.job.specs.Given.{the_job}
use Rattle.rules.proofs.Exits.{exit-is, not-done}
use Rattle.tables.proofs.Accepted.{answered, let_through, builders-ask}
use Rattle.tables.proofs.lay_out.Goals as goal

pub returns-in_err-surveyed : goal.returns-in_err-surveyed
returns-in_err-surveyed c =
    let x = c.args in
    let told = answered x.balancing (the_job x.job x.book x.sides.now) c.lists_fit-fit.ensures c.in_err-surveyed.ensures in
    rw (exit-is _ _ c.from_residual.ensures.1) (record { answer = told; refused = λ n. (refl, refl); laid = λ z. absurd (not-done _ z) })

pub invariant_of-sound : goal.invariant_of-sound
invariant_of-sound c =
    let x = c.args in
    let job = the_job x.job x.book x.sides.now in
    let told = answered x.balancing job c.lists_fit-fit.ensures c.in_ok-surveyed.ensures in
    let a = builders-ask x.edition job x.gains.now x.scratch.now x.lists (let_through x.balancing _ job _ told refl) in
    record { marks_long = a.marks_long; binary = a.binary; buildable = a.buildable }

pub prepare-requires : goal.prepare-requires
prepare-requires c =
    let x = c.args in
    let job = the_job x.job x.book x.sides.now in
    let told = answered x.balancing job c.lists_fit-fit.ensures c.in_ok-surveyed.ensures in
    let a = builders-ask x.edition job x.gains.now x.scratch.now x.lists (let_through x.balancing _ job _ told refl) in
    record { gains_long = a.gains_long; room = a.room }

pub returns : goal.returns
returns c =
    let x = c.args in
    let told = answered x.balancing (the_job x.job x.book x.sides.now) c.lists_fit-fit.ensures c.in_ok-surveyed.ensures in
    record { answer = told; refused = λ n. absurd (n refl); laid = λ z. c.prepare.ensures }
