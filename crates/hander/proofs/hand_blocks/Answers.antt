use native.Mathlib.Omega.{arith}
use Rattle.rules.proofs.Exits.{not-done}
use Rattle.job.specs.Given.{the_limits, the_job}
use Rattle.hander.proofs.Handing.{blocks-short, blocks-handed}
use Rattle.hander.proofs.hand_blocks.Goals as goal

pub returns-then-room-bytes-clause-room_after : goal.returns-then-room-bytes-clause-room_after
returns-then-room-bytes-clause-room_after c = let a = c.args in blocks-short (the_job a.job a.book a.sides.now) a.room.now a.bytes c.requires.blocks (omega arith)

-- the job passes, and so it is written
never : (c : goal.After-from_residual) → ⊥
never c =
    let a = c.args in
    let e = c.in_err-write in
    not-done e.field-0.0 (blocks-handed (the_job a.job a.book a.sides.now) a.room.now a.bytes c.requires.blocks the_limits c.requires.can_be_written c.if-room-bytes.false _ _ e.ensures).1

pub returns-in_err-write-clause-room_after : goal.returns-in_err-write-clause-room_after
returns-in_err-write-clause-room_after c = absurd (never c)

pub returns-in_err-write-clause-answered : goal.returns-in_err-write-clause-answered
returns-in_err-write-clause-answered c = absurd (never c)

pub returns-clause-room_after : goal.returns-clause-room_after
returns-clause-room_after c =
    let a = c.args in
    (blocks-handed (the_job a.job a.book a.sides.now) a.room.now a.bytes c.requires.blocks the_limits c.requires.can_be_written c.if-room-bytes.false _ _ c.in_ok-write.ensures).0
