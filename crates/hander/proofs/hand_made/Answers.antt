use mathlib.Core.Path.{refl}
use native.Mathlib.Omega.{arith}
use Prim.Native.Nat.{ℕ}
use Rattle.std.specs.Prelude.{Result, Ok, Err}
use Rattle.rules.specs.declared.refusal.Refusal.{Refusal}
use Rattle.rules.specs.Cases.{balance_numbers, as_printed}
use Rattle.rules.proofs.Exits.{exit-is, not-done}
use Rattle.job.specs.Given.{the_limits, the_job}
use Rattle.hander.proofs.Handing.{no_blocks, no_lines, lines-enough, all-handed}
use Rattle.hander.proofs.hand_made.Goals as goal

short : Refusal → Result ℕ Refusal
short r = Err r

long : ℕ → Result ℕ Refusal
long n = Ok n

pub returns-then-room-bytes-clause-room_after : goal.returns-then-room-bytes-clause-room_after
returns-then-room-bytes-clause-room_after c =
    let a = c.args in
    no_blocks the_limits (balance_numbers a.answer) (the_job a.job a.book a.sides.now) a.bytes c.requires a.room.now (omega arith)

pub returns-in_err-errors-clause-room_after : goal.returns-in_err-errors-clause-room_after
unfolding short
returns-in_err-errors-clause-room_after c =
    let a = c.args in
    let e = c.in_err-errors in
    rw (exit-is _ e.field-0.0 c.from_residual.ensures.1)
    (no_lines the_limits (balance_numbers a.answer) (the_job a.job a.book a.sides.now) a.bytes c.requires a.room.now c.if-room-bytes.false (as_printed (short e.field-0.0)) _ e.ensures.out_after (not-done e.field-0.0))

pub returns-in_err-errors-clause-answered : goal.returns-in_err-errors-clause-answered
unfolding short
returns-in_err-errors-clause-answered c =
    let a = c.args in
    let e = c.in_err-errors in
    λ enough. absurd (not-done e.field-0.0
    (lines-enough the_limits (balance_numbers a.answer) (the_job a.job a.book a.sides.now) a.bytes c.requires a.room.now c.if-room-bytes.false (as_printed (short e.field-0.0)) _ e.ensures.out_after e.ensures.enough enough))

-- the job passes, and so it is written
never : (c : goal.After-from_residual-in_err-write) → ⊥
unfolding long
never c =
    let a = c.args in
    let e = c.in_ok-errors in
    let w = c.in_err-write in
    not-done w.field-0.0
    (all-handed the_limits (balance_numbers a.answer) (the_job a.job a.book a.sides.now) a.bytes c.requires a.room.now c.if-room-bytes.false (as_printed (long e.errors)) _ e.ensures.out_after refl _ _ w.ensures).1

pub returns-in_err-write-clause-room_after : goal.returns-in_err-write-clause-room_after
returns-in_err-write-clause-room_after c = absurd (never c)

pub returns-in_err-write-clause-answered : goal.returns-in_err-write-clause-answered
returns-in_err-write-clause-answered c = absurd (never c)

pub returns-clause-room_after : goal.returns-clause-room_after
unfolding long
returns-clause-room_after c =
    let a = c.args in
    let e = c.in_ok-errors in
    (all-handed the_limits (balance_numbers a.answer) (the_job a.job a.book a.sides.now) a.bytes c.requires a.room.now c.if-room-bytes.false (as_printed (long e.errors)) _ e.ensures.out_after refl _ _ c.in_ok-write.ensures).0
