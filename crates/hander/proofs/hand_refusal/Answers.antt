use mathlib.Core.Path.{refl, ap, ◌∙◌}
use native.Mathlib.Omega.{arith}
use Prim.Native.Nat.{ℕ}
use Rattle.std.specs.Prelude.{Result, Ok, Err}
use Rattle.rules.specs.declared.Verdict.{Verdict}
use Rattle.rules.specs.declared.refusal.Refusal.{Refusal}
use Rattle.rules.specs.Cases.{as_printed}
use Rattle.rules.specs.Report.{refusal}
use Rattle.rules.specs.Writing.{hand_into}
use Rattle.rules.proofs.Reports.{into-number}
use Rattle.rules.proofs.Exits.{exit-is, not-done}
use Rattle.hander.specs.Handing.{refused_out}
use Rattle.hander.proofs.Handing.{line-handed}
use Rattle.hander.proofs.hand_refusal.Goals as goal

short : Refusal → Result ℕ Refusal
short r = Err r

long : ℕ → Result ℕ Refusal
long n = Ok n

pub returns-in_err-errors-clause-room_after : goal.returns-in_err-errors-clause-room_after
unfolding short
returns-in_err-errors-clause-room_after c =
    let room = c.args.room.now in
    let e = c.in_err-errors in
    rw (exit-is _ e.field-0.0 c.from_residual.ensures.1)
    (line-handed c.from.result room _ (as_printed (short e.field-0.0)) e.ensures.out_after ∙ ap (λ (v : Verdict). hand_into (refused_out v) room) c.from.ensures)

pub returns-in_err-errors-clause-answered : goal.returns-in_err-errors-clause-answered
unfolding short
returns-in_err-errors-clause-answered c =
    let e = c.in_err-errors in
    λ enough. absurd (not-done e.field-0.0 (into-number (refusal c.from.result) c.args.room.now _ (as_printed (short e.field-0.0)) e.ensures.out_after (e.ensures.enough refl refl (omega (arith, enough)))))

pub returns-clause-room_after : goal.returns-clause-room_after
unfolding long
returns-clause-room_after c =
    let room = c.args.room.now in
    let e = c.in_ok-errors in
    line-handed c.from.result room _ (as_printed (long e.errors)) e.ensures.out_after ∙ ap (λ (v : Verdict). hand_into (refused_out v) room) c.from.ensures
