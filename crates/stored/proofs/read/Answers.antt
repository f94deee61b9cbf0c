use Rattle.std.proofs.Common.{refl, sym, ap, ◌∙◌}
use Rattle.std.specs.Prelude.{Result}
use Rattle.rules.specs.declared.Header.{Header}
use Rattle.rules.specs.declared.refusal.Refusal.{Refusal}
use Rattle.rules.specs.Numbers.{ReadFigures}
use Rattle.rules.specs.Stored.{Reading}
use Rattle.rules.specs.Cases.{as_read_figures}
use Rattle.rules.proofs.Exits.{exit-is}
use Rattle.job.specs.Given.{the_limits}
use Rattle.stored.specs.Room.{room_in}
use Rattle.stored.proofs.Readings.{refused-lent, done-lent, lent-enough, handed-over}
use Rattle.stored.proofs.read.Goals as goal

abbrev figures : Result Header Refusal → ReadFigures
figures r = as_read_figures r

pub returns-in_err-taken-clause-result_value : goal.returns-in_err-taken-clause-result_value
returns-in_err-taken-clause-result_value c =
    ap figures (exit-is _ _ c.from_residual.ensures.1) ∙ sym (ap (λ (x : Reading). x.answer) (refused-lent the_limits _ (room_in c.args.room.now) _ c.in_err-taken.ensures.verdict))

pub returns-in_err-taken-clause-room_after : goal.returns-in_err-taken-clause-room_after
returns-in_err-taken-clause-room_after c = sym (ap (λ (x : Reading). x.room) (refused-lent the_limits _ (room_in c.args.room.now) _ c.in_err-taken.ensures.verdict))

pub hand_over_all-requires : goal.hand_over_all-requires
hand_over_all-requires c = let e = c.in_ok-taken.ensures in lent-enough the_limits c.args.bytes.now (room_in c.args.room.now) e.verdict e.header

pub returns-clause-result_value : goal.returns-clause-result_value
returns-clause-result_value c = let e = c.in_ok-taken.ensures in rw (done-lent the_limits c.args.bytes.now (room_in c.args.room.now) e.verdict, e.header) refl

pub returns-clause-room_after : goal.returns-clause-room_after
returns-clause-room_after c =
    let e = c.in_ok-taken.ensures in
    handed-over the_limits c.args.bytes.now (room_in c.args.room.now) c.in_ok-taken.taken _ e.verdict e.header e.lists c.hand_over_all.ensures.written
