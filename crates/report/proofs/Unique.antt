-- The promises of the report, of a balancing's lines, of the trace and of a comparison's lines settle their answers and the lent room: any two results that meet one, of the same
-- arguments, are equal. The promises cited are those which the check reads from the contracts in src/. Assumes nothing.
use mathlib.Core.Path.{◌≡◌, ap}
use mathlib.Core.List.{List}
use Prim.Native.Nat.{ℕ}
use Rattle.std.specs.Prelude.{Result}
use Rattle.rules.specs.declared.refusal.Refusal.{Refusal}
use Rattle.rules.specs.Cases.{as_printed}
use Rattle.rules.specs.Report.{Printing, printed}
use Rattle.rules.proofs.CasesOne.{as_printed-one}
use Rattle.rules.proofs.Settling.{Settles, both}
use Rattle.report.proofs.report.Kinds as kinds
use Rattle.report.proofs.report.Reads as report
use Rattle.report.proofs.balanced.Kinds as balanced-kinds
use Rattle.report.proofs.balanced.Reads as balanced
use Rattle.report.proofs.trace.Kinds as trace-kinds
use Rattle.report.proofs.trace.Reads as trace
use Rattle.report.proofs.comparison.Kinds as comparison-kinds
use Rattle.report.proofs.comparison.Reads as comparison

-- the answer and the room are told by the printing
printed-one : (x y : Result ℕ Refusal) (room room' : List ℕ) → printed (as_printed x) room ≡ printed (as_printed y) room'
    → ◌≡◌ {A = Result ℕ Refusal × List ℕ} (x, room) (y, room')
printed-one x y room room' e =
    let a : x ≡ y = as_printed-one x y (ap (λ (p : Printing). p.answer) e) in
    let r : room ≡ room' = ap (λ (p : Printing). p.room) e in cc

pub report-settled : Settles _ kinds.ps kinds.r (Result ℕ Refusal × List ℕ) (λ κs x e. (x, e.1.1.1.0.now)) report.Post
report-settled κs a x y e f p q = printed-one x y _ _ (both p.0 q.0)

pub balanced-settled : Settles _ balanced-kinds.ps balanced-kinds.r (Result ℕ Refusal × List ℕ) (λ κs x e. (x, e.1.1.1.0.now)) balanced.Post
balanced-settled κs a x y e f p q = printed-one x y _ _ (both p.0 q.0)

pub trace-settled : Settles _ trace-kinds.ps trace-kinds.r (Result ℕ Refusal × List ℕ) (λ κs x e. (x, e.1.1.1.1.0.now)) trace.Post
trace-settled κs a x y e f p q = printed-one x y _ _ (both p.0 q.0)

pub comparison-settled : Settles _ comparison-kinds.ps comparison-kinds.r (Result ℕ Refusal × List ℕ) (λ κs x e. (x, e.1.1.0.now)) comparison.Post
comparison-settled κs a x y e f p q = printed-one x y _ _ (both p.0 q.0)
