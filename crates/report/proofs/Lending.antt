-- What is printed can be lent on. Assumes nothing.
use mathlib.Core.Path.{◌≡◌, refl, sym, ap}
use Prim.Native.Nat.{ℕ}
use mathlib.Core.List.{List}
use lib.Seq.{length-take-le}
use Rattle.std.specs.Prelude.{◌≢◌, IfOk, IsOk, Result, Ok, Err}
use Rattle.rules.specs.declared.refusal.Refusal.{Refusal}
use Rattle.rules.specs.Numbers.{Printed}
use Rattle.rules.specs.Cases.{as_printed}
use Rattle.rules.proofs.CasesOne.{as_printed-one}
use Rattle.rules.proofs.Exits.{not-done}
use Rattle.rules.specs.Report.{Printing, printed, into_room}
use Rattle.rules.proofs.Reports.{into-bytes, into-number}
use Rattle.report.specs.Lending.{Lendable}

pub into-lendable : (bytes room room' : List ℕ) (a : Printed) → printed a room' ≡ into_room bytes room → Lendable a.bytes room'
into-lendable bytes room room' a e = let h = into-bytes bytes room room' a e in (h, sym (length-take-le a.bytes room' h))

-- the same of what a call of src/ answers
pub result-lendable : (bytes room room' : List ℕ) (r : Result ℕ Refusal) → printed (as_printed r) room' ≡ into_room bytes room → IfOk r (λ n. Lendable n room')
result-lendable bytes room room' (Ok n) e = into-lendable bytes room room' (as_printed (Ok n)) e
result-lendable bytes room room' (Err r) e = tt

-- room that is enough is never refused
pub result-answered : (bytes room room' : List ℕ) (r : Result ℕ Refusal) → printed (as_printed r) room' ≡ into_room bytes room → (as_printed r).verdict.number ≢ 3 → IsOk r
result-answered bytes room room' (Ok n) e h = refl
result-answered bytes room room' (Err r) e h = absurd (not-done r (into-number bytes room room' (as_printed (Err r)) e h))

-- what was printed settles the answer and the room
pub printed-one : (r s : Result ℕ Refusal) (room room' : List ℕ) → printed (as_printed r) room ≡ printed (as_printed s) room' → ◌≡◌ {A = Result ℕ Refusal × List ℕ} (r, room) (s, room')
printed-one r s room room' e = λ i. (as_printed-one r s (ap (λ (p : Printing). p.answer) e) i, (e i).room)
