-- The promise of reading settles its answer and the five lists, lent or taken up, and that of the figures its answer: any two results that meet one, of the same
-- arguments, are equal. The promises cited are those which the check reads from the contracts in src/. Assumes nothing.
use contract.Lifetimes.{Lfts}
use denote.Triple.Clauses.{AtExit}
use borrow.Fn.Kinds.{res_t, ended_of}
use Rattle.std.proofs.Common.{◌≡◌, sym, ap}
use Rattle.std.specs.Prelude.{Result, Ok, Err, IfOk}
use Rattle.rules.specs.declared.Header.{Header}
use Rattle.rules.specs.declared.refusal.Refusal.{Refusal}
use Rattle.rules.specs.Numbers.{ReadFigures}
use Rattle.rules.specs.Stored.{Room}
use Rattle.rules.proofs.Settling.{Settles, both}
use Rattle.rules.proofs.CasesOne.{verdict-one, as_read_figures-one}
use Rattle.rules.proofs.Exits.{not-done}
use Rattle.job.specs.declared.Job.{Job as Figures}
use Rattle.stored.specs.declared.taken.TakenUp.{TakenUp}
use Rattle.stored.specs.Room.{room_in, lists_of, as_taken}
use Rattle.stored.proofs.read.Kinds as kinds
use Rattle.stored.proofs.read.Reads as read
use Rattle.stored.proofs.take_up.Kinds as take-up-kinds
use Rattle.stored.proofs.take_up.Reads as take-up
use Rattle.stored.proofs.figures_of.Kinds as figures-kinds
use Rattle.stored.proofs.figures_of.Reads as figures

-- the answer, and the five lists at exit
abbrev leaves : (κs : Lfts 3) → (res_t kinds.r κs).Denot → AtExit (ended_of 3 kinds.ps kinds.r) κs → Result Header Refusal × Room
leaves κs x e = (x, room_in e.1.0.now)

pub read-settled : Settles 3 kinds.ps kinds.r (Result Header Refusal × Room) leaves read.Post
read-settled κs a x y e f p q = λ i. (as_read_figures-one x y (both p.1.0 q.1.0) i, both p.1.1 q.1.1 i)

-- the header and the lists that were taken up: what else a `TakenUp` has is facts about them
abbrev header_and_lists : Result TakenUp Refusal → Result (Header × Room) Refusal
header_and_lists (Ok t) = Ok (t.header, lists_of t)
header_and_lists (Err r) = Err r

one-taken : (x y : Result TakenUp Refusal) (lists : Room) → as_taken x ≡ as_taken y
    → IfOk x (λ t. lists_of t ≡ lists) → IfOk y (λ t. lists_of t ≡ lists) → header_and_lists x ≡ header_and_lists y
one-taken (Ok s) (Ok t) lists e p q = λ i. Ok (ap (λ (x : ReadFigures). x.header) e i, both p q i)
one-taken (Ok s) (Err r) lists e p q = absurd (not-done r (sym (ap (λ (x : ReadFigures). x.verdict.number) e)))
one-taken (Err r) (Ok t) lists e p q = absurd (not-done r (ap (λ (x : ReadFigures). x.verdict.number) e))
one-taken (Err r) (Err s) lists e p q = let err : Refusal → Result (Header × Room) Refusal = λ z. Err z in ap err (verdict-one r s (ap (λ (x : ReadFigures). x.verdict) e))

pub take-up-settled : Settles 1 take-up-kinds.ps take-up-kinds.r (Result (Header × Room) Refusal) (λ κs x e. header_and_lists x) take-up.Post
take-up-settled κs a x y e f p q = one-taken x y _ (both p.0 q.0) p.1 q.1

pub figures-settled : Settles 0 figures-kinds.ps figures-kinds.r Figures (λ κs x e. x) figures.Post
figures-settled κs a x y e f p q = both p q
