-- The promises of `compare` and `tell` settle the answer and what is lent: any two results that meet one, of the same arguments, are equal. The promises cited are
-- those which the check reads from the contracts in src/; that of `compare` is also written out, and is what is read. Assumes nothing.
use Rattle.std.proofs.Common.{◌≡◌, ◌≢◌, refl, sym, ap, ◌∙◌, ℕ, cond, List, eqb, ne_eqb, arith}
use contract.Lifetimes.{Lfts}
use denote.Triple.Clauses.{AtExit}
use borrow.Fn.Kinds.{Dens, res_t, ended_of}
use Rattle.std.specs.Prelude.{Result, Ok, Err}
use Rattle.rules.specs.declared.Difference.{Difference}
use Rattle.rules.specs.declared.refusal.Refusal.{Refusal}
use Rattle.rules.specs.declared.refusal.Refusal.TheVariants.{NoEdition}
use Rattle.rules.specs.Numbers.{verdict_of, Compared}
use Rattle.rules.specs.Report.{Printing}
use Rattle.rules.specs.Compare.{Comparing, comparing_of, comparing}
use Rattle.rules.proofs.CasesOne.{undone, case_of, case-refused, as_printed-one}
use Rattle.rules.proofs.Settling.{Settles, both}
use Rattle.layout.proofs.WholeInput.{most}
use Rattle.comparer.specs.declared.NotCompared.{NotCompared}
use Rattle.comparer.specs.declared.NotCompared.TheVariants.{Refused, TooShort}
use Rattle.comparer.specs.Cases.{as_compared}
use Rattle.comparer.proofs.compare.Kinds as compare-kinds
use Rattle.comparer.proofs.compare.Reads as compare
use Rattle.comparer.proofs.tell.Kinds as tell-kinds
use Rattle.comparer.proofs.tell.Reads as tell

-- ---- an answer's numbers tell the answer

-- 30 is no refusal of a job
not-thirty : (r : Refusal) → (verdict_of r).number ≢ 30
not-thirty r z =
    let at : ℕ → Result ℕ Refusal = λ n. case_of (record { number = n; place = (verdict_of r).place }) 0 in
    let last : Result ℕ Refusal = Err NoEdition in
    let e : last ≡ Err r = sym (ap at z) ∙ case-refused r 0 in
    let is : NoEdition ≡ r = cc in
    absurd (omega (arith, z, ap (λ (s : Refusal). (verdict_of s).number) is))

abbrev of_job : ℕ → Result ℕ Refusal → Result ℕ NotCompared
of_job job (Ok n) = Ok n
of_job job (Err r) = Err (Refused job r)

abbrev compared_case : Compared → Result ℕ NotCompared
compared_case a = cond (eqb a.verdict.number 30) (Err (TooShort a.count)) (of_job a.job (case_of a.verdict a.count))

compared-back : (r : Result ℕ NotCompared) → compared_case (as_compared r) ≡ r
compared-back (Ok n) = refl
compared-back (Err (TooShort needed)) = refl
compared-back (Err (Refused job r)) = rw (ne_eqb (verdict_of r).number 30 (not-thirty r)) (ap (of_job job) (case-refused r 0))

pub as_compared-one : (r s : Result ℕ NotCompared) → as_compared r ≡ as_compared s → r ≡ s
as_compared-one = undone as_compared compared_case compared-back

-- ---- two results of one promise

-- the answer, and the list afterwards, of these stored jobs and this list
abbrev pub Promised : List ℕ → List ℕ → List Difference → Result ℕ NotCompared → List Difference → Type 0
Promised old new room a after = comparing_of (as_compared a) after ≡ comparing most old new room

same-answer : (a b : Result ℕ NotCompared) (x y : List Difference) → comparing_of (as_compared a) x ≡ comparing_of (as_compared b) y → (a ≡ b) × (x ≡ y)
same-answer a b x y e = (as_compared-one a b (ap (λ (c : Comparing). c.answer) e), ap (λ (c : Comparing). c.room) e)

pub compare-settled : (old new : List ℕ) (room x y : List Difference) (a b : Result ℕ NotCompared) → Promised old new room a x → Promised old new room b y → (a ≡ b) × (x ≡ y)
compare-settled old new room x y a b p q = same-answer a b x y (both p q)

-- what the check reads from src/ is that promise, and settles both too
pub compare-promises : (κs : Lfts 3) (a : Dens κs compare-kinds.ps) (x : (res_t compare-kinds.r κs).Denot) (e : AtExit (ended_of 3 compare-kinds.ps compare-kinds.r) κs)
    → compare.Post κs a x e → Promised a.0.now a.1.0.now a.1.1.0.now x e.1.1.0.now
compare-promises κs a x e p = p

pub compare-reads-settled : Settles 3 compare-kinds.ps compare-kinds.r (Result ℕ NotCompared × List Difference) (λ κs x e. (x, e.1.1.0.now)) compare.Post
compare-reads-settled κs a x y e f p q = let s = same-answer x y _ _ (both p q) in λ i. (s.0 i, s.1 i)

pub tell-settled : Settles 3 tell-kinds.ps tell-kinds.r (Result ℕ Refusal × List ℕ) (λ κs x e. (x, e.1.1.0.now)) tell.Post
tell-settled κs a x y e f p q =
    let s = both p.0 q.0 in
    λ i. (as_printed-one x y (ap (λ (t : Printing). t.answer) s) i, ap (λ (t : Printing). t.room) s i)
