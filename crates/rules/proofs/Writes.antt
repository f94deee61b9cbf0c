-- The call that writes, and a program that hands a stored job on, refused or not. Assumes nothing.
use mathlib.Core.Path.{◌≡◌, refl, sym, ap, ap₂, ◌∙◌}
use mathlib.Core.Logic.{◌≢◌}
use Prim.Native.Nat.{ℕ, ◌*◌, ◌≤◌}
use mathlib.Core.Bool.{Bool, true}
use mathlib.Core.List.{List, []}
use native.Mathlib.Decide.{ℕ_discrete}
use lib.Dec.{eqb}
use lib.ListN.{length}
use borrow.Author.Tests.{eqb-true, eq-eqb, ne_eqb}
use Rattle.rules.specs.declared.Verdict.{Verdict}
use Rattle.rules.specs.Job.{Job, Limits}
use Rattle.rules.specs.Check.{refuse_if, bad_k, bad_pin, sound_rows, check_sound}
use Rattle.rules.specs.Stored.{block_count}
use Rattle.rules.specs.Report.{refusal}
use Rattle.rules.specs.Writing.{header_for, blocks_of, writing_of, written_rows, check_written, write_verdict, writing, hands_out}
use Rattle.rules.specs.RoundTrip.{WriteHolds}
use Rattle.rules.proofs.Verdicts.{zero_of, passes-both, Plain}
use Rattle.rules.proofs.Refusals.{lacks, within, plain_rows, few-given}
use Rattle.rules.proofs.Proved.{lent-sound}
use Rattle.rules.proofs.RoundTrip.{blocks-length}

-- a number is given only by a check
pub few-numbers : (most : Limits) (job : Job) (lent : Bool) → (check_sound most job lent).number ≤ 6
unfolding check_sound within
few-numbers most job lent = few-given 6 (sound_rows most job lent) refl

-- 1 to 6 and then k
plain-written : (most : Limits) (job : Job) (lent : Bool) → Plain (check_written most job lent)
unfolding check_written lacks
plain-written most job lent = plain_rows (written_rows most job lent) refl

lent_written : (most : Limits) (job : Job) (lent : Bool) → (check_written most job lent).number ≡ 0 → lent ≡ true
unfolding check_written check_sound
lent_written most job lent z = lent-sound most job lent (passes-both (check_sound most job lent) (refuse_if (bad_k job.k) 7 0) z).0

pub write-holds : (most : Limits) (job : Job) (out : List ℕ) → WriteHolds most job out
unfolding writing check_written check_sound
write-holds most job out =
    let n : ℕ = 512 * block_count (header_for job) in
    let v : Verdict = write_verdict most job out in
    record {
      refused = λ z. rw (ne_eqb v.number 0 z, writing) refl;
      numbers = unfold within in few-given 7 (written_rows most job (eqb (length out) n)) refl;
      writes = λ z. rw (eq-eqb v.number 0 z, writing) (ap (λ (w : Verdict). writing_of w (blocks_of job)) (plain-written most job _ z));
      exact = λ z. eqb-true (length out) n (lent_written most job _ z);
      passes = λ z. ap (λ (b : Bool). (check_written most job b).number) (sym (lent_written most job _ z)) ∙ z;
      all = λ e. ap (check_written most job) (eq-eqb (length out) n e);
      carried = λ num den cap. unfold check_written bad_pin in refl;
      long = elim (ℕ_discrete v.number 0) [
        | yes z ↦ rw (eq-eqb v.number 0 z, writing) (blocks-length job ∙ sym (eqb-true (length out) n (lent_written most job _ z)))
        | no z ↦ rw (ne_eqb v.number 0 z, writing) refl
      ];
    }

-- v is the verdict of the call: refused, the list that stays is what is written, and else the blocks are
module _ (most : Limits) (job : Job) (out : List ℕ) {v : Verdict} (e : v ≡ write_verdict most job out) where
  pub write-stays : (v.number ≡ 0 → ⊥) → writing_of v out ≡ writing most job out
  write-stays n = ap (λ (w : Verdict). writing_of w out) e ∙ sym ((write-holds most job out).refused (λ z. n (zero_of (sym e) z)))

  pub write_done : {new : List ℕ} → v.number ≡ 0 → new ≡ blocks_of job → writing_of v new ≡ writing most job out
  write_done z n =
      let w : (write_verdict most job out).number ≡ 0 = zero_of e z in
      ap₂ (λ (x : Verdict) (l : List ℕ). writing_of x l) (e ∙ plain-written most job (eqb (length out) (512 * block_count (header_for job))) w) n
      ∙ sym ((write-holds most job out).writes w)

  pub write-exact : v.number ≡ 0 → length out ≡ 512 * block_count (header_for job)
  write-exact z = (write-holds most job out).exact (zero_of e z)

-- ---- a program that hands a stored job on, refused or not

pub handed-refused : (v : Verdict) (job : Job) (told : List ℕ) → v.number ≢ 0 → hands_out v job told ≡ record { output = []; errors = refusal v }
handed-refused v job told n = rw (ne_eqb v.number 0 n) refl

pub handed-done : (v : Verdict) (job : Job) (told : List ℕ) → v.number ≡ 0 → hands_out v job told ≡ record { output = blocks_of job; errors = told }
handed-done v job told z = rw (eq-eqb v.number 0 z) refl
