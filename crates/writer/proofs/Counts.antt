-- What the checks answer one after another is what `write_verdict` says. Assumes nothing.
use Rattle.std.proofs.Common.{◌≡◌, ◌≢◌, refl, sym, ap, ◌∙◌, ap₂, ℕ, ◌*◌, ◌≤◌, Bool, List, length, eqb, eq-eqb}
use Rattle.std.specs.Prelude.{Result, Ok, Err, IsErrAnd}
use Rattle.std.proofs.lemmas.Result.{err_from_is_err_and}
use Rattle.rules.specs.Cases.{as_verdict}
use Rattle.rules.specs.declared.Verdict.{Verdict}
use Rattle.rules.specs.declared.Header.{Header}
use Rattle.rules.specs.declared.refusal.Refusal.{Refusal}
use Rattle.rules.specs.Numbers.{verdict_of}
use Rattle.rules.specs.Job.{Job, Limits, file_count, recipe_count, pin_count}
use Rattle.rules.specs.Check.{done, refuse_if, ◌or_else◌, bad_k, check_counts, check_lists, check_lengths, check_contents, check_sound}
use Rattle.rules.specs.Stored.{block_count}
use Rattle.rules.specs.Writing.{header_for, check_written, write_verdict, writing_of, writing}
use Rattle.rules.specs.Theorems.{Sound}
use Rattle.rules.proofs.CasesOne.{case-refused}
use Rattle.rules.proofs.Verdicts.{chain-stop, chain-go}
use Rattle.rules.proofs.SoundJob.{few-of, counts-pass, sound}
use Rattle.rules.proofs.Writes.{write-stays}
use Rattle.job.specs.Parts.{of_lists}
use Rattle.job.proofs.Whole.{lists-only}

-- a refusal is not done
refuses : (r : Refusal) → (verdict_of r).number ≢ 0
refuses r z =
    let ok : Result ℕ Refusal = Ok 0 in
    let e : ok ≡ Err r = sym (rw (eq-eqb (verdict_of r).number 0 z) refl) ∙ case-refused r 0 in
    cc

module _ (most : Limits) (job : Job) {o : Verdict} {n : ℕ} (counted : n ≡ recipe_count job) (e : o ≡ check_counts most (file_count job) n (pin_count job)) where
  pub counts-stop : (lent : Bool) → (o.number ≡ 0 → ⊥) → o ≡ check_written most job lent
  unfolding check_written check_sound check_lengths check_counts check_lists check_contents
  counts-stop lent z =
      let first = chain-stop (check_lists job lent) (e ∙ ap (λ (k : ℕ). check_counts most (file_count job) k (pin_count job)) counted) z in
      chain-stop (refuse_if (bad_k job.k) 7 0) (chain-stop (check_contents job) first z) z

-- what 1 to 6 answer, told that the output list is as long as the blocks, and then k
pub verdict-is : (most : Limits) (job : Job) (out : List ℕ) {v s t : Verdict} {lent bad : Bool} {n : ℕ} → s ≡ check_sound most (of_lists job.sizes job.sides job.marks job.bounds job.pins) lent
    → n ≡ block_count (header_for job) → lent ≡ eqb (length out) (512 * n) → bad ≡ bad_k job.k → t ≡ refuse_if bad 7 0 → v ≡ (s or_else t) → v ≡ write_verdict most job out
unfolding check_written check_sound
verdict-is most job out {lent = lent} e c w b f o =
    o
    ∙ ap₂ ◌or_else◌ (e ∙ lists-only most job lent ∙ ap (check_sound most job) (w ∙ ap (λ (k : ℕ). eqb (length out) (512 * k)) c))
    (f ∙ ap (λ (x : Bool). refuse_if x 7 0) b)

module _ (most : Limits) (job : Job) (out : List ℕ) where
  -- refused, the output list stays
  module _ (r : Refusal) (res : Result (Unit {0}) Refusal) (exit : IsErrAnd res (λ x. x ≡ r)) where
    stays : verdict_of r ≡ write_verdict most job out → writing_of (as_verdict res) out ≡ writing most job out
    stays e = let p = err_from_is_err_and res exit in rw (p.1, p.2) (write-stays most job out e (refuses r))

  -- of 1 and 2, where n recipes are counted
  module _ {n : ℕ} (counted : n ≡ recipe_count job) where
    counts-are : check_counts most (file_count job) n (pin_count job) ≡ check_counts most (file_count job) (recipe_count job) (pin_count job)
    counts-are = ap (λ (k : ℕ). check_counts most (file_count job) k (pin_count job)) counted

    pub counts-refuse : (r : Refusal) (res : Result (Unit {0}) Refusal) → IsErrAnd res (λ x. x ≡ r) → verdict_of r ≡ check_counts most (file_count job) n (pin_count job)
        → writing_of (as_verdict res) out ≡ writing most job out
    unfolding check_written check_sound check_lengths check_counts check_lists check_contents
    counts-refuse r res exit e =
        let first = chain-stop (check_lists job _) (e ∙ counts-are) (refuses r) in
        stays r res exit (chain-stop (refuse_if (bad_k job.k) 7 0) (chain-stop (check_contents job) first (refuses r)) (refuses r))

    pub counts-few : done ≡ check_counts most (file_count job) n (pin_count job) → (file_count job ≤ most.files) × (recipe_count job ≤ most.recipes) × (pin_count job ≤ most.pins)
    counts-few e =
        few-of most (file_count job) (recipe_count job) (pin_count job)
        (counts-pass most (file_count job) (recipe_count job) (pin_count job) (ap (λ (v : Verdict). v.number) (sym (e ∙ counts-are)))).1

  -- of 1 to 6, told that the output list is as long as the n blocks
  module _ {h : Header} {n : ℕ} (own : h ≡ header_for job) (blocks : n ≡ block_count h) where
    abbrev exact : ℕ → Bool
    exact k = eqb (length out) (512 * k)

    abbrev first_six : Verdict
    first_six = check_sound most (of_lists job.sizes job.sides job.marks job.bounds job.pins) (exact n)

    sound-is : first_six ≡ check_sound most job (exact (block_count (header_for job)))
    sound-is = lists-only most job (exact n) ∙ ap (λ (k : ℕ). check_sound most job (exact k)) (blocks ∙ ap block_count own)

    pub sound-refuse : (r : Refusal) (res : Result (Unit {0}) Refusal) → IsErrAnd res (λ x. x ≡ r) → verdict_of r ≡ first_six
        → writing_of (as_verdict res) out ≡ writing most job out
    unfolding check_written check_sound
    sound-refuse r res exit e = stays r res exit (chain-stop (refuse_if (bad_k job.k) 7 0) (e ∙ sound-is) (refuses r))

    module _ (passed : done ≡ first_six) where
      pub is-sound : Sound most job
      is-sound = sound most job _ (ap (λ (v : Verdict). v.number) (sym (passed ∙ sound-is)))

      -- and then of k
      pub k-last : {v : Verdict} {bad : Bool} → bad ≡ bad_k job.k → v ≡ refuse_if bad 7 0 → v ≡ write_verdict most job out
      unfolding check_written check_sound
      k-last b e = chain-go {a = done} (passed ∙ sound-is) refl (e ∙ ap (λ (x : Bool). refuse_if x 7 0) b)

      pub k-refuse : {bad : Bool} (r : Refusal) (res : Result (Unit {0}) Refusal) → bad ≡ bad_k job.k → IsErrAnd res (λ x. x ≡ r) → verdict_of r ≡ refuse_if bad 7 0
          → writing_of (as_verdict res) out ≡ writing most job out
      k-refuse r res b exit e = stays r res exit (k-last b e)
