-- The check of a job: it answers by the table, and lets through exactly the sound and the accepted jobs. Assumes nothing.
use mathlib.Core.Path.{◌≡◌, refl, ap, ◌∙◌}
use mathlib.Core.Logic.{◌≢◌}
use Prim.Native.Nat.{ℕ, suc, ◌+◌, ◌<◌}
use mathlib.Core.Bool.{Bool, true, false, ◌&&◌}
use native.Mathlib.Omega.{arith}
use lib.Dec.{eqb, leb, ltb}
use lib.ListN.{get_or}
use borrow.Author.Tests.{leb-true, ltb-true, eq-eqb, ne_eqb, le-ltb, lt-leb}
use Rattle.rules.specs.declared.Verdict.{Verdict}
use Rattle.rules.specs.Lists.{count, some_below, up_to}
use Rattle.rules.specs.Job.{Job, Limits, file_count, recipe_count, pin_count, bound, pin, files}
use Rattle.rules.specs.Split.{size_of}
use Rattle.rules.specs.Check.{done, short, repeats_in, bad_pin, bad_file, bad_ratio, none_free, check_contents, check_rest, check_sound, check}
use Rattle.rules.specs.Theorems.{Sound, Accepted, CheckHolds}
use Rattle.rules.proofs.Count.{count-here}
use Rattle.rules.proofs.Searches.{some-none}
use Rattle.rules.proofs.Verdicts.{chain-pass, sound-contents}
use Rattle.rules.proofs.SoundJob.{fine-k, sound}
use Rattle.rules.proofs.Refusals.{sound-rows, check-rows}
use Rattle.rules.proofs.Proved.{accepted, lent-sound, lent_fits}

module _ (most : Limits) (job : Job) where
  module _ (s : Sound most job) where
    good-pin : (k : ℕ) → k < pin_count job → bad_pin job k ≡ false
    unfolding bad_pin
    good-pin k h = rw (lt-leb (file_count job) (pin job k) (s.pins_below k h)) (some-none (repeats_in job k) (recipe_count job) apart)
      where
        same : ℕ → ℕ → Bool
        same j i = leb (bound job j) i && eqb (pin job i) (pin job k)

        other : (j : ℕ) → j < recipe_count job → k < bound job (suc j) → (i : ℕ) → i < k → same j i ≡ false
        other j l m i n = go (leb (bound job j) i) refl
          where
            go : (b : Bool) → leb (bound job j) i ≡ b → (b && eqb (pin job i) (pin job k)) ≡ false
            go true e = ne_eqb (pin job i) (pin job k) (s.apart j i k l (leb-true (bound job j) i e) n m h)
            go false e = refl

        apart : (j : ℕ) → j < recipe_count job → repeats_in job k j ≡ false
        apart j l = go (leb (bound job j) k) (ltb k (bound job (suc j))) refl
          where
            go : (a b : Bool) → ltb k (bound job (suc j)) ≡ b → (a && b && some_below (same j) k) ≡ false
            go true true e = some-none (same j) k (other j l (ltb-true k (bound job (suc j)) e))
            go true false e = refl
            go false b e = refl

    good-file : (f : ℕ) → f < file_count job → bad_file job f ≡ false
    good-file f h =
        let n : size_of job f ≢ 0 = λ e. omega (arith, s.sizes f h) in
        rw (ne_eqb (size_of job f) 0 n, le-ltb 1 (get_or job.sides f 0) (s.binary f), le-ltb 2 (get_or job.marks f 0) (s.marks f)) refl

    contents-pass : check_contents job ≡ done
    unfolding check_contents
    contents-pass =
        let n : ℕ = recipe_count job in
        rw (
          eq-eqb (bound job 0) 0 s.first,
          some-none (short job) n (λ j h. le-ltb (bound job (suc j)) (2 + bound job j) (s.two j h)),
          eq-eqb (bound job n) (pin_count job) s.last,
          some-none (bad_pin job) (pin_count job) good-pin,
          some-none (bad_file job) (file_count job) good-file,
        )
        refl

    sound-passes : check_sound most job true ≡ done
    sound-passes = sound-contents most job s.some_file s.some_recipe s.few_files s.few_recipes s.few_pins s.sides_long s.marks_long ∙ contents-pass

  module _ (a : Accepted most job) where
    rest-passes : check_rest most job ≡ done
    unfolding check_rest files
    rest-passes =
        let n : job.num ≢ 0 = λ e. omega (arith, a.ratio.0) in
        let free : ℕ → Bool = λ f. eqb (get_or job.marks f 0) 0 in
        let some : count free (up_to (file_count job)) ≢ 0 = count-here free (file_count job) a.free.0 a.free.1 (eq-eqb (get_or job.marks a.free.0 0) 0 a.free.2) in
        let ratio : bad_ratio most job ≡ false
        = rw (ne_eqb job.num 0 n, lt-leb job.den job.num a.ratio.1, le-ltb most.den job.den a.ratio.2) refl in
        let none : none_free job ≡ false = ne_eqb (count free (up_to (file_count job))) 0 some in
        rw (ratio, fine-k job.k a.wide, none, a.filled, a.balanced) refl

    check-passes : check most job true ≡ done
    unfolding check check_sound check_rest
    check-passes = chain-pass (check_sound most job true) (check_rest most job) (sound-passes a.sound) rest-passes

  pub check-holds : (lent : Bool) → CheckHolds most job lent
  check-holds lent = record {
    table = check-rows most job lent;
    table_of_sound = sound-rows most job lent;
    sound = λ e. let z = ap (λ (v : Verdict). v.number) e in (sound most job lent z, lent-sound most job lent z);
    sound_passes = λ s e. rw e (sound-passes s);
    accepted = λ e. let z = ap (λ (v : Verdict). v.number) e in (accepted most job lent z, lent_fits most job lent z);
    accepted_passes = λ a e. rw e (check-passes a);
  }
