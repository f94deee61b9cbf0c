-- Of the split that a settled run returns no single legal move lessens the cut, where the choice takes a greatest gain. Assumes nothing.
use mathlib.Core.Path.{◌≡◌, refl, sym, ap, subst, ◌∙◌}
use Prim.Native.Nat.{ℕ, ◌+◌, ◌≤◌, ◌<◌}
use mathlib.Core.Bool.{true, false}
use mathlib.Core.List.{List, [], ◌∷◌}
use native.Mathlib.Decide.{dec_lt}
use native.Mathlib.Omega.{arith}
use lib.IntN.{ℤ, pos, negsuc, ◌-ℤ◌}
use lib.ListN.{length, get_or}
use lib.Signed.{lt_z}
use borrow.Author.Tests.{eqb-true}
use Rattle.rules.specs.Lists.{diff}
use Rattle.rules.specs.Job.{Job, Limits, file_count, recipes}
use Rattle.rules.specs.Split.{cut, gain, balanced}
use Rattle.rules.specs.Move.{State, start, lock_of, free, moved, steps_by, size_after, legal}
use Rattle.rules.specs.Pass.{Pass, cut_at, keeps, pass_of, tries}
use Rattle.rules.specs.Run.{settles, pass_by, most_passes, passes, last_by}
use Rattle.rules.specs.Theorems.{Sound, Sides, Lawful, LawfulTry}
use Rattle.rules.specs.SettledYes.{NoneLessens, TakesGreatest, SettledLeast}
use Rattle.rules.proofs.Tests.{clash, and_yes}
use Rattle.rules.proofs.Signed.{up, down, diff-key, lt_z-false}
use Rattle.rules.proofs.OneMove.{move-of}
use Rattle.rules.proofs.GainKept.{cut_moved}
use Rattle.rules.proofs.SoundJob.{recipes-distinct}
use Rattle.rules.proofs.Runs.{keeps-least, settled-stays, Passes, passes-come, come-last}
use Rattle.rules.proofs.Proved.{pass-holds-by, given-sides, pass-holds}

-- a difference that is a count, crossed over
crossed : (c d : ℕ) (z : ℤ) → pos c -ℤ z ≡ pos d → c + down z ≡ d + up z
crossed c d (pos n) e =
    let k : diff c n ≡ pos d = unfold diff in e in
    omega (arith, diff-key c n, ap up k, ap down k)
crossed c d (negsuc n) e = omega (arith, ap up e)

module _ (most : Limits) (job : Job) (s : Sound most job) where
  -- the cut after a legal move, from its gain
  cut-after : (sides : List ℕ) → Sides job sides → (f : ℕ) → f < file_count job → legal job (start job sides) f ≡ true
      → cut sides (recipes job) + down (gain sides (recipes job) f) ≡ cut (moved (start job sides) f).sides (recipes job) + up (gain sides (recipes job) f)
  unfolding legal
  cut-after sides w f h k =
      let st : State = start job sides in
      let unlocked : lock_of st f ≡ 0 = eqb-true (lock_of st f) 0 (and_yes (free st f) (balanced job (size_after job st f)) k).0 in
      crossed (cut sides (recipes job)) (cut (moved st f).sides (recipes job)) (gain sides (recipes job) f)
      (cut_moved (recipes job) (recipes-distinct most job s) st f (move-of st f (omega (arith, w.long)) (omega (arith, s.marks_long)) unlocked w.binary))

  -- the first of some moves is a prefix of its own, so that where they leave the cut equal it does not lessen it, and no move of no greater gain does
  first-least : (sides ms : List ℕ) → Sides job sides → Lawful job sides ms → settles (pass_of job sides ms) ≡ true → (f : ℕ) → f < file_count job → legal job (start job sides) f ≡ true
      → (1 ≤ length ms) × (lt_z (gain sides (recipes job) (get_or ms 0 0)) (gain sides (recipes job) f) ≡ false) → cut sides (recipes job) ≤ cut (moved (start job sides) f).sides (recipes job)
  unfolding pass_of cut_at steps_by
  first-least sides [] w l e f h k g = absurd (omega (arith, g.0))
  first-least sides (m ∷ ms) w l e f h k g =
      let st : State = start job sides in
      let same : cut_at (recipes job) st (m ∷ ms) (keeps (recipes job) st (m ∷ ms)) ≡ cut sides (recipes job)
      = eqb-true (pass_of job sides (m ∷ ms)).cut_after (pass_of job sides (m ∷ ms)).cut_before e in
      let least : cut_at (recipes job) st (m ∷ ms) (keeps (recipes job) st (m ∷ ms)) ≤ cut (moved st m).sides (recipes job) = keeps-least (recipes job) st (m ∷ ms) 1 (omega arith) in
      omega (
        arith,
        cut-after sides w m (l.below 0 (omega arith)) (l.legal 0 (omega arith)),
        cut-after sides w f h k,
        lt_z-false (gain sides (recipes job) m) (gain sides (recipes job) f) g.1,
      )

  pub settled-least : (try : List ℕ → List ℕ) → LawfulTry job try → SettledLeast job try
  unfolding passes
  settled-least try lawful greatest e =
      let came : Passes job try (most_passes job) job.sides (passes job try) = passes-come job try (most_passes job) job.sides in
      let given : Sides job job.sides = given-sides most job s in
      let last = come-last job try (Sides job) (λ x w. (pass-holds-by most job s x (try x) w (lawful x w)).moves.next) came given (pass_by job try job.sides) (job.sides, given, refl) in
      let before : List ℕ = last.0 in
      let there : settles (pass_by job try before) ≡ true = ap settles (sym last.2) ∙ e in
      let same : (last_by job try).sides_after ≡ before = ap (λ (p : Pass). p.sides_after) last.2 ∙ settled-stays job try before there in
      subst (NoneLessens job) (sym same) (λ f h k. first-least before (try before) last.1 (lawful before last.1) there f h k (greatest before last.1 f h k))

  pub tries-greatest : TakesGreatest job (tries job)
  unfolding steps_by
  tries-greatest sides w f h k =
      let p = pass-holds most job s sides w in
      elim (dec_lt 0 (length (tries job sides))) [
        | yes some ↦ (omega arith, (p.each 0 some).greatest f h k)
        | no n ↦
            let none : length (tries job sides) ≡ 0 = omega arith in
            let stuck : legal job (start job sides) f ≡ false = rw none at (p.ended f h) in
            clash (sym k ∙ stuck)
      ]
