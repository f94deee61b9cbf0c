-- The choice by the lists, whatever moves were made before, is the choice of document 01. Assumes nothing.
use mathlib.Core.Path.{◌≡◌, refl, sym, ap, ap₂, ◌∙◌}
use Prim.Native.Nat.{ℕ, zero, suc, ◌+◌, ◌-◌, ◌*◌, ◌≤◌, ◌<◌}
use mathlib.Core.Bool.{Bool, true, false, not, ◌&&◌, ◌||◌}
use mathlib.Core.List.{List}
use native.Mathlib.Decide.{ℕ_discrete}
use native.Mathlib.Omega.{arith}
use lib.Dec.{leb, ltb, eqb}
use lib.IntN.{ℤ, pos}
use lib.Signed.{lt_z}
use lib.ListN.{length, get_or, take}
use borrow.Author.Tests.{leb-true, leb-false, le-leb, lt-leb, eqb-true, ne_eqb}
use Rattle.rules.specs.Lists.{bit}
use Rattle.rules.specs.Job.{Job, file_count, recipes, Lent}
use Rattle.rules.specs.Split.{side_of, size_of, weighs, weight, tolerance, size_a, in_window, balanced}
use Rattle.rules.specs.Move.{lock_of, free, distance, size_after, legal, dist_after, better, choose}
use Rattle.rules.specs.Pass.{gains_after, start_gains}
use Rattle.rules.proofs.Tests.{and_yes}
use Rattle.rules.proofs.Count.{length-tabled}
use Rattle.rules.proofs.First.{first-same}
use Rattle.rules.proofs.NeverFree.{free-weighs}
use Rattle.rules.proofs.Sizes.{size-after}
use Rattle.rules.proofs.SoundJob.{recipes-distinct}
use Rattle.rules.proofs.MovesEnd.{StateLong}
use Rattle.rules.proofs.GainKept.{Fresh, kept_up, kept-length, gain-kept, start-fresh}
use Rattle.rules.proofs.Choice.{choose-listed}
use Rattle.choice.specs.declared.window.Window.{Window}
use Rattle.choice.specs.Choosing.{size_by, dist_in, legal_in, chosen_in}
use Rattle.split.specs.Moving.{Board}
use Rattle.split.proofs.Going.{begins, made, stands, Line, Going}
use Rattle.split.proofs.NextMove.{stands-long, stands-binary, made-free}

-- ---- balanced is near enough

within : (x y z : ℕ) → (leb y (x + z) && leb x (y + z)) ≡ leb (distance x y) z
within x y z = go (leb y (x + z)) (leb x (y + z)) refl refl
  where
    go : (a b : Bool) → leb y (x + z) ≡ a → leb x (y + z) ≡ b → (a && b) ≡ leb (distance x y) z
    go true true p q = sym (le-leb (distance x y) z (omega (arith, leb-true y (x + z) p, leb-true x (y + z) q)))
    go true false p q = sym (lt-leb (distance x y) z (omega (arith, leb-false x (y + z) q)))
    go false b p q = sym (lt-leb (distance x y) z (omega (arith, leb-false y (x + z) p)))

pub window-near : (num den w m a : ℕ) → in_window num den w m a ≡ leb (distance (den * a) (num * w)) (den * m)
window-near num den w m a = within (den * a) (num * w) (den * m)

-- ---- the size of A after a move

size-by : (side z a a' : ℕ) → side ≤ 1 → a' + bit (eqb side 0) * z ≡ a + bit (eqb (1 - side) 0) * z → size_by a side z ≡ a'
size-by zero z a a' h e = omega arith
size-by (suc zero) z a a' h e = omega arith
size-by (suc (suc side)) z a a' h e = absurd (omega arith)

-- ---- the choice by the lists is the choice

-- the gain list after the first k moves, as the scans keep it
abbrev pub gains_now : Job → List ℕ → ℕ → List ℤ
gains_now job ms k = kept_up (recipes job) (begins job) (made ms k) (start_gains (recipes job) (file_count job) (begins job))

module _ {job : Job} {ms : List ℕ} (v : Line job ms) (k : ℕ) where
  pub size-moved-by : (f : ℕ) → f < file_count job → lock_of (stands job ms k) f ≡ 0
      → size_by (size_a job (stands job ms k).sides) (side_of (stands job ms k).sides f) (size_of job f) ≡ size_after job (stands job ms k) f
  size-moved-by f h e =
      let long : StateLong (file_count job) (stands job ms k) = stands-long v k in
      ap (size_by (size_a job (stands job ms k).sides) (side_of (stands job ms k).sides f)) (sym (free-weighs job job.sides (made ms k) f e))
      ∙ size-by (side_of (stands job ms k).sides f) (weighs job f) (size_a job (stands job ms k).sides) (size_after job (stands job ms k) f) (stands-binary v k f)
      (size-after job (stands job ms k) f (omega arith) (omega arith) e (stands-binary v k) h)

  pub gains-long : length (gains_now job ms k) ≡ file_count job
  unfolding gains_after
  gains-long = kept-length (recipes job) (recipes-distinct v.most job v.sound) (begins job) (made ms k) _ ∙ length-tabled _ (file_count job)

  pub gains-fresh : Fresh (recipes job) (stands job ms k) (gains_now job ms k)
  gains-fresh =
      gain-kept (recipes job) (recipes-distinct v.most job v.sound) (begins job) (made ms k) (made-free v k) v.sound.binary
      (start_gains (recipes job) (file_count job) (begins job)) (start-fresh (recipes job) (recipes-distinct v.most job v.sound) (file_count job) (begins job))

  module _ (w : Window) (den : w.den ≡ job.den) (aim : w.aim ≡ job.num * weight job) (span : w.span ≡ job.den * tolerance job) where
    pub dist_same : (f : ℕ) → f < file_count job → lock_of (stands job ms k) f ≡ 0
        → dist_in w (size_a job (stands job ms k).sides) job.sizes (stands job ms k).sides f ≡ dist_after job (stands job ms k) f
    unfolding dist_after
    dist_same f h e = ap₂ distance (ap₂ ◌*◌ den (size-moved-by f h e)) aim

    pub legal-same : (f : ℕ) → f < file_count job
        → legal_in w (size_a job (stands job ms k).sides) job.sizes (stands job ms k).sides (stands job ms k).locks f ≡ legal job (stands job ms k) f
    unfolding legal balanced
    legal-same f h = elim (ℕ_discrete (lock_of (stands job ms k) f) 0) [
      | yes e ↦
          ap (λ (b : Bool). free (stands job ms k) f && b)
          (ap₂ leb (dist_same f h e) span
          ∙ (unfold dist_after in sym (window-near job.num job.den (weight job) (tolerance job) (size_after job (stands job ms k) f))))
      | no n ↦
          let z : free (stands job ms k) f ≡ false = ne_eqb (lock_of (stands job ms k) f) 0 n in
          ap (λ (b : Bool). b && leb (dist_in w (size_a job (stands job ms k).sides) job.sizes (stands job ms k).sides f) w.span) z
          ∙ sym (ap (λ (b : Bool). b && in_window job.num job.den (weight job) (tolerance job) (size_after job (stands job ms k) f)) z)
    ]

    choice-here : chosen_in w (size_a job (stands job ms k).sides) job.sizes (stands job ms k).sides (stands job ms k).locks (gains_now job ms k) (file_count job)
        ≡ choose job (stands job ms k)
    unfolding chosen_in
    choice-here =
        first-same (legal_in w size job.sizes (stands job ms k).sides (stands job ms k).locks) (legal job (stands job ms k))
        (better G (dist_in w size job.sizes (stands job ms k).sides)) (better G (dist_after job (stands job ms k))) (file_count job)
        legal-same
        (λ f x h l p q. ap₂ (λ (y z : ℕ). lt_z (G x) (G f) || (not (lt_z (G f) (G x)) && ltb y z)) (dist_same f h (lock f p)) (dist_same x l (lock x q)))
        ∙ choose-listed job (stands job ms k) (gains_now job ms k) gains-long gains-fresh
      where
        size : ℕ
        size = size_a job (stands job ms k).sides

        G : ℕ → ℤ
        G f = get_or (gains_now job ms k) f (pos 0)

        lock : (f : ℕ) → legal_in w (size_a job (stands job ms k).sides) job.sizes (stands job ms k).sides (stands job ms k).locks f ≡ true → lock_of (stands job ms k) f ≡ 0
        lock f p = eqb-true (lock_of (stands job ms k) f) 0 (and_yes (free (stands job ms k) f) (leb (dist_in w (size_a job (stands job ms k).sides) job.sizes (stands job ms k).sides f) w.span) p).0

    -- the choice by the lists
    pub choice-now : {l : Lent} {b : Board} → Going job ms l k b
        → chosen_in w b.rest.scanned.progress.size job.sizes b.sides (take (file_count job) b.rest.scratch) b.rest.scanned.gains (file_count job)
        ≡ choose job (stands job ms k)
    choice-now {l} {b} g =
        ap₂ (λ (a : ℕ) (x : List ℕ). chosen_in w a job.sizes x (take (file_count job) b.rest.scratch) b.rest.scanned.gains (file_count job)) g.progress.size g.sides
        ∙ ap₂ (λ (y : List ℕ) (z : List ℤ). chosen_in w (size_a job (stands job ms k).sides) job.sizes (stands job ms k).sides y z (file_count job)) g.locks g.gains
        ∙ choice-here
