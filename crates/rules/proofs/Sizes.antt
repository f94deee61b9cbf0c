-- The sizes of the two vaults, and the range of a gain. Assumes nothing.
use mathlib.Core.Path.{◌≡◌, refl, ap, ◌∙◌}
use Prim.Native.Nat.{ℕ, zero, suc, ◌+◌, ◌-◌, ◌*◌, ◌≤◌, ◌<◌}
use mathlib.Core.Bool.{false}
use mathlib.Core.List.{List, [], ◌∷◌}
use native.Mathlib.Omega.{arith}
use lib.Dec.{eqb}
use lib.IntN.{pos}
use lib.Signed.{lt_z}
use lib.ListN.{length}
use Rattle.rules.specs.Lists.{bit, total, count, up_to, diff}
use Rattle.rules.specs.Job.{Job, file_count, files}
use Rattle.rules.specs.Split.{side_of, on_side, count_on, holds, recipes_with, alone, together, gain, weighs, weight, size_on}
use Rattle.rules.specs.Move.{State, lock_of, after, Frees, size_after}
use Rattle.rules.specs.Theorems.{Binary}
use Rattle.rules.proofs.Count.{and-le, total-le, total-move, times_below}
use Rattle.rules.proofs.Signed.{diff-least, diff-pos, abs, abs_diff}
use Rattle.rules.proofs.OneMove.{Moves, move-of}
use Rattle.rules.proofs.GainKept.{after-binary}

-- ---- the two vaults add up to W

total-plus : (f g h : ℕ → ℕ) → ((x : ℕ) → f x + g x ≡ h x) → (r : List ℕ) → total f r + total g r ≡ total h r
unfolding total
total-plus f g h e [] = refl
total-plus f g h e (x ∷ xs) = omega (arith, e x, total-plus f g h e xs)

one_side : (s z : ℕ) → s ≤ 1 → bit (eqb s 0) * z + bit (eqb s 1) * z ≡ z
one_side zero z h = omega arith
one_side (suc zero) z h = omega arith
one_side (suc (suc s)) z h = absurd (omega arith)

pub sizes-add : (job : Job) (sides : List ℕ) → Binary sides → size_on job 0 sides + size_on job 1 sides ≡ weight job
unfolding size_on weight
sizes-add job sides bin =
    total-plus (λ f. bit (on_side sides 0 f) * weighs job f) (λ f. bit (on_side sides 1 f) * weighs job f) (weighs job)
    (λ x. one_side (side_of sides x) (weighs job x) (bin x)) (files job)

-- after every move
pub sizes-kept : (job : Job) (st : State) (fs : List ℕ) → Frees st fs → Binary st.sides
    → size_on job 0 (after st fs).sides + size_on job 1 (after st fs).sides ≡ weight job
sizes-kept job st fs l bin = sizes-add job (after st fs).sides (after-binary st fs l bin)

-- what a move does to the size of side u
pub size-moved : (job : Job) {st st' : State} {f : ℕ} → Moves st st' f → f < file_count job → (u : ℕ)
    → size_on job u st'.sides + bit (eqb (side_of st.sides f) u) * weighs job f
    ≡ size_on job u st.sides + bit (eqb (1 - side_of st.sides f) u) * weighs job f
unfolding size_on files
size-moved job {st} {st'} {f} m h u =
    rw (← m.side)
    (total-move (λ x. bit (on_side st'.sides u x) * weighs job x) (λ x. bit (on_side st.sides u x) * weighs job x) f
    (λ x n. ap (λ y. bit (eqb y u) * weighs job x) (m.sides x n)) (up_to (file_count job)) (times_below f (file_count job) h))

-- |A| after the move of a free file, from |A| before it
pub size-after : (job : Job) (st : State) (f : ℕ) → f < length st.sides → f < length st.locks → lock_of st f ≡ 0 → Binary st.sides → f < file_count job
    → size_after job st f + bit (eqb (side_of st.sides f) 0) * weighs job f ≡ size_on job 0 st.sides + bit (eqb (1 - side_of st.sides f) 0) * weighs job f
unfolding size_after
size-after job st f a b e bin h = size-moved job (move-of st f a b e bin) h 0

-- ---- a gain lies from minus p to plus p, p the number of the file's recipes

module _ (sides : List ℕ) (rs : List (List ℕ)) (f : ℕ) where
  alone-le : count (alone sides f) rs ≤ recipes_with rs f
  unfolding count alone
  alone-le = total-le (λ r. bit (holds r f)) (λ r. bit (alone sides f r)) (λ r. and-le (holds r f) (eqb (count_on sides (side_of sides f) r) 1)) rs

  together-le : count (together sides f) rs ≤ recipes_with rs f
  unfolding count together
  together-le = total-le (λ r. bit (holds r f)) (λ r. bit (together sides f r)) (λ r. and-le (holds r f) (eqb (count_on sides (1 - side_of sides f) r) 0)) rs

  pub gain-range :
      (lt_z (gain sides rs f) (diff 0 (recipes_with rs f)) ≡ false) × (lt_z (pos (recipes_with rs f)) (gain sides rs f) ≡ false)
  unfolding gain
  gain-range =
      let p : ℕ = recipes_with rs f in
      let a : ℕ = count (alone sides f) rs in
      let b : ℕ = count (together sides f) rs in
      (diff-least a b 0 p (omega (arith, together-le)), ap (λ z. lt_z z (diff a b)) (diff-pos p) ∙ diff-least p 0 a b (omega (arith, alone-le)))

  -- the same for what a machine number must hold
  pub gain-abs : abs (gain sides rs f) ≤ recipes_with rs f
  unfolding gain
  gain-abs = abs_diff (count (alone sides f) rs) (count (together sides f) rs) (recipes_with rs f) alone-le together-le
