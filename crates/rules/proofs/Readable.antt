-- The readable files of a recipe. Assumes nothing.
use mathlib.Core.Path.{◌≡◌, refl, ap, ◌∙◌}
use Prim.Native.Nat.{ℕ, zero, suc, ◌+◌, ◌≤◌, ◌<◌}
use native.Mathlib.Omega.{arith}
use mathlib.Core.Bool.{Bool, true, false, not, cond, ◌&&◌}
use mathlib.Core.List.{List, [], ◌∷◌, ◌++◌, map}
use native.Mathlib.Decide.{ℕ_discrete}
use lib.Dec.{ltb, eqb}
use lib.ListN.{length, get_or, take}
use borrow.Author.Tests.{ne_eqb, le-leb}
use Rattle.rules.specs.Lists.{bit, total, count, those}
use Rattle.rules.specs.Job.{Job, is_read, enough, read_in, views}
use Rattle.rules.specs.Split.{count_on, is_cut, times, unread_recipes}
use Rattle.rules.specs.Theorems.{Distinct}
use Rattle.rules.proofs.Count.{total-same}

-- the readable files are no more than the files
pub those-short : (p : ℕ → Bool) (r : List ℕ) → length (those p r) ≤ length r
unfolding those
those-short p [] = omega arith
those-short p (y ∷ r) = go (p y) (those-short p r)
  where
    go : (b : Bool) → length (those p r) ≤ length r → length (cond b (y ∷ those p r) (those p r)) ≤ suc (length r)
    go true h = omega (arith, h)
    go false h = omega (arith, h)

-- no file is there more often than in the whole recipe
those-times : (p : ℕ → Bool) (x : ℕ) (r : List ℕ) → times x (those p r) ≤ times x r
unfolding those times count total
those-times p x [] = omega arith
those-times p x (y ∷ r) = go (p y) (those-times p x r)
  where
    go : (b : Bool) → times x (those p r) ≤ times x r → times x (cond b (y ∷ those p r) (those p r)) ≤ times x (y ∷ r)
    go true h = omega (arith, h)
    go false h = omega (arith, h)

pub read-times : (job : Job) (x : ℕ) (r : List ℕ) → times x (read_in job r) ≤ times x r
unfolding read_in
read-times job x r = go (enough (those (is_read job) r))
  where
    go : (b : Bool) → times x (cond b (those (is_read job) r) []) ≤ times x r
    go true = those-times (is_read job) x r
    go false = unfold times count total in omega arith

pub read-distinct : (job : Job) (rs : List (List ℕ)) → Distinct rs → Distinct (map (read_in job) rs)
read-distinct job [] d j x = unfold times count total in omega arith
read-distinct job (r ∷ rs) d zero x = omega (arith, read-times job x r, d 0 x)
read-distinct job (r ∷ rs) d (suc j) x = read-distinct job rs (λ i y. d (suc i) y) j x

-- ---- counted by a walk over the whole recipe

pub count-those : (p q : ℕ → Bool) (r : List ℕ) → count p (those q r) ≡ count (λ x. q x && p x) r
unfolding those count total
count-those p q [] = refl
count-those p q (y ∷ r) = go (q y) (count-those p q r)
  where
    go : (b : Bool) → count p (those q r) ≡ count (λ x. q x && p x) r → count p (cond b (y ∷ those q r) (those q r)) ≡ bit (b && p y) + count (λ x. q x && p x) r
    go true h = ap (λ (n : ℕ). bit (p y) + n) h
    go false h = omega (arith, h)

-- the readable files and the others are all
pub read-or-not : (job : Job) (r : List ℕ) → length (those (is_read job) r) + count_on job.marks 2 r ≡ length r
unfolding those count_on count total
read-or-not job [] = refl
read-or-not job (y ∷ r) = go (eqb (get_or job.marks y 0) 2) (read-or-not job r)
  where
    go : (b : Bool) → length (those (is_read job) r) + count_on job.marks 2 r ≡ length r
        → length (cond (not b) (y ∷ those (is_read job) r) (those (is_read job) r)) + (bit b + count_on job.marks 2 r) ≡ suc (length r)
    go true h = omega (arith, h)
    go false h = omega (arith, h)

pub not-not : (b : Bool) → not (not b) ≡ b
not-not true = refl
not-not false = refl

-- a recipe holds an unread file if a mark among its files is 2
pub unread-recipes : (job : Job) → unread_recipes job ≡ count (λ r. ltb 0 (count_on job.marks 2 r)) (views job)
unfolding unread_recipes count_on count
unread-recipes job =
    let two : ℕ → ℕ = λ f. bit (eqb (get_or job.marks f 0) 2) in
    total-same (λ (r : List ℕ). bit (ltb 0 (total two r))) (λ (r : List ℕ). bit (ltb 0 (total (λ f. bit (not (is_read job f))) r)))
    (λ r. ap (λ (n : ℕ). bit (ltb 0 n)) (total-same two (λ f. bit (not (is_read job f))) (λ f. ap bit (not-not (eqb (get_or job.marks f 0) 2))) r))
    (views job)

pub those-append : (p : ℕ → Bool) (a b : List ℕ) → those p (a ++ b) ≡ those p a ++ those p b
unfolding those
those-append p [] b = refl
those-append p (y ∷ a) b = go (p y) (those-append p a b)
  where
    go : (t : Bool) → those p (a ++ b) ≡ those p a ++ those p b → cond t (y ∷ those p (a ++ b)) (those p (a ++ b)) ≡ cond t (y ∷ those p a) (those p a) ++ those p b
    go true e = ap (λ (l : List ℕ). y ∷ l) e
    go false e = e

-- one pin more, readable or not
pub those-more : (p : ℕ → Bool) (r : List ℕ) (m : ℕ) → m < length r → those p (take (suc m) r) ≡ those p (take m r) ++ cond (p (get_or r m 0)) (get_or r m 0 ∷ []) []
unfolding those
those-more p [] m h = absurd (omega arith)
those-more p (y ∷ r) zero h = refl
those-more p (y ∷ r) (suc m) h = go (p y) (those-more p r m (omega arith))
  where
    go : (b : Bool) → those p (take (suc m) r) ≡ those p (take m r) ++ cond (p (get_or r m 0)) (get_or r m 0 ∷ []) []
        → cond b (y ∷ those p (take (suc m) r)) (those p (take (suc m) r)) ≡ cond b (y ∷ those p (take m r)) (those p (take m r)) ++ cond (p (get_or r m 0)) (get_or r m 0 ∷ []) []
    go true e = ap (λ (l : List ℕ). y ∷ l) e
    go false e = e

-- a recipe with readable files in both vaults has two of them
cut-two : (sides s : List ℕ) → cond (enough s) (is_cut sides s) false ≡ is_cut sides s
unfolding is_cut count_on count total
cut-two sides [] = refl
cut-two sides (x ∷ y ∷ s) = rw (le-leb 2 (suc (suc (length s))) (omega arith)) refl
cut-two sides (x ∷ []) = elim (ℕ_discrete (get_or sides x 0) 0) [
  | yes e ↦ rw e refl
  | no n ↦ rw (ne_eqb (get_or sides x 0) 0 n) refl
]

pub cut-read : (job : Job) (sides r : List ℕ) → is_cut sides (read_in job r) ≡ is_cut sides (those (is_read job) r)
unfolding read_in
cut-read job sides r = go (enough (those (is_read job) r)) ∙ cut-two sides (those (is_read job) r)
  where
    go : (b : Bool) → is_cut sides (cond b (those (is_read job) r) []) ≡ cond b (is_cut sides (those (is_read job) r)) false
    go true = refl
    go false = unfold is_cut count_on count total in refl
