-- The best prefix of the moves made so far. Assumes nothing.
use mathlib.Core.Path.{◌≡◌, refl, ap, ap₂, ◌∙◌}
use Prim.Native.Nat.{ℕ, zero, suc, ◌+◌, ◌≤◌}
use mathlib.Core.Bool.{Bool, true, false, cond}
use mathlib.Core.List.{List}
use native.Mathlib.Omega.{arith}
use lib.Dec.{ltb}
use lib.ListN.{length}
use lib.Seq.{take-take, length-take-le}
use Rattle.rules.specs.Lists.{best_up_to}
use Rattle.rules.specs.Job.{Job, recipes}
use Rattle.rules.specs.Move.{after}
use Rattle.rules.specs.Split.{cut}
use Rattle.rules.specs.Pass.{cut_at, keeps}
use Rattle.rules.proofs.Searches.{best-le}
use Rattle.split.specs.declared.progress.Progress.{Progress}
use Rattle.split.specs.Moving.{counted_on}
use Rattle.split.proofs.Going.{begins, made, stands}

best-same : (cost cost' : ℕ → ℕ) (n : ℕ) → ((i : ℕ) → i ≤ n → cost i ≡ cost' i) → best_up_to cost n ≡ best_up_to cost' n
unfolding best_up_to
best-same cost cost' zero p = refl
best-same cost cost' (suc n) p =
    let ih : best_up_to cost n ≡ best_up_to cost' n = best-same cost cost' n (λ i h. p i (omega arith)) in
    ap (λ (b : ℕ). cond (ltb (cost (suc n)) (cost b)) (suc n) b) ih
    ∙ ap₂ (λ (x y : ℕ). cond (ltb x y) (suc n) (best_up_to cost' n)) (p (suc n) (omega arith)) (p (best_up_to cost' n) (omega (arith, best-le cost' n)))

-- the cut after each prefix of all moves
abbrev pub costs : Job → List ℕ → ℕ → ℕ
costs job ms = cut_at (recipes job) (begins job) ms

pub cost-now : (job : Job) (ms : List ℕ) (k : ℕ) → costs job ms k ≡ cut (stands job ms k).sides (recipes job)
unfolding cut_at
cost-now job ms k = refl

module _ (job : Job) (ms : List ℕ) (k : ℕ) where
  pub cost-made : (i : ℕ) → i ≤ k → cut_at (recipes job) (begins job) (made ms k) i ≡ costs job ms i
  unfolding cut_at
  cost-made i h = ap (λ (ms : List ℕ). cut (after (begins job) ms).sides (recipes job)) (take-take i k ms h)

  module _ (few : k ≤ length ms) where
    pub made-length : length (made ms k) ≡ k
    made-length = length-take-le k ms few

    -- the prefix kept of the first k moves is the best of the first k prefixes
    pub keeps-made : keeps (recipes job) (begins job) (made ms k) ≡ best_up_to (costs job ms) k
    unfolding keeps
    keeps-made =
        ap (λ (n : ℕ). best_up_to (cut_at (recipes job) (begins job) (made ms k)) n) made-length
        ∙ best-same (cut_at (recipes job) (begins job) (made ms k)) (costs job ms) k cost-made

    pub least-made : cut_at (recipes job) (begins job) (made ms k) (keeps (recipes job) (begins job) (made ms k)) ≡ costs job ms (best_up_to (costs job ms) k)
    least-made =
        ap (λ (i : ℕ). cut_at (recipes job) (begins job) (made ms k) i) keeps-made
        ∙ cost-made (best_up_to (costs job ms) k) (best-le (costs job ms) k)

-- one move more
module _ (cost : ℕ → ℕ) (k : ℕ) (p : Progress) (cut_now : p.cut ≡ cost (suc k)) (moves : p.moves ≡ k)
    (best : p.best ≡ best_up_to cost k) (least : p.least ≡ cost (best_up_to cost k)) where
  pub counted-best : (counted_on p).best ≡ best_up_to cost (suc k)
  unfolding counted_on best_up_to
  counted-best = let m : p.moves + 1 ≡ suc k = omega arith in cc

  pub counted-least : (counted_on p).least ≡ cost (best_up_to cost (suc k))
  unfolding counted_on best_up_to
  counted-least =
      ap₂ (λ (x y : ℕ). cond (ltb x y) x y) cut_now least ∙ go (ltb (cost (suc k)) (cost (best_up_to cost k)))
    where
      go : (b : Bool) → cond b (cost (suc k)) (cost (best_up_to cost k)) ≡ cost (cond b (suc k) (best_up_to cost k))
      go true = refl
      go false = refl

-- a figure of the best prefix so far, where it is known of each prefix
pub counted-figure : (of : ℕ → ℕ) (p : Progress) → p.size ≡ of (p.moves + 1) → p.atbest ≡ of p.best → (counted_on p).atbest ≡ of (counted_on p).best
unfolding counted_on
counted-figure of p now best = go (ltb p.cut p.least)
  where
    go : (b : Bool) → cond b p.size p.atbest ≡ of (cond b (p.moves + 1) p.best)
    go true = now
    go false = best
