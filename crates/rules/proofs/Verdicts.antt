-- A chain of checks: the first refusal is the answer, and what a check that lets through tells. Assumes nothing.
use mathlib.Core.Path.{◌≡◌, refl, sym, ap, ◌∙◌}
use mathlib.Core.Logic.{◌≢◌}
use Prim.Native.Nat.{ℕ, suc, ◌≤◌, ◌<◌}
use mathlib.Core.Bool.{Bool, true, false, not, cond, ◌&&◌, ◌||◌}
use native.Mathlib.Decide.{ℕ_discrete}
use native.Mathlib.Omega.{arith}
use lib.Dec.{ltb, eqb}
use lib.ListN.{length}
use borrow.Author.Tests.{ltb-true, le-ltb, eqb-true, eqb-false, eq-eqb, ne_eqb}
use Rattle.rules.specs.declared.Verdict.{Verdict}
use Rattle.rules.specs.Lists.{lowest, some_below}
use Rattle.rules.specs.Job.{Job, Limits, file_count, recipe_count, pin_count}
use Rattle.rules.specs.Check.{done, is_done, refuse_if, ◌or_else◌, empty, over_most, check_contents, check_sound, measure}
use Rattle.rules.specs.Theorems.{AtLowest}
use Rattle.rules.proofs.Tests.{and_both}
use Rattle.rules.proofs.Searches.{none_below, lowest-passes, below-lowest}

-- a is what the check v answered: the chain stops at it, or goes on
pub chain-stop : {a v : Verdict} (w : Verdict) → a ≡ v → (a.number ≡ 0 → ⊥) → a ≡ (v or_else w)
chain-stop {a} {v} w e h = e ∙ simp (ne_eqb v.number 0 (λ z. h (ap (λ (y : Verdict). y.number) e ∙ z)))

pub zero_of : {a v : Verdict} → a ≡ v → a.number ≡ 0 → v.number ≡ 0
zero_of e z = sym (ap (λ (y : Verdict). y.number) e) ∙ z

pub chain-go : {a v w r : Verdict} → a ≡ v → a.number ≡ 0 → r ≡ w → r ≡ (v or_else w)
chain-go {a} {v} e z r = r ∙ simp (eq-eqb v.number 0 (zero_of e z))

pub passes-both : (v w : Verdict) → (v or_else w).number ≡ 0 → (v.number ≡ 0) × (w.number ≡ 0)
passes-both v w h = go (eqb v.number 0) refl h
  where
    go : (b : Bool) → eqb v.number 0 ≡ b → (cond b w v).number ≡ 0 → (v.number ≡ 0) × (w.number ≡ 0)
    go true e k = (eqb-true v.number 0 e, k)
    go false e k = absurd (eqb-false v.number 0 e k)

pub chain-pass : (v w : Verdict) → v ≡ done → w ≡ done → (v or_else w) ≡ done
chain-pass v w e f = rw (e, f) refl

-- what follows a check counts only where it lets through
pub chain_same : (v w w' : Verdict) → (v.number ≡ 0 → w ≡ w') → (v or_else w) ≡ (v or_else w')
chain_same v w w' f = go (eqb v.number 0) refl
  where
    go : (b : Bool) → eqb v.number 0 ≡ b → cond b w v ≡ cond b w' v
    go true e = f (eqb-true v.number 0 e)
    go false e = refl

-- a chain may be gone through in parts
pub or_assoc : (v w x : Verdict) → ((v or_else w) or_else x) ≡ (v or_else w or_else x)
or_assoc v w x = go (eqb v.number 0) refl
  where
    go : (b : Bool) → eqb v.number 0 ≡ b → (cond b w v or_else x) ≡ cond b (w or_else x) v
    go true e = refl
    go false e = rw e

pub or-three : (u v w x : Verdict) → ((u or_else v or_else w) or_else x) ≡ (u or_else v or_else w or_else x)
or-three u v w x = or_assoc u (v or_else w) x ∙ ap (λ (y : Verdict). u or_else y) (or_assoc v w x)

-- a test that refuses, in a chain
pub refuse-stop : {t : Bool} {r : Verdict} (n p : ℕ) (w : Verdict) → t ≡ true → r ≡ refuse_if true (suc n) p → r ≡ (refuse_if t (suc n) p or_else w)
refuse-stop n p w e z = chain-stop w (z ∙ ap (λ (b : Bool). refuse_if b (suc n) p) (sym e)) (λ q. omega (arith, ap (λ (v : Verdict). v.number) z))

pub refuse-go : {t : Bool} {w r : Verdict} (n p : ℕ) → t ≡ false → r ≡ w → r ≡ (refuse_if t n p or_else w)
refuse-go n p e z = chain-go {a = done} (ap (λ (b : Bool). refuse_if b n p) (sym e)) refl z

pub both-pass : (v w : Verdict) → v.number ≡ 0 → w.number ≡ 0 → (v or_else w).number ≡ 0
both-pass v w a b = rw (eq-eqb v.number 0 a) b

pub not-refused : (b : Bool) (n p : ℕ) → (refuse_if b (suc n) p).number ≡ 0 → b ≡ false
not-refused true n p h = absurd (omega arith)
not-refused false n p h = refl

-- a verdict that lets through is plain: its place is 0 too
abbrev pub Plain : Verdict → Type 0
Plain v = v.number ≡ 0 → v ≡ done

pub plain-if : (b : Bool) (n p : ℕ) → Plain (refuse_if b (suc n) p)
plain-if true n p h = absurd (omega arith)
plain-if false n p h = refl

pub plain-chain : (v w : Verdict) → Plain w → Plain (v or_else w)
plain-chain v w p h = let r = passes-both v w h in rw (eq-eqb v.number 0 r.0) (p r.1)

-- ---- a number that a chain never gives

-- what follows a check is asked only where it lets through
pub never-chain : (k : ℕ) (v w : Verdict) → v.number ≢ k → (v.number ≡ 0 → w.number ≢ k) → (v or_else w).number ≢ k
never-chain k v w a b = go (eqb v.number 0) refl
  where
    go : (t : Bool) → eqb v.number 0 ≡ t → (cond t w v).number ≢ k
    go true e = b (eqb-true v.number 0 e)
    go false e = a

-- nor does its first check give such a number, or what follows one that lets through
pub first-not : (k : ℕ) (v w : Verdict) → k ≢ 0 → (v or_else w).number ≢ k → v.number ≢ k
first-not k v w z n e = n (sym (ap (λ (x : Verdict). x.number) (chain-stop w refl (λ q. z (sym e ∙ q)))) ∙ e)

pub then-not : (k : ℕ) (v w : Verdict) → v.number ≡ 0 → (v or_else w).number ≢ k → w.number ≢ k
then-not k v w z n e = n (sym (ap (λ (x : Verdict). x.number) (chain-go {a = v} refl z refl)) ∙ e)

-- a number that a chain gives is given by what follows where its first check does not give it, and the other way round
pub goes_on : (k : ℕ) (v w : Verdict) → v.number ≢ k → (v or_else w).number ≡ k → (v.number ≡ 0) × (w.number ≡ k)
goes_on k v w n e = elim (ℕ_discrete v.number 0) [
  | yes z ↦ (z, ap (λ (x : Verdict). x.number) (chain-go {a = v} refl z refl) ∙ e)
  | no q ↦ absurd (n (ap (λ (x : Verdict). x.number) (chain-stop w refl q) ∙ e))
]

pub ends_there : (k : ℕ) (v w : Verdict) → w.number ≢ k → (v or_else w).number ≡ k → v.number ≡ k
ends_there k v w n e = elim (ℕ_discrete v.number 0) [
  | yes z ↦ absurd (n (ap (λ (x : Verdict). x.number) (chain-go {a = v} refl z refl) ∙ e))
  | no q ↦ ap (λ (x : Verdict). x.number) (chain-stop w refl q) ∙ e
]

-- a number with a place
pub at-lowest : (k : ℕ) (test : ℕ → Bool) (n : ℕ) → AtLowest (suc k) test n
at-lowest k test n = record {
  given = λ h. go (some_below test n) refl h;
  ungiven = λ h. none_below test n (not-refused (some_below test n) k (lowest test n) h);
}
  where
    go : (b : Bool) → some_below test n ≡ b → (refuse_if b (suc k) (lowest test n)).number ≢ 0
        → ((refuse_if b (suc k) (lowest test n)).number ≡ suc k) × ((refuse_if b (suc k) (lowest test n)).place < n)
        × (test (refuse_if b (suc k) (lowest test n)).place ≡ true) × ((i : ℕ) → i < (refuse_if b (suc k) (lowest test n)).place → test i ≡ false)
    go true e h = let l = ltb-true (lowest test n) n e in (refl, l, lowest-passes test n l, below-lowest test n)
    go false e h = absurd (h refl)

-- ---- the measure

pub measure-verdict : (most : Limits) (job : Job) → (measure most job).verdict ≡ check_sound most job true
unfolding measure
measure-verdict most job = go (is_done (check_sound most job true)) refl
  where
    go : (b : Bool) → is_done (check_sound most job true) ≡ b → (measure most job).verdict ≡ check_sound most job true
    go true e = rw (e, measure)
    go false e = rw (e, measure)

-- of a job that passes 1 to 3
module _ (most : Limits) (job : Job) where
  pub sound-contents : 1 ≤ file_count job → 1 ≤ recipe_count job → file_count job ≤ most.files → recipe_count job ≤ most.recipes → pin_count job ≤ most.pins
      → length job.sides ≡ file_count job → length job.marks ≡ file_count job → check_sound most job true ≡ check_contents job
  unfolding check_sound check_contents
  sound-contents c n few-files few-recipes few-pins sides marks =
      let none : (eqb (file_count job) 0 || eqb (recipe_count job) 0) ≡ false = simp (ne_eqb (file_count job) 0 (λ e. omega arith), ne_eqb (recipe_count job) 0 (λ e. omega arith)) in
      let over : (ltb most.files (file_count job) || ltb most.recipes (recipe_count job) || ltb most.pins (pin_count job)) ≡ false =
      simp (le-ltb most.files (file_count job) few-files, le-ltb most.recipes (recipe_count job) few-recipes, le-ltb most.pins (pin_count job) few-pins) in
      let long : (eqb (length job.sides) (file_count job) && eqb (length job.marks) (file_count job) && true) ≡ true =
      and_both (and_both (eq-eqb (length job.sides) (file_count job) sides) (eq-eqb (length job.marks) (file_count job) marks)) refl in
      let counts : done ≡ (refuse_if (empty (file_count job) (recipe_count job)) 1 0 or_else refuse_if (over_most most (file_count job) (recipe_count job) (pin_count job)) 2 0)
      = refuse-go 1 0 none (ap (λ (b : Bool). refuse_if b 2 0) (sym over)) in
      sym (chain-go {a = done} (chain-go {a = done} counts refl (ap (λ (b : Bool). refuse_if (not b) 3 0) (sym long))) refl refl)
