-- A pin's own recipe is the one between whose bounds it stands, so check 5 can go recipe by recipe. Assumes nothing.
use mathlib.Core.Path.{◌≡◌, refl, ap, ap₂, ◌∙◌}
use Prim.Native.Nat.{ℕ, suc, ◌+◌, ◌≤◌, ◌<◌}
use mathlib.Core.List.{List}
use lib.ListN.{length, replicate}
use mathlib.Core.Bool.{Bool, false, ◌&&◌, ◌||◌}
use native.Mathlib.Decide.{dec_lt}
use native.Mathlib.Omega.{arith}
use native.Mathlib.Numerals.{add-one}
use lib.Dec.{leb, ltb, eqb}
use borrow.Author.Tests.{le-leb, lt-leb, lt-ltb, le-ltb}
use Rattle.rules.specs.Lists.{lowest, some_below}
use Rattle.rules.specs.Job.{Job, file_count, recipe_count, pin_count, bound, pin}
use Rattle.rules.specs.Check.{repeats_in, bad_pin}
use Rattle.rules.proofs.Tests.{and-false}
use Rattle.rules.proofs.Views.{bounds-rise}
use Rattle.rules.proofs.Searches.{some_at, Passed, passed_none, passed-end}
use Rattle.job.specs.Pins.{onwards, bad_from, Held}
use Rattle.job.proofs.HoldsOf.{held-since, held_none}
use Rattle.job.proofs.Search.{part_end, part-hit}

-- bounds that pass check 4
pub record Rising (job : Job) : Type 0 where
  pub first : bound job 0 ≡ 0
  pub two : (j : ℕ) → j < recipe_count job → 2 + bound job j ≤ bound job (suc j)
  pub last : bound job (recipe_count job) ≡ pin_count job

module _ (job : Job) (b : Rising job) where
  rising : (i j : ℕ) → i ≤ j → j ≤ recipe_count job → bound job i ≤ bound job j
  rising = bounds-rise job.bounds (recipe_count job) (λ i l. omega (arith, b.two i l))

  module _ (j k : ℕ) (h : j < recipe_count job) (l : bound job j ≤ k) (g : k < bound job (suc j)) where
    other-recipe : (i : ℕ) → i < recipe_count job → (i ≡ j → ⊥) → repeats_in job k i ≡ false
    other-recipe i m z =
        let same = some_below (onwards (bound job i) (λ h. eqb (pin job h) (pin job k))) k in
        elim (dec_lt i j) [
          | yes q ↦
              ap (λ (t : Bool). t && same)
              (ap (λ (t : Bool). leb (bound job i) k && t) (le-ltb k (bound job (suc i)) (omega (arith, rising (suc i) j q (omega arith)))) ∙ and-false (leb (bound job i) k))
          | no q ↦ ap (λ (t : Bool). t && ltb k (bound job (suc i)) && same) (lt-leb (bound job i) k (omega (arith, rising (suc j) i (omega arith) (omega arith))))
        ]

    pub bad-there : bad_pin job k ≡ bad_from (file_count job) job.pins (bound job j) k
    unfolding bad_pin
    bad-there =
        ap (λ (t : Bool). leb (file_count job) (pin job k) || t)
        (some_at (repeats_in job k) (recipe_count job) j h other-recipe
        ∙ ap₂ (λ (s t : Bool). s && t && some_below (onwards (bound job j) (λ i. eqb (pin job i) (pin job k))) k) (le-leb (bound job j) k l) (lt-ltb k (bound job (suc j)) g)
        ∙ held-since job.pins (bound job j) (pin job k) k)

-- ---- the loop over the recipes has come to j
pub record PinsPassed (job : Job) (table₀ table : List ℕ) (j : ℕ) : Type 0 where
  pub among : j ≤ recipe_count job
  pub rising : Rising job
  pub passed : Passed (bad_pin job) (pin_count job) (bound job j)
  pub held : Held (file_count job) job.pins (bound job j) table
  pub length-stays : length table ≡ length table₀

pub pins-none : (job : Job) (most : ℕ) → Rising job → file_count job ≤ most → PinsPassed job (replicate most 0) (replicate most 0) 0
pins-none job most b h = record {
  among = omega arith;
  rising = b;
  passed = rw b.first passed_none;
  held = rw b.first (held_none (file_count job) job.pins most h);
  length-stays = refl;
}

module _ {job : Job} {table₀ table : List ℕ} {j : ℕ} (x : PinsPassed job table₀ table j) where
  pub pins-end : recipe_count job ≤ j → pin_count job ≡ lowest (bad_pin job) (pin_count job)
  pins-end h =
      let q : recipe_count job ≡ j = omega (arith, x.among) in
      passed-end x.passed (omega (arith, x.rising.last, ap (bound job) q))

  -- recipe j has the pins from a up to e
  module _ (h : j < recipe_count job) (a e : ℕ) (p : a ≡ bound job j) (q : e ≡ bound job (j + 1)) where
    next : e ≡ bound job (suc j)
    next = q ∙ ap (bound job) (add-one j)

    pub pins-part : (a ≤ e) × (e ≤ pin_count job) × Held (file_count job) job.pins a table
    pins-part = (omega (arith, next, x.rising.two j h), omega (arith, next, x.rising.last, rising job x.rising (suc j) (recipe_count job) h (omega arith)), rw p x.held)

    module _ (r : ℕ) (s : r ≡ lowest (onwards a (bad_from (file_count job) job.pins a)) e) where
      agree : (k : ℕ) → bound job j ≤ k → k < e → bad_pin job k ≡ bad_from (file_count job) job.pins (bound job j) k
      agree k l g = bad-there job x.rising j k h l (omega (arith, next))

      found : r ≡ lowest (onwards (bound job j) (bad_from (file_count job) job.pins (bound job j))) e
      found = s ∙ ap (λ (i : ℕ). lowest (onwards i (bad_from (file_count job) job.pins i)) e) p

      pub pins-hit : r < e → (r < pin_count job) × (r ≡ lowest (bad_pin job) (pin_count job))
      pins-hit l = (omega (arith, pins-part.1), part-hit x.passed e r pins-part.1 agree found l)

      pub pins-more : (table' : List ℕ) → r ≡ e → Held (file_count job) job.pins e table' → length table' ≡ length table → PinsPassed job table₀ table' (j + 1)
      pins-more table' z held long = record {
        among = omega arith;
        rising = x.rising;
        passed = rw (← q) (part_end x.passed e r pins-part.1 agree found (omega (arith, z)));
        held = rw (← q) held;
        length-stays = long ∙ x.length-stays;
      }
