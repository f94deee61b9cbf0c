-- A job that passes checks 1 to 6 is sound, so every law over recipes, sides and locks applies to it. Assumes nothing.
use mathlib.Core.Path.{◌≡◌, refl, sym, ap, ap₂, ◌∙◌}
use mathlib.Core.Logic.{◌≢◌}
use Prim.Native.Nat.{ℕ, zero, suc, ◌+◌, ◌-◌, ◌≤◌, ◌<◌}
use mathlib.Core.Bool.{Bool, false, not, ◌&&◌, ◌||◌}
use mathlib.Core.List.{List, [], map}
use native.Mathlib.Decide.{dec_lt}
use native.Mathlib.Numerals.{add-one}
use native.Mathlib.Omega.{arith}
use lib.Dec.{eqb, leb, ltb}
use lib.ListN.{length, get_or, take, drop, length-take, length-drop, length-map, get_or-eq_default}
use lib.Seq.{get_or-take, get_or-drop}
use borrow.Author.Tests.{ltb-false, leb-false, eqb-true, eqb-false, ne_eqb, lt-ltb, le-ltb, le-leb}
use Rattle.rules.specs.Lists.{total, count, up_to, lowest, some_below}
use Rattle.rules.specs.Job.{Job, Limits, file_count, recipe_count, pin_count, bound, pin, view, views, read_in, recipes}
use Rattle.rules.specs.Split.{size_of, times}
use Rattle.rules.specs.Check.{refuse_if, refuse_at, ◌or_else◌, short, repeats_in, bad_pin, bad_file, bad_ratio, bad_k, empty, over_most, check_counts, check_lists, check_bounds, check_pins, check_files, check_ratio, check_free, may_empty, check_window, check_lengths, check_contents, check_sound, check_goal}
use Rattle.rules.specs.Theorems.{Distinct, Sound}
use Rattle.rules.proofs.Count.{total-map, total-up_to, get_d-mapped, get_d-tabled, length-tabled, times-once}
use Rattle.rules.proofs.Tests.{or_no, and_yes, and_no, not-no}
use Rattle.rules.proofs.Searches.{none_below}
use Rattle.rules.proofs.Verdicts.{passes-both, not-refused}
use Rattle.rules.proofs.Views.{bounds-rise, is-part}
use Rattle.rules.proofs.Readable.{read-distinct}

at_most : (m : ℕ) (l : List ℕ) (n : ℕ) → length l ≡ n → ((i : ℕ) → i < n → get_or l i 0 ≤ m) → (i : ℕ) → get_or l i 0 ≤ m
at_most m l n e h i = elim (dec_lt i n) [
  | yes p ↦ h i p
  | no q ↦ omega (arith, get_or-eq_default l 0 {n = i} (omega arith))
]

-- ---- each check, passed

-- 1 and 2, of a job's counts and of a stored job's header
pub some_of : (c n : ℕ) → empty c n ≡ false → (1 ≤ c) × (1 ≤ n)
some_of c n h =
    let r = or_no (eqb c 0) (eqb n 0) h in
    let a : c ≢ 0 = eqb-false c 0 r.0 in
    let b : n ≢ 0 = eqb-false n 0 r.1 in
    (omega arith, omega arith)

pub few-of : (most : Limits) (c n p : ℕ) → over_most most c n p ≡ false → (c ≤ most.files) × (n ≤ most.recipes) × (p ≤ most.pins)
few-of most c n p h =
    let x = ltb most.files c in
    let y = ltb most.recipes n in
    let z = ltb most.pins p in
    let r = or_no (x || y) z h in
    let q = or_no x y r.0 in
    (ltb-false most.files c q.0, ltb-false most.recipes n q.1, ltb-false most.pins p r.1)

pub counts-pass : (most : Limits) (c n p : ℕ) → (check_counts most c n p).number ≡ 0 → (empty c n ≡ false) × (over_most most c n p ≡ false)
unfolding check_counts
counts-pass most c n p h =
    let r = passes-both (refuse_if (empty c n) 1 0) (refuse_if (over_most most c n p) 2 0) h in
    (not-refused (empty c n) 0 0 r.0, not-refused (over_most most c n p) 1 0 r.1)

module _ (job : Job) where
  pub lists-pass : (lent : Bool) → (check_lists job lent).number ≡ 0 → (length job.sides ≡ file_count job) × (length job.marks ≡ file_count job)
  unfolding check_lists
  lists-pass lent h =
      let a = eqb (length job.sides) (file_count job) in
      let b = eqb (length job.marks) (file_count job) in
      let r = and_yes (a && b) lent (not-no (a && b && lent) (not-refused (not (a && b && lent)) 2 0 h)) in
      let q = and_yes a b r.0 in
      (eqb-true (length job.sides) (file_count job) q.0, eqb-true (length job.marks) (file_count job) q.1)

  pub bounds-pass : (check_bounds job).number ≡ 0
      → (bound job 0 ≡ 0) × ((j : ℕ) → j < recipe_count job → 2 + bound job j ≤ bound job (suc j)) × (bound job (recipe_count job) ≡ pin_count job)
  unfolding check_bounds
  bounds-pass h =
      let n = recipe_count job in
      let a = eqb (bound job 0) 0 in
      let c = eqb (bound job n) (pin_count job) in
      let r = passes-both (refuse_if (not a) 4 0) (refuse_at 4 (short job) n or_else refuse_if (not c) 4 n) h in
      let q = passes-both (refuse_at 4 (short job) n) (refuse_if (not c) 4 n) r.1 in (
        eqb-true (bound job 0) 0 (not-no a (not-refused (not a) 3 0 r.0)),
        (λ j l. ltb-false (bound job (suc j)) (2 + bound job j) (none_below (short job) n (not-refused (some_below (short job) n) 3 (lowest (short job) n) q.0) j l)),
        eqb-true (bound job n) (pin_count job) (not-no c (not-refused (not c) 3 n q.1)),
      )

  pins-pass : (check_pins job).number ≡ 0
      → ((k : ℕ) → k < pin_count job → pin job k < file_count job)
      × ((j i k : ℕ) → j < recipe_count job → bound job j ≤ i → i < k → k < bound job (suc j) → k < pin_count job → pin job i ≢ pin job k)
  unfolding check_pins bad_pin
  pins-pass h =
      let fine : (k : ℕ) → k < pin_count job → bad_pin job k ≡ false
      = none_below (bad_pin job) (pin_count job) (not-refused (some_below (bad_pin job) (pin_count job)) 4 (lowest (bad_pin job) (pin_count job)) h) in
      let parts : (k : ℕ) → k < pin_count job → (leb (file_count job) (pin job k) ≡ false) × (some_below (repeats_in job k) (recipe_count job) ≡ false)
      = λ k l. or_no (leb (file_count job) (pin job k)) (some_below (repeats_in job k) (recipe_count job)) (fine k l) in (
        (λ k l. leb-false (file_count job) (pin job k) (parts k l).0),
        (λ j i k a b c d l.
            let same : ℕ → Bool = λ i. leb (bound job j) i && eqb (pin job i) (pin job k) in
            let r : repeats_in job k j ≡ false = none_below (repeats_in job k) (recipe_count job) (parts k l).1 j a in
            let s = and_no (leb (bound job j) k && ltb k (bound job (suc j))) (some_below same k) r
            (ap₂ (λ (x y : Bool). x && y) (le-leb (bound job j) k (omega arith)) (lt-ltb k (bound job (suc j)) d)) in
            let t = and_no (leb (bound job j) i) (eqb (pin job i) (pin job k)) (none_below same k s i c) (le-leb (bound job j) i b) in
            eqb-false (pin job i) (pin job k) t),
      )

  files-pass : (check_files job).number ≡ 0
      → (f : ℕ) → f < file_count job → (1 ≤ size_of job f) × (get_or job.sides f 0 ≤ 1) × (get_or job.marks f 0 ≤ 2)
  unfolding check_files
  files-pass h f l =
      let a = eqb (size_of job f) 0 in
      let b = ltb 1 (get_or job.sides f 0) in
      let c = ltb 2 (get_or job.marks f 0) in
      let r = or_no (a || b) c (none_below (bad_file job) (file_count job) (not-refused (some_below (bad_file job) (file_count job)) 5 (lowest (bad_file job) (file_count job)) h) f l) in
      let q = or_no a b r.0 in
      let z : size_of job f ≢ 0 = eqb-false (size_of job f) 0 q.0 in
      (omega arith, ltb-false 1 (get_or job.sides f 0) q.1, ltb-false 2 (get_or job.marks f 0) r.1)

-- k, of 7 and of a header
pub good-k : (k n : ℕ) → (refuse_if (bad_k k) (suc n) 0).number ≡ 0 → (1 ≤ k) × (k ≤ 4)
good-k k n h =
    let q = or_no (eqb k 0) (ltb 4 k) (not-refused (bad_k k) n 0 h) in
    let z : k ≢ 0 = eqb-false k 0 q.0 in
    (omega arith, ltb-false 4 k q.1)

pub fine-k : (k : ℕ) → (1 ≤ k) × (k ≤ 4) → bad_k k ≡ false
fine-k k w = rw (ne_eqb k 0 (λ e. omega (arith, w.0)), le-ltb 4 k w.1) refl

-- 7, which no sound job need pass
pub ratio-pass : (most : Limits) (job : Job) → (check_ratio most job).number ≡ 0
    → ((1 ≤ job.num) × (job.num < job.den) × (job.den ≤ most.den)) × ((1 ≤ job.k) × (job.k ≤ 4))
unfolding check_ratio
ratio-pass most job h =
    let both = passes-both (refuse_if (bad_ratio most job) 7 0) (refuse_if (bad_k job.k) 7 0) h in
    let r = or_no (eqb job.num 0 || leb job.den job.num) (ltb most.den job.den) (not-refused (bad_ratio most job) 6 0 both.0) in
    let q = or_no (eqb job.num 0) (leb job.den job.num) r.0 in
    let z : job.num ≢ 0 = eqb-false job.num 0 q.0 in
    ((omega arith, leb-false job.den job.num q.1, ltb-false most.den job.den r.1), good-k job.k 6 both.1)

-- 7, 8 and 10, which stand before 9
pub goal-pass : (most : Limits) (job : Job) → (check_goal most job).number ≡ 0 → ((check_ratio most job).number ≡ 0) × ((check_free job).number ≡ 0) × (may_empty job ≡ false)
unfolding check_goal check_ratio check_free check_window
goal-pass most job h =
    let a = passes-both (check_ratio most job) (check_free job or_else check_window job) h in
    let b = passes-both (check_free job) (check_window job) a.1 in
    (a.0, b.0, not-refused (may_empty job) 9 0 b.1)

-- 1 to 3, and then 4 to 6
pub lengths-pass : (most : Limits) (job : Job) (lent : Bool) → (check_lengths most job lent).number ≡ 0
    → ((1 ≤ file_count job) × (1 ≤ recipe_count job)) × ((file_count job ≤ most.files) × (recipe_count job ≤ most.recipes) × (pin_count job ≤ most.pins))
    × (length job.sides ≡ file_count job) × (length job.marks ≡ file_count job)
unfolding check_lengths check_counts check_lists
lengths-pass most job lent z =
    let a = passes-both (check_counts most (file_count job) (recipe_count job) (pin_count job)) (check_lists job lent) z in
    let counts = counts-pass most (file_count job) (recipe_count job) (pin_count job) a.0 in
    let lists = lists-pass job lent a.1 in
    (some_of (file_count job) (recipe_count job) counts.0, few-of most (file_count job) (recipe_count job) (pin_count job) counts.1, lists.0, lists.1)

-- a job for which the check gives none of 1 to 6
pub sound : (most : Limits) (job : Job) (lent : Bool) → (check_sound most job lent).number ≡ 0 → Sound most job
unfolding check_sound check_lengths check_contents check_bounds check_pins check_files
sound most job lent ok =
    let all = passes-both (check_lengths most job lent) (check_contents job) ok in
    let long = lengths-pass most job lent all.0 in
    let held = passes-both (check_bounds job) (check_pins job or_else check_files job) all.1 in
    let rest = passes-both (check_pins job) (check_files job) held.1 in
    let bounds = bounds-pass job held.0 in
    let pins = pins-pass job rest.0 in
    let files = files-pass job rest.1 in
    record {
      some_file = long.0.0;
      some_recipe = long.0.1;
      few_files = long.1.0;
      few_recipes = long.1.1;
      few_pins = long.1.2;
      sides_long = long.2;
      marks_long = long.3;
      first = bounds.0;
      two = bounds.1;
      last = bounds.2;
      pins_below = pins.0;
      apart = pins.1;
      sizes = λ f h. (files f h).0;
      binary = at_most 1 job.sides (file_count job) long.2 (λ i h. (files i h).1);
      marks = at_most 2 job.marks (file_count job) long.3 (λ i h. (files i h).2);
    }

-- ---- what a sound job has

module _ (most : Limits) (job : Job) (s : Sound most job) where
  pub bound-le : (j : ℕ) → j ≤ recipe_count job → bound job j ≤ pin_count job
  bound-le j h = omega (arith, bounds-rise job.bounds (recipe_count job) (λ i l. omega (arith, s.two i l)) j (recipe_count job) h (omega arith), s.last)

  -- the view of a recipe that is there
  pub view-is : (j : ℕ) → j < recipe_count job → view job j ≡ take (bound job (suc j) - bound job j) (drop (bound job j) job.pins)
  view-is j h =
      sym (is-part job.bounds job.pins j (bound job j) (bound job (suc j)) h refl (ap (bound job) (sym (add-one j))) (omega (arith, s.two j h)) (bound-le (suc j) h))

  pub view-length : (j : ℕ) → j < recipe_count job → length (view job j) ≡ bound job (suc j) - bound job j
  view-length j h =
      rw (view-is j h) (length-take (bound job (suc j) - bound job j) (drop (bound job j) job.pins) ∙ omega (arith, length-drop (bound job j) job.pins, bound-le (suc j) h))

  pub view-at : (j i : ℕ) → j < recipe_count job → i < length (view job j) → get_or (view job j) i 0 ≡ pin job (bound job j + i)
  view-at j i h l =
      let k : i < bound job (suc j) - bound job j = rw (← view-length j h) l in
      ap (λ r. get_or r i 0) (view-is j h) ∙ get_or-take (bound job (suc j) - bound job j) (drop (bound job j) job.pins) i 0 k ∙ get_or-drop (bound job j) job.pins i 0

  -- every pin of a recipe is a file
  pub view-below : (j i : ℕ) → j < recipe_count job → i < length (view job j) → get_or (view job j) i 0 < file_count job
  view-below j i h l = rw (view-at j i h l) (s.pins_below (bound job j + i) (omega (arith, view-length j h, bound-le (suc j) h)))

  view-distinct : (j x : ℕ) → j < recipe_count job → times x (view job j) ≤ 1
  view-distinct j x h =
      times-once (view job j)
      (λ a b p q e.
      s.apart j (bound job j + a) (bound job j + b) h (omega arith) (omega arith) (omega (arith, view-length j h)) (omega (arith, view-length j h, bound-le (suc j) h))
      (sym (view-at j a h (omega arith)) ∙ sym e ∙ view-at j b h q))
      x

  pub views-length : length (views job) ≡ recipe_count job
  unfolding views
  views-length = length-tabled (view job) (recipe_count job)

  pub recipes-length : length (recipes job) ≡ recipe_count job
  unfolding recipes
  recipes-length = length-map (views job) (read_in job) ∙ views-length

  -- recipe j is the readable part of view j
  pub recipe-at : (j : ℕ) → j < recipe_count job → get_or (recipes job) j [] ≡ read_in job (view job j)
  unfolding recipes views
  recipe-at j h = get_d-mapped (read_in job) (map (view job) (up_to (recipe_count job))) j [] [] (rw (length-tabled (view job) (recipe_count job)) h) ∙ ap (read_in job) (get_d-tabled (view job) (recipe_count job) j [] h)

  -- no recipe holds a file twice, whole or in its readable part
  pub views-distinct : Distinct (views job)
  unfolding views
  views-distinct j x = elim (dec_lt j (recipe_count job)) [
    | yes p ↦ rw (get_d-tabled (view job) (recipe_count job) j [] p) (view-distinct j x p)
    | no q ↦ rw (get_or-eq_default (map (view job) (up_to (recipe_count job))) [] {n = j} (rw (length-tabled (view job) (recipe_count job)) (omega arith))) (unfold times count total in omega arith)
  ]

  pub recipes-distinct : Distinct (recipes job)
  unfolding recipes
  recipes-distinct = read-distinct job (views job) views-distinct

  views-up_to : (n : ℕ) → n ≤ recipe_count job → total (λ j. length (view job j)) (up_to n) ≡ bound job n
  views-up_to zero h = unfold up_to total in sym s.first
  views-up_to (suc n) h = omega (arith, total-up_to (λ j. length (view job j)) n, views-up_to n (omega arith), view-length n h, s.two n h)

  -- the recipes' lengths add up to P
  pub views-total : total length (views job) ≡ pin_count job
  unfolding views
  views-total = total-map length (view job) (up_to (recipe_count job)) ∙ views-up_to (recipe_count job) (omega arith) ∙ s.last
