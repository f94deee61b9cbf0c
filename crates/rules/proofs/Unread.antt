-- What holds where no file is unread, and the job of specs/Unread.antt worked by hand. Assumes nothing.
use mathlib.Core.Path.{◌≡◌, refl, sym, ap, ap₂, ◌∙◌}
use mathlib.Core.Logic.{◌≢◌}
use Prim.Native.Nat.{ℕ, zero, suc, ◌*◌, ◌/◌, ◌≤◌}
use native.Mathlib.Omega.{arith}
use mathlib.Core.Bool.{Bool, true, false, not, ◌||◌}
use mathlib.Core.List.{List, [], ◌∷◌, ◌++◌, map, map-append}
use native.Mathlib.Decide.{dec_lt}
use lib.Dec.{ltb, eqb}
use lib.ListN.{length, get_or, get_or-eq_default}
use borrow.Author.Tests.{ltb-true, ltb-false, lt-ltb, le-ltb, le-leb, ne_eqb}
use Rattle.rules.specs.Lists.{bit, total, count, those, largest, up_to}
use Rattle.rules.specs.Job.{Job, Limits, recipe_count, view_of, view, files, views, is_read, read_in, recipes}
use Rattle.rules.specs.Split.{on_side, size_of, weighs, unread_files, unread_recipes, weight, smax, size_on, count_on, is_cut, cut, times}
use Rattle.rules.specs.Move.{moved, steps_by, file_on, kinds_in, kinds_of, scans_from, scans, visits}
use Rattle.rules.specs.Report.{text, digits_in, spaced, line, first_lines}
use Rattle.rules.specs.Stored.{over_second}
use Rattle.rules.specs.Unread.{AsBefore, NoneUnread, UnreadWorked}
use Rattle.rules.specs.Theorems.{Sound}
use Rattle.rules.proofs.Count.{count-here}
use Rattle.rules.proofs.SoundJob.{view-length}

pub worked : UnreadWorked
unfolding total count those largest up_to view_of files views read_in recipes count_on is_cut cut times unread_files unread_recipes weight smax size_on moved steps_by file_on kinds_in kinds_of scans_from scans visits text digits_in spaced line first_lines
worked = record { read = refl; weighed = refl; most = refl; sizes = (refl, refl); cuts = refl; visited = refl; unread = (refl, refl); told = refl; letter = refl }

-- ---- where no file is unread

-- a number other than 2 is over 2 where it is over 1
over-one : (m : ℕ) → m ≢ 2 → ltb 2 m ≡ ltb 1 m
over-one m n = elim (dec_lt 2 m) [
  | yes l ↦ lt-ltb 2 m l ∙ sym (lt-ltb 1 m (omega arith))
  | no l ↦ le-ltb 2 m (omega arith) ∙ sym (le-ltb 1 m (omega (arith, n)))
]

-- a second value with another mark is over 5 where it is over 3
over-three : (v : ℕ) → v / 2 ≢ 2 → over_second v ≡ ltb 3 v
over-three v n = elim (dec_lt 5 v) [
  | yes l ↦ lt-ltb 5 v l ∙ sym (lt-ltb 3 v (omega arith))
  | no l ↦ le-ltb 5 v (omega arith) ∙ sym (le-ltb 3 v (omega (arith, n)))
]

module _ (job : Job) (read : (f : ℕ) → is_read job f ≡ true) where
  none_in : (r : List ℕ) → count (λ f. not (is_read job f)) r ≡ 0
  unfolding count total
  none_in [] = refl
  none_in (f ∷ r) = rw (read f) (omega (arith, none_in r))

  none_of : (rs : List (List ℕ)) → count (λ r. ltb 0 (count (λ f. not (is_read job f)) r)) rs ≡ 0
  unfolding count total
  none_of [] = refl
  none_of (r ∷ rs) = rw (none_in r) (omega (arith, none_of rs))

-- with the marks of n files, of which none is unread, no recipe holds an unread file
pub none-holding : (job : Job) (n : ℕ) → length job.marks ≤ n → count (λ f. not (is_read job f)) (up_to n) ≡ 0 → unread_recipes job ≡ 0
unfolding unread_recipes
none-holding job n h e = none_of job (λ f. go f (is_read job f) (ltb f n) refl refl) (views job)
  where
    go : (f : ℕ) (b t : Bool) → is_read job f ≡ b → ltb f n ≡ t → is_read job f ≡ true
    go f true t q l = q
    go f false true q l = absurd (count-here (λ x. not (is_read job x)) n f (ltb-true f n l) (ap not q) e)
    go f false false q l = rw (get_or-eq_default job.marks 0 {n = f} (omega (arith, ltb-false f n l, h))) refl

module _ (job : Job) (none : NoneUnread job) where
  all_read : (f : ℕ) → is_read job f ≡ true
  all_read f = ap not (ne_eqb (get_or job.marks f 0) 2 (none f))

  all-those : (r : List ℕ) → those (is_read job) r ≡ r
  unfolding those
  all-those [] = refl
  all-those (f ∷ r) = rw (all_read f, all-those r) refl

  weighs-all : (f : ℕ) → weighs job f ≡ size_of job f
  weighs-all f = rw (all_read f) (omega arith)

  totals-all : (w : ℕ → ℕ) (fs : List ℕ) → total (λ f. w f * weighs job f) fs ≡ total (λ f. w f * size_of job f) fs
  unfolding total
  totals-all w [] = refl
  totals-all w (f ∷ fs) = rw (weighs-all f, totals-all w fs) refl

  total-all : (fs : List ℕ) → total (weighs job) fs ≡ total (size_of job) fs
  unfolding total
  total-all [] = refl
  total-all (f ∷ fs) = rw (weighs-all f, total-all fs) refl

  none-unread : unread_files job ≡ 0
  unfolding unread_files
  none-unread = none_in job all_read (files job)

  -- a recipe of two or more files is whole
  part-whole : (r : List ℕ) → 2 ≤ length r → read_in job r ≡ r
  unfolding read_in
  part-whole r h = rw (all-those r, le-leb 2 (length r) h) refl

  module _ (most : Limits) where
    parts_whole : Sound most job → (n : ℕ) → n ≤ recipe_count job → map (read_in job) (map (view job) (up_to n)) ≡ map (view job) (up_to n)
    unfolding up_to
    parts_whole s zero h = refl
    parts_whole s (suc n) h =
        let last : read_in job (view job n) ≡ view job n = part-whole (view job n) (omega (arith, view-length most job s n h, s.two n h)) in
        ap (map (read_in job)) (map-append (view job) (up_to n) (n ∷ []))
        ∙ map-append (read_in job) (map (view job) (up_to n)) (view job n ∷ [])
        ∙ ap₂ (λ (x : List (List ℕ)) (y : List ℕ). x ++ (y ∷ [])) (parts_whole s n (omega arith)) last
        ∙ sym (map-append (view job) (up_to n) (n ∷ []))

    pub as_before : AsBefore most job
    unfolding recipes views weight size_on unread_recipes first_lines
    as_before = record {
      file = λ f. ap (λ (b : Bool). eqb (size_of job f) 0 || ltb 1 (get_or job.sides f 0) || b) (over-one (get_or job.marks f 0) (none f));
      second = over-three;
      recipes = λ s. parts_whole s (recipe_count job) (omega arith);
      weighs = weighs-all;
      weight = total-all (files job);
      size = λ u sides. totals-all (λ f. bit (on_side sides u f)) (files job);
      unread = none-unread;
      holding = none_of job all_read (map (view job) (up_to (recipe_count job)));
      first = rw none-unread refl;
      letter = λ sides f. rw (all_read f) refl;
    }
