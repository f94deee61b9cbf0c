-- Laws of the differences of any two jobs: what their records say, which there are, and how many at most. Assumes nothing.
use mathlib.Core.Path.{◌≡◌, refl, sym, ap, ap₂, ◌∙◌}
use mathlib.Core.Logic.{◌≢◌}
use Prim.Native.Nat.{ℕ, zero, suc, ◌+◌, ◌-◌, ◌*◌, ◌≤◌, ◌<◌, max}
use mathlib.Core.Bool.{Bool, true, false, cond}
use mathlib.Core.List.{List, [], ◌∷◌, ◌++◌}
use native.Mathlib.Omega.{arith}
use lib.Dec.{eqb}
use lib.ListN.{length, length-append}
use borrow.Author.Tests.{eqb-true, eqb-false, eq-eqb, ne_eqb}
use Rattle.rules.specs.declared.Difference.{Difference}
use Rattle.rules.specs.Lists.{in_turn}
use Rattle.rules.specs.Job.{Job, file_count, recipe_count, view}
use Rattle.rules.specs.Writing.{header_for}
use Rattle.rules.specs.Compare.{difference, figure, head_differences, file_differences, same, recipe_differences, differences}
use Rattle.rules.specs.Comparing.{shown, Told, Has}
use Rattle.rules.proofs.Tests.{clash, and_yes, and_both, contra}
use Rattle.rules.proofs.InTurn.{Every, Entry, every_append, every-in_turn, entry-left, entry-right, entry-in_turn, in_turn-few}

-- ---- the same numbers in the same order

pub same-is : (xs ys : List ℕ) → same xs ys ≡ true → xs ≡ ys
unfolding same
same-is [] [] h = refl
same-is [] (y ∷ ys) h = clash (sym h)
same-is (x ∷ xs) [] h = clash (sym h)
same-is (x ∷ xs) (y ∷ ys) h =
    let r = and_yes (eqb x y) (same xs ys) h in
    ap₂ (λ (z : ℕ) (zs : List ℕ). z ∷ zs) (eqb-true x y r.0) (same-is xs ys r.1)

same_self : (xs : List ℕ) → same xs xs ≡ true
unfolding same
same_self [] = refl
same_self (x ∷ xs) = and_both (eq-eqb x x refl) (same_self xs)

pub is_same : (xs ys : List ℕ) → xs ≡ ys → same xs ys ≡ true
is_same xs ys e = ap (same xs) (sym e) ∙ same_self xs

pub same_not : (xs ys : List ℕ) → same xs ys ≡ false → xs ≢ ys
same_not xs ys h e = clash (sym (is_same xs ys e) ∙ h)

pub not_same : (xs ys : List ℕ) → xs ≢ ys → same xs ys ≡ false
not_same xs ys n = contra (same xs ys) (λ h. n (same-is xs ys h))

-- ---- a record of its own

abbrev nothing : Difference
nothing = difference 0 0 0 0

-- one record where a test fails
if-few : (b : Bool) (d : Difference) → length (cond b [] (d ∷ [])) ≤ 1
if-few true d = omega arith
if-few false d = omega arith

if-every : (P : Difference → Type 0) (b : Bool) (d : Difference) → (b ≡ false → P d) → Every nothing P (cond b [] (d ∷ []))
if-every P true d p i h = absurd (omega arith)
if-every P false d p zero h = p refl
if-every P false d p (suc i) h = absurd (omega arith)

if-entry : (b : Bool) (d : Difference) → b ≡ false → Entry nothing d (cond b [] (d ∷ []))
if-entry b d e = rw e (0, omega arith, refl)

module _ (old new : Job) where
  -- the record of this kind and number
  abbrev record_of : ℕ → ℕ → Difference
  record_of what n = difference what n (shown old what n) (shown new what n)

  abbrev figure_of : ℕ → ℕ → List Difference
  figure_of what n = figure what n (shown old what n) (shown new what n)

  figure-told : (what n : ℕ) → 1 ≤ what → what ≤ 10 → (what ≤ 7 → n ≡ 0) → Every nothing (Told old new) (figure_of what n)
  figure-told what n h l z = if-every (Told old new) (eqb (shown old what n) (shown new what n)) (record_of what n) (λ e. record {
    kind = (h, omega arith);
    before = refl;
    after = refl;
    figures = λ _. eqb-false (shown old what n) (shown new what n) e;
    pins = λ q. absurd (omega arith);
    header = z;
  })

  figure-entry : (what n : ℕ) → shown old what n ≢ shown new what n → Entry nothing (record_of what n) (figure_of what n)
  figure-entry what n h = if-entry (eqb (shown old what n) (shown new what n)) (record_of what n) (ne_eqb (shown old what n) (shown new what n) h)

  -- ---- figures of several kinds, one after the other: the header's are 1 to 7, and a file's are 8 to 10

  abbrev figures : ℕ → ℕ → ℕ → List Difference
  figures n from count = in_turn (λ (i : ℕ). figure_of (from + i) n) count

  head-is : figures 0 1 7 ≡ head_differences (header_for old) (header_for new)
  unfolding in_turn head_differences
  head-is = refl

  file-is : (f : ℕ) → figures f 8 3 ≡ file_differences old new f
  unfolding in_turn file_differences
  file-is f = refl

  abbrev AllTold : List Difference → Type 0
  AllTold ds = Every nothing (Told old new) ds

  figures-told : (n from count : ℕ) → 1 ≤ from → from + count ≤ 11 → (from ≤ 7 → n ≡ 0) → AllTold (figures n from count)
  figures-told n from count h l z =
      every-in_turn nothing (Told old new) (λ (i : ℕ). figure_of (from + i) n) count (λ i q. figure-told (from + i) n (omega arith) (omega arith) (λ k. z (omega arith)))

  figures-entry : (n from count what : ℕ) → from ≤ what → what < from + count → shown old what n ≢ shown new what n → Entry nothing (record_of what n) (figures n from count)
  figures-entry n from count what h l ne =
      let i : ℕ = what - from in
      let e : what ≡ from + i = omega arith in
      entry-in_turn nothing (record_of what n) (λ (k : ℕ). figure_of (from + k) n) count i (omega arith)
      (rw (← e) (figure-entry what n ne))

  figures-few : (n from count : ℕ) → length (figures n from count) ≤ count
  figures-few n from count = omega (arith, in_turn-few 1 (λ (k : ℕ). figure_of (from + k) n) (λ i. if-few (eqb (shown old (from + i) n) (shown new (from + i) n)) (record_of (from + i) n)) count)

  -- ---- each record is true

  recipe-told : (j : ℕ) → AllTold (recipe_differences old new j)
  unfolding recipe_differences
  recipe-told j = if-every (Told old new) (same (view old j) (view new j)) (record_of 11 j) (λ e. record {
    kind = (omega arith, omega arith);
    before = refl;
    after = refl;
    figures = λ n. absurd (n refl);
    pins = λ _. same_not (view old j) (view new j) e;
    header = λ l. absurd (omega arith);
  })

  abbrev heads : List Difference
  heads = head_differences (header_for old) (header_for new)

  abbrev of_files : List Difference
  of_files = in_turn (file_differences old new) (max (file_count old) (file_count new))

  abbrev of_recipes : List Difference
  of_recipes = in_turn (recipe_differences old new) (max (recipe_count old) (recipe_count new))

  pub all_told : AllTold (differences old new)
  unfolding differences
  all_told =
      let P : Difference → Type 0 = Told old new in
      every_append nothing P (heads ++ of_files) of_recipes
      (every_append nothing P heads of_files
      (rw (← head-is) (figures-told 0 1 7 (omega arith) (omega arith) (λ _. refl)))
      (every-in_turn nothing P (file_differences old new) _ (λ f _. rw (← file-is f) (figures-told f 8 3 (omega arith) (omega arith) (λ l. absurd (omega arith))))))
      (every-in_turn nothing P (recipe_differences old new) _ (λ j _. recipe-told j))

  -- ---- and each difference has its record

  pub head-has : (what : ℕ) → 1 ≤ what → what ≤ 7 → shown old what 0 ≢ shown new what 0 → Has old new what 0
  unfolding differences
  head-has what h l ne =
      let d : Difference = record_of what 0 in
      entry-left nothing d (heads ++ of_files) of_recipes (entry-left nothing d heads of_files (rw (← head-is) (figures-entry 0 1 7 what h (omega arith) ne)))

  pub file-has : (what f : ℕ) → 8 ≤ what → what ≤ 10 → f < max (file_count old) (file_count new) → shown old what f ≢ shown new what f → Has old new what f
  unfolding differences
  file-has what f h l below ne =
      let d : Difference = record_of what f in
      entry-left nothing d (heads ++ of_files) of_recipes
      (entry-right nothing d heads of_files
      (entry-in_turn nothing d (file_differences old new) (max (file_count old) (file_count new)) f below (rw (← file-is f) (figures-entry f 8 3 what h (omega arith) ne))))

  recipe-entry : (j : ℕ) → view old j ≢ view new j → Entry nothing (record_of 11 j) (recipe_differences old new j)
  unfolding recipe_differences
  recipe-entry j ne = if-entry (same (view old j) (view new j)) (record_of 11 j) (not_same (view old j) (view new j) ne)

  pub recipe-has : (j : ℕ) → j < max (recipe_count old) (recipe_count new) → view old j ≢ view new j → Has old new 11 j
  unfolding differences
  recipe-has j below ne =
      entry-right nothing (record_of 11 j) (heads ++ of_files) of_recipes
      (entry-in_turn nothing (record_of 11 j) (recipe_differences old new) (max (recipe_count old) (recipe_count new)) j below (recipe-entry j ne))

  -- ---- how many there are at most

  recipe-few : (j : ℕ) → length (recipe_differences old new j) ≤ 1
  unfolding recipe_differences
  recipe-few j = if-few (same (view old j) (view new j)) (record_of 11 j)

  pub differences-few : length (differences old new) ≤ 7 + 3 * max (file_count old) (file_count new) + max (recipe_count old) (recipe_count new)
  unfolding differences
  differences-few =
      let c : ℕ = max (file_count old) (file_count new) in
      let n : ℕ = max (recipe_count old) (recipe_count new) in
      let a : length heads ≤ 7 = rw (← head-is) (figures-few 0 1 7) in
      let b : length of_files ≤ 3 * c = in_turn-few 3 (file_differences old new) (λ f. rw (← file-is f) (figures-few f 8 3)) c in
      let e : length of_recipes ≤ 1 * n = in_turn-few 1 (recipe_differences old new) recipe-few n in
      omega (arith, length-append (heads ++ of_files) of_recipes, length-append heads of_files)
