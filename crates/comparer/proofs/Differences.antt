-- What is noted file by file and recipe by recipe, and the differences of two jobs as their headers', their files' and their recipes'. Assumes nothing.
use Rattle.std.proofs.Common.{◌≡◌, refl, sym, ap, ap₂, ℕ, suc, ◌+◌, ◌-◌, ◌≤◌, max, Bool, true, false, cond, ◌&&◌}
use Rattle.std.proofs.Common.{List, [], ◌∷◌, ◌++◌, length, get_or, take, drop, leb, ltb, eqb, length-drop, arith}
use lib.ListN.{length-take}
use lib.Seq.{length-take-le}
use lib.Pointwise.{pointwise}
use Rattle.rules.specs.declared.Header.{Header}
use Rattle.rules.specs.declared.Difference.{Difference}
use Rattle.rules.specs.Lists.{in_turn}
use Rattle.rules.specs.Job.{Job, Limits, view, view_of}
use Rattle.rules.specs.Split.{side_of, size_of}
use Rattle.rules.specs.Writing.{header_for}
use Rattle.rules.specs.Compare.{difference, figure, head_differences, file_differences, same, recipe_differences, differences}
use Rattle.stored.specs.declared.taken.TakenUp.{TakenUp}
use Rattle.stored.specs.Steps.{job_taken, Held}
use Rattle.comparer.specs.declared.notes.Notes.{Notes}
use Rattle.comparer.specs.Finding.{Adds}
use Rattle.comparer.proofs.Noted.{adds-as, adds-then}

-- ---- a file

pub file-adds : (old new : Job) (f : ℕ) {a b c d : Notes} {x y z x' y' z' : ℕ}
    → x ≡ size_of old f → x' ≡ size_of new f → y ≡ side_of old.sides f → y' ≡ side_of new.sides f → z ≡ get_or old.marks f 0 → z' ≡ get_or new.marks f 0
    → Adds 1 a (figure 8 f x x') b → Adds 1 b (figure 9 f y y') c → Adds 1 c (figure 10 f z z') d → Adds 3 a (file_differences old new f) d
unfolding file_differences
file-adds old new f p p' q q' r r' u v w =
    adds-then (adds-then (adds-as (ap₂ (figure 8 f) p p') u) (adds-as (ap₂ (figure 9 f) q q') v)) (adds-as (ap₂ (figure 10 f) r r') w)

-- ---- a recipe

if-few : (b : Bool) (xs : List ℕ) (n : ℕ) → length xs ≤ n → length (cond b xs []) ≤ n
if-few true xs n h = h
if-few false xs n h = omega arith

-- a part of the pins
pub view-part : (bounds pins : List ℕ) (j : ℕ) → length (view_of bounds pins j) ≤ length pins
unfolding view_of
view-part bounds pins j =
    let a = get_or bounds j 0 in
    let b = get_or bounds (suc j) 0 in
    if-few (ltb (suc j) (length bounds) && leb a b && leb b (length pins)) (take (b - a) (drop a pins)) (length pins)
    (omega (arith, length-take (b - a) (drop a pins), length-drop a pins))

-- of a job that was taken up
pub view-few : (t : TakenUp) (bounds : List ℕ) {pins view : List ℕ} (j : ℕ) → pins ≡ take t.header.pins t.pins → view ≡ view_of bounds pins j → length view ≤ t.header.pins
view-few t bounds {pins} j p e = omega (arith, ap length e, view-part bounds pins j, ap length p, length-take t.header.pins t.pins)

-- what a test of two slices has told
pub same_pointwise : (xs ys : List ℕ) → same xs ys ≡ pointwise eqb xs ys
unfolding same
same_pointwise [] [] = refl
same_pointwise [] (y ∷ ys) = refl
same_pointwise (x ∷ xs) [] = refl
same_pointwise (x ∷ xs) (y ∷ ys) = ap (λ (b : Bool). eqb x y && b) (same_pointwise xs ys)

-- a record where the pin sequences differ
pub recipe-is : (old new : Job) (j : ℕ) {a b : List ℕ} {alike : Bool} → a ≡ view old j → b ≡ view new j → alike ≡ same a b
    → cond alike [] (difference 11 j (length a) (length b) ∷ []) ≡ recipe_differences old new j
unfolding recipe_differences
recipe-is old new j p q e = rw (← p, ← q, e) refl

-- ---- two jobs that were taken up

module _ (most : Limits) where
  header-own : (t : TakenUp) → Held most t → t.header ≡ header_for (job_taken t)
  header-own t w =
      let h = t.header in
      let files : h.files ≡ length (take h.files t.sizes) = sym (length-take-le h.files t.sizes w.enough.sizes) in
      let recipes : h.recipes ≡ length (take (h.recipes + 1) t.bounds) - 1 = omega (arith, length-take-le (h.recipes + 1) t.bounds w.enough.bounds) in
      let pins : h.pins ≡ length (take h.pins t.pins) = sym (length-take-le h.pins t.pins w.enough.pins) in
      λ i. record { files = files i; recipes = recipes i; pins = pins i; num = h.num; den = h.den; cap = h.cap; k = h.k }

  pub differences-are : (t u : TakenUp) → Held most t → Held most u
      → head_differences t.header u.header
      ++ in_turn (file_differences (job_taken t) (job_taken u)) (max t.header.files u.header.files)
      ++ in_turn (recipe_differences (job_taken t) (job_taken u)) (max t.header.recipes u.header.recipes)
      ≡ differences (job_taken t) (job_taken u)
  unfolding differences
  differences-are t u p q =
      let by : Header → Header → List Difference = λ g h.
      head_differences g h
      ++ in_turn (file_differences (job_taken t) (job_taken u)) (max g.files h.files)
      ++ in_turn (recipe_differences (job_taken t) (job_taken u)) (max g.recipes h.recipes) in
      ap₂ by (header-own t p) (header-own u q)
