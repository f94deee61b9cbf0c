-- What the bounds and pins of a sound job say of its recipes. Assumes nothing.
use mathlib.Core.Path.{◌≡◌, refl, sym, ap, ap₂, ◌∙◌}
use Prim.Native.Nat.{ℕ, zero, suc, ◌+◌, ◌-◌, ◌≤◌, ◌<◌}
use mathlib.Core.Bool.{Bool, true, false, cond}
use mathlib.Core.List.{List, [], ◌++◌}
use native.Mathlib.Omega.{arith}
use native.Mathlib.Numerals.{add-one}
use lib.ListN.{length, get_or, take, drop, length-map}
use lib.Seq.{take-add, take_all}
use lib.Dec.{leb, eqb}
use Rattle.rules.specs.Lists.{bit, total, count, those, up_to, AllBelow}
use Rattle.rules.specs.Job.{view_of, read_in}
use Rattle.rules.specs.Split.{times}
use Rattle.rules.proofs.Views.{bounds-rise, is-part}
use Rattle.rules.proofs.Count.{total-append, total-map, total-le, total-up_to, get_d-mapped, get_d-tabled, length-tabled}
use Rattle.rules.specs.Theorems.{Distinct}
use Rattle.rules.proofs.Readable.{read-times, read-distinct}
use Rattle.job.specs.Parts.{of_marked}
use Rattle.tables.specs.Zones.{part}
use Rattle.tables.specs.declared.sound_job.SoundJob.{SoundJob}
use Rattle.tables.specs.Building.{views_of, readable, two_readable, Buildable}
use Rattle.tables.specs.SoundJob.{read_recipes, many_files, many_recipes}
use Rattle.tables.proofs.Parts.{part_length, part-entry}

pub times-append : (f : ℕ) (a b : List ℕ) → times f (a ++ b) ≡ times f a + times f b
unfolding times count
times-append f a b = total-append (λ x. bit (eqb x f)) a b

module _ (job : SoundJob) where
  abbrev bounds : List ℕ
  bounds = job.recipes.bounds.now

  abbrev pins : List ℕ
  pins = job.recipes.pins.now

  abbrev marks : List ℕ
  marks = job.marks.now

  abbrev able : Buildable bounds pins (many_files job)
  able = job.buildable

  -- the two bounds of a recipe that is there are in order and within the pins
  bounds-fit : (j : ℕ) → j < length bounds - 1 → (get_or bounds j 0 ≤ get_or bounds (j + 1) 0) × (get_or bounds (j + 1) 0 ≤ length pins)
  bounds-fit j h =
      let rise = bounds-rise bounds (length bounds - 1) able.rise in
      (rise j (j + 1) (omega arith) (omega arith), omega (arith, rise (j + 1) (length bounds - 1) (omega arith) (omega arith), able.last))

  view-part : (j : ℕ) → j < length bounds - 1 → view_of bounds pins j ≡ part (get_or bounds j 0) (get_or bounds (j + 1) 0 - get_or bounds j 0) pins
  view-part j h = let f = bounds-fit j h in sym (is-part bounds pins j (get_or bounds j 0) (get_or bounds (j + 1) 0) h refl refl f.0 f.1)

  view-length : (j : ℕ) → j < length bounds - 1 → length (view_of bounds pins j) ≡ get_or bounds (j + 1) 0 - get_or bounds j 0
  view-length j h = ap length (view-part j h) ∙ part_length (get_or bounds j 0) (get_or bounds (j + 1) 0 - get_or bounds j 0) pins (omega (arith, bounds-fit j h))

  -- every pin of it is a file
  view-file : (j k : ℕ) → j < length bounds - 1 → k < length (view_of bounds pins j) → get_or (view_of bounds pins j) k 0 < many_files job
  view-file j k h l =
      let m : k < get_or bounds (j + 1) 0 - get_or bounds j 0 = omega (arith, view-length j h) in
      rw (view-part j h, part-entry (get_or bounds j 0) (get_or bounds (j + 1) 0 - get_or bounds j 0) pins k m) (able.files (get_or bounds j 0 + k) (omega (arith, bounds-fit j h)))

  times-up_to-bound : (f n : ℕ) → n ≤ length bounds - 1 → total (λ j. times f (view_of bounds pins j)) (up_to n) ≡ times f (take (get_or bounds n 0) pins)
  times-up_to-bound f zero h = unfold up_to total in rw able.first (unfold times count total in refl)
  times-up_to-bound f (suc n) h =
      let a = get_or bounds n 0 in
      let b = get_or bounds (suc n) 0 in
      let r = able.rise n h in
      let e : a + (b - a) ≡ b = omega arith in
      let t : take b pins ≡ take a pins ++ take (b - a) (drop a pins) = ap (λ (m : ℕ). take m pins) (sym e) ∙ take-add a (b - a) pins in
      let v : view_of bounds pins n ≡ take (b - a) (drop a pins) = rw (← add-one n) (view-part n h) in
      total-up_to (λ j. times f (view_of bounds pins j)) n
      ∙ ap₂ ◌+◌ (times-up_to-bound f n (omega arith)) (ap (times f) v)
      ∙ sym (ap (times f) t ∙ times-append f (take a pins) (take (b - a) (drop a pins)))

  -- the pins are the recipes one after the other, so they have a file as often as all recipes together
  times-recipes : (f : ℕ) → total (times f) (views_of bounds pins) ≡ times f pins
  times-recipes f =
      total-map (times f) (view_of bounds pins) (up_to (length bounds - 1))
      ∙ times-up_to-bound f (length bounds - 1) (omega arith)
      ∙ ap (times f) (ap (λ (m : ℕ). take m pins) able.last ∙ take_all (length pins) pins (omega arith))

  -- ---- by the marks

  abbrev read : List ℕ → List ℕ
  read = read_in (of_marked marks bounds pins)

  pub read-long : length (read_recipes job) ≡ length bounds - 1
  read-long = length-map (views_of bounds pins) read ∙ length-tabled (view_of bounds pins) (length bounds - 1)

  pub read-once : Distinct (read_recipes job)
  read-once = read-distinct (of_marked marks bounds pins) (views_of bounds pins) able.distinct

  -- no file more often than the pins have it
  pub times-read : (f : ℕ) → total (times f) (read_recipes job) ≤ times f pins
  times-read f =
      omega (
        arith,
        total-map (times f) read (views_of bounds pins),
        total-le (times f) (λ r. times f (read r)) (read-times (of_marked marks bounds pins) f) (views_of bounds pins),
        times-recipes f,
      )

  two-readable-read : (r : List ℕ) → read r ≡ readable marks (two_readable marks r)
  unfolding read_in those
  two-readable-read r = go (leb 2 (length (readable marks r)))
    where
      go : (b : Bool) → cond b (readable marks r) [] ≡ readable marks (cond b r [])
      go true = refl
      go false = refl

  -- recipe j, as it may be scanned
  module _ {j : ℕ} (h : j < many_recipes job) {own : List ℕ} (is : own ≡ two_readable marks (view_of bounds pins j)) where
    pub own_read : readable marks own ≡ get_or (read_recipes job) j []
    own_read =
        ap (readable marks) is ∙ sym (two-readable-read (view_of bounds pins j))
        ∙ sym (get_d-mapped read (views_of bounds pins) j [] [] (rw (length-tabled (view_of bounds pins) (length bounds - 1)) h)
        ∙ ap read (get_d-tabled (view_of bounds pins) (length bounds - 1) j [] h))

    pub own-file : (k : ℕ) → k < length own → get_or own k 0 < many_files job
    own-file = rw is (go (leb 2 (length (readable marks (view_of bounds pins j)))))
      where
        go : (b : Bool) → AllBelow (many_files job) (cond b (view_of bounds pins j) [])
        go true k l = view-file j k h l
        go false k l = absurd (omega arith)

    pub own-short : length own ≤ length pins
    own-short = rw is (go (leb 2 (length (readable marks (view_of bounds pins j)))))
      where
        go : (b : Bool) → length (cond b (view_of bounds pins j) []) ≤ length pins
        go true = omega (arith, view-length j h, bounds-fit j h)
        go false = omega arith
