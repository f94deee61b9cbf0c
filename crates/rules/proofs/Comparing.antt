-- Order 7: no differences are found exactly between two jobs that are one, and what the call and the program tell. Assumes nothing.
use mathlib.Core.Path.{◌≡◌, refl, sym, ap, ap₂, ◌∙◌}
use mathlib.Core.Logic.{◌≢◌}
use Prim.Native.Nat.{ℕ, zero, suc, ◌+◌, ◌-◌, ◌*◌, ◌≤◌, ◌<◌, max}
use mathlib.Core.Bool.{cond}
use mathlib.Core.List.{List, [], ◌∷◌, ◌++◌}
use native.Mathlib.Decide.{ℕ_discrete, dec_lt}
use native.Mathlib.Omega.{arith}
use lib.ListN.{length, get_or, take, length-append, get_or-eq_default}
use lib.Seq.{ext_get_or, take_all, take-add}
use borrow.Author.Tests.{eq-eqb, ne_eqb, le-leb, lt-leb}
use Rattle.rules.specs.declared.Verdict.{Verdict}
use Rattle.rules.specs.declared.Difference.{Difference}
use Rattle.rules.specs.Lists.{in_turn, onto, AllBelow}
use Rattle.rules.specs.Job.{Job, Limits, file_count, recipe_count, bound, view_of, view}
use Rattle.rules.specs.Check.{done, is_done}
use Rattle.rules.specs.Stored.{job_of}
use Rattle.rules.specs.Report.{text, spaced, digits, line, all_room}
use Rattle.rules.specs.Theorems.{Sound, most_bytes}
use Rattle.rules.specs.Compare.{same, head_differences, file_differences, recipe_differences, differences, read_for, Comparing, compared, comparing_of, comparing_jobs, comparing, difference_line, difference_lines, refused_of, compares}
use Rattle.rules.specs.Comparing.{shown, record_at, Told, Has, DifferencesHold, CompareHolds, CompareWorked}
use Rattle.rules.proofs.Tests.{contra'}
use Rattle.rules.proofs.Views.{none-past}
use Rattle.rules.proofs.SoundJob.{view-is, view-length}
use Rattle.rules.proofs.Refusals.{never-read}
use Rattle.rules.proofs.Reading.{read-holds}
use Rattle.rules.proofs.CutOff.{cut-same}
use Rattle.rules.proofs.RoundTrip.{back-holds}
use Rattle.rules.proofs.InTurn.{in_turn-same}
use Rattle.rules.proofs.Compare.{same-is, same_not, all_told, head-has, file-has, recipe-has, differences-few}

pub worked : CompareWorked
unfolding in_turn view_of same head_differences file_differences recipe_differences differences
worked = record { night = refl; order = refl; less = refl }

-- ---- a sound job is its figures, its files and its recipes

module _ (most : Limits) (job : Job) (s : Sound most job) where
  views-take : (n : ℕ) → n ≤ recipe_count job → in_turn (view job) n ≡ take (bound job n) job.pins
  unfolding in_turn
  views-take zero h = rw s.first refl
  views-take (suc n) h =
      let e : bound job n + (bound job (suc n) - bound job n) ≡ bound job (suc n) = omega (arith, s.two n h) in
      ap₂ (λ (x y : List ℕ). x ++ y) (views-take n (omega arith)) (view-is most job s n h)
      ∙ sym (take-add (bound job n) (bound job (suc n) - bound job n) job.pins)
      ∙ ap (λ (k : ℕ). take k job.pins) e

  -- the pins are the recipes one after the other
  views-pins : in_turn (view job) (recipe_count job) ≡ job.pins
  views-pins = views-take (recipe_count job) (omega arith) ∙ take_all (bound job (recipe_count job)) job.pins (omega (arith, s.last))

  bound-next : (j : ℕ) → j < recipe_count job → bound job (suc j) ≡ bound job j + length (view job j)
  bound-next j h = omega (arith, view-length most job s j h, s.two j h)

  -- a file that it lacks reads as zeros
  zeros : (i f : ℕ) → i ≤ 2 → file_count job ≤ f → shown job (8 + i) f ≡ 0
  zeros zero f h l = get_or-eq_default job.sizes 0 {n = f} l
  zeros (suc zero) f h l = get_or-eq_default job.sides 0 {n = f} (omega (arith, s.sides_long))
  zeros (suc (suc zero)) f h l = get_or-eq_default job.marks 0 {n = f} (omega (arith, s.marks_long))
  zeros (suc (suc (suc i))) f h l = absurd (omega arith)

  lacked : (what f : ℕ) → 8 ≤ what → what ≤ 10 → file_count job ≤ f → shown job what f ≡ 0
  lacked what f h l q = let e : 8 + (what - 8) ≡ what = omega arith in rw e at (zeros (what - 8) f (omega arith) q)

-- lists entry by entry
by_entries : (xs ys : List ℕ) {m n : ℕ} → length xs ≡ m → length ys ≡ n → m ≡ n → ((i : ℕ) → i < m → get_or xs i 0 ≡ get_or ys i 0) → xs ≡ ys
by_entries xs ys p q e h = ext_get_or 0 xs ys (p ∙ e ∙ sym q) (λ i l. h i (omega arith))

module _ (most : Limits) (old new : Job) (s : Sound most old) (t : Sound most new) where
  file-record : (what f : ℕ) → 8 ≤ what → what ≤ 10 → shown old what f ≢ shown new what f → Has old new what f
  file-record what f h l ne = elim (dec_lt f (max (file_count old) (file_count new))) [
    | yes p ↦ file-has old new what f h l p ne
    | no q ↦ absurd (ne (lacked most old s what f h l (omega arith) ∙ sym (lacked most new t what f h l (omega arith))))
  ]

  recipe-record : (j : ℕ) → view old j ≢ view new j → Has old new 11 j
  recipe-record j ne = elim (dec_lt j (max (recipe_count old) (recipe_count new))) [
    | yes p ↦ recipe-has old new j p ne
    | no q ↦ absurd (ne (sym (none-past old.bounds old.pins j (omega arith)) ∙ none-past new.bounds new.pins j (omega arith)))
  ]

  module _ (none : differences old new ≡ []) where
    no_record : (what n : ℕ) → Has old new what n → ⊥
    no_record what n (i, h, e) = omega (arith, ap length none)

    figure-agrees : (what n : ℕ) → (shown old what n ≢ shown new what n → Has old new what n) → shown old what n ≡ shown new what n
    figure-agrees what n has = elim (ℕ_discrete (shown old what n) (shown new what n)) [
      | yes e ↦ e
      | no ne ↦ absurd (no_record what n (has ne))
    ]

    header-agrees : (what : ℕ) → 1 ≤ what → what ≤ 7 → shown old what 0 ≡ shown new what 0
    header-agrees what h l = figure-agrees what 0 (head-has old new what h l)

    file-agrees : (what f : ℕ) → 8 ≤ what → what ≤ 10 → shown old what f ≡ shown new what f
    file-agrees what f h l = figure-agrees what f (file-record what f h l)

    view-agrees : (j : ℕ) → view old j ≡ view new j
    view-agrees j = same-is (view old j) (view new j) (contra' (same (view old j) (view new j)) (λ e. no_record 11 j (recipe-record j (same_not (view old j) (view new j) e))))

    files-agree : file_count old ≡ file_count new
    files-agree = header-agrees 1 (omega arith) (omega arith)

    recipes-agree : recipe_count old ≡ recipe_count new
    recipes-agree = header-agrees 2 (omega arith) (omega arith)

    bound-agrees : (j : ℕ) → j ≤ recipe_count old → bound old j ≡ bound new j
    bound-agrees zero h = s.first ∙ sym t.first
    bound-agrees (suc j) h =
        bound-next most old s j h ∙ ap₂ ◌+◌ (bound-agrees j (omega arith)) (ap length (view-agrees j)) ∙ sym (bound-next most new t j (omega (arith, recipes-agree)))

    bounds-agree : old.bounds ≡ new.bounds
    bounds-agree = by_entries old.bounds new.bounds refl refl (omega (arith, recipes-agree, s.some_recipe, t.some_recipe)) (λ i l. bound-agrees i (omega arith))

    pins-agree : old.pins ≡ new.pins
    pins-agree =
        sym (views-pins most old s) ∙ in_turn-same (view old) (view new) (recipe_count old) (λ j _. view-agrees j)
        ∙ ap (in_turn (view new)) recipes-agree ∙ views-pins most new t

    one-job : old ≡ new
    one-job = λ k. record {
      sizes = by_entries old.sizes new.sizes refl refl files-agree (λ f _. file-agrees 8 f (omega arith) (omega arith)) k;
      sides = by_entries old.sides new.sides s.sides_long t.sides_long files-agree (λ f _. file-agrees 9 f (omega arith) (omega arith)) k;
      marks = by_entries old.marks new.marks s.marks_long t.marks_long files-agree (λ f _. file-agrees 10 f (omega arith) (omega arith)) k;
      bounds = bounds-agree k;
      pins = pins-agree k;
      num = header-agrees 4 (omega arith) (omega arith) k;
      den = header-agrees 5 (omega arith) (omega arith) k;
      cap = header-agrees 6 (omega arith) (omega arith) k;
      k = header-agrees 7 (omega arith) (omega arith) k;
    }

-- of one job no record is true
untrue : (job : Job) (d : Difference) → Told job job d → ⊥
untrue job d w = elim (ℕ_discrete d.what 11) [
  | yes e ↦ w.pins e refl
  | no n ↦ w.figures n (w.before ∙ sym w.after)
]

none-itself : (job : Job) → differences job job ≡ []
none-itself job = go (differences job job) (all_told job job)
  where
    go : (ds : List Difference) → ((i : ℕ) → i < length ds → Told job job (record_at ds i)) → ds ≡ []
    go [] h = refl
    go (d ∷ ds) h = absurd (untrue job d (h 0 (omega arith)))

none_alike : (old new : Job) → old ≡ new → differences old new ≡ []
none_alike old new e = ap (differences old) (sym e) ∙ none-itself old

pub differences-hold : (most : Limits) (old new : Job) → Sound most old → Sound most new → DifferencesHold most old new
differences-hold most old new s t = record {
  told = all_told old new;
  header = head-has old new;
  files = file-record most old new s t;
  recipes = recipe-record most old new s t;
  none = one-job most old new s t;
  alike = none_alike old new;
  few = omega (arith, differences-few old new, s.few_files, t.few_files, s.few_recipes, t.few_recipes);
}

-- ---- the call

-- reading never gives 30
read-never : (most : Limits) (bytes : List ℕ) → (read_for most bytes).number ≢ 30
read-never most bytes = never-read most bytes (all_room most) 30 (omega arith) (omega arith) (omega arith) (omega arith)

module _ (most : Limits) (old new : List ℕ) (room : List Difference) where
  abbrev found : List Difference
  found = differences (job_of old) (job_of new)

  abbrev outcome : Comparing
  outcome = comparing most old new room

  first-refused : (read_for most old).number ≢ 0 → outcome ≡ comparing_of (compared 1 (read_for most old) 0) room
  unfolding comparing
  first-refused n = rw (ne_eqb (read_for most old).number 0 n) refl

  module _ (ok : (read_for most old).number ≡ 0) where
    second-refused : (read_for most new).number ≢ 0 → outcome ≡ comparing_of (compared 2 (read_for most new) 0) room
    unfolding comparing
    second-refused n = rw (eq-eqb (read_for most old).number 0 ok, ne_eqb (read_for most new).number 0 n) refl

    module _ (fine : (read_for most new).number ≡ 0) where
      both_read : outcome ≡ comparing_jobs (job_of old) (job_of new) room
      unfolding comparing
      both_read = rw (eq-eqb (read_for most old).number 0 ok, eq-eqb (read_for most new).number 0 fine) refl

      too_short : length room < length found → outcome ≡ comparing_of (compared 0 (record { number = 30; place = 0 }) (length found)) room
      too_short h = both_read ∙ unfold comparing_jobs in rw (lt-leb (length found) (length room) h) refl

      all_made : length found ≤ length room → outcome ≡ comparing_of (compared 0 done (length found)) (onto found room)
      all_made h = both_read ∙ unfold comparing_jobs in rw (le-leb (length found) (length room) h) refl

      both-sound : DifferencesHold most (job_of old) (job_of new)
      both-sound =
          differences-hold most (job_of old) (job_of new) ((read-holds most old (all_room most)).sound ok) ((read-holds most new (all_room most)).sound fine)

      equal-bytes : AllBelow 256 old → AllBelow 256 new → found ≡ [] → old ≡ new
      equal-bytes p q e = (back-holds most old (all_room most) p).one new (all_room most) q ok fine (both-sound.none e)

  never-short : 7 + 3 * most.files + most.recipes ≤ length room → outcome.answer.verdict.number ≢ 30
  never-short h = elim (ℕ_discrete (read_for most old).number 0) [
    | no n ↦ rw (first-refused n) (read-never most old)
    | yes ok ↦ elim (ℕ_discrete (read_for most new).number 0) [
      | no n ↦ rw (second-refused ok n) (read-never most new)
      | yes fine ↦ rw (all_made ok fine (omega (arith, (both-sound ok fine).few))) (omega arith)
    ]
  ]

-- ---- the program

-- a line is not empty
some-line : (xs ys : List ℕ) → 1 ≤ length (xs ++ ys ++ (10 ∷ []))
some-line xs ys = omega (arith, length-append (xs ++ ys) (10 ∷ []))

refused-some : (job : ℕ) (v : Verdict) → refused_of job v ≢ []
unfolding refused_of line
refused-some job v e = omega (arith, some-line (text "refused") (spaced (job ∷ v.number ∷ v.place ∷ [])), ap length e)

line-some : (d : Difference) → 1 ≤ length (difference_line d)
unfolding difference_line
line-some d = some-line (digits d.what) (spaced (d.number ∷ d.old ∷ d.new ∷ []))

lines_none : (ds : List Difference) → difference_lines ds ≡ [] → ds ≡ []
unfolding difference_lines
lines_none [] e = refl
lines_none (d ∷ ds) e = absurd (omega (arith, line-some d, length-append (difference_line d) (difference_lines ds), ap length e))

module _ (most : Limits) where
  pub prints-first : (old new : List ℕ) → (read_for most old).number ≢ 0 → compares most old new ≡ refused_of 1 (read_for most old)
  unfolding compares
  prints-first old new n = rw (ne_eqb (read_for most old).number 0 n) refl

  -- of a second job refused as w, after this verdict of the first
  abbrev pub after : Verdict → Verdict → List ℕ
  after v w = cond (is_done v) (refused_of 2 w) (refused_of 1 v)

  pub prints-second : (old new : List ℕ) → (read_for most new).number ≢ 0 → compares most old new ≡ after (read_for most old) (read_for most new)
  unfolding compares
  prints-second old new n = rw (ne_eqb (read_for most new).number 0 n) refl

  pub prints-lines : (old new : List ℕ) → (read_for most old).number ≡ 0 → (read_for most new).number ≡ 0 → compares most old new ≡ difference_lines (differences (job_of old) (job_of new))
  unfolding compares
  prints-lines old new ok fine = rw (eq-eqb (read_for most old).number 0 ok, eq-eqb (read_for most new).number 0 fine) refl

  cut_off : (old new : List ℕ) (k : ℕ) → most_bytes most < k → compares most (take k old) (take k new) ≡ compares most old new
  cut_off old new k h =
      cut-same most k old (λ (bytes : List ℕ). compares most bytes (take k new)) (refused_of 1) (λ bytes. prints-first bytes (take k new)) h
      ∙ cut-same most k new (compares most old) (after (read_for most old)) (prints-second old) h

  says_nothing : (old new : List ℕ) → AllBelow 256 old → AllBelow 256 new → compares most old new ≡ [] → old ≡ new
  says_nothing old new p q e = elim (ℕ_discrete (read_for most old).number 0) [
    | no n ↦ absurd (refused-some 1 (read_for most old) (sym (prints-first old new n) ∙ e))
    | yes ok ↦ elim (ℕ_discrete (read_for most new).number 0) [
      | no n ↦ absurd (refused-some 2 (read_for most new) (rw (prints-second old new n, eq-eqb (read_for most old).number 0 ok) at e))
      | yes fine ↦ equal-bytes most old new [] ok fine p q (lines_none (differences (job_of old) (job_of new)) (sym (prints-lines old new ok fine) ∙ e))
    ]
  ]

pub compare-holds : (most : Limits) (old new : List ℕ) (room : List Difference) → CompareHolds most old new room
compare-holds most old new room = record {
  first = first-refused most old new room;
  second = second-refused most old new room;
  short = too_short most old new room;
  made = all_made most old new room;
  read = both-sound most old new room;
  enough = never-short most old new room;
  equal = λ p q ok fine. equal-bytes most old new room ok fine p q;
  itself = λ e. none_alike (job_of old) (job_of new) (ap job_of e);
  silent = says_nothing most old new;
  quiet = λ ok e.
      prints-lines most old new ok (rw e at ok)
      ∙ ap difference_lines (none_alike (job_of old) (job_of new) (ap job_of e)) ∙ unfold difference_lines in refl;
  longer = cut_off most old new;
}
