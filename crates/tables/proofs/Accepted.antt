-- What the survey tells of a job, and what a job that it lets through has for the builders. Assumes nothing.
use mathlib.Core.Path.{◌≡◌, refl, sym, ap, subst, ◌∙◌}
use Prim.Native.Nat.{ℕ, ◌+◌, ◌*◌, ◌≤◌, ◌<◌}
use mathlib.Core.Bool.{Bool}
use mathlib.Core.List.{List}
use native.Mathlib.Omega.{arith}
use native.Mathlib.Decide.{ℕ_discrete}
use lib.ListN.{length, replicate, length-replicate}
use lib.IntN.{ℤ, pos}
use borrow.Author.Tests.{eq-eqb, ne_eqb}
use Rattle.rules.specs.declared.Verdict.{Verdict}
use Rattle.rules.specs.Job.{Job, Limits, file_count, recipe_count, pin_count, views, recipes, Lent, lent_of, fits}
use Rattle.rules.specs.Split.{weight, tolerance, cut, size_a, unread_files, unread_recipes}
use Rattle.rules.specs.Check.{◌or_else◌, check_sound, check_goal}
use Rattle.rules.specs.Theorems.{Binary, Sound}
use Rattle.rules.proofs.Fits.{numbers-least, LongEnough, long-enough}
use Rattle.rules.proofs.SoundJob.{ratio-pass, goal-pass, sound, views-distinct}
use Rattle.rules.proofs.Verdicts.{zero_of, passes-both}
use Rattle.rules.proofs.Proved.{lent-sound}
use Rattle.job.specs.Given.{the_limits}
use Rattle.job.specs.Survey.{Survey, check_for, survey_of}
use Rattle.job.specs.Totals.{start_for}
use Rattle.job.proofs.Whole.{start-last}
use Rattle.tables.specs.Zones.{counts_at}
use Rattle.tables.specs.Building.{Buildable}
use Rattle.tables.specs.declared.lent.ListLengths.{ListLengths}
use Rattle.tables.specs.LentFits.{fits_of, WordOn}
use Rattle.tables.proofs.LentWord.{word-late}

-- limits within which entries are two-byte numbers
pub record Narrow (most : Limits) : Type 0 where
  pub files : most.files < 65536
  pub recipes : 4 * most.recipes < 65536
  pub pins : most.pins < 65535
  pub den : most.den < 65536
  pub links : most.files + 4 * most.recipes + 2 < 65536

-- ---- the survey's fields

module _ (balancing : Bool) (most : Limits) (job : Job) (word : Bool) where
  pub verdict-is : (survey_of balancing most job word).verdict ≡ check_for balancing most job word
  unfolding survey_of
  verdict-is = elim (ℕ_discrete (check_for balancing most job word).number 0) [
    | yes e ↦ rw (eq-eqb (check_for balancing most job word).number 0 e, survey_of)
    | no n ↦ rw (ne_eqb (check_for balancing most job word).number 0 n, survey_of)
  ]

  pub survey-is : (check_for balancing most job word).number ≡ 0
      → survey_of balancing most job word ≡ record {
        verdict = check_for balancing most job word;
        weight = weight job;
        tolerance = tolerance job;
        size = size_a job job.sides;
        cut = cut job.sides (recipes job);
        unread = unread_files job;
        holding = unread_recipes job;
      }
  unfolding survey_of
  survey-is e = rw (eq-eqb (check_for balancing most job word).number 0 e, survey_of)

  -- where it lets through, so do 1 to 6
  pub let_through : {s : Survey} → s ≡ survey_of balancing most job word → s.verdict.number ≡ 0 → (check_sound most job word).number ≡ 0
  let_through e z =
      (passes-both (check_sound most job word) (check_goal most job or_else start_for balancing job)
      (zero_of (ap (λ (x : Survey). x.verdict) e ∙ verdict-is ∙ start-last balancing most job word) z)).0

  -- and 7: k is 1 to 4
  pub wide-through : (check_for balancing most job word).number ≡ 0 → (1 ≤ job.k) × (job.k ≤ 4)
  wide-through z =
      let later = (passes-both (check_sound most job word) (check_goal most job or_else start_for balancing job) (zero_of (start-last balancing most job word) z)).1 in
      (ratio-pass most job (goal-pass most job (passes-both (check_goal most job) (start_for balancing job) later).0).0).1

-- any word that is right for a job within its limits has one answer
pub survey-late : (balancing : Bool) (most : Limits) (job : Job) (a b : Bool) → WordOn most.files most.recipes most.pins (file_count job) (recipe_count job) (pin_count job) a b
    → survey_of balancing most job a ≡ survey_of balancing most job b
unfolding survey_of
survey-late balancing most job a b h =
    let w = word-late balancing most job a b h in
    let number : (check_for balancing most job a).number ≡ (check_for balancing most job b).number = ap (λ (v : Verdict). v.number) w in
    elim (ℕ_discrete (check_for balancing most job a).number 0) [
      | yes e ↦ rw (eq-eqb (check_for balancing most job a).number 0 e, eq-eqb (check_for balancing most job b).number 0 (sym number ∙ e), survey_of, w)
      | no n ↦ rw (ne_eqb (check_for balancing most job a).number 0 n, ne_eqb (check_for balancing most job b).number 0 (λ e. n (number ∙ e)), survey_of, w)
    ]

-- those of the kind of job
pub narrow : Narrow the_limits
narrow = record { files = omega arith; recipes = omega arith; pins = omega arith; den = omega arith; links = omega arith }

-- what the survey answers is the survey told whether the lent lists fit
pub answered : (balancing : Bool) (job : Job) {a b : Bool} {s : Survey}
    → WordOn the_limits.files the_limits.recipes the_limits.pins (file_count job) (recipe_count job) (pin_count job) a b
    → s ≡ survey_of balancing the_limits job a → s ≡ survey_of balancing the_limits job b
answered balancing job {a} {b} h e = e ∙ survey-late balancing the_limits job a b h

-- ---- what the builders ask

pub buildable : {most : Limits} {job : Job} → Narrow most → Sound most job → Buildable job.bounds job.pins (length job.sides)
unfolding views
buildable {most} {job} n s =
    subst (λ (c : ℕ). Buildable job.bounds job.pins c) (sym s.sides_long) (record {
      first = s.first;
      rise = λ j h. omega (arith, s.two j h);
      last = s.last;
      files = s.pins_below;
      distinct = views-distinct most job s;
      few_files = omega (arith, s.few_files, n.files);
      few_pins = omega (arith, s.few_pins, n.pins);
      few_recipes = omega (arith, s.few_recipes, n.recipes);
    })

-- of six of the lent lists only the lengths are told
module _ (edition : ℕ) (job : Job) (gains : List ℤ) (z : List ℕ) (l : ListLengths) where
  abbrev pub fit_word : Bool
  fit_word = fits_of edition (file_count job) (recipe_count job) (pin_count job) (length gains) (length z) l

  -- some lists of these lengths
  abbrev some : Lent
  some =
      lent_of gains (replicate l.tried 0) (replicate l.gained (pos 0)) (replicate l.cuts 0) (replicate l.ends 0) (replicate l.recipes 0) (replicate l.kinds 0) z

  some_fit : fits edition job some ≡ fit_word
  some_fit = rw (
    length-replicate {A = ℕ} l.tried 0,
    length-replicate l.gained (pos 0),
    length-replicate {A = ℕ} l.cuts 0,
    length-replicate {A = ℕ} l.ends 0,
    length-replicate {A = ℕ} l.recipes 0,
    length-replicate {A = ℕ} l.kinds 0,
  ) refl

  -- the lengths of the lists, and what a sound job has
  pub record Asked : Type 0 where
    pub marks_long : length job.marks ≡ length job.sides
    pub binary : Binary job.sides
    pub buildable : Buildable job.bounds job.pins (length job.sides)
    pub gains_long : length gains ≡ length job.sides
    pub room : counts_at (length job.sides) (pin_count job) + 4 * recipe_count job ≤ length z

  pub builders-ask : (check_sound the_limits job fit_word).number ≡ 0 → Asked
  builders-ask ok =
      let s = sound the_limits job fit_word ok in
      let r : LongEnough edition job some = long-enough edition job some (some_fit ∙ lent-sound the_limits job fit_word ok) in
      record {
        marks_long = s.marks_long ∙ sym s.sides_long;
        binary = s.binary;
        buildable = buildable narrow s;
        gains_long = r.gains ∙ sym s.sides_long;
        room = omega (arith, r.scratch, numbers-least edition (pin_count job) (file_count job) (recipe_count job), s.sides_long);
      }
