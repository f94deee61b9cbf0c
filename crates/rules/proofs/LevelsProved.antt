-- The theorems of specs/LevelsHold.antt: the choice by gain vectors, the pass and run of edition 3, and what is told of them. Assumes nothing.
use mathlib.Core.Path.{◌≡◌, refl, sym, ap₂, ◌∙◌}
use Prim.Native.Nat.{ℕ, zero, suc, ◌*◌, ◌<◌}
use mathlib.Core.Bool.{true, false}
use mathlib.Core.List.{List, [], ◌∷◌, map}
use mathlib.Core.Option.{none}
use native.Mathlib.Decide.{dec_lt}
use native.Mathlib.Omega.{arith}
use lib.Dec.{eqb}
use lib.IntN.{ℤ, pos}
use lib.Signed.{lt_z}
use lib.ListN.{length, get_or, take}
use lib.Seq.{take-length}
use borrow.Author.Tests.{eqb-true}
use Rattle.rules.specs.declared.Verdict.{Verdict}
use Rattle.rules.specs.Job.{Job, Limits, file_count, recipe_count, files, views, read_in, recipes, Lent, fits}
use Rattle.rules.specs.Split.{gain, weight, smax, size_on, balanced}
use Rattle.rules.specs.Check.{check_job}
use Rattle.rules.specs.Move.{State, start, lock_of, free, steps_by, after, moved, Frees, size_after, legal, dist_after}
use Rattle.rules.specs.Pass.{gains_when, Pass, pass_of, leaves}
use Rattle.rules.specs.Run.{pass_by, last_of, figures_of}
use Rattle.rules.specs.Levels.{level, vector, greater_vector, above, choose_vector, vector_tries, unscanned}
use Rattle.rules.specs.LevelsHold.{ChosenVector, ChoiceHolds, vectors_at, PassHoldsVectors, VectorsHold, VectorsAccepted, LeftUnscanned, ToldUnscanned}
use Rattle.rules.specs.RoundTrip.{Sideless}
use Rattle.rules.specs.SettledYes.{TakesGreatest}
use Rattle.rules.specs.Theorems.{Binary, Sound, Accepted, Sides, Left, LawfulTry}
use Rattle.rules.proofs.Tests.{clash, or_no, and_yes}
use Rattle.rules.proofs.Count.{count-le, total-zero, total-map}
use Rattle.rules.proofs.Entries.{listed-holds}
use Rattle.rules.proofs.Fits.{long-enough}
use Rattle.rules.proofs.First.{Order}
use Rattle.rules.proofs.GainKept.{frees-take, after-binary}
use Rattle.rules.proofs.MovesEnd.{StateLong, moved-long, Picks, moves-see, moves-end}
use Rattle.rules.proofs.Proved.{accepted, scans-hold, left, lawful-frees, pass-holds-by, run-holds-by}
use Rattle.rules.proofs.Emptied.{none-emptied}
use Rattle.rules.proofs.Resettling.{resettled-holds-by}
use Rattle.rules.proofs.NoneLessens.{settled-least}
use Rattle.rules.proofs.Orders.{greater-order, none-order, then-order, chosen_by, nothing-by, only-by, found-by, stuck-by}
use Rattle.rules.proofs.Levels.{level-one}

-- a legal move is of a free file
legal-free : (job : Job) (st : State) (f : ℕ) → legal job st f ≡ true → lock_of st f ≡ 0
unfolding legal
legal-free job st f h = eqb-true (lock_of st f) 0 (and_yes (free st f) (balanced job (size_after job st f)) h).0

-- ---- the choice by the vectors

-- three numbers, compared from the first on
three-order : (a b c : ℕ → ℤ) → Order (λ f g. greater_vector (a f ∷ b f ∷ c f ∷ []) (a g ∷ b g ∷ c g ∷ []))
unfolding greater_vector
three-order a b c = then-order (greater-order a) (then-order (greater-order b) (then-order (greater-order c) none-order))

module _ (job : Job) (st : State) where
  vector-order : Order (above job st)
  unfolding vector
  vector-order = three-order _ _ _

  pub choice-holds : ChoiceHolds job st
  unfolding choose_vector
  choice-holds = record {
    chosen = chosen_by job st vector-order;
    found = found-by job st vector-order;
    only = only-by job st vector-order;
    ended = nothing-by job st vector-order;
    stuck = stuck-by job st vector-order;
  }

  -- no legal move has a greater gain: level 1 decides first
  greatest-gain : Binary st.sides → (f : ℕ) → ChosenVector job st f → (g : ℕ) → g < file_count job → legal job st g ≡ true
      → lt_z (gain st.sides (recipes job) f) (gain st.sides (recipes job) g) ≡ false
  unfolding vector greater_vector
  greatest-gain bin f c g h k =
      ap₂ lt_z (sym (level-one job st bin f (legal-free job st f c.lawful))) (sym (level-one job st bin g (legal-free job st g k)))
      ∙ (or_no (lt_z (level job st 1 f) (level job st 1 g)) _ (c.greatest g h k)).0

-- the choice does not go by the job's own sides
vectors-sideless : (job : Job) → Sideless vector_tries job
unfolding vector_tries choose_vector vector level legal dist_after size_after balanced weight smax size_on files views recipes read_in
vectors-sideless job sides = refl

-- ---- the pass

-- each move's gain when chosen
gains-at : (rs : List (List ℕ)) (st : State) (ms : List ℕ) (i : ℕ) → i < length ms → get_or (gains_when rs st ms) i (pos 0) ≡ gain (after st (take i ms)).sides rs (get_or ms i 0)
unfolding gains_when steps_by
gains-at rs st [] i h = absurd (omega arith)
gains-at rs st (m ∷ ms) zero h = refl
gains-at rs st (m ∷ ms) (suc i) h = gains-at rs (moved st m) ms i (omega arith)

module _ (most : Limits) (job : Job) (s : Sound most job) where
  picks : Picks (file_count job) (choose_vector job) moved (λ st. st) (StateLong (file_count job))
  picks = record {
    seen = λ st f. refl;
    long = λ st l. l;
    keeps = λ st f l e. moved-long f l;
    free = λ st f l e. let c = (choice-holds job st).chosen f e in (c.below, legal-free job st f c.lawful);
  }

  module _ (sides : List ℕ) (w : Sides job sides) where
    abbrev ms : List ℕ
    ms = vector_tries job sides

    begins : StateLong (file_count job) (start job sides)
    begins = record { sides = w.long; locks = s.marks_long }

    vectors-each : (i : ℕ) → i < length ms → ChosenVector job (vectors_at job sides i) (get_or ms i 0)
    unfolding vector_tries
    vectors-each = moves-see picks (ChosenVector job) (λ st f l e. (choice-holds job st).chosen f e) (file_count job) (start job sides) begins

    -- C turns are enough
    vectors-end : choose_vector job (after (start job sides) ms) ≡ none
    unfolding vector_tries
    vectors-end = moves-end picks (file_count job) (start job sides) begins (omega (arith, count-le (λ l. eqb l 0) job.marks, s.marks_long))

  vectors-lawful : LawfulTry job (vector_tries job)
  vectors-lawful sides w = record { below = λ i h. (vectors-each sides w i h).below; legal = λ i h. (vectors-each sides w i h).lawful }

  module _ (sides : List ℕ) (w : Sides job sides) where
    frees : Frees (start job sides) (vector_tries job sides)
    frees = lawful-frees most job s sides (vector_tries job sides) w (vectors-lawful sides w)

    binary-at : (k : ℕ) → Binary (vectors_at job sides k).sides
    binary-at k = after-binary (start job sides) (take k (vector_tries job sides)) (frees-take k frees) w.binary

    listed-level : (i : ℕ) → i < length (vector_tries job sides)
        → get_or (pass_of job sides (vector_tries job sides)).gained i (pos 0) ≡ level job (vectors_at job sides i) 1 (get_or (vector_tries job sides) i 0)
    unfolding pass_of
    listed-level i h =
        let st : State = vectors_at job sides i in
        let f : ℕ = get_or (vector_tries job sides) i 0 in
        gains-at (recipes job) (start job sides) (vector_tries job sides) i h ∙ sym (level-one job st (binary-at i) f (legal-free job st f (vectors-each sides w i h).lawful))

    pub pass-holds-vectors : PassHoldsVectors job sides
    pass-holds-vectors =
        let any = pass-holds-by most job s sides (vector_tries job sides) w (vectors-lawful sides w) in
        let last : ℕ = length (vector_tries job sides) in
        record {
          lawful = vectors-lawful sides w;
          any = any;
          each = vectors-each sides w;
          only = λ i f h c. (choice-holds job (vectors_at job sides i)).only f (get_or (vector_tries job sides) i 0) c (vectors-each sides w i h);
          ended = rw (take-length (vector_tries job sides)) ((choice-holds job (after (start job sides) (vector_tries job sides))).ended (vectors-end sides w));
          gains = λ i g h. greatest-gain job (vectors_at job sides i) (binary-at i) (get_or (vector_tries job sides) i 0) (vectors-each sides w i h) g;
          listed = listed-level;
          kept = λ i h. any.moves.chosen i h ∙ listed-level i h;
          afresh = λ f h e. any.moves.afresh f h e ∙ sym (level-one job (vectors_at job sides last) (binary-at last) f e);
        }

  -- ---- the run

  -- where a move is legal, one is made
  takes-greatest : TakesGreatest job (vector_tries job)
  unfolding steps_by
  takes-greatest sides w f h k =
      let p = pass-holds-vectors sides w in
      elim (dec_lt 0 (length (vector_tries job sides))) [
        | yes l ↦ (omega arith, p.gains 0 f l h k)
        | no n ↦ let none : length (vector_tries job sides) ≡ 0 = omega arith in clash (sym k ∙ (rw none at (p.ended f h)))
      ]

  pub vectors-hold : VectorsHold job
  vectors-hold = record {
    lawful = vectors-lawful;
    run = run-holds-by most job s (vector_tries job) vectors-lawful;
    sideless = vectors-sideless job;
    greatest = takes-greatest;
    least = settled-least most job s (vector_tries job) vectors-lawful takes-greatest;
  }

  -- ---- what is told

  pub left-unscanned : (sides : List ℕ) (l : Lent) → Sides job sides → fits 3 job l ≡ true → LeftUnscanned job l sides
  unfolding leaves
  left-unscanned sides l w ok =
      let p : Pass = pass_by job (vector_tries job) sides in
      let r = long-enough 3 job l ok in
      let told : Left 3 job l p = left most job s 3 sides (vector_tries job sides) l ok (pass-holds-vectors sides w).any.moves (scans-hold most job s sides (vector_tries job sides) w (frees sides w)) in
      let ends = listed-holds (file_count job) 0 [] l.ends (omega arith) r.scans_so_far in
      let js = listed-holds (4 * recipe_count job) 0 [] l.recipes (omega arith) r.scanned_recipes in
      let ks = listed-holds (4 * recipe_count job) 0 [] l.kinds (omega arith) r.scanned_kinds in
      record {
        left = record { gains = refl; tried = told.tried; gained = told.gained; cuts = told.cuts; ends = ends; recipes = js; kinds = ks; scratch = told.scratch };
        ends = λ i. ends.then 0 i (omega arith);
        recipes = λ i. js.then 0 i (omega arith);
        kinds = λ i. ks.then 0 i (omega arith);
        scratch = refl;
      }

pub vectors-accepted : (most : Limits) (job : Job) → (check_job most job).number ≡ 0 → VectorsAccepted most job
vectors-accepted most job ok =
    let a : Accepted most job = accepted most job true ok in
    let h : VectorsHold job = vectors-hold most job a.sound in
    let none = none-emptied job a.filled most a.sound a.wide.0 in
    record {
      within = none.within (vector_tries job) h.lawful a.balanced;
      ran = none.ran (vector_tries job) h.lawful a.balanced;
      again = resettled-holds-by vector_tries job h.sideless most h.lawful ok;
    }

last-unscanned : (first : Pass) (ps : List Pass) → last_of (unscanned first) (map unscanned ps) ≡ unscanned (last_of first ps)
unfolding last_of
last-unscanned first [] = refl
last-unscanned first (p ∷ ps) = last-unscanned p ps

pub told-unscanned : (v : Verdict) (first : Pass) (ps : List Pass) → ToldUnscanned v first ps
unfolding figures_of
told-unscanned v first ps =
    record {
      last = last-unscanned first ps;
      figures = rw (
        last-unscanned first ps,
        total-map (λ p. length p.tried) unscanned ps,
        total-map (λ p. p.kept) unscanned ps,
        total-map (λ p. length p.scanned) unscanned ps,
        total-map (λ p. p.visited) unscanned ps,
        total-zero ps,
      ) refl;
    }
