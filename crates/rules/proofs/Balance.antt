-- A balancing goes one way: it takes files from one side, does not jump over the window, and ends where nothing is left to move. Assumes nothing.
use mathlib.Core.Path.{◌≡◌, refl, sym, ap, ap₂, ◌∙◌}
use mathlib.Core.Logic.{◌≢◌, ◌⊎◌, inl, inr, ⊎_elim}
use Prim.Native.Nat.{ℕ, ◌+◌, ◌-◌, ◌*◌, ◌≤◌, ◌<◌}
use mathlib.Core.Bool.{Bool, true, false, not, cond, ◌&&◌, ◌||◌}
use mathlib.Core.List.{List}
use mathlib.Core.Option.{Option, none, some}
use native.Mathlib.Decide.{ℕ_discrete, dec_lt}
use native.Mathlib.Nat.{one-mul, mul-add, mul-le-mul_left, mul-le-mul_right}
use native.Mathlib.Omega.{arith}
use lib.Dec.{eqb}
use lib.IntN.{ℤ, pos}
use lib.ListN.{length, get_or}
use lib.Signed.{lt_z}
use borrow.Author.Tests.{not-true, leb-true, leb-false, eqb-true, eqb-false, eq-eqb}
use Rattle.rules.specs.Lists.{bit}
use Rattle.rules.specs.Job.{is_read, Job, file_count, files, recipes}
use Rattle.rules.specs.Split.{side_of, on_side, gain, size_of, is_free, weighs, weight, smax, size_on, size_a, tolerance, large_enough, small_enough, balanced}
use Rattle.rules.specs.Move.{State, lock_of, free, moved, greater, first_below}
use Rattle.rules.specs.Balance.{too_large, too_small, heavy, free_on, greatest_on, balance_choice, least_a, most_a, none_balanced}
use Rattle.rules.specs.Theorems.{Binary}
use Rattle.rules.specs.Balancing.{Halves, Greatest, Assignment}
use Rattle.rules.proofs.Tests.{clash, or_no, and_yes, and_both, and-false, not-no, contra, contra'}
use Rattle.rules.proofs.Count.{bit-most, total-below, largest-has}
use Rattle.rules.proofs.Signed.{lt_z-true, lt_z-false}
use Rattle.rules.proofs.OneMove.{Moves, move-of, stays-binary}
use Rattle.rules.proofs.GainKept.{Fresh}
use Rattle.rules.proofs.Sizes.{size-moved}
use Rattle.rules.proofs.First.{Order, some_inj, no-some, first_some, first-ok, first-same}
use Rattle.rules.proofs.MovesEnd.{StateLong, moved-long, Picks}

-- ---- too large and too small, as numbers

module _ (job : Job) where
  large-yes : (a : ℕ) → too_large job a ≡ true → job.num * weight job + job.den * tolerance job < job.den * a
  unfolding too_large
  large-yes a h = leb-false (job.den * a) (job.num * weight job + job.den * tolerance job) (not-true _ h)

  large-no : (a : ℕ) → too_large job a ≡ false → job.den * a ≤ job.num * weight job + job.den * tolerance job
  unfolding too_large
  large-no a h = leb-true (job.den * a) (job.num * weight job + job.den * tolerance job) (not-no _ h)

  small-yes : (a : ℕ) → too_small job a ≡ true → job.den * a + job.den * tolerance job < job.num * weight job
  unfolding too_small
  small-yes a h = leb-false (job.num * weight job) (job.den * a + job.den * tolerance job) (not-true _ h)

  small-no : (a : ℕ) → too_small job a ≡ false → job.num * weight job ≤ job.den * a + job.den * tolerance job
  unfolding too_small
  small-no a h = leb-true (job.num * weight job) (job.den * a + job.den * tolerance job) (not-no _ h)

  -- more is too large too, and less too small
  pub large-up : (a b : ℕ) → a ≤ b → too_large job a ≡ true → too_large job b ≡ true
  large-up a b l h = contra' (too_large job b) (λ e. omega (arith, large-yes a h, large-no b e, mul-le-mul_left {m = a} {n = b} job.den l))

  pub small-down : (a b : ℕ) → a ≤ b → too_small job b ≡ true → too_small job a ≡ true
  small-down a b l h = contra' (too_small job a) (λ e. omega (arith, small-yes b h, small-no a e, mul-le-mul_left {m = a} {n = b} job.den l))

  -- a file no larger than the tolerance, taken from too large an A, leaves it not too small; and the other way round
  less-not-small : (a b z : ℕ) → b + z ≡ a → z ≤ tolerance job → too_large job a ≡ true → too_small job b ≡ false
  less-not-small a b z e l h =
      contra (too_small job b)
      (λ t. omega (arith, large-yes a h, small-yes b t, ap (λ (n : ℕ). job.den * n) e, mul-add job.den b z, mul-le-mul_left {m = z} {n = tolerance job} job.den l))

  more-not-large : (a b z : ℕ) → a + z ≡ b → z ≤ tolerance job → too_small job a ≡ true → too_large job b ≡ false
  more-not-large a b z e l h =
      contra (too_large job b)
      (λ t. omega (arith, small-yes a h, large-yes b t, ap (λ (n : ℕ). job.den * n) e, mul-add job.den a z, mul-le-mul_left {m = z} {n = tolerance job} job.den l))

  -- ---- which side

  -- A is too large and files go from it, or too small and files go from B
  pub heavy-some : (a u : ℕ) → heavy job a ≡ some u → ((u ≡ 0) × (too_large job a ≡ true)) ⊎ ((u ≡ 1) × (too_small job a ≡ true))
  unfolding heavy
  heavy-some a u h = go (too_large job a) (too_small job a) refl refl h
    where
      go : (l s : Bool) → too_large job a ≡ l → too_small job a ≡ s → ◌≡◌ {A = Option ℕ} (cond l (some 0) (cond s (some 1) none)) (some u)
          → ((u ≡ 0) × (too_large job a ≡ true)) ⊎ ((u ≡ 1) × (too_small job a ≡ true))
      go true s p q r = inl (sym (some_inj 0 u r), p)
      go false true p q r = inr (sym (some_inj 1 u r), q)
      go false false p q r = no-some u r

  heavy-none : (a : ℕ) → heavy job a ≡ none → (too_large job a ≡ false) × (too_small job a ≡ false)
  unfolding heavy
  heavy-none a h = go (too_large job a) (too_small job a) refl refl h
    where
      go : (l s : Bool) → too_large job a ≡ l → too_small job a ≡ s → ◌≡◌ {A = Option ℕ} (cond l (some 0) (cond s (some 1) none)) none
          → (too_large job a ≡ false) × (too_small job a ≡ false)
      go true s p q r = no-some 0 (sym r)
      go false true p q r = no-some 1 (sym r)
      go false false p q r = (p, q)

  heavy-even : (a : ℕ) → too_large job a ≡ false → too_small job a ≡ false → heavy job a ≡ none
  unfolding heavy
  heavy-even a p q = rw (p, q) refl

  neither : (a : ℕ) → balanced job a ≡ (not (too_small job a) && not (too_large job a))
  unfolding balanced too_small too_large
  neither a = go (large_enough job.num job.den (weight job) (tolerance job) a) (small_enough job.num job.den (weight job) (tolerance job) a)
    where
      go : (p q : Bool) → (p && q) ≡ (not (not p) && not (not q))
      go true true = refl
      go true false = refl
      go false q = refl

  pub halves : (a : ℕ) → Halves job a
  halves a = record {
    neither = neither a;
    apart = λ h. contra (too_small job a) (λ t. omega (arith, large-yes a h, small-yes a t));
    even = λ h.
        let q = and_yes (not (too_small job a)) (not (too_large job a)) (sym (neither a) ∙ h) in
        heavy-even a (not-true (too_large job a) q.1) (not-true (too_small job a) q.0);
    uneven = λ h. let q = heavy-none a h in neither a ∙ ap₂ (λ (s l : Bool). not s && not l) q.1 q.0;
  }

-- ---- the choice

-- the greater gain goes first
greater-order : (G : ℕ → ℤ) → Order (greater G)
greater-order G = record {
  irrefl = λ a. contra (lt_z (G a) (G a)) (λ h. omega (arith, lt_z-true (G a) (G a) h));
  trans = λ a b c p q. contra' (lt_z (G c) (G a)) (λ h. omega (arith, lt_z-true (G b) (G a) p, lt_z-true (G c) (G b) q, lt_z-false (G c) (G a) h));
  weak = λ a b c p q. contra (lt_z (G c) (G a)) (λ h. omega (arith, lt_z-false (G b) (G a) p, lt_z-false (G c) (G b) q, lt_z-true (G c) (G a) h));
}

module _ (job : Job) where
  greatest : (sides : List ℕ) (u f : ℕ) → greatest_on job sides u ≡ some f → Greatest job sides u f
  unfolding greatest_on
  greatest sides u f e =
      let G : ℕ → ℤ = gain sides (recipes job) in
      let r = first_some (free_on job sides u) (greater G) (greater-order G) (file_count job) f e in
      let q = and_yes (is_free job f) (on_side sides u f) r.fine in
      record {
        below = r.below;
        free = q.0;
        there = eqb-true (side_of sides f) u q.1;
        greatest = λ g h m s. r.before g h (and_both m (eq-eqb (side_of sides g) u s));
        lowest = λ g h m s. r.lower g h (and_both m (eq-eqb (side_of sides g) u s));
      }

  -- there is only one such file
  pub greatest-one : (sides : List ℕ) (u f g : ℕ) → Greatest job sides u f → Greatest job sides u g → f ≡ g
  greatest-one sides u f g p q = elim (dec_lt f g) [
    | yes l ↦ absurd (further f g l p q)
    | no n ↦ elim (dec_lt g f) [
      | yes l ↦ absurd (further g f l q p)
      | no m ↦ omega arith
    ]
  ]
    where
      further : (f g : ℕ) → f < g → Greatest job sides u f → Greatest job sides u g → ⊥
      further f g l p q = clash (sym (q.lowest f l p.free p.there) ∙ p.greatest g q.below q.free q.there)

  pub choice-stop : (st : State) → heavy job (size_a job st.sides) ≡ none → balance_choice job st ≡ none
  unfolding balance_choice
  choice-stop st e = rw (e, balance_choice)

  pub choice-go : (st : State) (u : ℕ) → heavy job (size_a job st.sides) ≡ some u → balance_choice job st ≡ greatest_on job st.sides u
  unfolding balance_choice
  choice-go st u e = rw (e, balance_choice)

  choice-some : (st : State) (f : ℕ) → balance_choice job st ≡ some f
      → (u : ℕ) × (heavy job (size_a job st.sides) ≡ some u) × (greatest_on job st.sides u ≡ some f)
  choice-some st f h = go (heavy job (size_a job st.sides)) refl
    where
      go : (o : Option ℕ) → heavy job (size_a job st.sides) ≡ o → (u : ℕ) × (heavy job (size_a job st.sides) ≡ some u) × (greatest_on job st.sides u ≡ some f)
      go none e = no-some f (sym (choice-stop st e) ∙ h)
      go (some u) e = (u, e, sym (choice-go st u e) ∙ h)

-- ---- the way that a balancing goes: from side u

pub record Toward (job : Job) (u : ℕ) (st : State) : Type 0 where
  pub long : StateLong (file_count job) st
  pub binary : Binary st.sides
  -- of the files of side u, those with mark 0 are those that are not locked
  pub unlocked : (f : ℕ) → f < file_count job → side_of st.sides f ≡ u → is_free job f ≡ free st f
  -- and all files of side u were there at the start
  pub unmoved : (f : ℕ) → side_of st.sides f ≡ u → side_of job.sides f ≡ u
  -- the other side never holds too much
  pub way : (v : ℕ) → heavy job (size_a job st.sides) ≡ some v → v ≡ u

-- the move that is made
pub record Made (job : Job) (u : ℕ) (st : State) (f : ℕ) : Type 0 where
  pub heavy : heavy job (size_a job st.sides) ≡ some u
  pub greatest : Greatest job st.sides u f
  pub moves : Moves st (moved st f) f

module _ (job : Job) (u : ℕ) where
  pub made : (st : State) (f : ℕ) → Toward job u st → balance_choice job st ≡ some f → Made job u st f
  made st f t e =
      let c = choice-some job st f e in
      let same : c.0 ≡ u = t.way c.0 c.1 in
      let g : Greatest job st.sides u f = rw (← same) (greatest job st.sides c.0 f c.2) in
      let lock : lock_of st f ≡ 0 = eqb-true (lock_of st f) 0 (sym (t.unlocked f g.below g.there) ∙ g.free) in
      record {
        heavy = rw (← same) c.1;
        greatest = g;
        moves = move-of st f (omega (arith, g.below, t.long.sides)) (omega (arith, g.below, t.long.locks)) lock t.binary;
      }

  -- a free file is no larger than smax
  size-most : (f : ℕ) → f < file_count job → is_free job f ≡ true → size_of job f ≤ smax job
  unfolding smax files
  size-most f h e =
      let z : bit (is_free job f) ≡ 1 = ap bit e in
      let l = largest-has (λ x. bit (is_free job x) * size_of job x) (file_count job) f h in
      let one : bit (is_free job f) * size_of job f ≡ size_of job f = rw z (omega arith) in
      omega (arith, one, l)

  -- nor than the tolerance, at every k over 0
  size-within : 1 ≤ job.k → (f : ℕ) → f < file_count job → is_free job f ≡ true → size_of job f ≤ tolerance job
  size-within wide f h e = omega (arith, size-most f h e, one-mul (smax job), mul-le-mul_right {m = 1} {n = job.k} (smax job) wide)

  -- one move more keeps the way
  pub toward-next : 1 ≤ job.k → (st : State) (f : ℕ) → Toward job u st → balance_choice job st ≡ some f → Toward job u (moved st f)
  toward-next wide st f t e =
      let m : Made job u st f = made st f t e in
      let a : ℕ = size_a job st.sides in
      let b : ℕ = size_a job (moved st f).sides in
      let z : ℕ = weighs job f in
      let s : b + bit (eqb u 0) * z ≡ a + bit (eqb (1 - u) 0) * z = rw (← m.greatest.there) (size-moved job m.moves m.greatest.below 0) in
      let small : z ≤ tolerance job = omega (arith, bit-most (is_read job f) (size_of job f), size-within wide f m.greatest.below m.greatest.free) in
      record {
        long = moved-long f t.long;
        binary = stays-binary m.moves;
        unlocked = λ g h k. elim (ℕ_discrete g f) [
          | yes q ↦ absurd (omega (arith, ap (side_of (moved st f).sides) q, m.moves.side, m.greatest.there, t.binary f))
          | no n ↦ t.unlocked g h (sym (m.moves.sides g n) ∙ k) ∙ ap (λ (l : ℕ). eqb l 0) (sym (m.moves.locks g n))
        ];
        unmoved = λ g k. elim (ℕ_discrete g f) [
          | yes q ↦ ap (side_of job.sides) q ∙ t.unmoved f m.greatest.there
          | no n ↦ t.unmoved g (sym (m.moves.sides g n) ∙ k)
        ];
        way = λ v h. next a b z s small (heavy-some job a u m.heavy) v (heavy-some job b v h);
      }
    where
      next : (a b z : ℕ) → b + bit (eqb u 0) * z ≡ a + bit (eqb (1 - u) 0) * z → z ≤ tolerance job
          → ((u ≡ 0) × (too_large job a ≡ true)) ⊎ ((u ≡ 1) × (too_small job a ≡ true)) → (v : ℕ)
          → ((v ≡ 0) × (too_large job b ≡ true)) ⊎ ((v ≡ 1) × (too_small job b ≡ true)) → v ≡ u
      next a b z s l p v q =
          ⊎_elim
          (λ x. ⊎_elim (λ y. y.0 ∙ sym x.0) (λ y. clash (sym y.1 ∙ less-not-small job a b z (omega (arith, rw x.0 at s)) l x.1)) q)
          (λ x. ⊎_elim (λ y. clash (sym y.1 ∙ more-not-large job a b z (omega (arith, rw x.0 at s)) l x.1)) (λ y. y.0 ∙ sym x.0) q)
          p

-- ---- the same choice by the locks, which a machine that makes the moves keeps

module _ (job : Job) where
  abbrev pub unlocked_on : State → ℕ → ℕ → Bool
  unlocked_on st u f = free st f && on_side st.sides u f

  unfoldable pub locked_choice : State → Option ℕ
  locked_choice st =
      elim (heavy job (size_a job st.sides)) [
        | none ↦ none
        | some u ↦ first_below (unlocked_on st u) (greater (gain st.sides (recipes job))) (file_count job)
      ]

  locked-stop : (st : State) → heavy job (size_a job st.sides) ≡ none → locked_choice st ≡ none
  unfolding locked_choice
  locked-stop st e = rw (e, locked_choice)

  locked-go : (st : State) (u : ℕ) → heavy job (size_a job st.sides) ≡ some u
      → locked_choice st ≡ first_below (unlocked_on st u) (greater (gain st.sides (recipes job))) (file_count job)
  unfolding locked_choice
  locked-go st u e = rw (e, locked_choice)

  pub locked-same : (u : ℕ) (st : State) → Toward job u st → balance_choice job st ≡ locked_choice st
  unfolding greatest_on
  locked-same u st t = go (heavy job (size_a job st.sides)) refl
    where
      test : (v f : ℕ) → v ≡ u → f < file_count job → (b : Bool) → on_side st.sides v f ≡ b → (is_free job f && b) ≡ (free st f && b)
      test v f q h true e = ap (λ (x : Bool). x && true) (t.unlocked f h (eqb-true (side_of st.sides f) v e ∙ q))
      test v f q h false e = and-false (is_free job f) ∙ sym (and-false (free st f))

      go : (o : Option ℕ) → heavy job (size_a job st.sides) ≡ o → balance_choice job st ≡ locked_choice st
      go none e = choice-stop job st e ∙ sym (locked-stop st e)
      go (some v) e =
          choice-go job st v e
          ∙ first-same (free_on job st.sides v) (unlocked_on st v) _ _ (file_count job) (λ f h. test v f (t.way v e) h (on_side st.sides v f) refl) (λ f g h k p q. refl)
          ∙ sym (locked-go st v e)

  -- it picks files then still free
  pub locked-picks : Picks (file_count job) locked_choice moved (λ s. s) (StateLong (file_count job))
  locked-picks = record { seen = λ s f. refl; long = λ s l. l; keeps = λ s f l e. moved-long f l; free = λ s f l e. good s f e (heavy job (size_a job s.sides)) refl }
    where
      good : (st : State) (f : ℕ) → locked_choice st ≡ some f → (o : Option ℕ) → heavy job (size_a job st.sides) ≡ o → (f < file_count job) × (lock_of st f ≡ 0)
      good st f e none h = no-some f (sym (locked-stop st h) ∙ e)
      good st f e (some u) h =
          let q = first-ok (unlocked_on st u) (greater (gain st.sides (recipes job))) (file_count job) f (sym (locked-go st u h) ∙ e) in
          (q.0, eqb-true (lock_of st f) 0 (and_yes (free st f) (on_side st.sides u f) q.1).0)

  -- and by a gain list that is fresh: what code has at hand is enough
  pub listed_same : (u : ℕ) (st : State) (g : List ℤ) → Toward job u st → heavy job (size_a job st.sides) ≡ some u → length g ≡ file_count job → Fresh (recipes job) st g
      → first_below (unlocked_on st u) (greater (λ f. get_or g f (pos 0))) (file_count job) ≡ balance_choice job st
  listed_same u st g t e long fresh =
      first-same (unlocked_on st u) (unlocked_on st u) (greater (λ f. get_or g f (pos 0))) (greater (gain st.sides (recipes job))) (file_count job) (λ f h. refl)
      (λ f x h k p q. ap₂ lt_z (same x k q) (same f h p))
      ∙ sym (locked-go st u e) ∙ sym (locked-same u st t)
    where
      same : (f : ℕ) → f < file_count job → unlocked_on st u f ≡ true → get_or g f (pos 0) ≡ gain st.sides (recipes job) f
      same f h p = fresh f (omega arith) (eqb-true (lock_of st f) 0 (and_yes (free st f) (on_side st.sides u f) p).0)

-- ---- what |A| can be

module _ (job : Job) (sides : List ℕ) where
  -- no assignment has less than the least, nor more than the most
  least-le : Assignment job sides → least_a job ≤ size_a job sides
  unfolding least_a size_on files
  least-le w = total-below _ _ (file_count job) (λ f h. go f (is_free job f) refl h)
    where
      go : (f : ℕ) (b : Bool) → is_free job f ≡ b → f < file_count job → bit (not b && on_side job.sides 0 f) * weighs job f ≤ bit (on_side sides 0 f) * weighs job f
      go f true e h = omega arith
      go f false e h = rw (w.stays f h e) (omega arith)

  le-most : Assignment job sides → size_a job sides ≤ most_a job
  unfolding most_a size_on files
  le-most w = total-below _ _ (file_count job) (λ f h. go f (is_free job f) refl h)
    where
      go : (f : ℕ) (b : Bool) → is_free job f ≡ b → f < file_count job → bit (on_side sides 0 f) * weighs job f ≤ bit (b || on_side job.sides 0 f) * weighs job f
      go f true e h = omega (arith, bit-most (on_side sides 0 f) (weighs job f))
      go f false e h = rw (w.stays f h e) (omega arith)

  -- with no free file in A it is the least, with none in B the most
  none_left : Assignment job sides → ((f : ℕ) → f < file_count job → free_on job sides 0 f ≡ false) → size_a job sides ≤ least_a job
  unfolding least_a size_on files
  none_left w empty = total-below _ _ (file_count job) (λ f h. go f (is_free job f) (on_side sides 0 f) refl refl h (empty f h))
    where
      go : (f : ℕ) (b c : Bool) → is_free job f ≡ b → on_side sides 0 f ≡ c → f < file_count job → (b && c) ≡ false
          → bit c * weighs job f ≤ bit (not b && on_side job.sides 0 f) * weighs job f
      go f true true e q h n = clash n
      go f true false e q h n = omega arith
      go f false c e q h n = rw (← q, w.stays f h e) (omega arith)

  all_there : Assignment job sides → ((f : ℕ) → f < file_count job → free_on job sides 1 f ≡ false) → most_a job ≤ size_a job sides
  unfolding most_a size_on files
  all_there w empty = total-below _ _ (file_count job) (λ f h. go f (is_free job f) refl h (empty f h))
    where
      go : (f : ℕ) (b : Bool) → is_free job f ≡ b → f < file_count job → (b && on_side sides 1 f) ≡ false
          → bit (b || on_side job.sides 0 f) * weighs job f ≤ bit (on_side sides 0 f) * weighs job f
      go f true e h n =
          let l = w.binary f h e in
          let m : side_of sides f ≢ 1 = eqb-false (side_of sides f) 1 n in
          rw (eq-eqb (side_of sides f) 0 (omega arith)) (omega arith)
      go f false e h n = rw (w.stays f h e) (omega arith)

  -- so where it is given that none is balanced none is, and where it is not the split is balanced once no file is left to move
  pub none-balanced : none_balanced job ≡ true → Assignment job sides → balanced job (size_a job sides) ≡ false
  unfolding none_balanced
  none-balanced h w = go (too_large job (least_a job)) refl h
    where
      a : ℕ
      a = size_a job sides

      go : (b : Bool) → too_large job (least_a job) ≡ b → (b || too_small job (most_a job)) ≡ true → balanced job a ≡ false
      go true e q = (halves job a).neither ∙ rw (large-up job (least_a job) a (least-le w) e) (and-false (not (too_small job a)))
      go false e q = (halves job a).neither ∙ rw (small-down job a (most_a job) (le-most w) q) refl

  pub left-balanced : none_balanced job ≡ false → Assignment job sides
      → ((u f : ℕ) → heavy job (size_a job sides) ≡ some u → f < file_count job → free_on job sides u f ≡ false) → balanced job (size_a job sides) ≡ true
  unfolding none_balanced
  left-balanced h w empty = (halves job a).uneven (go (heavy job a) refl)
    where
      a : ℕ
      a = size_a job sides

      go : (o : Option ℕ) → heavy job a ≡ o → heavy job a ≡ none
      go none e = e
      go (some u) e =
          let q = or_no (too_large job (least_a job)) (too_small job (most_a job)) h in
          ⊎_elim
          (λ x. clash (sym (large-up job a (least_a job) (none_left w (λ f l. empty 0 f (e ∙ ap (λ (n : ℕ). some n) x.0) l)) x.1) ∙ q.0))
          (λ x. clash (sym (small-down job (most_a job) a (all_there w (λ f l. empty 1 f (e ∙ ap (λ (n : ℕ). some n) x.0) l)) x.1) ∙ q.1))
          (heavy-some job a u e)
