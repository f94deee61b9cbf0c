-- The theorems of specs/FrontsHold.antt: the front of a vault, the choice between two fronts, and the pass and run of edition 2. Assumes nothing.
use mathlib.Core.Path.{◌≡◌, refl, sym, ap, ap₂, subst, ◌∙◌}
use Prim.Native.Nat.{ℕ, ◌≤◌, ◌<◌}
use mathlib.Core.Bool.{Bool, true, false, not, cond, ◌&&◌, ◌||◌}
use mathlib.Core.List.{List, [], ◌∷◌}
use mathlib.Core.Option.{Option, none, some}
use native.Mathlib.Decide.{ℕ_discrete}
use native.Mathlib.Omega.{arith}
use lib.Dec.{ltb, eqb}
use lib.IntN.{ℤ, pos}
use lib.Signed.{lt_z}
use lib.ListN.{length, get_or, take}
use lib.Seq.{take-length}
use borrow.Author.Tests.{eqb-true, ltb-true, ltb-false, lt-ltb}
use Rattle.rules.specs.Lists.{bit}
use Rattle.rules.specs.Job.{Job, Limits, file_count, recipe_count, files, views, read_in, recipes}
use Rattle.rules.specs.Split.{other, side_of, times, holds, balanced, weight, smax, size_on}
use Rattle.rules.specs.Move.{State, start, lock_of, free, steps_by, after, Frees, stop, move, size_after, legal, dist_after, better, choose, moves}
use Rattle.rules.specs.Pass.{tries}
use Rattle.rules.specs.Fronts.{Buckets, start_buckets, entered_first, moved_on, gain_in, in_vault, front_of, unless_rejected, offer, of_two, choose_front, front_tries, tries_by}
use Rattle.rules.specs.FrontsHold.{Standing, Front, foremost, no_less, FrontsHold, buckets_at, BucketsHold, ChosenFront, fronts_at, PassHoldsFronts, EditionsHold}
use Rattle.rules.specs.RoundTrip.{Sideless}
use Rattle.rules.specs.Theorems.{Binary, Sound, Sides, Lawful, LawfulTry}
use Rattle.rules.proofs.Tests.{or_no, and_yes, and_no}
use Rattle.rules.proofs.Count.{count-le}
use Rattle.rules.proofs.Signed.{abs}
use Rattle.rules.proofs.Sizes.{gain-abs}
use Rattle.rules.proofs.SoundJob.{recipes-length}
use Rattle.rules.proofs.OneMove.{move-of, stays-binary}
use Rattle.rules.proofs.GainKept.{Fresh, frees-take}
use Rattle.rules.proofs.First.{some_inj, no-some}
use Rattle.rules.proofs.MovesEnd.{StateLong, moved-long, Picks, moves_each, moves-see, moves-end}
use Rattle.rules.proofs.Proved.{lawful-frees, scans-hold, pass-holds-by, run-holds-by, tries-lawful}
use Rattle.rules.proofs.Foremost.{less-not, Foremost, foremost-none, foremost-some, foremost-is, foremost-same, front-foremost}
use Rattle.rules.proofs.Entering.{start-standing, moved-standing, moves-latest}

-- ---- the front of a vault

module _ (most : Limits) (job : Job) (s : Sound most job) where
  -- no gain is beyond the buckets
  pub gain-within : (b : Buckets) (f : ℕ) → abs (gain_in job b f) ≤ recipe_count job
  gain-within b f = omega (arith, gain-abs b.state.sides (recipes job) f, count-le (λ r. holds r f) (recipes job), recipes-length most job s)

  pub front-is-foremost : (b : Buckets) (u : ℕ) → front_of job b u ≡ foremost (in_vault b u) (no_less (gain_in job b)) b.entered
  unfolding front_of
  front-is-foremost b u = front-foremost (in_vault b u) (gain_in job b) (recipe_count job) (gain-within b) b.entered

module _ (job : Job) (b : Buckets) (standing : Standing job b) where
  pub stands : (f : ℕ) → f < file_count job → free b.state f ≡ true → 1 ≤ times f b.entered
  stands f h e = let q : (ltb f (file_count job) && free b.state f) ≡ true = ap₂ ◌&&◌ (lt-ltb f (file_count job) h) e in omega (arith, standing f, ap bit q)

  pub standing-free : (f : ℕ) → 1 ≤ times f b.entered → (f < file_count job) × (free b.state f ≡ true)
  standing-free f h = go (ltb f (file_count job) && free b.state f) refl
    where
      go : (t : Bool) → (ltb f (file_count job) && free b.state f) ≡ t → (f < file_count job) × (free b.state f ≡ true)
      go true e = let q = and_yes (ltb f (file_count job)) (free b.state f) e in (ltb-true f (file_count job) q.0, q.1)
      go false e = absurd (omega (arith, standing f, ap bit e))

  module _ (u f : ℕ) where
    foremost-front : Foremost (in_vault b u) (gain_in job b) b.entered f → Front job b u f
    foremost-front p =
        let q = standing-free f p.member in
        record {
          below = q.0;
          unlocked = q.1;
          there = p.fine;
          greatest = λ g h e z. p.greatest g (stands g h e) z;
          latest = λ g h e z. p.latest g (stands g h e) z;
        }

    front-foremost-of : Front job b u f → Foremost (in_vault b u) (gain_in job b) b.entered f
    front-foremost-of p = record {
      member = stands f p.below p.unlocked;
      fine = p.there;
      greatest = λ g h z. let q = standing-free g h in p.greatest g q.0 q.1 z;
      latest = λ g h z. let q = standing-free g h in p.latest g q.0 q.1 z;
    }

pub fronts-hold : (most : Limits) (job : Job) → Sound most job → (b : Buckets) → Standing job b → FrontsHold job b
fronts-hold most job s b standing =
    let is : (u : ℕ) → front_of job b u ≡ foremost (in_vault b u) (no_less (gain_in job b)) b.entered = front-is-foremost most job s b in
    record {
      front = λ u f e. foremost-front job b standing u f (foremost-some (in_vault b u) (gain_in job b) b.entered f (sym (is u) ∙ e));
      only = λ u f p. is u ∙ foremost-is (in_vault b u) (gain_in job b) b.entered f (front-foremost-of job b standing u f p);
      empty = λ u e f h z. foremost-none (in_vault b u) (gain_in job b) b.entered (sym (is u) ∙ e) f (stands job b standing f h z);
      foremost = is;
    }

-- ---- the choice

module _ (job : Job) (b : Buckets) (holds : FrontsHold job b) where
  abbrev LawfulFront : ℕ → ℕ → Type 0
  LawfulFront u f = Front job b u f × (legal job b.state f ≡ true)

  -- a vault offers its front file, where that is a legal move
  offer-some : (u f : ℕ) → offer job b u ≡ some f → LawfulFront u f
  offer-some u f e = go (front_of job b u) refl e
    where
      fine : (t : Bool) (g : ℕ) → legal job b.state g ≡ t → front_of job b u ≡ some g → ◌≡◌ {A = Option ℕ} (cond t (some g) none) (some f) → LawfulFront u f
      fine true g p q e = rw (← some_inj g f e) (holds.front u g q, p)
      fine false g p q e = no-some f e

      go : (o : Option ℕ) → front_of job b u ≡ o → unless_rejected (legal job b.state) o ≡ some f → LawfulFront u f
      go none q e = no-some f e
      go (some g) q e = fine (legal job b.state g) g refl q e

  offer-is : (u f : ℕ) → LawfulFront u f → offer job b u ≡ some f
  offer-is u f p = ap (unless_rejected (legal job b.state)) (holds.only u f p.0) ∙ ap (λ (t : Bool). cond t (some f) none) p.1

  offer-none : (u f : ℕ) → offer job b u ≡ none → Front job b u f → legal job b.state f ≡ false
  offer-none u f e p = go (legal job b.state f) refl
    where
      go : (t : Bool) → legal job b.state f ≡ t → t ≡ false
      go true q = no-some f (sym e ∙ offer-is u f (p, q))
      go false q = refl

  abbrev G : ℕ → ℤ
  G = gain_in job b

  abbrev D : ℕ → ℕ
  D = dist_after job b.state

  -- the offer of vault u, where that of the other vault does not go before it
  chosen_of : (u f : ℕ) → LawfulFront u f
      → ((g : ℕ) → LawfulFront (other u) g → (lt_z (G f) (G g) ≡ false) × (lt_z (G g) (G f) ≡ false → D f ≤ D g) × (lt_z (G g) (G f) ≡ false → D g ≤ D f → u ≡ 0))
      → ChosenFront job b f
  chosen_of u f p far =
      let e : side_of b.state.sides f ≡ u = eqb-true (side_of b.state.sides f) u p.0.there in
      let to : (g : ℕ) → Front job b (other (side_of b.state.sides f)) g → Front job b (other u) g
      = λ g q. subst (λ (v : ℕ). Front job b (other v) g) e q in
      record {
        front = subst (λ (v : ℕ). Front job b v f) (sym e) p.0;
        lawful = p.1;
        greatest = λ g q z. (far g (to g q, z)).0;
        nearest = λ g q z. (far g (to g q, z)).1;
        from_a = λ g q z k d. e ∙ (far g (to g q, z)).2 k d;
      }

  pub chosen-front : (f : ℕ) → choose_front job b ≡ some f → ChosenFront job b f
  unfolding choose_front
  chosen-front f e = go (offer job b 0) (offer job b 1) refl refl e
    where
      -- B's offer goes before A's
      from_b : (g h : ℕ) → LawfulFront 0 g → LawfulFront 1 h → (lt_z (G g) (G h) || (not (lt_z (G h) (G g)) && ltb (D h) (D g))) ≡ true → ChosenFront job b h
      from_b g h p q goes =
          let near : lt_z (G g) (G h) ≡ false → D h < D g
          = λ z. ltb-true (D h) (D g) (and_yes (not (lt_z (G h) (G g))) (ltb (D h) (D g)) (sym (ap (λ (t : Bool). t || (not (lt_z (G h) (G g)) && ltb (D h) (D g))) z) ∙ goes)).1 in
          chosen_of 1 h q
          (λ x r.
          let same : g ≡ x = some_inj g x (sym (offer-is 0 g p) ∙ offer-is 0 x r) in
          rw (← same) (not-before g h goes, (λ z. omega (arith, near z)), (λ z d. absurd (omega (arith, near z)))))
        where
          not-before : (g h : ℕ) → (lt_z (G g) (G h) || (not (lt_z (G h) (G g)) && ltb (D h) (D g))) ≡ true → lt_z (G h) (G g) ≡ false
          not-before g h goes = pick (lt_z (G h) (G g)) refl (lt_z (G g) (G h)) refl goes
            where
              pick : (t : Bool) → lt_z (G h) (G g) ≡ t → (r : Bool) → lt_z (G g) (G h) ≡ r → (r || (not t && ltb (D h) (D g))) ≡ true → t ≡ false
              pick false p r q z = refl
              pick true p true q z = sym p ∙ less-not (G g) (G h) q
              pick true p false q z = sym z

      from_a : (g h : ℕ) → LawfulFront 0 g → LawfulFront 1 h → (lt_z (G g) (G h) || (not (lt_z (G h) (G g)) && ltb (D h) (D g))) ≡ false → ChosenFront job b g
      from_a g h p q goes =
          let t = or_no (lt_z (G g) (G h)) (not (lt_z (G h) (G g)) && ltb (D h) (D g)) goes in
          chosen_of 0 g p
          (λ x r.
          let same : h ≡ x = some_inj h x (sym (offer-is 1 h q) ∙ offer-is 1 x r) in
          rw (← same) (t.0, (λ z. ltb-false (D h) (D g) (and_no (not (lt_z (G h) (G g))) (ltb (D h) (D g)) t.1 (ap not z))), (λ z d. refl)))

      either : (t : Bool) (g h : ℕ) → (lt_z (G g) (G h) || (not (lt_z (G h) (G g)) && ltb (D h) (D g))) ≡ t → LawfulFront 0 g → LawfulFront 1 h
          → ◌≡◌ {A = Option ℕ} (cond t (some h) (some g)) (some f) → ChosenFront job b f
      either true g h goes p q e = rw (← some_inj h f e) (from_b g h p q goes)
      either false g h goes p q e = rw (← some_inj g f e) (from_a g h p q goes)

      alone : (u g : ℕ) → LawfulFront u g → offer job b (other u) ≡ none → ChosenFront job b g
      alone u g p e = chosen_of u g p (λ x r. no-some x (sym e ∙ offer-is (other u) x r))

      go : (o p : Option ℕ) → offer job b 0 ≡ o → offer job b 1 ≡ p → of_two (better G D) o p ≡ some f → ChosenFront job b f
      go none none i j e = no-some f e
      go none (some g) i j e = rw (← some_inj g f e) (alone 1 g (offer-some 1 g j) i)
      go (some g) none i j e = rw (← some_inj g f e) (alone 0 g (offer-some 0 g i) j)
      go (some g) (some h) i j e = either (better G D h g) g h refl (offer-some 0 g i) (offer-some 1 h j) e

  -- it stops if neither front is a legal move
  pub chosen_none : choose_front job b ≡ none → (u f : ℕ) → u ≤ 1 → Front job b u f → legal job b.state f ≡ false
  unfolding choose_front
  chosen_none e u f l p = go (offer job b 0) (offer job b 1) refl refl e
    where
      either : (t : Bool) (g h : ℕ) → ◌≡◌ {A = Option ℕ} (cond t (some h) (some g)) none → legal job b.state f ≡ false
      either true g h e = no-some h (sym e)
      either false g h e = no-some g (sym e)

      go : (o q : Option ℕ) → offer job b 0 ≡ o → offer job b 1 ≡ q → of_two (better G D) o q ≡ none → legal job b.state f ≡ false
      go none none i j e = elim (ℕ_discrete u 0) [
        | yes z ↦ offer-none 0 f i (subst (λ (v : ℕ). Front job b v f) z p)
        | no n ↦ offer-none 1 f j (subst (λ (v : ℕ). Front job b v f) (omega (arith, n)) p)
      ]
      go none (some g) i j e = no-some g (sym e)
      go (some g) none i j e = no-some g (sym e)
      go (some g) (some h) i j e = either (better G D h g) g h e

  -- and there is only one such file
  pub chosen-front-one : Binary b.state.sides → (f g : ℕ) → ChosenFront job b f → ChosenFront job b g → f ≡ g
  chosen-front-one bin f g p q =
      let x : ℕ = side_of b.state.sides f in
      let y : ℕ = side_of b.state.sides g in
      elim (ℕ_discrete x y) [
        | yes e ↦ some_inj f g (sym (holds.only y f (subst (λ (v : ℕ). Front job b v f) e p.front)) ∙ holds.only y g q.front)
        | no n ↦
            let i : y ≡ other x = omega (arith, bin f, bin g, n) in
            let j : x ≡ other y = omega (arith, bin f, bin g, n) in
            let g' = subst (λ (v : ℕ). Front job b v g) i q.front in
            let f' = subst (λ (v : ℕ). Front job b v f) j p.front in
            let a = p.greatest g g' q.lawful in
            let c = q.greatest f f' p.lawful in
            let near = p.nearest g g' q.lawful c in
            let far = q.nearest f f' p.lawful a in
            absurd (n (p.from_a g g' q.lawful c far ∙ sym (q.from_a f f' p.lawful a near)))
      ]

-- ---- the choice by a gain list that is fresh is the choice by the gains afresh

module _ (most : Limits) (job : Job) (s : Sound most job) (b : Buckets) (standing : Standing job b) (g : List ℤ) (long : length g ≡ file_count job) (fresh : Fresh (recipes job) b.state g) where
  abbrev L : ℕ → ℤ
  L f = get_or g f (pos 0)

  listed-gain : (f : ℕ) → 1 ≤ times f b.entered → L f ≡ gain_in job b f
  listed-gain f m = let q = standing-free job b standing f m in fresh f (omega (arith, q.0)) (eqb-true (lock_of b.state f) 0 q.1)

  pub front-listed : (u : ℕ) → foremost (in_vault b u) (no_less L) b.entered ≡ front_of job b u
  front-listed u =
      foremost-same (in_vault b u) (in_vault b u) (no_less L) (no_less (gain_in job b)) b.entered (λ f m. refl)
      (λ f x m n p q. ap₂ (λ (y z : ℤ). not (lt_z y z)) (listed-gain f m) (listed-gain x n))
      ∙ sym (front-is-foremost most job s b u)

  pub choose-front-listed :
      of_two (better L (dist_after job b.state)) (unless_rejected (legal job b.state) (foremost (in_vault b 0) (no_less L) b.entered)) (unless_rejected (legal job b.state) (foremost (in_vault b 1) (no_less L) b.entered))
      ≡ choose_front job b
  unfolding choose_front
  choose-front-listed =
      ap₂ (λ (x y : Option ℕ). of_two (better L (dist_after job b.state)) (unless_rejected (legal job b.state) x) (unless_rejected (legal job b.state) y)) (front-listed 0) (front-listed 1)
      ∙ go (offer job b 0) (offer job b 1) refl refl
    where
      holds : FrontsHold job b
      holds = fronts-hold most job s b standing

      offered : (u f : ℕ) → offer job b u ≡ some f → L f ≡ gain_in job b f
      offered u f e = let p = offer-some job b holds u f e in listed-gain f (stands job b standing f p.0.below p.0.unlocked)

      go : (o p : Option ℕ) → offer job b 0 ≡ o → offer job b 1 ≡ p
          → of_two (better L (dist_after job b.state)) o p ≡ of_two (better (gain_in job b) (dist_after job b.state)) o p
      go none p i j = refl
      go (some x) none i j = refl
      go (some x) (some y) i j =
          ap₂ (λ (a c : ℤ). cond (lt_z a c || (not (lt_z c a) && ltb (dist_after job b.state y) (dist_after job b.state x))) (some y) (some x)) (offered 0 x i) (offered 1 y j)

-- ---- the choice does not go by the job's own sides

pub by-sideless : (job : Job) (edition : ℕ) → Sideless (tries_by edition) job
unfolding front_tries choose_front front_of moved_on entered_first moves choose legal dist_after size_after balanced weight smax size_on files views recipes read_in
by-sideless job edition sides = refl

-- ---- any moves of files then free

-- what each move keeps
pub record Good (job : Job) (b : Buckets) : Type 0 where
  pub long : StateLong (file_count job) b.state
  pub binary : Binary b.state.sides
  pub standing : Standing job b

module _ (most : Limits) (job : Job) (s : Sound most job) where
  pub good_start : (sides : List ℕ) → Sides job sides → Good job (start_buckets job sides)
  good_start sides w = record { long = record { sides = w.long; locks = s.marks_long }; binary = w.binary; standing = start-standing job sides }

  pub good-moved : (b : Buckets) (f : ℕ) → Good job b → f < file_count job → lock_of b.state f ≡ 0 → Good job (moved_on job b f)
  unfolding moved_on
  good-moved b f g h e = record {
    long = moved-long f g.long;
    binary = stays-binary (move-of b.state f (omega (arith, g.long.sides)) (omega (arith, g.long.locks)) e g.binary);
    standing = moved-standing most job s b f g.long h g.standing;
  }

  good-after : (b : Buckets) (ms : List ℕ) → Good job b → Frees b.state ms → Good job (steps_by (moved_on job) b ms)
  unfolding steps_by moved_on
  good-after b [] g stop = g
  good-after b (f ∷ ms) g (move x y e rest) = good-after (moved_on job b f) ms (good-moved b f g (omega (arith, g.long.sides)) e) rest

  seen-after : (b : Buckets) (ms : List ℕ) → (steps_by (moved_on job) b ms).state ≡ after b.state ms
  unfolding steps_by moved_on
  seen-after b [] = refl
  seen-after b (f ∷ ms) = seen-after (moved_on job b f) ms

  module _ (sides ms : List ℕ) (w : Sides job sides) (l : Frees (start job sides) ms) where
    pub good-at : (k : ℕ) → Good job (buckets_at job sides ms k)
    good-at k = good-after (start_buckets job sides) (take k ms) (good_start sides w) (frees-take k l)

    pub buckets-hold : BucketsHold job sides ms
    buckets-hold = record {
      seen = λ k. seen-after (start_buckets job sides) (take k ms);
      standing = λ k. (good-at k).standing;
      latest = moves-latest job sides ms;
      fronts = λ k. fronts-hold most job s (buckets_at job sides ms k) (good-at k).standing;
    }

  -- ---- edition 2

  chosen_at : (b : Buckets) (f : ℕ) → Good job b → choose_front job b ≡ some f → ChosenFront job b f
  chosen_at b f g e = chosen-front job b (fronts-hold most job s b g.standing) f e

  picks : Picks (file_count job) (choose_front job) (moved_on job) (λ b. b.state) (Good job)
  unfolding moved_on
  picks = record {
    seen = λ b f. refl;
    long = λ b g. g.long;
    keeps = λ b f g e. let c = chosen_at b f g e in good-moved b f g c.front.below (eqb-true (lock_of b.state f) 0 c.front.unlocked);
    free = λ b f g e. let c = chosen_at b f g e in (c.front.below, eqb-true (lock_of b.state f) 0 c.front.unlocked);
  }

  pub fronts-lawful : LawfulTry job (front_tries job)
  unfolding front_tries
  fronts-lawful sides w =
      let good = good_start sides w in
      let each = moves-see picks (λ st f. (f < file_count job) × (legal job st f ≡ true)) (λ b f g e. let c = chosen_at b f g e in (c.front.below, c.lawful)) (file_count job) (start_buckets job sides) good in
      record { below = λ i h. (each i h).0; legal = λ i h. (each i h).1 }

  module _ (sides : List ℕ) (w : Sides job sides) where
    abbrev ms : List ℕ
    ms = front_tries job sides

    front-frees : Frees (start job sides) ms
    front-frees = lawful-frees most job s sides ms w (fronts-lawful sides w)

    fronts-each : (i : ℕ) → i < length ms → ChosenFront job (fronts_at job sides i) (get_or ms i 0)
    fronts-each i h =
        chosen_at (fronts_at job sides i) (get_or ms i 0) (good-at sides ms w front-frees i)
        (unfold front_tries in moves_each (choose_front job) (moved_on job) (file_count job) (start_buckets job sides) i h)

    -- C turns are enough
    fronts-end : choose_front job (steps_by (moved_on job) (start_buckets job sides) ms) ≡ none
    unfolding front_tries
    fronts-end = moves-end picks (file_count job) (start_buckets job sides) (good_start sides w) (omega (arith, count-le (λ l. eqb l 0) job.marks, s.marks_long))

    pub pass-holds-fronts : PassHoldsFronts job sides
    pass-holds-fronts =
        let good : (k : ℕ) → Good job (fronts_at job sides k) = good-at sides ms w front-frees in
        let b = buckets-hold sides ms w front-frees in
        let last : ℕ = length ms in
        record {
          lawful = fronts-lawful sides w;
          any = pass-holds-by most job s sides ms w (fronts-lawful sides w);
          scans = scans-hold most job s sides ms w front-frees;
          buckets = b;
          each = fronts-each;
          only = λ i f h c. chosen-front-one job (fronts_at job sides i) (b.fronts i) (good i).binary f (get_or ms i 0) c (fronts-each i h);
          ended = λ u f l p.
              subst (λ (st : State). legal job st f ≡ false) (b.seen last)
              (chosen_none job (fronts_at job sides last) (b.fronts last)
              (ap (λ (fs : List ℕ). choose_front job (steps_by (moved_on job) (start_buckets job sides) fs)) (take-length ms) ∙ fronts-end) u f l p);
        }

  -- ---- by edition

  by_lawful : (edition : ℕ) → LawfulTry job (tries_by edition job)
  by_lawful edition sides w = go (eqb edition 2)
    where
      go : (t : Bool) → Lawful job sides (cond t (front_tries job sides) (tries job sides))
      go true = fronts-lawful sides w
      go false = tries-lawful most job s sides w

  pub editions-hold : EditionsHold job
  editions-hold = record {
    lawful = by_lawful;
    run = λ edition. run-holds-by most job s (tries_by edition job) (by_lawful edition);
    sideless = λ edition. by-sideless job edition;
  }
