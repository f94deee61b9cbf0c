-- The walk of edition 3's choice over the files: what is kept is the best of the files passed. Assumes nothing.
use Rattle.std.specs.Prelude.{Option as Option', Some, None, IfSome, MatchOption}
use Rattle.std.specs.Option.{option_map}
use mir.Syntax.{w32}
use mir.Val.{SFits}
use lib.Seq.{get_or-take}
use mathlib.Core.Path.{◌≡◌, refl, sym, ap, subst, ◌∙◌}
use Prim.Native.Nat.{ℕ, zero, suc, ◌+◌, ◌*◌, ◌≤◌, ◌<◌}
use native.Mathlib.Numerals.{add-one}
use native.Mathlib.Decide.{ℕ_discrete}
use native.Mathlib.Omega.{arith}
use mathlib.Core.Bool.{Bool, true, false, not, cond, ◌&&◌}
use mathlib.Core.List.{List}
use mathlib.Core.Option.{Option, none, some}
use lib.ListN.{length, get_or, take}
use lib.Dec.{leb, eqb}
use lib.IntN.{ℤ, pos}
use lib.Signed.{lt_z, le_z}
use borrow.Author.Tests.{leb-true, eqb-true}
use Rattle.rules.specs.Move.{challenge, first_below}
use Rattle.rules.specs.Levels.{greater_vector, better_by}
use Rattle.rules.proofs.Tests.{clash, and_yes, and_both}
use Rattle.rules.proofs.First.{first-ok}
use Rattle.tables.specs.Zones.{counts_at}
use Rattle.choice.specs.declared.window.Window.{Window}
use Rattle.choice.specs.declared.window.Standing.{Standing}
use Rattle.choice.specs.declared.edition1.Best.{Best}
use Rattle.choice.specs.Choosing.{fit_files, dist_in, legal_in}
use Rattle.choice.specs.Best.{best_is, best_of}
use Rattle.choice.specs.Reaching.{least_gain}
use Rattle.choice.specs.Cases.{as_best}
use Rattle.choice.proofs.FirstFound.{FirstFound}
use Rattle.choice.proofs.Fitting.{fit-lengths}
use Rattle.choice.proofs.StandsAt.{no-greater, greater-not-less, least-low}
use Rattle.levels.specs.declared.edition3.Led.{Led}
use Rattle.levels.specs.declared.edition3.Rival.{Rival}
use Rattle.levels.specs.Vectors.{vector_in, above_in, chosen_vector, fit_vectors, vector_choice}
use Rattle.levels.specs.Leading.{led_is, rival_is, leads, least_of, is_rival, rival_in, Passed, FirstRival, NextRival, led_of, best_by}

-- ---- the files that are no rivals

module _ {w : Window} {size : ℕ} {bar : ℤ} {sizes sides : List ℕ} {gains : List ℤ} {locks : List ℕ} {from : ℕ} where
  pub passed_none : from ≤ length sizes → Passed w size bar sizes sides gains locks from from
  passed_none h = record { least = omega arith; most = h; each = λ g k l. absurd (omega arith) }

  pub passed-more : {f : ℕ} → f < length sizes → Passed w size bar sizes sides gains locks from f
      → (is_rival w size bar sizes sides gains locks f ≡ false) × (lt_z (get_or gains f (pos 0)) least_gain ≡ false)
      → Passed w size bar sizes sides gains locks from (f + 1)
  passed-more {f} h o e =
      record {
        least = omega (arith, o.least);
        most = omega arith;
        each = λ g k l.
            elim (ℕ_discrete g f) [
              | yes z ↦ rw z e
              | no z ↦ o.each g k (omega arith)
            ];
      }

-- ---- the first rival

no-rival : (t : Bool) (r : Rival) → cond t (Some r) None ≡ None → t ≡ false
no-rival true r e = cc
no-rival false r e = refl

is-one : (t : Bool) (r q : Rival) → cond t (Some r) None ≡ Some q → (t ≡ true) × (r ≡ q)
is-one true r q e = (refl, cc)
is-one false r q e = cc

module _ (w : Window) (size : ℕ) (bar : ℤ) (s : Standing) (scratch : List ℕ) where
  abbrev sizes : List ℕ
  sizes = s.sizes.now

  abbrev sides : List ℕ
  sides = s.sides.now

  abbrev gains : List ℤ
  gains = s.gains.now

  -- what a file gives, as the code asks it
  abbrev pub Gives : ℕ → Option' Rival → Type 0
  Gives f o = (o ≡ rival_in w size bar s scratch f) × SFits w32 (get_or gains f (pos 0))

  abbrev locks : List ℕ
  locks = take (length sizes) scratch

  told : (f : ℕ) → f < length sizes → cond (is_rival w size bar sizes sides gains locks f) (Some (rival_is f (dist_in w size sizes sides f))) None ≡ rival_in w size bar s scratch f
  told f h = rw (get_or-take (length sizes) scratch f 0 h) refl

  passes : (f : ℕ) → f < length sizes → Gives f None → (is_rival w size bar sizes sides gains locks f ≡ false) × (lt_z (get_or gains f (pos 0)) least_gain ≡ false)
  passes f h d =
      (no-rival (is_rival w size bar sizes sides gains locks f) (rival_is f (dist_in w size sizes sides f)) (told f h ∙ sym d.0), least-low (get_or gains f (pos 0)) d.1.sfits)

  pub next-found : {from : ℕ} → from ≤ length sizes → (r : Option' Rival) → FirstFound Gives from (length sizes) r → NextRival w size bar s scratch from r
  next-found h None d = record { least = h; most = omega arith; each = λ g k l. passes g l (d g k l) }
  next-found {from} h (Some r) d =
      let i = d.0 in
      let q = is-one (is_rival w size bar sizes sides gains locks i) (rival_is i (dist_in w size sizes sides i)) r (told i d.2 ∙ sym d.3.0) in
      subst (FirstRival w size bar sizes sides gains locks from) q.1
      (record {
        passed = record { least = d.1; most = omega (arith, d.2); each = λ g k l. passes g (omega (arith, d.2)) (d.4 g k l) };
        file = d.2;
        rival = q.0;
        dist = refl;
      })

-- ---- the walk

module _ (c n p : ℕ) (w : Window) (size : ℕ) (sizes sides : List ℕ) (gains : List ℤ) (z : List ℕ) where
  abbrev gain_of : ℕ → ℤ
  gain_of f = get_or gains f (pos 0)

  abbrev dist : ℕ → ℕ
  dist = dist_in w size sizes sides

  abbrev ok : ℕ → Bool
  ok = legal_in w size sizes sides (take c z)

  abbrev goes : ℕ → ℕ → Bool
  goes = better_by (above_in c n p sides gains z) dist

  abbrev kept : Option ℕ → Option' Led
  kept = led_of c n p w size sizes sides gains z

  abbrev chosen : ℕ → Option ℕ
  chosen = chosen_vector c n p w size sizes sides gains z

  abbrev as_rival : ℕ → Led
  as_rival f = led_is f (vector_in c n p sides gains z f) (dist f)

  -- the files below f are passed, and b is the best of them
  pub record FilesPassed (f : ℕ) (b : Option' Led) : Type 0 where
    pub few : f ≤ c
    pub best : b ≡ kept (chosen f)

  chosen-below : (f g : ℕ) → chosen f ≡ some g → g < f
  unfolding chosen_vector
  chosen-below f g e = (first-ok ok goes f g e).0

  -- of less gain a file does not go first
  lost : (f g : ℕ) → lt_z (gain_of f) (gain_of g) ≡ true → goes f g ≡ false
  unfolding vector_in greater_vector
  lost f g e = rw (greater-not-less (gain_of f) (gain_of g) e, e) refl

  -- a file that is no rival changes nothing
  skip : (o : Option ℕ) (f : ℕ) → lt_z (gain_of f) least_gain ≡ false → is_rival w size (least_of (kept o)) sizes sides gains (take c z) f ≡ false
      → kept o ≡ kept (challenge ok goes o f)
  unfolding challenge vector_in
  skip none f h e = go (eqb (get_or (take c z) f 0) 0) (leb (dist f) w.span) (rw (no-greater least_gain (gain_of f), h) at e)
    where
      go : (a b : Bool) → ((a && true) && b) ≡ false → kept none ≡ kept (cond (a && b) (some f) none)
      go true true q = clash q
      go true false q = refl
      go false b q = refl
  skip (some m) f h e = go (eqb (get_or (take c z) f 0) 0) (lt_z (gain_of f) (gain_of m)) (leb (dist f) w.span) refl (rw (no-greater (gain_of m) (gain_of f)) at e)
    where
      go : (a x b : Bool) → lt_z (gain_of f) (gain_of m) ≡ x → ((a && not x) && b) ≡ false → kept (some m) ≡ kept (cond ((a && b) && goes f m) (some f) (some m))
      go false x b y q = refl
      go true x false y q = refl
      go true false true y q = clash q
      go true true true y q = rw (lost f m y) refl

  -- a rival is kept if it goes first
  join : (o : Option ℕ) (f : ℕ) → ok f ≡ true → Some (leads (as_rival f) (kept o)) ≡ kept (challenge ok goes o f)
  unfolding challenge
  join none f e = rw e refl
  join (some m) f e = rw e (go (goes f m))
    where
      go : (t : Bool) → Some (cond t (as_rival f) (as_rival m)) ≡ kept (cond t (some f) (some m))
      go true = refl
      go false = refl

  -- what is answered of it
  best-is : (o : Option ℕ) → as_best c (option_map best_by (kept o)) ≡ best_of gain_of dist c o
  unfolding vector_in
  best-is none = refl
  best-is (some f) = refl

  best-below : (o : Option ℕ) → ((g : ℕ) → o ≡ some g → g < c) → IfSome (option_map best_by (kept o)) (λ best. best.file < c)
  best-below none h = tt
  best-below (some f) h = h f refl

  -- a rival's move is legal
  rival-ok : (bar : ℤ) (f : ℕ) → is_rival w size bar sizes sides gains (take c z) f ≡ true → ok f ≡ true
  rival-ok bar f e =
      let t = and_yes (eqb (get_or (take c z) f 0) 0 && le_z bar (gain_of f)) (leb (dist f) w.span) e in
      and_both (and_yes (eqb (get_or (take c z) f 0) 0) (le_z bar (gain_of f)) t.0).0 t.1

module _ {c n p : ℕ} {w : Window} {size : ℕ} {sizes sides : List ℕ} {gains : List ℤ} {z : List ℕ} where
  pub files-none : FilesPassed c n p w size sizes sides gains z 0 None
  unfolding chosen_vector first_below
  files-none = record { few = omega arith; best = refl }

  module _ (long : length sizes ≡ c) {f : ℕ} {b : Option' Led} (a : FilesPassed c n p w size sizes sides gains z f b) where
    -- the files up to the next rival change nothing
    pub files-over : (r : ℕ) → Passed w size (least_of b) sizes sides gains (take c z) f r → FilesPassed c n p w size sizes sides gains z r b
    unfolding chosen_vector first_below
    files-over zero o =
        let e : f ≡ 0 = omega (arith, o.least) in
        rw e at a
    files-over (suc r) o = elim (ℕ_discrete f (suc r)) [
      | yes e ↦ rw e at a
      | no k ↦
          let q = files-over r (record { least = omega (arith, o.least); most = omega (arith, o.most); each = λ g k l. o.each g k (omega arith) }) in
          let e = o.each r (omega (arith, o.least)) (omega arith) in
          record {
            few = omega (arith, o.most);
            best = q.best ∙ skip c n p w size sizes sides gains z (chosen_vector c n p w size sizes sides gains z r) r e.1 (rw q.best at e.0);
          }
    ]

    -- against it, the best is that of the files passed with it
    pub files-next : {r : Rival} {v : List ℤ} {led : Led} → FirstRival w size (least_of b) sizes sides gains (take c z) f r → v ≡ vector_in c n p sides gains z r.file
        → led ≡ leads (led_is r.file v r.dist) b → FilesPassed c n p w size sizes sides gains z (r.file + 1) (Some led)
    unfolding chosen_vector first_below
    files-next {r} {v} {led} x e q =
        let k = files-over r.file x.passed in
        record {
          few = omega (arith, x.file);
          best =
              rw (add-one r.file)
              (ap Some q ∙ rw (e, x.dist, k.best)
              (join c n p w size sizes sides gains z (chosen_vector c n p w size sizes sides gains z r.file) r.file (rival-ok c n p w size sizes sides gains z (least_of b) r.file x.rival)));
        }

    -- there is no next
    pub files-done : (r : Option' Rival) → ((x : Rival) → r ≡ Some x → ⊥)
        → MatchOption r (Passed w size (least_of b) sizes sides gains (take (length sizes) z) f (length sizes)) (FirstRival w size (least_of b) sizes sides gains (take (length sizes) z) f)
        → b ≡ led_of c n p w size sizes sides gains z (chosen_vector c n p w size sizes sides gains z c)
    files-done None h x = (files-over c (rw long at x)).best
    files-done (Some r) h x = absurd (h r refl)

-- ---- lists that fit, and others

pub all-lengths : (c n p sizes sides gains scratch : ℕ) → fit_vectors c n p sizes sides gains scratch ≡ true
    → (sizes ≡ c) × (sides ≡ c) × (gains ≡ c) × (c ≤ scratch) × (counts_at c p + 4 * n ≤ scratch)
all-lengths c n p sizes sides gains scratch e =
    let a = and_yes (eqb sizes c && eqb sides c && fit_files c scratch gains) (leb (counts_at c p + 4 * n) scratch) e in
    let b = and_yes (eqb sizes c && eqb sides c) (fit_files c scratch gains) a.0 in
    let d = and_yes (eqb sizes c) (eqb sides c) b.0 in
    let l = fit-lengths b.1 in
    (eqb-true sizes c d.0, eqb-true sides c d.1, l.0, l.1, leb-true (counts_at c p + 4 * n) scratch a.1)

module _ (c n p : ℕ) (w : Window) (size : ℕ) (sizes sides : List ℕ) (gains : List ℤ) (z : List ℕ) where
  abbrev fit : Bool
  fit = fit_vectors c n p (length sizes) (length sides) (length gains) (length z)

  abbrev all : Best
  all = best_of (gain_of c n p w size sizes sides gains z) (dist c n p w size sizes sides gains z) c (chosen_vector c n p w size sizes sides gains z c)

  pub is-choice : {t : Bool} → fit ≡ t → vector_choice c n p w size sizes sides gains z ≡ cond t all (best_is (length sizes) (pos 0) 0)
  unfolding vector_choice
  is-choice e = ap (λ (t : Bool). cond t all (best_is (length sizes) (pos 0) 0)) e

  pub choice-unfit : fit ≡ false → best_is (length sizes) (pos 0) 0 ≡ vector_choice c n p w size sizes sides gains z
  choice-unfit e = sym (is-choice e)

  pub choice-fit : fit ≡ true → {b : Option' Led} → b ≡ led_of c n p w size sizes sides gains z (chosen_vector c n p w size sizes sides gains z c)
      → (as_best (length sizes) (option_map best_by b) ≡ vector_choice c n p w size sizes sides gains z) × IfSome (option_map best_by b) (λ best. best.file < length sizes)
  choice-fit e q =
      let long = (all-lengths c n p (length sizes) (length sides) (length gains) (length z) e).0 in
      let o = chosen_vector c n p w size sizes sides gains z c in
      rw (q, long)
      (best-is c n p w size sizes sides gains z o ∙ sym (is-choice e), best-below c n p w size sizes sides gains z o (chosen-below c n p w size sizes sides gains z c))
