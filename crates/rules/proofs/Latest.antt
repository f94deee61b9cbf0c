-- Lists of files, the latest entered first: who stands there, in which place, and that whoever stands first entered last. Assumes nothing.
use mathlib.Core.Path.{◌≡◌, refl, sym, ap, ◌∙◌}
use mathlib.Core.Logic.{◌≢◌}
use Prim.Native.Nat.{ℕ, suc, ◌≤◌, ◌<◌}
use mathlib.Core.Bool.{Bool, true, false, not, cond}
use mathlib.Core.List.{List, [], ◌∷◌, map}
use native.Mathlib.Decide.{ℕ_discrete}
use native.Mathlib.Omega.{arith}
use lib.Dec.{eqb}
use borrow.Author.Tests.{eq-eqb, ne_eqb}
use Rattle.rules.specs.Lists.{total, count, those}
use Rattle.rules.specs.Split.{times}
use Rattle.rules.specs.Move.{steps_by, Change}
use Rattle.rules.specs.Fronts.{without, to_front, reenters}
use Rattle.rules.specs.FrontsHold.{place_of, put}
use Rattle.rules.proofs.Tests.{clash}
use Rattle.rules.proofs.Count.{hit-eq, hit-ne, hit-self}

-- ---- members of a list

pub held_first : (x : ℕ) (xs : List ℕ) → 1 ≤ times x (x ∷ xs)
unfolding times count total
held_first x xs = omega (arith, hit-self x)

pub held_more : (x f : ℕ) (xs : List ℕ) → 1 ≤ times f xs → 1 ≤ times f (x ∷ xs)
unfolding times count total
held_more x f xs h = omega arith

pub held-later : (x f : ℕ) (xs : List ℕ) → f ≢ x → 1 ≤ times f (x ∷ xs) → 1 ≤ times f xs
unfolding times count total
held-later x f xs n h = omega (arith, hit-ne (λ (e : x ≡ f). n (sym e)))

pub place-first : (x : ℕ) (xs : List ℕ) → place_of (x ∷ xs) x ≡ 0
unfolding place_of
place-first x xs = rw (eq-eqb x x refl) refl

pub place-later : (x f : ℕ) (xs : List ℕ) → f ≢ x → place_of (x ∷ xs) f ≡ suc (place_of xs f)
unfolding place_of
place-later x f xs n = rw (ne_eqb x f (λ e. n (sym e))) refl

-- no two members stand in one place
pub place-one : (xs : List ℕ) (f g : ℕ) → 1 ≤ times f xs → 1 ≤ times g xs → place_of xs f ≡ place_of xs g → f ≡ g
place-one [] f g h k e = let q : 1 ≤ 0 = unfold times count total in h in absurd (omega arith)
place-one (x ∷ xs) f g h k e = elim (ℕ_discrete f x) [
  | yes p ↦ elim (ℕ_discrete g x) [
    | yes q ↦ p ∙ sym q
    | no q ↦ absurd (omega (arith, ap (place_of (x ∷ xs)) p, place-first x xs, place-later x g xs q))
  ]
  | no p ↦ elim (ℕ_discrete g x) [
    | yes q ↦ absurd (omega (arith, ap (place_of (x ∷ xs)) q, place-first x xs, place-later x f xs p))
    | no q ↦ place-one xs f g (held-later x f xs p h) (held-later x g xs q k) (omega (arith, place-later x f xs p, place-later x g xs q))
  ]
]

-- ---- how often a list holds a number

module _ (p : ℕ → Bool) (x : ℕ) where
  pub times-kept : p x ≡ true → (r : List ℕ) → times x (those p r) ≡ times x r
  unfolding those times count total
  times-kept e [] = refl
  times-kept e (y ∷ r) = go (p y) refl (times-kept e r)
    where
      go : (t : Bool) → p y ≡ t → times x (those p r) ≡ times x r → times x (cond t (y ∷ those p r) (those p r)) ≡ times x (y ∷ r)
      go true q ih = omega (arith, ih)
      go false q ih = omega (arith, ih, hit-ne (λ (z : y ≡ x). clash (sym e ∙ sym (ap p z) ∙ q)))

  pub times-gone : p x ≡ false → (r : List ℕ) → times x (those p r) ≡ 0
  unfolding those times count total
  times-gone e [] = refl
  times-gone e (y ∷ r) = go (p y) refl (times-gone e r)
    where
      go : (t : Bool) → p y ≡ t → times x (those p r) ≡ 0 → times x (cond t (y ∷ those p r) (those p r)) ≡ 0
      go true q ih = omega (arith, ih, hit-ne (λ (z : y ≡ x). clash (sym q ∙ ap p z ∙ e)))
      go false q ih = ih

pub left-gone : (fs : List ℕ) (f : ℕ) → times f (without fs f) ≡ 0
left-gone fs f = times-gone (λ g. not (eqb g f)) f (ap not (eq-eqb f f refl)) fs

pub left-others : (fs : List ℕ) (f x : ℕ) → x ≢ f → times x (without fs f) ≡ times x fs
left-others fs f x n = times-kept (λ g. not (eqb g f)) x (ap not (ne_eqb x f n)) fs

pub entered-once : (fs : List ℕ) (f : ℕ) → times f (to_front fs f) ≡ 1
unfolding times count total
entered-once fs f = omega (arith, hit-self f, left-gone fs f)

pub entered-others : (fs : List ℕ) (f x : ℕ) → x ≢ f → times x (to_front fs f) ≡ times x fs
unfolding times count total
entered-others fs f x n = omega (arith, hit-ne (λ (e : f ≡ x). n (sym e)), left-others fs f x n)

-- of a file that is not there nothing is taken out
pub without-absent : (fs : List ℕ) (f : ℕ) → times f fs ≡ 0 → without fs f ≡ fs
unfolding those times count total
without-absent [] f h = refl
without-absent (x ∷ fs) f h = elim (ℕ_discrete x f) [
  | yes e ↦ absurd (omega (arith, hit-eq e))
  | no n ↦ rw (ne_eqb x f n) (ap (λ (l : List ℕ). x ∷ l) (without-absent fs f (omega (arith, hit-ne n))))
]

-- ---- whoever stands first entered last

-- of two that stand in fs the first has the lesser place in h, all that entered, the latest first
abbrev pub Latest : List ℕ → List ℕ → Type 0
Latest fs h = (x y : ℕ) → 1 ≤ times x fs → 1 ≤ times y fs → place_of fs x < place_of fs y → place_of h x < place_of h y

-- the others stand in the same order
without-order : (fs : List ℕ) (f x y : ℕ) → x ≢ f → y ≢ f → place_of (without fs f) x < place_of (without fs f) y → place_of fs x < place_of fs y
unfolding those
without-order [] f x y m n l = l
without-order (z ∷ fs) f x y m n l = elim (ℕ_discrete z f) [
  | yes e ↦
      let k : place_of (without fs f) x < place_of (without fs f) y = rw (eq-eqb z f e) at l in
      omega (arith, place-later z x fs (λ q. m (q ∙ e)), place-later z y fs (λ q. n (q ∙ e)), without-order fs f x y m n k)
  | no i ↦
      let k : place_of (z ∷ without fs f) x < place_of (z ∷ without fs f) y = rw (ne_eqb z f i) at l in
      elim (ℕ_discrete y z) [
        | yes q ↦ absurd (omega (arith, ap (place_of (z ∷ without fs f)) q, place-first z (without fs f)))
        | no p ↦ elim (ℕ_discrete x z) [
          | yes q ↦ omega (arith, ap (place_of (z ∷ fs)) q, place-first z fs, place-later z y fs p)
          | no o ↦
              omega (
                arith,
                place-later z x (without fs f) o,
                place-later z y (without fs f) p,
                place-later z x fs o,
                place-later z y fs p,
                without-order fs f x y m n (omega (arith, place-later z x (without fs f) o, place-later z y (without fs f) p)),
              )
        ]
      ]
]

pub latest-left : (fs h : List ℕ) (f : ℕ) → Latest fs h → Latest (without fs f) h
latest-left fs h f l x y a b k =
    let m : x ≢ f = λ e. omega (arith, ap (λ (z : ℕ). times z (without fs f)) e, left-gone fs f) in
    let n : y ≢ f = λ e. omega (arith, ap (λ (z : ℕ). times z (without fs f)) e, left-gone fs f) in
    l x y (omega (arith, left-others fs f x m)) (omega (arith, left-others fs f y n)) (without-order fs f x y m n k)

pub latest-enters : (fs h : List ℕ) (f : ℕ) → Latest fs h → Latest (to_front fs f) (put h f)
latest-enters fs h f l x y a b k = elim (ℕ_discrete y f) [
  | yes q ↦ absurd (omega (arith, ap (place_of (to_front fs f)) q, place-first f (without fs f)))
  | no n ↦ elim (ℕ_discrete x f) [
    | yes q ↦ omega (arith, ap (place_of (f ∷ h)) q, place-first f h, place-later f y h n)
    | no m ↦
        omega (
          arith,
          place-later f x h m,
          place-later f y h n,
          latest-left fs h f l x y (held-later f x (without fs f) m a) (held-later f y (without fs f) n b) (omega (arith, place-later f x (without fs f) m, place-later f y (without fs f) n)),
        )
  ]
]

pub latest-all : (xs fs h : List ℕ) → Latest fs h → Latest (steps_by to_front fs xs) (steps_by put h xs)
unfolding steps_by
latest-all [] fs h l = l
latest-all (x ∷ xs) fs h l = latest-all xs (to_front fs x) (put h x) (latest-enters fs h x l)

-- a file changed by a scan enters at the front
pub changed-enter : (cs : List Change) (fs : List ℕ) → steps_by reenters fs cs ≡ steps_by to_front fs (map (λ c. c.file) cs)
unfolding steps_by
changed-enter [] fs = refl
changed-enter (c ∷ cs) fs = changed-enter cs (to_front fs c.file)
