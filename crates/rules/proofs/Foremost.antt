-- The first in a list of those of greatest gain: what it is, that it is the only one, and that it is the front file of the highest nonempty bucket. Assumes nothing.
use mathlib.Core.Path.{◌≡◌, refl, sym, ap, ap₂, ◌∙◌}
use Prim.Native.Nat.{ℕ, zero, suc, ◌+◌, ◌-◌, ◌*◌, ◌≤◌, ◌<◌}
use mathlib.Core.Bool.{Bool, true, false, not, cond, ◌&&◌}
use mathlib.Core.List.{List, [], ◌∷◌}
use mathlib.Core.Option.{Option, none, some}
use native.Mathlib.Decide.{ℕ_discrete}
use native.Mathlib.Omega.{arith}
use lib.Dec.{ltb, eqb}
use lib.IntN.{ℤ}
use lib.Signed.{lt_z}
use borrow.Author.Tests.{eqb-true, eqb-false, eq-eqb, ne_eqb, ltb-true, ltb-false, lt-ltb, le-ltb}
use Rattle.rules.specs.Lists.{total, count, those, diff}
use Rattle.rules.specs.Split.{times}
use Rattle.rules.specs.Fronts.{equal, front_or, front_below}
use Rattle.rules.specs.FrontsHold.{place_of, over, foremost, no_less}
use Rattle.rules.proofs.Tests.{clash, and_yes, and-true}
use Rattle.rules.proofs.Signed.{up, down, ltb-same, lt_z-key, lt_z-true, lt_z-false, diff-key, abs}
use Rattle.rules.proofs.First.{some_inj, no-some}
use Rattle.rules.proofs.Latest.{held_first, held_more, held-later, place-first, place-later, place-one}

-- ---- what the foremost is

less-no : (a b : ℤ) → up b + down a ≤ up a + down b → lt_z a b ≡ false
less-no a b h = lt_z-key a b ∙ le-ltb (up a + down b) (up b + down a) h

pub less-self : (a : ℤ) → lt_z a a ≡ false
less-self a = less-no a a (omega arith)

pub less-not : (a b : ℤ) → lt_z a b ≡ true → lt_z b a ≡ false
less-not a b e = less-no b a (omega (arith, lt_z-true a b e))

no_less_lem : (a b c : ℤ) → lt_z a b ≡ false → lt_z b c ≡ false → lt_z a c ≡ false
no_less_lem a b c e z = less-no a c (omega (arith, lt_z-false a b e, lt_z-false b c z))

-- f stands in the list and passes the test; none of those has a greater gain, and of those with no less a gain none stands before it
pub record Foremost (ok : ℕ → Bool) (gains : ℕ → ℤ) (xs : List ℕ) (f : ℕ) : Type 0 where
  pub member : 1 ≤ times f xs
  pub fine : ok f ≡ true
  pub greatest : (g : ℕ) → 1 ≤ times g xs → ok g ≡ true → lt_z (gains f) (gains g) ≡ false
  pub latest : (g : ℕ) → 1 ≤ times g xs → ok g ≡ true → lt_z (gains g) (gains f) ≡ false → place_of xs f ≤ place_of xs g

module _ (ok : ℕ → Bool) (gains : ℕ → ℤ) where
  pub foremost-none : (xs : List ℕ) → foremost ok (no_less gains) xs ≡ none → (g : ℕ) → 1 ≤ times g xs → ok g ≡ false
  unfolding foremost
  foremost-none [] e g h = let q : 1 ≤ 0 = unfold times count total in h in absurd (omega arith)
  foremost-none (x ∷ xs) e g h = go (ok x) refl (foremost ok (no_less gains) xs) (foremost-none xs) e
    where
      go : (t : Bool) → ok x ≡ t → (o : Option ℕ) → (o ≡ none → (g : ℕ) → 1 ≤ times g xs → ok g ≡ false)
          → cond t (some (over (no_less gains) x o)) o ≡ none → ok g ≡ false
      go true q o ih e = no-some (over (no_less gains) x o) (sym e)
      go false q o ih e = elim (ℕ_discrete g x) [
        | yes p ↦ ap ok p ∙ q
        | no p ↦ ih e g (held-later x g xs p h)
      ]

  -- the first of the list, where the others do not go before it
  takes_first : (x : ℕ) (xs : List ℕ) → ok x ≡ true → ((g : ℕ) → 1 ≤ times g xs → ok g ≡ true → lt_z (gains x) (gains g) ≡ false) → Foremost ok gains (x ∷ xs) x
  takes_first x xs p h = record {
    member = held_first x xs;
    fine = p;
    greatest = λ g k z. elim (ℕ_discrete g x) [
      | yes e ↦ ap (λ (y : ℕ). lt_z (gains x) (gains y)) e ∙ less-self (gains x)
      | no n ↦ h g (held-later x g xs n k) z
    ];
    latest = λ g k z e. omega (arith, place-first x xs);
  }

  -- or that of the rest, where the first gives way to it
  leaves-first : (x : ℕ) (xs : List ℕ) (f : ℕ) → (ok x ≡ true → lt_z (gains x) (gains f) ≡ true) → Foremost ok gains xs f → Foremost ok gains (x ∷ xs) f
  leaves-first x xs f p r = record {
    member = held_more x f xs r.member;
    fine = r.fine;
    greatest = λ g k z. elim (ℕ_discrete g x) [
      | yes e ↦ ap (λ (y : ℕ). lt_z (gains f) (gains y)) e ∙ less-not (gains x) (gains f) (p (sym (ap ok e) ∙ z))
      | no n ↦ r.greatest g (held-later x g xs n k) z
    ];
    latest = λ g k z e. elim (ℕ_discrete g x) [
      | yes q ↦ clash (sym (p (sym (ap ok q) ∙ z)) ∙ sym (ap (λ (y : ℕ). lt_z (gains y) (gains f)) q) ∙ e)
      | no n ↦ elim (ℕ_discrete f x) [
        | yes q ↦ omega (arith, ap (place_of (x ∷ xs)) q, place-first x xs)
        | no m ↦ omega (arith, place-later x f xs m, place-later x g xs n, r.latest g (held-later x g xs n k) z e)
      ]
    ];
  }

  pub foremost-some : (xs : List ℕ) (f : ℕ) → foremost ok (no_less gains) xs ≡ some f → Foremost ok gains xs f
  unfolding foremost
  foremost-some [] f e = no-some f e
  foremost-some (x ∷ xs) f e = go (ok x) refl (foremost ok (no_less gains) xs) (foremost-none xs) (foremost-some xs) e
    where
      either : (t : Bool) (g : ℕ) → lt_z (gains x) (gains g) ≡ t → ok x ≡ true → Foremost ok gains xs g → ◌≡◌ {A = Option ℕ} (some (cond (not t) x g)) (some f) → Foremost ok gains (x ∷ xs) f
      either true g p q r e = rw (← some_inj g f e) (leaves-first x xs g (λ z. p) r)
      either false g p q r e = rw (← some_inj x f e) (takes_first x xs q (λ h k z. no_less_lem (gains x) (gains g) (gains h) p (r.greatest h k z)))

      go : (t : Bool) → ok x ≡ t → (o : Option ℕ) → (o ≡ none → (g : ℕ) → 1 ≤ times g xs → ok g ≡ false) → ((g : ℕ) → o ≡ some g → Foremost ok gains xs g)
          → cond t (some (over (no_less gains) x o)) o ≡ some f → Foremost ok gains (x ∷ xs) f
      go true q none empty ih e = rw (← some_inj x f e) (takes_first x xs q (λ g k z. clash (sym z ∙ empty refl g k)))
      go true q (some g) empty ih e = either (lt_z (gains x) (gains g)) g refl q (ih g refl) e
      go false q o empty ih e = leaves-first x xs f (λ z. clash (sym z ∙ q)) (ih f e)

  pub foremost-one : (xs : List ℕ) (f g : ℕ) → Foremost ok gains xs f → Foremost ok gains xs g → f ≡ g
  foremost-one xs f g p q =
      place-one xs f g p.member q.member
      (omega (
        arith,
        p.latest g q.member q.fine (q.greatest f p.member p.fine),
        q.latest f p.member p.fine (p.greatest g q.member q.fine),
      ))

  -- so it is found where there is one
  pub foremost-is : (xs : List ℕ) (f : ℕ) → Foremost ok gains xs f → foremost ok (no_less gains) xs ≡ some f
  foremost-is xs f p = go (foremost ok (no_less gains) xs) refl
    where
      go : (o : Option ℕ) → foremost ok (no_less gains) xs ≡ o → foremost ok (no_less gains) xs ≡ some f
      go none e = clash (sym p.fine ∙ foremost-none xs e f p.member)
      go (some g) e = e ∙ ap some (foremost-one xs g f (foremost-some xs g e) p)

-- ---- tests that say the same of the files listed find the same

pub foremost-ok : (ok : ℕ → Bool) (goes : ℕ → ℕ → Bool) (xs : List ℕ) (g : ℕ) → foremost ok goes xs ≡ some g → (1 ≤ times g xs) × (ok g ≡ true)
unfolding foremost
foremost-ok ok goes [] g e = no-some g e
foremost-ok ok goes (x ∷ xs) g e = go (ok x) refl (foremost ok goes xs) (foremost-ok ok goes xs) e
  where
    either : (t : Bool) (h : ℕ) → ok x ≡ true → (1 ≤ times h xs) × (ok h ≡ true) → ◌≡◌ {A = Option ℕ} (some (cond t x h)) (some g) → (1 ≤ times g (x ∷ xs)) × (ok g ≡ true)
    either true h p q e = rw (← some_inj x g e) (held_first x xs, p)
    either false h p q e = rw (← some_inj h g e) (held_more x h xs q.0, q.1)

    go : (t : Bool) → ok x ≡ t → (o : Option ℕ) → ((g : ℕ) → o ≡ some g → (1 ≤ times g xs) × (ok g ≡ true)) → cond t (some (over goes x o)) o ≡ some g → (1 ≤ times g (x ∷ xs)) × (ok g ≡ true)
    go true p none ih e = rw (← some_inj x g e) (held_first x xs, p)
    go true p (some h) ih e = either (goes x h) h p (ih h refl) e
    go false p o ih e = let q = ih g e in (held_more x g xs q.0, q.1)

pub foremost-same : (ok ok' : ℕ → Bool) (goes goes' : ℕ → ℕ → Bool) (xs : List ℕ) → ((f : ℕ) → 1 ≤ times f xs → ok f ≡ ok' f)
    → ((f g : ℕ) → 1 ≤ times f xs → 1 ≤ times g xs → ok f ≡ true → ok g ≡ true → goes f g ≡ goes' f g) → foremost ok goes xs ≡ foremost ok' goes' xs
unfolding foremost
foremost-same ok ok' goes goes' [] h k = refl
foremost-same ok ok' goes goes' (x ∷ xs) h k =
    go (ok x) refl (foremost ok goes xs) (foremost-ok ok goes xs)
    ∙ ap₂ (λ (t : Bool) (o : Option ℕ). cond t (some (over goes' x o)) o) (h x (held_first x xs))
    (foremost-same ok ok' goes goes' xs (λ f m. h f (held_more x f xs m)) (λ f g m n. k f g (held_more x f xs m) (held_more x g xs n)))
  where
    go : (t : Bool) → ok x ≡ t → (o : Option ℕ) → ((g : ℕ) → o ≡ some g → (1 ≤ times g xs) × (ok g ≡ true)) → cond t (some (over goes x o)) o ≡ cond t (some (over goes' x o)) o
    go true p none m = refl
    go true p (some g) m = let q = m g refl in ap (λ (t : Bool). some (cond t x g)) (k x g (held_first x xs) (held_more x g xs q.0) p q.1)
    go false p o m = refl

-- ---- buckets by level, highest first

module _ (ok : ℕ → Bool) (level : ℕ → ℕ) where
  -- the bucket of a level
  abbrev at : List ℕ → ℕ → List ℕ
  at xs n = those (λ f. ok f && eqb (level f) n) xs

  -- the front file of the highest nonempty one below n
  unfoldable levelled : List ℕ → ℕ → Option ℕ
  levelled xs zero = none
  levelled xs (suc n) = front_or (at xs n) (levelled xs n)

  abbrev among : ℕ → ℕ → Bool
  among n f = ok f && ltb (level f) n

  abbrev no_lower : ℕ → ℕ → Bool
  no_lower f g = not (ltb (level f) (level g))

  -- a file of this very level goes before all that are found below it or behind it
  kept-first : (x g : ℕ) → level g ≤ level x → cond (no_lower x g) x g ≡ x
  kept-first x g h = rw (le-ltb (level x) (level g) h) refl

  -- one level more is none of a file of another
  no_more : (n f : ℕ) → eqb (level f) n ≡ false → ltb (level f) n ≡ ltb (level f) (suc n)
  no_more n f p = ltb-same (level f) n (level f) (suc n) (λ h. omega arith) (λ h. omega (arith, eqb-false (level f) n p))

  bucket-level : (xs : List ℕ) (n g : ℕ) (gs : List ℕ) → at xs n ≡ g ∷ gs → level g ≡ n
  unfolding those
  bucket-level [] n g gs e = let z : ◌≡◌ {A = ℕ} 0 1 = cc in absurd (omega arith)
  bucket-level (x ∷ xs) n g gs e = go (ok x && eqb (level x) n) refl (bucket-level xs n g gs) e
    where
      go : (t : Bool) → (ok x && eqb (level x) n) ≡ t → (at xs n ≡ g ∷ gs → level g ≡ n) → cond t (x ∷ at xs n) (at xs n) ≡ g ∷ gs → level g ≡ n
      go true p ih e = let q : x ≡ g = cc in ap level (sym q) ∙ eqb-true (level x) n (and_yes (ok x) (eqb (level x) n) p).1
      go false p ih e = ih e

  level-below : (xs : List ℕ) (n g : ℕ) → levelled xs n ≡ some g → level g < n
  unfolding levelled
  level-below xs zero g e = no-some g e
  level-below xs (suc n) g e = go (at xs n) refl (level-below xs n g) e
    where
      go : (b : List ℕ) → at xs n ≡ b → (levelled xs n ≡ some g → level g < n) → front_or b (levelled xs n) ≡ some g → level g < suc n
      go [] p ih e = omega (arith, ih e)
      go (h ∷ hs) p ih e = omega (arith, ap level (some_inj h g e), bucket-level xs n h hs p)

  -- one file more, at the front
  levelled-more : (x : ℕ) (xs : List ℕ) (n : ℕ) → levelled (x ∷ xs) n ≡ cond (among n x) (some (over no_lower x (levelled xs n))) (levelled xs n)
  unfolding levelled those
  levelled-more x xs zero = go (ok x)
    where
      go : (t : Bool) → none ≡ cond (t && ltb (level x) 0) (some (over no_lower x none)) none
      go true = rw (le-ltb (level x) 0 (omega arith)) refl
      go false = refl
  levelled-more x xs (suc n) = go (ok x) (eqb (level x) n) refl refl (at xs n) refl (levelled xs n) (level-below xs n) (levelled (x ∷ xs) n) (levelled-more x xs n)
    where
      -- all that is found is of no higher level than n
      first : (b : List ℕ) (o : Option ℕ) → level x ≡ n → ((h : ℕ) (hs : List ℕ) → b ≡ h ∷ hs → level h ≡ n) → ((g : ℕ) → o ≡ some g → level g < n) → over no_lower x (front_or b o) ≡ x
      first [] none q m j = refl
      first [] (some g) q m j = kept-first x g (omega (arith, j g refl))
      first (g ∷ gs) o q m j = kept-first x g (omega (arith, m g gs refl))

      way : (t : Bool) (g : ℕ) → ltb (level x) n ≡ t → level g ≡ n → some g ≡ cond t (some (cond (no_lower x g) x g)) (some g)
      way true g p q = rw (lt-ltb (level x) (level g) (omega (arith, ltb-true (level x) n p))) refl
      way false g p q = refl

      go : (s t : Bool) → ok x ≡ s → eqb (level x) n ≡ t → (b : List ℕ) → at xs n ≡ b → (o : Option ℕ) → ((g : ℕ) → o ≡ some g → level g < n)
          → (o' : Option ℕ) → o' ≡ cond (s && ltb (level x) n) (some (over no_lower x o)) o
          → front_or (cond (s && t) (x ∷ b) b) o' ≡ cond (s && ltb (level x) (suc n)) (some (over no_lower x (front_or b o))) (front_or b o)
      go true true p q b m o j o' i =
          let l : level x ≡ n = eqb-true (level x) n q in
          rw (lt-ltb (level x) (suc n) (omega arith)) (ap some (sym (first b o l (λ h hs e. bucket-level xs n h hs (m ∙ e)) j)))
      go true false p q [] m o j o' i =
          i ∙ ap (λ (t : Bool). cond t (some (over no_lower x o)) o) (no_more n x q)
      go true false p q (g ∷ gs) m o j o' i =
          way (ltb (level x) n) g refl (bucket-level xs n g gs m)
          ∙ ap (λ (t : Bool). cond t (some (cond (no_lower x g) x g)) (some g)) (no_more n x q)
      go false t p q [] m o j o' i = i
      go false t p q (g ∷ gs) m o j o' i = refl

  levelled-none : (n : ℕ) → levelled [] n ≡ none
  unfolding levelled those
  levelled-none zero = refl
  levelled-none (suc n) = levelled-none n

  levelled-foremost : (xs : List ℕ) (n : ℕ) → levelled xs n ≡ foremost (among n) no_lower xs
  unfolding foremost
  levelled-foremost [] n = levelled-none n
  levelled-foremost (x ∷ xs) n = levelled-more x xs n ∙ ap (λ (o : Option ℕ). cond (among n x) (some (over no_lower x o)) o) (levelled-foremost xs n)

-- ---- by gain, from minus p to plus p

module _ (ok : ℕ → Bool) (gains : ℕ → ℤ) (p : ℕ) (within : (f : ℕ) → abs (gains f) ≤ p) (xs : List ℕ) where
  level_of : ℕ → ℕ
  level_of f = p + up (gains f) - down (gains f)

  both-no : (x y : ℕ) → (not (ltb x y) && not (ltb y x)) ≡ eqb x y
  both-no x y = go (ltb x y) (ltb y x) refl refl
    where
      go : (s t : Bool) → ltb x y ≡ s → ltb y x ≡ t → (not s && not t) ≡ eqb x y
      go true t e h = sym (ne_eqb x y (λ q. omega (arith, ltb-true x y e)))
      go false true e h = sym (ne_eqb x y (λ q. omega (arith, ltb-true y x h)))
      go false false e h = sym (eq-eqb x y (omega (arith, ltb-false x y e, ltb-false y x h)))

  eqb_same : (x y u v : ℕ) → (x ≡ y → u ≡ v) → (u ≡ v → x ≡ y) → eqb x y ≡ eqb u v
  eqb_same x y u v f g = elim (ℕ_discrete x y) [
    | yes e ↦ eq-eqb x y e ∙ sym (eq-eqb u v (f e))
    | no n ↦ ne_eqb x y n ∙ sym (ne_eqb u v (λ e. n (g e)))
  ]

  -- the bucket of gain n less p is that of level n
  equal-level : (f n : ℕ) → equal (gains f) (diff n p) ≡ eqb (level_of f) n
  unfolding level_of
  equal-level f n =
      let G : ℤ = gains f in
      let D : ℤ = diff n p in
      let w = within f in
      let d = diff-key n p in
      ap₂ (λ (s t : Bool). not s && not t) (lt_z-key G D) (lt_z-key D G)
      ∙ both-no (up G + down D) (up D + down G)
      ∙ eqb_same (up G + down D) (up D + down G) (p + up G - down G) n (λ e. omega arith) (λ e. omega arith)

  less-level : (f g : ℕ) → ltb (level_of f) (level_of g) ≡ lt_z (gains f) (gains g)
  unfolding level_of
  less-level f g =
      let v = within f in
      let w = within g in
      ltb-same (p + up (gains f) - down (gains f)) (p + up (gains g) - down (gains g)) (up (gains f) + down (gains g)) (up (gains g) + down (gains f)) (λ h. omega arith) (λ h. omega arith)
      ∙ sym (lt_z-key (gains f) (gains g))

  all_among : (f : ℕ) → ltb (level_of f) (suc (2 * p)) ≡ true
  unfolding level_of
  all_among f = let w = within f in lt-ltb (p + up (gains f) - down (gains f)) (suc (2 * p)) (omega arith)

  those-same : (q r : ℕ → Bool) → ((f : ℕ) → q f ≡ r f) → (ys : List ℕ) → those q ys ≡ those r ys
  unfolding those
  those-same q r e [] = refl
  those-same q r e (y ∷ ys) = ap₂ (λ (t : Bool) (l : List ℕ). cond t (y ∷ l) l) (e y) (those-same q r e ys)

  by_level : (n : ℕ) → front_below (λ g. those (λ f. ok f && equal (gains f) g) xs) p n ≡ levelled ok level_of xs n
  unfolding front_below levelled
  by_level zero = refl
  by_level (suc n) =
      ap₂ front_or (those-same (λ f. ok f && equal (gains f) (diff n p)) (λ f. ok f && eqb (level_of f) n) (λ f. ap (λ (t : Bool). ok f && t) (equal-level f n)) xs) (by_level n)

  pub front-foremost : front_below (λ g. those (λ f. ok f && equal (gains f) g) xs) p (suc (2 * p)) ≡ foremost ok (no_less gains) xs
  front-foremost =
      by_level (suc (2 * p))
      ∙ levelled-foremost ok level_of xs (suc (2 * p))
      ∙ foremost-same (among ok level_of (suc (2 * p))) ok (no_lower ok level_of) (no_less gains) xs
      (λ f m. ap (λ (t : Bool). ok f && t) (all_among f) ∙ and-true (ok f))
      (λ f g m n a b. ap not (less-level f g))
