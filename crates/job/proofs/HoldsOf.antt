-- Where the pins hold a file last, as a table that grows with the walk over them. Assumes nothing.
use mathlib.Core.Path.{◌≡◌, refl, sym, ap, ◌∙◌}
use Prim.Native.Nat.{ℕ, zero, suc, ◌+◌, ◌≤◌, ◌<◌}
use mathlib.Core.Bool.{Bool, true, false, cond, ◌&&◌, ◌||◌}
use mathlib.Core.List.{List}
use native.Mathlib.Decide.{ℕ_discrete, dec_lt}
use native.Mathlib.Omega.{arith}
use native.Mathlib.Numerals.{add-one}
use lib.Dec.{leb, ltb, eqb}
use lib.ListN.{length, get_or, set, length-set, replicate, length-replicate, get_or-replicate}
use lib.Seq.{get_or-set_same, get_or-set_other}
use borrow.Author.Tests.{eq-eqb, ne_eqb, le-leb, lt-ltb, le-ltb, ltb-true, leb-false}
use Rattle.rules.specs.Lists.{lowest, some_below}
use Rattle.rules.proofs.Tests.{or_no, and_both, and-false}
use Rattle.rules.proofs.Searches.{lowest-passes, none_below, some-here, some-none}
use Rattle.job.specs.Pins.{onwards, last_held, Held, bad_from}
use Rattle.job.proofs.Search.{onwards-below, Onwards, onwards-more, onwards-hit, onwards-end}

some-less : (p : ℕ → Bool) (n : ℕ) → p n ≡ false → some_below p (suc n) ≡ some_below p n
some-less p n e = go (some_below p n) refl
  where
    go : (b : Bool) → some_below p n ≡ b → some_below p (suc n) ≡ some_below p n
    go true h =
        let l = ltb-true (lowest p n) n h in
        some-here p (suc n) (lowest p n) (omega (arith, l)) (lowest-passes p n l) ∙ sym h
    go false h = some-none p (suc n) (λ i l. elim (ℕ_discrete i n) [ yes q ↦ ap p q ∙ e | no z ↦ none_below p n h i (omega arith) ]) ∙ sym h

module _ (pins : List ℕ) (a f : ℕ) where
  abbrev holds : ℕ → Bool
  holds i = eqb (get_or pins i 0) f

  -- a position from a on holds the file: it was held last after a
  pub held-since : (n : ℕ) → some_below (onwards a holds) n ≡ ltb a (last_held pins n f)
  unfolding last_held
  held-since zero = some-none (onwards a holds) 0 (λ i l. absurd (omega arith)) ∙ sym (le-ltb a 0 (omega arith))
  held-since (suc n) = go (holds n) refl (held-since n)
    where
      go : (b : Bool) → holds n ≡ b → some_below (onwards a holds) n ≡ ltb a (last_held pins n f)
          → some_below (onwards a holds) (suc n) ≡ ltb a (cond b (suc n) (last_held pins n f))
      go true e ih = elim (dec_lt n a) [
        | yes l ↦ some-none (onwards a holds) (suc n) (λ i g. onwards-below a holds i (omega arith)) ∙ sym (le-ltb a (suc n) (omega arith))
        | no l ↦ some-here (onwards a holds) (suc n) n (omega arith) (and_both (le-leb a n (omega arith)) e) ∙ sym (lt-ltb a (suc n) (omega arith))
      ]
      go false e ih = some-less (onwards a holds) n (ap (λ (b : Bool). leb a n && b) e ∙ and-false (leb a n)) ∙ ih

-- before the walk no position holds a file
pub held_none : (files : ℕ) (pins : List ℕ) (most : ℕ) → files ≤ most → Held files pins 0 (replicate most 0)
unfolding last_held
held_none files pins most h = record { room = rw length-replicate h; last = λ f l. get_or-replicate most f 0 0 (omega arith) }

module _ {files : ℕ} {pins : List ℕ} {n : ℕ} {table : List ℕ} (x : Held files pins n table) where
  held-there : (f : ℕ) → f ≡ get_or pins n 0 → f < files → (g : ℕ) → g < files → get_or (set table f (n + 1)) g 0 ≡ last_held pins (suc n) g
  unfolding last_held
  held-there f e l g m = elim (ℕ_discrete g f) [
    | yes q ↦ rw (q, get_or-set_same table f (n + 1) 0 (omega (arith, x.room)), eq-eqb (get_or pins n 0) f (sym e)) (add-one n)
    | no z ↦
        get_or-set_other table f g (n + 1) 0 z ∙ x.last g m
        ∙ ap (λ (b : Bool). cond b (suc n) (last_held pins n g)) (sym (ne_eqb (get_or pins n 0) g (λ q. z (sym q ∙ sym e))))
  ]

  -- one position more, which holds file f
  pub held_more : (f : ℕ) → f ≡ get_or pins n 0 → f < files → Held files pins (n + 1) (set table f (n + 1))
  held_more f e l = record {
    room = rw length-set x.room;
    last = λ g m. held-there f e l g m ∙ ap (λ (i : ℕ). last_held pins i g) (sym (add-one n));
  }

  -- what the table says of a file
  pub held-bad : (a f : ℕ) → f ≡ get_or pins n 0 → (leb files f || ltb a (get_or table f 0)) ≡ bad_from files pins a n
  held-bad a f e = elim (dec_lt f files) [
    | yes l ↦ rw (x.last f l, e)
    | no l ↦
        let z : leb files f ≡ true = le-leb files f (omega arith) in
        ap (λ (b : Bool). b || ltb a (get_or table f 0)) z ∙ sym (ap (λ (b : Bool). b || ltb a (last_held pins n f)) z) ∙ ap (λ (i : ℕ). leb files i || ltb a (last_held pins n i)) e
  ]

-- ---- the loop over a recipe's pins, from a up to e, has come to k

pub record RecipePassed (files : ℕ) (pins : List ℕ) (a e : ℕ) (table₀ table : List ℕ) (k : ℕ) : Type 0 where
  pub search : Onwards (bad_from files pins a) a e k
  pub held : Held files pins k table
  pub length-stays : length table ≡ length table₀

pub recipe-end : {files : ℕ} {pins : List ℕ} {a e : ℕ} {table₀ table : List ℕ} {k : ℕ} → RecipePassed files pins a e table₀ table k → e ≤ k
    → (e ≡ lowest (onwards a (bad_from files pins a)) e) × Held files pins e table
recipe-end {e = e} {k = k} w h = let q : k ≡ e = omega (arith, w.search.passed.stop) in (onwards-end w.search h, rw (← q) w.held)

module _ {files : ℕ} {pins : List ℕ} {a e : ℕ} {table₀ table : List ℕ} {k : ℕ} (w : RecipePassed files pins a e table₀ table k) (l : k < e) (f : ℕ) (p : f ≡ get_or pins k 0) {bad : Bool} (q : bad ≡ (leb files f || ltb a (get_or table f 0))) where
  there : bad ≡ bad_from files pins a k
  there = q ∙ held-bad w.held a f p

  pub recipe-hit : bad ≡ true → k ≡ lowest (onwards a (bad_from files pins a)) e
  recipe-hit t = onwards-hit w.search l (sym there ∙ t)

  pub recipe-file : bad ≡ false → f < files
  recipe-file t = omega (arith, leb-false files f (or_no (leb files f) (ltb a (get_or table f 0)) (sym q ∙ t)).0)

  pub recipe-more : bad ≡ false → RecipePassed files pins a e table₀ (set table f (k + 1)) (k + 1)
  recipe-more t = record {
    search = onwards-more w.search l (sym there ∙ t);
    held = held_more w.held f p (recipe-file t);
    length-stays = length-set table f (k + 1) ∙ w.length-stays;
  }
