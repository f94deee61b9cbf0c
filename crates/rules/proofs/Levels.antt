-- Binding numbers by the counts that are kept, and level 1 of a free file. Assumes nothing.
use mathlib.Core.Path.{◌≡◌, refl, sym, ap, ap₂, ◌∙◌}
use Prim.Native.Nat.{ℕ, zero, suc, ◌+◌, ◌-◌, ◌≤◌, ◌<◌}
use mathlib.Core.Bool.{Bool, true, false, not, cond, ◌&&◌}
use mathlib.Core.List.{List, [], ◌∷◌, map}
use native.Mathlib.Omega.{arith}
use lib.Dec.{eqb, ltb}
use lib.IntN.{pos}
use lib.Signed.{lt_z}
use lib.ListN.{length}
use borrow.Author.Tests.{eq-eqb, ne_eqb, eqb-true, lt-ltb, ltb-true, leb-true}
use Rattle.rules.specs.Lists.{bit, total, count, those, diff}
use Rattle.rules.specs.Job.{Job, is_read, enough, read_in, views, recipes}
use Rattle.rules.specs.Split.{other, side_of, on_side, count_on, times, holds, recipes_with, alone, together, gain}
use Rattle.rules.specs.Move.{State, lock_of, free, locked_on}
use Rattle.rules.specs.Theorems.{Binary}
use Rattle.rules.specs.Levels.{Binding, counted, unlimited, free_files, binding_of, binding, adds, takes, binds_by, level}
use Rattle.rules.specs.LevelsHold.{BindingHolds, readable, LevelsHold}
use Rattle.rules.proofs.Tests.{clash, and_both, and_yes, contra}
use Rattle.rules.proofs.Count.{is0, is1, and-le, total-le, total-has, total-same, total-zero, total-map}
use Rattle.rules.proofs.Signed.{diff-least, diff-pos}
use Rattle.rules.proofs.Locked.{locked-le}
use Rattle.rules.proofs.Latest.{held_first, held_more}

-- ---- counts over a recipe

-- a file of r that passes the test is counted
count_held : (p : ℕ → Bool) (x : ℕ) (r : List ℕ) → p x ≡ true → holds r x ≡ true → 1 ≤ count p r
unfolding count
count_held p x r e h =
    omega (arith, ltb-true 0 (times x r) h, total-zero r, total-has (λ y. bit (p y)) (λ y. 0) x (λ y. omega arith) (rw e (omega arith)) r)

-- where none passes it the count is 0
count_none : (p : ℕ → Bool) (r : List ℕ) → ((x : ℕ) → holds r x ≡ true → p x ≡ false) → count p r ≡ 0
unfolding count total
count_none p [] h = refl
count_none p (x ∷ r) h =
    let here : holds (x ∷ r) x ≡ true = lt-ltb 0 (times x (x ∷ r)) (held_first x r) in
    let rest = count_none p r (λ y k. h y (lt-ltb 0 (times y (x ∷ r)) (held_more x y r (ltb-true 0 (times y r) k)))) in
    rw (h x here) (omega (arith, rest))

-- ---- the binding number, by the files there and how many of them are locked

on-split : (a b : Bool) → bit (a && b) + bit (a && not b) ≡ bit a
on-split true true = refl
on-split true false = refl
on-split false b = refl

-- the free files and the locked ones are all that are there
pub free-or-locked : (st : State) (u : ℕ) (r : List ℕ) → free_files st u r + locked_on st u r ≡ count_on st.sides u r
unfolding free_files locked_on count_on count total
free-or-locked st u [] = refl
free-or-locked st u (x ∷ r) = omega (arith, on-split (on_side st.sides u x) (free st x), free-or-locked st u r)

pub binding-by : (st : State) (u : ℕ) (r : List ℕ) → binding st u r ≡ binding_of (count_on st.sides u r) (locked_on st u r)
unfolding binding
binding-by st u r = go (eqb (locked_on st u r) 0) refl
  where
    go : (b : Bool) → eqb (locked_on st u r) 0 ≡ b → cond b (counted (free_files st u r)) unlimited ≡ cond b (counted (count_on st.sides u r)) unlimited
    go true e =
        let z : free_files st u r ≡ count_on st.sides u r = omega (arith, free-or-locked st u r, eqb-true (locked_on st u r) 0 e) in
        ap counted z
    go false e = refl

-- file by file
pub binding-holds : (st : State) (u : ℕ) (r : List ℕ) → BindingHolds st u r
unfolding locked_on
binding-holds st u r = record {
  locked = λ x h on n.
      let some = count_held (λ y. on_side st.sides u y && not (free st y)) x r (and_both on (ap not (ne_eqb (lock_of st x) 0 n))) h in
      let is : eqb (locked_on st u r) 0 ≡ false = ne_eqb (locked_on st u r) 0 (λ z. omega arith) in
      binding-by st u r ∙ ap (λ (b : Bool). cond b (counted (count_on st.sides u r)) unlimited) is;
  free = λ all.
      let none : locked_on st u r ≡ 0
      = count_none (λ y. on_side st.sides u y && not (free st y)) r (λ x h. contra (on_side st.sides u x && not (free st x)) (λ e.
      let q = and_yes (on_side st.sides u x) (not (free st x)) e in
      clash (sym q.1 ∙ ap not (eq-eqb (lock_of st x) 0 (all x h q.0))))) in
      binding-by st u r ∙ ap (binding_of (count_on st.sides u r)) none;
}

-- ---- numbers alone: O files of a side, LO of them locked, T and Lt of the other

some0 : (n : ℕ) → ltb 0 (suc n) ≡ true
some0 n = lt-ltb 0 (suc n) (omega arith)

-- with a free file there, and two files in all, level 1 adds where one is alone
adds_one : (O LO T Lt : ℕ) → LO < O → Lt ≤ T → 2 ≤ O + T → adds 1 (binding_of O LO) (binding_of T Lt) ≡ eqb O 1
adds_one zero LO T Lt h k l = absurd (omega arith)
adds_one (suc zero) (suc LO) T Lt h k l = absurd (omega arith)
adds_one (suc zero) zero zero Lt h k l = absurd (omega arith)
adds_one (suc zero) zero (suc T) zero h k l = simp some0
adds_one (suc zero) zero (suc T) (suc Lt) h k l = simp is0
adds_one (suc (suc O)) zero T Lt h k l = simp is1
adds_one (suc (suc O)) (suc LO) T Lt h k l = simp (is0, is1)

-- and takes where none is on the other side
takes_one : (O LO T Lt : ℕ) → LO < O → Lt ≤ T → takes 1 (binding_of O LO) (binding_of T Lt) ≡ eqb T 0
takes_one zero LO T Lt h k = absurd (omega arith)
takes_one (suc O) zero T zero h k = simp some0
takes_one (suc O) zero zero (suc Lt) h k = absurd (omega arith)
takes_one (suc O) zero (suc T) (suc Lt) h k = simp (some0, is0)
takes_one (suc O) (suc LO) T zero h k = simp is0
takes_one (suc O) (suc LO) zero (suc Lt) h k = absurd (omega arith)
takes_one (suc O) (suc LO) (suc T) (suc Lt) h k = simp is0

-- ---- counts

on_one : (s u : ℕ) → s ≤ 1 → u ≤ 1 → bit (eqb s u) + bit (eqb s (1 - u)) ≡ 1
on_one zero zero h k = refl
on_one (suc zero) zero h k = refl
on_one zero (suc zero) h k = refl
on_one (suc zero) (suc zero) h k = refl
on_one (suc (suc s)) u h k = absurd (omega arith)
on_one zero (suc (suc u)) h k = absurd (omega arith)
on_one (suc zero) (suc (suc u)) h k = absurd (omega arith)

-- a recipe's files are on the two sides
pub both-sides : (sides : List ℕ) → Binary sides → (u : ℕ) → u ≤ 1 → (r : List ℕ) → count_on sides u r + count_on sides (1 - u) r ≡ length r
unfolding count_on count total
both-sides sides bin u h [] = refl
both-sides sides bin u h (x ∷ r) = omega (arith, on_one (side_of sides x) u (bin x) h, both-sides sides bin u h r)

-- a free file of r is counted on its side, and not among the locked ones
own-free : (st : State) (f : ℕ) (r : List ℕ) → lock_of st f ≡ 0 → holds r f ≡ true → locked_on st (side_of st.sides f) r < count_on st.sides (side_of st.sides f) r
unfolding free_files
own-free st f r e h =
    let u : ℕ = side_of st.sides f in
    omega (arith, free-or-locked st u r, count_held (λ x. on_side st.sides u x && free st x) f r (and_both (eq-eqb u u refl) (eq-eqb (lock_of st f) 0 e)) h)

-- ---- level 1

module _ (st : State) (bin : Binary st.sides) (f : ℕ) (e : lock_of st f ≡ 0) (r : List ℕ) (two : holds r f ≡ true → 2 ≤ length r) where
  abbrev u : ℕ
  u = side_of st.sides f

  -- what a test on the two numbers says of a recipe of f
  by-counts : (test : Binding → Binding → Bool) (t : Bool)
      → (holds r f ≡ true → test (binding_of (count_on st.sides u r) (locked_on st u r)) (binding_of (count_on st.sides (1 - u) r) (locked_on st (1 - u) r)) ≡ t)
      → binds_by test st f r ≡ (holds r f && t)
  by-counts test t h = go (holds r f) refl
    where
      go : (b : Bool) → holds r f ≡ b → (b && test (binding st u r) (binding st (1 - u) r)) ≡ (b && t)
      go true q = ap₂ test (binding-by st u r) (binding-by st (1 - u) r) ∙ h q
      go false q = refl

  adds-alone : binds_by (adds 1) st f r ≡ alone st.sides f r
  unfolding alone
  adds-alone = by-counts (adds 1) (eqb (count_on st.sides u r) 1) (λ h.
      adds_one (count_on st.sides u r) (locked_on st u r) (count_on st.sides (1 - u) r) (locked_on st (1 - u) r)
      (own-free st f r e h) (locked-le st (1 - u) r) (omega (arith, two h, both-sides st.sides bin u (bin f) r)))

  takes-together : binds_by (takes 1) st f r ≡ together st.sides f r
  unfolding together
  takes-together = by-counts (takes 1) (eqb (count_on st.sides (1 - u) r) 0) (λ h.
      takes_one (count_on st.sides u r) (locked_on st u r) (count_on st.sides (1 - u) r) (locked_on st (1 - u) r)
      (own-free st f r e h) (locked-le st (1 - u) r))

-- a recipe of f as cut, gains and levels see it has two files
read-two : (job : Job) (f : ℕ) (v : List ℕ) → holds (read_in job v) f ≡ true → 2 ≤ length (read_in job v)
unfolding read_in
read-two job f v h = go (enough (those (is_read job) v)) refl h
  where
    go : (b : Bool) → enough (those (is_read job) v) ≡ b → holds (cond b (those (is_read job) v) []) f ≡ true → 2 ≤ length (cond b (those (is_read job) v) [])
    go true q k = leb-true 2 (length (those (is_read job) v)) q
    go false q k = absurd (unfold times count total in omega (arith, ltb-true 0 (times f []) k))

-- two tests that agree on every recipe of a job count the same
count-read : (job : Job) (p q : List ℕ → Bool) → ((v : List ℕ) → p (read_in job v) ≡ q (read_in job v)) → count p (recipes job) ≡ count q (recipes job)
unfolding recipes count
count-read job p q h =
    total-map (λ r. bit (p r)) (read_in job) (views job)
    ∙ total-same (λ v. bit (q (read_in job v))) (λ v. bit (p (read_in job v))) (λ v. ap bit (h v)) (views job)
    ∙ sym (total-map (λ r. bit (q r)) (read_in job) (views job))

pub level-one : (job : Job) (st : State) → Binary st.sides → (f : ℕ) → lock_of st f ≡ 0 → level job st 1 f ≡ gain st.sides (recipes job) f
unfolding level gain
level-one job st bin f e =
    ap₂ diff
    (count-read job (binds_by (adds 1) st f) (alone st.sides f) (λ v. adds-alone st bin f e (read_in job v) (read-two job f v)))
    (count-read job (binds_by (takes 1) st f) (together st.sides f) (λ v. takes-together st bin f e (read_in job v) (read-two job f v)))

-- ---- every level

module _ (job : Job) (st : State) (i f : ℕ) where
  -- a recipe left empty is no recipe of f
  count-readable : (test : Binding → Binding → Bool) (vs : List (List ℕ))
      → count (binds_by test st f) (map (read_in job) vs) ≡ count (binds_by test st f) (those enough (map (those (is_read job)) vs))
  unfolding count total those read_in times
  count-readable test [] = refl
  count-readable test (v ∷ vs) = go (enough (those (is_read job) v)) (count-readable test vs)
    where
      p : List ℕ → ℕ
      p r = bit (binds_by test st f r)

      go : (b : Bool) → total p (map (read_in job) vs) ≡ total p (those enough (map (those (is_read job)) vs))
          → p (cond b (those (is_read job) v) []) + total p (map (read_in job) vs)
          ≡ total p (cond b (those (is_read job) v ∷ those enough (map (those (is_read job)) vs)) (those enough (map (those (is_read job)) vs)))
      go true ih = ap (λ (n : ℕ). p (those (is_read job) v) + n) ih
      go false ih = omega (arith, ih)

  level-readable : level job st i f ≡ diff (count (binds_by (adds i) st f) (readable job)) (count (binds_by (takes i) st f) (readable job))
  unfolding level recipes
  level-readable = ap₂ diff (count-readable (adds i) (views job)) (count-readable (takes i) (views job))

  binds-le : (test : Binding → Binding → Bool) → count (binds_by test st f) (recipes job) ≤ recipes_with (recipes job) f
  unfolding count
  binds-le test =
      total-le (λ r. bit (holds r f)) (λ r. bit (binds_by test st f r))
      (λ r. and-le (holds r f) (test (binding st (side_of st.sides f) r) (binding st (other (side_of st.sides f)) r))) (recipes job)

  level-range : (lt_z (level job st i f) (diff 0 (recipes_with (recipes job) f)) ≡ false) × (lt_z (pos (recipes_with (recipes job) f)) (level job st i f) ≡ false)
  unfolding level
  level-range =
      let p : ℕ = recipes_with (recipes job) f in
      let a : ℕ = count (binds_by (adds i) st f) (recipes job) in
      let b : ℕ = count (binds_by (takes i) st f) (recipes job) in
      (diff-least a b 0 p (omega (arith, binds-le (takes i))), ap (λ z. lt_z z (diff a b)) (diff-pos p) ∙ diff-least p 0 a b (omega (arith, binds-le (adds i))))

pub levels-hold : (job : Job) (st : State) → Binary st.sides → LevelsHold job st
levels-hold job st bin = record { first = level-one job st bin; read = level-readable job st; range = level-range job st }
