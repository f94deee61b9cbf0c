-- The tops: where they stand, and what raises or lowers one and leaves the rows. Assumes nothing.
use mathlib.Core.Path.{◌≡◌, refl, ap, ◌∙◌}
use mathlib.Core.Logic.{◌≢◌}
use Prim.Native.Nat.{ℕ, zero, suc, ◌+◌, ◌*◌, ◌≤◌, ◌<◌, max}
use mathlib.Core.Bool.{Bool, true, false, cond}
use mathlib.Core.List.{List}
use native.Mathlib.Decide.{ℕ_discrete}
use native.Mathlib.Omega.{arith}
use lib.ListN.{length, get_or, set, length-set}
use lib.Seq.{get_or-set_same, get_or-set_other}
use lib.Dec.{eqb}
use borrow.Author.Tests.{eqb-true}
use Rattle.buckets.specs.declared.slots.Shape.{Shape}
use Rattle.buckets.specs.Slots.{slots, vault_at, back_at, top_at}
use Rattle.buckets.specs.Links.{highest_in}
use Rattle.buckets.specs.Entries.{raised}
use Rattle.buckets.specs.StandFor.{Linked}
use Rattle.buckets.proofs.Linking.{place-below, file-below}

-- ---- their places

module _ (shape : Shape) where
  pub top-past : (u : ℕ) → back_at shape + shape.files < top_at shape u
  top-past u = go (eqb u 0)
    where
      go : (t : Bool) → back_at shape + shape.files < 2 * shape.files + slots shape.most + cond t 1 2
      go true = omega arith
      go false = omega arith

  pub top-most : (u : ℕ) → top_at shape u ≤ top_at shape 1
  top-most u = go (eqb u 0)
    where
      go : (t : Bool) → 2 * shape.files + slots shape.most + cond t 1 2 ≤ 2 * shape.files + slots shape.most + 2
      go true = omega arith
      go false = omega arith

  -- vaults with one top are one
  pub same-vault : (u v : ℕ) → top_at shape u ≡ top_at shape v → vault_at shape.most u ≡ vault_at shape.most v
  same-vault u v = go (eqb u 0) (eqb v 0)
    where
      go : (a b : Bool) → 2 * shape.files + slots shape.most + cond a 1 2 ≡ 2 * shape.files + slots shape.most + cond b 1 2
          → cond a 0 (2 * shape.most + 1) ≡ cond b 0 (2 * shape.most + 1)
      go true true e = refl
      go true false e = absurd (omega arith)
      go false true e = absurd (omega arith)
      go false false e = refl

-- ---- a number behind the previouses is in no row

pub set_past : {files slots : ℕ} {slot : ℕ → ℕ} {order z : List ℕ} (at x : ℕ) → files + slots + files < at → Linked files slots slot order z → Linked files slots slot order (set z at x)
set_past {files} {slots} {slot} {order} {z} at x h l = record {
  long = rw (length-set z at x) l.long;
  known = l.known;
  rows = λ s u v k n.
      let j = l.rows s u v k n in
      let a = place-below l s u v n k in
      let b = file-below l s u v n in
      record {
        next = get_or-set_other z at u x 0 (λ e. omega arith) ∙ j.next;
        previous = λ m. get_or-set_other z at (files + slots + v) x 0 (λ e. omega arith) ∙ j.previous m;
      };
}

-- ---- one is raised

module _ (at top : ℕ) (z : List ℕ) (h : at < length z) where
  pub raised-own : top ≤ get_or (raised at top z) at 0
  raised-own = omega (arith, get_or-set_same z at (max (get_or z at 0) top) 0 h)

  pub raised-most : (b m : ℕ) → get_or z b 0 ≤ m → top ≤ m → get_or (raised at top z) b 0 ≤ m
  raised-most b m k l = elim (ℕ_discrete b at) [
    | yes e ↦ rw e (omega (arith, get_or-set_same z at (max (get_or z at 0) top) 0 h, ap (λ (i : ℕ). get_or z i 0) e))
    | no n ↦ omega (arith, get_or-set_other z at b (max (get_or z at 0) top) 0 n)
  ]

  pub raised-least : (b : ℕ) → get_or z b 0 ≤ get_or (raised at top z) b 0
  raised-least b = elim (ℕ_discrete b at) [
    | yes e ↦ rw e (omega (arith, get_or-set_same z at (max (get_or z at 0) top) 0 h))
    | no n ↦ omega (arith, get_or-set_other z at b (max (get_or z at 0) top) 0 n)
  ]

-- ---- the walk down the heads

module _ (none from : ℕ) (z : List ℕ) where
  pub highest-most : (k : ℕ) → highest_in none from z k ≤ k
  unfolding highest_in
  highest-most zero = omega arith
  highest-most (suc k) = go (eqb (get_or z (from + k) 0) none) (highest-most k)
    where
      go : (t : Bool) → highest_in none from z k ≤ k → cond t (highest_in none from z k) (suc k) ≤ suc k
      go true ih = omega arith
      go false ih = omega arith

  -- a head that names a file is not passed
  pub highest-above : (k i : ℕ) → i < k → get_or z (from + i) 0 ≢ none → i < highest_in none from z k
  unfolding highest_in
  highest-above zero i l n = absurd (omega arith)
  highest-above (suc k) i l n = go (eqb (get_or z (from + k) 0) none) refl (highest-above k i)
    where
      go : (t : Bool) → eqb (get_or z (from + k) 0) none ≡ t → (i < k → get_or z (from + i) 0 ≢ none → i < highest_in none from z k) → i < cond t (highest_in none from z k) (suc k)
      go true e ih = elim (ℕ_discrete i k) [
        | yes q ↦ absurd (n (rw q (eqb-true (get_or z (from + k) 0) none e)))
        | no m ↦ ih (omega arith) n
      ]
      go false e ih = l
