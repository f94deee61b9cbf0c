-- What the stores change, and what they leave. Assumes nothing.
use mathlib.Core.Path.{◌≡◌, refl, ◌∙◌}
use mathlib.Core.Logic.{◌≢◌}
use Prim.Native.Nat.{ℕ, zero, suc, ◌+◌, ◌≤◌, ◌<◌}
use mathlib.Core.List.{List}
use native.Mathlib.Decide.{dec_lt}
use native.Mathlib.Omega.{arith}
use lib.ListN.{length, get_or, set, length-set}
use lib.Seq.{get_or-set_same, get_or-set_other}
use Rattle.buckets.specs.Links.{joined, emptied}
use Rattle.buckets.specs.StandFor.{Joined}

-- ---- a pair is joined

pub joined_length : (back u v : ℕ) (z : List ℕ) → length (joined back u v z) ≡ length z
unfolding joined
joined_length back u v z = simp length-set

module _ (none back u v : ℕ) (z : List ℕ) (hu : u < back) (hv : back + v < length z) where
  pub joins : Joined none back (joined back u v z) u v
  unfolding joined
  joins = record {
    next = get_or-set_other (set z u v) (back + v) u u 0 (λ e. omega arith) ∙ get_or-set_same z u v 0 (omega arith);
    previous = λ n. get_or-set_same (set z u v) (back + v) u 0 (omega (arith, length-set z u v));
  }

  -- another pair stays joined
  pub stays : {a b : ℕ} → Joined none back z a b → a < back → a ≢ u → (b ≢ none → b ≢ v) → Joined none back (joined back u v z) a b
  unfolding joined
  stays {a} {b} j h na nb = record {
    next = get_or-set_other (set z u v) (back + v) a u 0 (λ e. omega arith) ∙ get_or-set_other z u a v 0 na ∙ j.next;
    previous = λ n.
        get_or-set_other (set z u v) (back + v) (back + b) u 0 (λ e. nb n (omega arith))
        ∙ get_or-set_other z u (back + b) v 0 (λ e. omega arith) ∙ j.previous n;
  }

-- and every other number stays
pub joined-else : (back u v : ℕ) (z : List ℕ) (at : ℕ) → at ≢ u → at ≢ back + v → get_or (joined back u v z) at 0 ≡ get_or z at 0
unfolding joined
joined-else back u v z at nu nv = get_or-set_other (set z u v) (back + v) at u 0 nv ∙ get_or-set_other z u at v 0 nu

-- ---- heads name none

module _ (none : ℕ) (z : List ℕ) where
  pub emptied-length : (s : ℕ) → length (emptied none z s) ≡ length z
  unfolding emptied
  emptied-length zero = refl
  emptied-length (suc s) = length-set (emptied none z s) (none + s) none ∙ emptied-length s

  pub emptied-head : (s i : ℕ) → none + s ≤ length z → i < s → get_or (emptied none z s) (none + i) 0 ≡ none
  unfolding emptied
  emptied-head zero i h k = absurd (omega arith)
  emptied-head (suc s) i h k = go (emptied-head s i (omega arith)) (dec_lt i s)
    where
      go : (i < s → get_or (emptied none z s) (none + i) 0 ≡ none) → Dec (i < s) → get_or (set (emptied none z s) (none + s) none) (none + i) 0 ≡ none
      go ih (yes l) = get_or-set_other (emptied none z s) (none + s) (none + i) none 0 (λ e. omega arith) ∙ ih l
      go ih (no n) =
          let e : i ≡ s = omega arith in
          rw e (get_or-set_same (emptied none z s) (none + s) none 0 (omega (arith, emptied-length s)))

  -- and every other number stays
  pub emptied-else : (s at : ℕ) → none + s ≤ at → get_or (emptied none z s) at 0 ≡ get_or z at 0
  unfolding emptied
  emptied-else zero at h = refl
  emptied-else (suc s) at h = get_or-set_other (emptied none z s) (none + s) at none 0 (λ e. omega arith) ∙ emptied-else s at (omega arith)
