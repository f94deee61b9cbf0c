-- The front file that the walk down the heads finds is that of the vault's highest nonempty bucket. Assumes nothing.
use mathlib.Core.Path.{◌≡◌, refl, sym, ap, ◌∙◌}
use mathlib.Core.Logic.{inl, ◌≢◌}
use Prim.Native.Nat.{ℕ, zero, suc, ◌+◌, ◌-◌, ◌*◌, ◌≤◌, ◌<◌}
use mathlib.Core.Bool.{true, cond, ◌&&◌}
use mathlib.Core.List.{List, [], ◌∷◌}
use mathlib.Core.Option.{Option, some}
use native.Mathlib.Decide.{ℕ_discrete}
use native.Mathlib.Omega.{arith}
use lib.ListN.{get_or}
use lib.Dec.{eqb}
use lib.IntN.{ℤ, pos}
use borrow.Author.Tests.{eqb-true, eq-eqb, ne_eqb, le-ltb}
use Rattle.rules.specs.Lists.{those, diff}
use Rattle.rules.specs.Split.{side_of, on_side}
use Rattle.rules.specs.Fronts.{equal, front_or, front_below}
use Rattle.rules.proofs.Signed.{abs}
use Rattle.rules.proofs.Tests.{and_yes, contra}
use Rattle.rules.proofs.First.{some_inj, no-some}
use Rattle.choice.specs.Choosing.{file_or}
use Rattle.buckets.specs.declared.slots.Shape.{Shape}
use Rattle.buckets.specs.Slots.{levels, level_of, vault_at, slot_in, top_at}
use Rattle.std.specs.Prelude.{Option as Option', Some, None, MatchOption, IfSome}
use native.Mathlib.Numerals.{add-one}
use Rattle.buckets.specs.declared.links.Bucket.{Bucket}
use Rattle.buckets.specs.Links.{highest_in, as_top}
use Rattle.buckets.specs.Offers.{front_at, front_in, if_file}
use Rattle.buckets.specs.StandFor.{◌∈◌, in_slot, first_or, Linked, StandFor}
use Rattle.buckets.proofs.Rows.{those-pass, those-same, those-none}
use Rattle.buckets.proofs.Linking.{names-front}
use Rattle.buckets.proofs.Levels.{vault-within, slot-test}

-- ---- one head further down

module _ (nil from : ℕ) (z : List ℕ) where
  step : (k : ℕ) → 0 < k → highest_in nil from z k ≡ cond (eqb (get_or z (from + (k - 1)) 0) nil) (highest_in nil from z (k - 1)) k
  unfolding highest_in
  step zero h = absurd (omega arith)
  step (suc k) h = let e : suc k - 1 ≡ k = omega arith in rw e refl

  pub stops : (k : ℕ) → 0 < k → get_or z (from + (k - 1)) 0 ≢ nil → highest_in nil from z k ≡ k
  stops k h n = rw (ne_eqb (get_or z (from + (k - 1)) 0) nil n) at (step k h)

  pub goes_on : (k : ℕ) → 0 < k → get_or z (from + (k - 1)) 0 ≡ nil → highest_in nil from z k ≡ highest_in nil from z (k - 1)
  goes_on k h e = rw (eq-eqb (get_or z (from + (k - 1)) 0) nil e) at (step k h)

  -- the file that the head just below k names
  pub front-is : (k : ℕ) → k ≢ 0 → get_or z (from + (k - 1)) 0 ≡ front_at nil from z k
  front-is zero n = absurd (n refl)
  front-is (suc k) n = let e : suc k - 1 ≡ k = omega arith in rw e refl

  -- the file that the head just below the top names, where the top stands above that bucket
  pub front-file : (bucket : Option' Bucket) (front r : Option' ℕ) → IfSome bucket (λ b. b.front ≡ get_or z (from + b.level) 0)
      → MatchOption bucket (front ≡ None) (λ b. front ≡ Some b.front) → MatchOption front (r ≡ None) (λ f. r ≡ if_file nil f) → r ≡ if_file nil (front_at nil from z (as_top bucket))
  front-file None front r h e f = rw (le-ltb nil nil (omega arith)) (rw e at f)
  front-file (Some b) front r h e f = rw (add-one b.level) (rw (e, h) at f)

-- ---- the file found

module _ {files slots : ℕ} {slot : ℕ → ℕ} {order z : List ℕ} (l : Linked files slots slot order z) (from p : ℕ) (buckets : ℤ → List ℕ)
    (few : (n g : ℕ) → g ∈ buckets (diff n p) → g < files) where
  finds-front : (k : ℕ) → from + k ≤ slots → ((n : ℕ) → n < k → in_slot slot (from + n) order ≡ buckets (diff n p))
      → front_at files (files + from) z (highest_in files (files + from) z k) ≡ file_or files (front_below buckets p k)
  unfolding highest_in front_below ◌∈◌
  finds-front zero h same = refl
  finds-front (suc k) h same =
      let e : files + from + k ≡ files + (from + k) = omega arith in
      let q : get_or z (files + from + k) 0 ≡ first_or files (buckets (diff k p)) = rw e (names-front l (from + k) (omega arith) ∙ ap (first_or files) (same k (omega arith))) in
      go (buckets (diff k p)) (few k) (get_or z (files + from + k) 0) q refl (finds-front k (omega arith) (λ n m. same n (omega arith)))
    where
      go : (b : List ℕ) → ((g : ℕ) → g ∈ b → g < files) → (head : ℕ) → head ≡ first_or files b → get_or z (files + from + k) 0 ≡ head
          → front_at files (files + from) z (highest_in files (files + from) z k) ≡ file_or files (front_below buckets p k)
          → front_at files (files + from) z (cond (eqb head files) (highest_in files (files + from) z k) (suc k)) ≡ file_or files (front_or b (front_below buckets p k))
      go [] m head q e ih = rw (eq-eqb head files q) ih
      go (g ∷ gs) m head q e ih = rw (ne_eqb head files (λ x. omega (arith, m g (inl refl)))) (e ∙ q)

-- it stands in one of the buckets
front-held : (buckets : ℤ → List ℕ) (order : List ℕ) → ((g : ℤ) (f : ℕ) → f ∈ buckets g → f ∈ order) → (p k f : ℕ) → front_below buckets p k ≡ some f → f ∈ order
unfolding front_below ◌∈◌
front-held buckets order in_order p zero f e = no-some f e
front-held buckets order in_order p (suc k) f e = go (buckets (diff k p)) (in_order (diff k p)) (front-held buckets order in_order p k f) e
  where
    go : (b : List ℕ) → ((f : ℕ) → f ∈ b → f ∈ order) → (front_below buckets p k ≡ some f → f ∈ order) → front_or b (front_below buckets p k) ≡ some f → f ∈ order
    go [] m ih e = ih e
    go (g ∷ gs) m ih e = m f (inl (sym (some_inj g f e)))

-- buckets above that are empty do not count
below_top : (buckets : ℤ → List ℕ) (p top k : ℕ) → top ≤ k → ((n : ℕ) → top ≤ n → n < k → buckets (diff n p) ≡ []) → front_below buckets p k ≡ front_below buckets p top
unfolding front_below
below_top buckets p top zero h e = let q : top ≡ 0 = omega arith in rw q refl
below_top buckets p top (suc k) h e = elim (ℕ_discrete top (suc k)) [
  | yes q ↦ rw q refl
  | no n ↦ rw (e k (omega arith) (omega arith)) (below_top buckets p top k (omega arith) (λ m a b. e m a (omega arith)))
]

-- ---- by vault and gain, where the gains of the files lie within the most

-- the gain of each file of the order is the one listed, and lies within; its side is A or B
pub record Known (shape : Shape) (sides : List ℕ) (gains : List ℤ) (order : List ℕ) (gain : ℕ → ℤ) : Type 0 where
  pub sided : (f : ℕ) → f ∈ order → side_of sides f ≤ 1
  pub listed : (f : ℕ) → f ∈ order → get_or gains f (pos 0) ≡ gain f
  pub within : (f : ℕ) → f ∈ order → abs (gain f) ≤ shape.most

-- the bucket of vault u and gain g, its front file first
abbrev pub bucket_in : List ℕ → (ℕ → ℤ) → List ℕ → ℕ → ℤ → List ℕ
bucket_in sides gain order u g = those (λ f. on_side sides u f && equal (gain f) g) order

-- the front file of the highest nonempty bucket of vault u
abbrev pub front_for : Shape → List ℕ → (ℕ → ℤ) → List ℕ → ℕ → Option ℕ
front_for shape sides gain order u = front_below (bucket_in sides gain order u) shape.most (suc (2 * shape.most))

pub found-held : (shape : Shape) (sides : List ℕ) (gain : ℕ → ℤ) (order : List ℕ) (u f : ℕ) → front_for shape sides gain order u ≡ some f → f ∈ order
found-held shape sides gain order u f e =
    front-held (bucket_in sides gain order u) order (λ g f m. (those-pass (λ f. on_side sides u f && equal (gain f) g) f order m).1) shape.most (suc (2 * shape.most)) f e

module _ {shape : Shape} {sides : List ℕ} {gains : List ℤ} {order z : List ℕ} {gain : ℕ → ℤ} (s : StandFor shape sides gains order z) (k : Known shape sides gains order gain)
    (u : ℕ) (hu : u ≤ 1) where
  abbrev p : ℕ
  p = shape.most

  abbrev top : ℕ
  top = get_or z (top_at shape u) 0

  tests : (n f : ℕ) → n < levels p → f ∈ order → eqb (slot_in p sides gains f) (vault_at p u + n) ≡ (on_side sides u f && equal (gain f) (diff n p))
  tests n f l m =
      ap (λ (g : ℤ). eqb (vault_at p (side_of sides f) + level_of p g) (vault_at p u + n)) (k.listed f m)
      ∙ slot-test p (side_of sides f) u (gain f) n (k.sided f m) hu (k.within f m) l

  same : (n : ℕ) → n < levels p → in_slot (slot_in p sides gains) (vault_at p u + n) order ≡ bucket_in sides gain order u (diff n p)
  same n l = those-same (λ f. eqb (slot_in p sides gains f) (vault_at p u + n)) (λ f. on_side sides u f && equal (gain f) (diff n p)) order (λ f m. tests n f l m)

  few : (n g : ℕ) → g ∈ bucket_in sides gain order u (diff n p) → g < shape.files
  few n g m = (s.linked.known g (those-pass (λ f. on_side sides u f && equal (gain f) (diff n p)) g order m).1).0

  -- no file stands at the top or above
  empty : (n : ℕ) → top ≤ n → n < levels p → bucket_in sides gain order u (diff n p) ≡ []
  empty n h l = those-none (λ f. on_side sides u f && equal (gain f) (diff n p)) order (λ f m. contra (on_side sides u f && equal (gain f) (diff n p)) (off f m))
    where
      off : (f : ℕ) → f ∈ order → (on_side sides u f && equal (gain f) (diff n p)) ≡ true → ⊥
      off f m t =
          let q = eqb-true (side_of sides f) u (and_yes (on_side sides u f) (equal (gain f) (diff n p)) t).0 in
          let e = eqb-true (slot_in p sides gains f) (vault_at p u + n) (tests n f l m ∙ t) in
          omega (arith, ap (vault_at p) q, ap (λ (v : ℕ). get_or z (top_at shape v) 0) q, s.under f m)

  pub front-found : (front_in shape u z).file ≡ file_or shape.files (front_for shape sides gain order u)
  unfolding front_in
  front-found =
      let t = s.low u in
      let v = vault-within p u in
      finds-front s.linked (vault_at p u) p (bucket_in sides gain order u) few top (omega arith) (λ n l. same n (omega arith))
      ∙ ap (file_or shape.files) (sym (below_top (bucket_in sides gain order u) p top (suc (2 * p)) (omega arith) (λ n a b. empty n a (omega arith))))
