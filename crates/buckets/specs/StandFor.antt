-- When the list of links stands for the free files in the order in which they entered. Assumes nothing.
use Rattle.std.specs.Prelude.{◌≡◌, ◌⊎◌, ◌≢◌, ℕ, ◌+◌, ◌≤◌, ◌<◌, List, [], ◌∷◌, length, get_or, eqb, ℤ, pos}
use Rattle.rules.specs.Lists.{those}
use Rattle.rules.specs.Split.{side_of}
use Rattle.buckets.specs.declared.slots.Shape.{Shape}
use Rattle.buckets.specs.Slots.{levels, slots, level_of, slot_in, top_at, Fits}

infix 4 ◌∈◌
unfoldable pub ◌∈◌ : ℕ → List ℕ → Type 0
f ∈ [] = ⊥
f ∈ x ∷ xs = (f ≡ x) ⊎ (f ∈ xs)

-- the files of slot s
abbrev pub in_slot : (ℕ → ℕ) → ℕ → List ℕ → List ℕ
in_slot slot s order = those (λ f. eqb (slot f) s) order

-- the first file; none where there is none
abbrev pub first_or : ℕ → List ℕ → ℕ
first_or none [] = none
first_or none (f ∷ fs) = f

-- in the row a, x, y, .., none, v stands next after u
unfoldable pub Follows : ℕ → ℕ → List ℕ → ℕ → ℕ → Type 0
Follows none a [] u v = (u ≡ a) × (v ≡ none)
Follows none a (x ∷ xs) u v = ((u ≡ a) × (v ≡ x)) ⊎ Follows none x xs u v

-- u names v, and v's previous is u
pub record Joined (none back : ℕ) (z : List ℕ) (u v : ℕ) : Type 0 where
  pub next : get_or z u 0 ≡ v
  pub previous : v ≢ none → get_or z (back + v) 0 ≡ u

-- of each slot, its head, its files and none are a row, and neighbours are joined
pub record Linked (files slots : ℕ) (slot : ℕ → ℕ) (order z : List ℕ) : Type 0 where
  pub long : files + slots + files < length z
  pub known : (f : ℕ) → f ∈ order → (f < files) × (slot f < slots)
  pub rows : (s u v : ℕ) → s < slots → Follows files (files + s) (in_slot slot s order) u v → Joined files (files + slots) z u v

-- by the sides and the gains as they are; every file stands below its vault's top
pub record StandFor (shape : Shape) (sides : List ℕ) (gains : List ℤ) (order z : List ℕ) : Type 0 where
  pub fits : Fits shape
  pub gained : shape.files ≤ length gains
  pub room : top_at shape 1 < length z
  pub linked : Linked shape.files (slots shape.most) (slot_in shape.most sides gains) order z
  pub low : (u : ℕ) → get_or z (top_at shape u) 0 ≤ levels shape.most
  pub under : (f : ℕ) → f ∈ order → level_of shape.most (get_or gains f (pos 0)) < get_or z (top_at shape (side_of sides f)) 0
