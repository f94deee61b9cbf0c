-- Edition 2 of the choice, as the code makes it on the list of links. Assumes nothing.
use Rattle.std.specs.Prelude.{ℕ, zero, suc, ◌+◌, not, cond, ◌&&◌, ◌||◌, List, get_or, set, leb, ltb, eqb, ℤ, pos, Option, Some, None}
use Rattle.std.specs.Int.Signed.{lt_z}
use Rattle.choice.specs.declared.window.Window.{Window}
use Rattle.choice.specs.declared.edition1.Best.{Best}
use Rattle.choice.specs.Choosing.{dist_in}
use Rattle.choice.specs.Best.{best_is, goes_first}
use Rattle.buckets.specs.declared.slots.Shape.{Shape}
use Rattle.buckets.specs.Slots.{vault_at, top_at, fits_in}
use Rattle.buckets.specs.Links.{highest_in}

-- the file that the head just below the top names
abbrev pub front_at : ℕ → ℕ → List ℕ → ℕ → ℕ
front_at none from z zero = none
front_at none from z (suc k) = get_or z (from + k) 0

-- a vault's front file, and the links that are left
pub record Front : Type 0 where
  pub file : ℕ
  pub links : List ℕ

abbrev pub front_is : ℕ → List ℕ → Front
front_is file links = record { file = file; links = links }

-- the top comes down to the highest nonempty bucket
abbrev pub top_in : Shape → ℕ → List ℕ → ℕ
top_in shape side z = highest_in shape.files (shape.files + vault_at shape.most side) z (get_or z (top_at shape side) 0)

unfoldable pub front_in : Shape → ℕ → List ℕ → Front
front_in shape side z =
    front_is (front_at shape.files (shape.files + vault_at shape.most side) z (top_in shape side z)) (set z (top_at shape side) (top_in shape side z))

-- no file
abbrev pub no_best : ℕ → Best
no_best n = best_is n (pos 0) 0

-- the move of this front file, if it is a file and its move is legal
unfoldable pub offer_of : Window → ℕ → List ℕ → List ℕ → List ℤ → ℕ → ℕ → Best
offer_of w size sizes sides gains n f =
    let dist = dist_in w size sizes sides f in
    cond (leb n f || ltb w.span dist) (no_best n) (best_is f (get_or gains f (pos 0)) dist)

-- of two offers the one from A, unless the other is one and goes before it
unfoldable pub first_of : ℕ → Best → Best → Best
first_of n a b = cond (not (eqb b.file n) && goes_first b.gain b.dist a n) b a

-- what is answered, and the links that are left
pub record Chosen : Type 0 where
  pub best : Best
  pub links : List ℕ

abbrev pub chosen_is : Best → List ℕ → Chosen
chosen_is best links = record { best = best; links = links }

-- the vaults' front files, A's first
abbrev pub front_a : Shape → List ℕ → Front
front_a shape z = front_in shape 0 z

abbrev pub front_b : Shape → List ℕ → Front
front_b shape z = front_in shape 1 (front_a shape z).links

unfoldable pub chosen_front : Shape → Window → ℕ → List ℕ → List ℕ → List ℤ → List ℕ → Chosen
chosen_front shape w size sizes sides gains z =
    let n = shape.files in
    cond (fits_in shape)
    (chosen_is (first_of n (offer_of w size sizes sides gains n (front_a shape z).file) (offer_of w size sizes sides gains n (front_b shape z).file)) (front_b shape z).links)
    (chosen_is (no_best n) z)

-- ---- the same as src/ has it, where none is no number

-- what is in place of a file is one of n, or none
abbrev pub if_file : ℕ → ℕ → Option ℕ
if_file n f = cond (ltb f n) (Some f) None

-- the move of this front file, if it is legal
abbrev pub offered : Window → ℕ → List ℕ → List ℕ → List ℤ → ℕ → Option Best
offered w size sizes sides gains f =
    cond (leb (dist_in w size sizes sides f) w.span) (Some (best_is f (get_or gains f (pos 0)) (dist_in w size sizes sides f))) None

-- of two offers the one from A, unless the other goes before it
abbrev pub first_offered : Option Best → Option Best → Option Best
first_offered None b = b
first_offered (Some a) None = Some a
first_offered (Some a) (Some b) = cond (lt_z a.gain b.gain || (not (lt_z b.gain a.gain) && ltb b.dist a.dist)) (Some b) (Some a)
