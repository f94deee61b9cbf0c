-- Edition 2's buckets in the scratch of a pass, on lists: the links stand right behind the counts. Assumes nothing.
use Rattle.std.specs.Prelude.{◌≡◌, ℕ, ◌+◌, ◌*◌, ◌≤◌, cond, List, [], ◌∷◌, ◌++◌, length, get_or, take, drop, eqb, ℤ, pos}
use Rattle.rules.specs.Lists.{those}
use Rattle.rules.specs.Split.{side_of}
use Rattle.rules.specs.Move.{State, steps_by, touches}
use Rattle.choice.specs.declared.window.Window.{Window}
use Rattle.choice.specs.declared.edition1.Best.{Best}
use Rattle.choice.specs.Best.{choice_in}
use Rattle.buckets.specs.declared.slots.Shape.{Shape}
use Rattle.buckets.specs.Entries.{entered_all, taken_out, brought_front}
use Rattle.buckets.specs.Offers.{chosen_front}
use Rattle.tables.specs.Zones.{counts_at, part, state_in}

-- where they begin, and how many numbers they are, of c files, n recipes and p pins
abbrev pub links_at : ℕ → ℕ → ℕ → ℕ
links_at c n p = counts_at c p + 4 * n

abbrev pub links_long : ℕ → ℕ → ℕ
links_long c n = 2 * c + 4 * n + 5

-- no gain is over the number of recipes
abbrev pub shape_of : ℕ → ℕ → Shape
shape_of c n = record { files = c; most = n }

-- the links of a scratch, and the scratch with others in their place
abbrev pub links_in : ℕ → ℕ → ℕ → List ℕ → List ℕ
links_in c n p z = part (links_at c n p) (links_long c n) z

abbrev pub with_links : ℕ → ℕ → ℕ → List ℕ → List ℕ → List ℕ
with_links c n p z links = take (links_at c n p) z ++ (links ++ drop (links_long c n) (drop (links_at c n p) z))

-- edition 2's scratch has room for them
abbrev pub HasLinks : ℕ → ℕ → ℕ → ℕ → List ℕ → Type 0
HasLinks edition c n p z = edition ≡ 2 → links_at c n p + links_long c n ≤ length z

-- ---- what each step does to the scratch; by edition 1 nothing

-- before the first move the free files enter
unfoldable pub entered_by : ℕ → ℕ → ℕ → ℕ → List ℕ → List ℕ → List ℤ → List ℕ → List ℕ
entered_by edition c n p marks sides gains z = cond (eqb edition 2) (with_links c n p z (entered_all (shape_of c n) marks sides gains (links_in c n p z))) z

-- the choice, and the scratch that it leaves
pub record Picked : Type 0 where
  pub best : Best
  pub scratch : List ℕ

abbrev pub picked_is : Best → List ℕ → Picked
picked_is best z = record { best = best; scratch = z }

unfoldable pub picked_by : ℕ → ℕ → ℕ → ℕ → Window → ℕ → List ℕ → List ℕ → List ℤ → List ℕ → Picked
picked_by edition c n p w size sizes sides gains z =
    let e = chosen_front (shape_of c n) w size sizes sides gains (links_in c n p z) in
    cond (eqb edition 2) (picked_is e.best (with_links c n p z e.links)) (picked_is (choice_in w size sizes sides z gains) z)

-- ---- after a move

-- file f is brought to the front of the bucket of its side and gain
abbrev pub bringing : Shape → List ℕ → List ℤ → List ℕ → ℕ → List ℕ
bringing shape sides gains links f = brought_front shape (side_of sides f) (get_or gains f (pos 0)) f links

-- each of these, one after the other
abbrev pub brought_all : Shape → List ℕ → List ℤ → List ℕ → List ℕ → List ℕ
brought_all shape sides gains fs links = steps_by (bringing shape sides gains) links fs

-- the files that the scans listed change, of recipes js and kinds ks; look gives a recipe whole, st is the state after the move, t the side moved to
unfoldable pub touched_by : State → ℕ → (ℕ → List ℕ) → List ℕ → List ℕ → List ℕ
touched_by st t look [] ks = []
touched_by st t look (j ∷ js) ks = those (touches st t (get_or ks 0 0)) (look j) ++ touched_by st t look js (drop 1 ks)

-- after the move of f, which is on the side moved to: it leaves its bucket, and the files that its scans changed enter anew
unfoldable pub followed_by : ℕ → ℕ → ℕ → ℕ → List ℤ → List ℕ → (ℕ → List ℕ) → List ℕ → List ℕ → ℕ → List ℕ → List ℕ
followed_by edition c n p gains sides look js ks f z =
    cond (eqb edition 2)
    (with_links c n p z (brought_all (shape_of c n) sides gains (touched_by (state_in c sides z) (side_of sides f) look js ks) (taken_out (shape_of c n) f (links_in c n p z))))
    z
