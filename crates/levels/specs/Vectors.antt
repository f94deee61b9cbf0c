-- Edition 3's choice (document 02, order 12) by the lists of a pass. Assumes nothing.
use Rattle.std.specs.Prelude.{ℕ, suc, ◌+◌, ◌-◌, ◌*◌, Bool, cond, ◌&&◌, List, [], ◌∷◌, length, get_or, take, leb, eqb, ℤ, pos}
use Rattle.std.proofs.Math.Option.{Option}
use Rattle.rules.specs.Lists.{count, diff}
use Rattle.rules.specs.Job.{view_of}
use Rattle.rules.specs.Split.{side_of}
use Rattle.rules.specs.Move.{first_below}
use Rattle.rules.specs.Levels.{Binding, adds, takes, binding_of, greater_vector, better_by}
use Rattle.tables.specs.Zones.{cells_at, starts_at, counts_at, side_at, part}
use Rattle.choice.specs.declared.window.Window.{Window}
use Rattle.choice.specs.declared.edition1.Best.{Best}
use Rattle.choice.specs.Choosing.{fit_files, dist_in, legal_in}
use Rattle.choice.specs.Best.{best_is, best_of}

-- ---- a file's vector

-- for each recipe its files on a file's own side, those of them that are locked, and the same of the other side
pub record Counts : Type 0 where
  pub own : List ℕ
  pub held : List ℕ
  pub there : List ℕ
  pub kept : List ℕ

-- as a file on side u sees them, of n recipes, in a zone of counts that begins at `at`
abbrev pub counts_for : ℕ → ℕ → List ℕ → ℕ → Counts
counts_for at n z u = record {
  own = part (side_at at n u) n z;
  held = part (side_at at n u + 2 * n) n z;
  there = part (side_at at n (1 - u)) n z;
  kept = part (side_at at n (1 - u) + 2 * n) n z;
}

-- recipe j's number for the own side, and for the other
abbrev pub own_at : Counts → ℕ → Binding
own_at c j = binding_of (get_or c.own j 0) (get_or c.held j 0)

abbrev pub there_at : Counts → ℕ → Binding
there_at c j = binding_of (get_or c.there j 0) (get_or c.kept j 0)

-- recipe j adds to level i, or takes from it
abbrev pub adds_at : Counts → ℕ → ℕ → Bool
adds_at c i j = adds i (own_at c j) (there_at c j)

abbrev pub takes_at : Counts → ℕ → ℕ → Bool
takes_at c i j = takes i (own_at c j) (there_at c j)

-- level i of a file with these recipes
unfoldable pub level_by : Counts → ℕ → List ℕ → ℤ
level_by c i js = diff (count (adds_at c i) js) (count (takes_at c i) js)

-- its vector: the gain is its level 1
abbrev pub vector_by : ℤ → Counts → List ℕ → List ℤ
vector_by gain c js = gain ∷ level_by c 2 js ∷ level_by c 3 js ∷ []

-- the vector of file f by the gain list and the scratch of a pass of c files, n recipes and p pins
unfoldable pub vector_in : ℕ → ℕ → ℕ → List ℕ → List ℤ → List ℕ → ℕ → List ℤ
vector_in c n p sides gains z f =
    vector_by (get_or gains f (pos 0)) (counts_for (counts_at c p) n z (side_of sides f)) (view_of (part (starts_at c p) (suc c) z) (part (cells_at c) p z) f)

-- ---- the choice

-- f has the greater vector
abbrev pub above_in : ℕ → ℕ → ℕ → List ℕ → List ℤ → List ℕ → ℕ → ℕ → Bool
above_in c n p sides gains z f g = greater_vector (vector_in c n p sides gains z f) (vector_in c n p sides gains z g)

-- of the first k files the legal one of greatest vector, then of least distance, then of lowest number
unfoldable pub chosen_vector : ℕ → ℕ → ℕ → Window → ℕ → List ℕ → List ℕ → List ℤ → List ℕ → ℕ → Option ℕ
chosen_vector c n p w size sizes sides gains z k =
    first_below (legal_in w size sizes sides (take c z)) (better_by (above_in c n p sides gains z) (dist_in w size sizes sides)) k

-- the lists are those of a pass of c files, n recipes and p pins
abbrev pub fit_vectors : ℕ → ℕ → ℕ → ℕ → ℕ → ℕ → ℕ → Bool
fit_vectors c n p sizes sides gains scratch = eqb sizes c && eqb sides c && fit_files c scratch gains && leb (counts_at c p + 4 * n) scratch

-- what is answered: none where the lists do not fit
unfoldable pub vector_choice : ℕ → ℕ → ℕ → Window → ℕ → List ℕ → List ℕ → List ℤ → List ℕ → Best
vector_choice c n p w size sizes sides gains z =
    cond (fit_vectors c n p (length sizes) (length sides) (length gains) (length z))
    (best_of (λ f. get_or gains f (pos 0)) (dist_in w size sizes sides) c (chosen_vector c n p w size sizes sides gains z c)) (best_is (length sizes) (pos 0) 0)
