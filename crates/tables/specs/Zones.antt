-- The scratch area of a pass, one list cut into neighbouring zones, and what each holds. Assumes nothing.
--
-- For C files, N recipes and P pins: C locks; P cells, the recipes of file after file; C + 1 starts, where each file's cells begin, counted from the
-- first cell: they end where the next one's begin; 4N counts of a recipe's files: on A, on B, locked on A, locked on B; the rest is room.
use Rattle.std.specs.Prelude.{◌≡◌, ℕ, ◌+◌, ◌-◌, ◌*◌, ◌≤◌, ◌<◌, cond, List, [], get_or, take, drop, eqb}
use Rattle.rules.specs.Split.{count_on, recipes_of}
use Rattle.rules.specs.Move.{State, locked_on}
use Rattle.tables.specs.declared.zones.Extent.{Extent}
use Rattle.tables.specs.declared.zones.Zones.{Zones}

-- where each zone begins; the locks are the first
abbrev pub cells_at : ℕ → ℕ
cells_at c = c

abbrev pub starts_at : ℕ → ℕ → ℕ
starts_at c p = cells_at c + p

abbrev pub counts_at : ℕ → ℕ → ℕ
counts_at c p = starts_at c p + c + 1

abbrev pub zones_of : ℕ → ℕ → Zones
zones_of c p = record { cells = cells_at c; starts = starts_at c p; counts = counts_at c p }

-- where the counts of side u stand, of the two lists of n counts from `at` on
abbrev pub side_at : ℕ → ℕ → ℕ → ℕ
side_at at n u = cond (eqb u 0) at (at + n)

abbrev pub part : ℕ → ℕ → List ℕ → List ℕ
part at n z = take n (drop at z)

-- the extent of a job with c files, n recipes and p pins
abbrev pub extent_of : ℕ → ℕ → ℕ → Extent
extent_of c n p = record { files = c; recipes = n; pins = p }

abbrev pub state_of : List ℕ → List ℕ → State
state_of sides locks = record { sides = sides; locks = locks }

-- the state that the sides and the scratch show
abbrev pub state_in : ℕ → List ℕ → List ℕ → State
state_in c sides z = state_of sides (take c z)

-- where the cells of file f begin, and where they end, which is where those of the next begin
abbrev pub start_in : ℕ → ℕ → List ℕ → ℕ → ℕ
start_in c p z f = get_or z (starts_at c p + f) 0

abbrev pub end_in : ℕ → ℕ → List ℕ → ℕ → ℕ
end_in c p z f = get_or z (starts_at c p + f + 1) 0

-- the cells of file f, as they stand in the scratch
abbrev pub cells_of : ℕ → ℕ → List ℕ → ℕ → List ℕ
cells_of c p z f = part (cells_at c + start_in c p z f) (end_in c p z f - start_in c p z f) z

-- they are its recipes, in rising number
pub record Cells (rs : List (List ℕ)) (c p : ℕ) (z : List ℕ) : Type 0 where
  pub order : (f : ℕ) → f < c → start_in c p z f ≤ end_in c p z f
  pub inside : (f : ℕ) → f < c → end_in c p z f ≤ p
  pub hold : (f : ℕ) → f < c → cells_of c p z f ≡ recipes_of rs f

-- the counts of recipe j, of its files on each side and of the locked ones among them, in a zone of counts for n recipes that begins at `at`
pub record CountsOf (rs : List (List ℕ)) (st : State) (at n : ℕ) (z : List ℕ) (j : ℕ) : Type 0 where
  pub on : (u : ℕ) → u ≤ 1 → get_or z (side_at at n u + j) 0 ≡ count_on st.sides u (get_or rs j [])
  pub locked : (u : ℕ) → u ≤ 1 → get_or z (side_at at n u + j + 2 * n) 0 ≡ locked_on st u (get_or rs j [])

pub record Counts (rs : List (List ℕ)) (st : State) (at n : ℕ) (z : List ℕ) : Type 0 where
  pub each : (j : ℕ) → j < n → CountsOf rs st at n z j
