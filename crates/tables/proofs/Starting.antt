-- The starting gains from cells and counts: a file's recipes walked by their numbers. Assumes nothing.
use mathlib.Core.Path.{◌≡◌, refl, sym, ap, ap₂, ◌∙◌}
use Prim.Native.Nat.{ℕ, zero, suc, ◌+◌, ◌-◌, ◌*◌, ◌≤◌, ◌<◌}
use mathlib.Core.Bool.{Bool, true, false, cond, ◌&&◌}
use mathlib.Core.List.{List, [], ◌∷◌}
use native.Mathlib.Omega.{arith}
use native.Mathlib.Nat.{add-zero, zero-add, suc-add, add-suc}
use lib.Dec.{eqb}
use lib.ListN.{length, get_or}
use lib.IntN.{ℤ, pos, ◌-ℤ◌}
use mir.Syntax.{w32}
use mir.Val.{SFits, to_z, of_z}
use mir.Facts.{to_z-of_z, to_z_pos}
use Rattle.rules.specs.Lists.{bit, total, count, AllBelow, diff}
use Rattle.rules.specs.Split.{other, side_of, on_side, count_on, holds, alone, together, gain}
use Rattle.rules.specs.Move.{free}
use Rattle.rules.specs.Pass.{standing, gains_after}
use Rattle.rules.proofs.Count.{get_d-tabled, length-tabled}
use Rattle.rules.proofs.Signed.{abs_diff}
use Rattle.rules.proofs.Machine.{abs-fits}
use Rattle.rules.specs.Split.{recipes_from, recipes_of}
use Rattle.tables.specs.Zones.{cells_at, counts_at, side_at, part, start_in, end_in, Cells}
use Rattle.tables.specs.declared.sound_job.SoundJob.{SoundJob}
use Rattle.tables.specs.SoundJob.{read_recipes, many_files, many_recipes, many_pins, state_at_start, gains_at_start, Stands}
use Rattle.tables.specs.Counting.{gain_by, start_gain}
use Rattle.tables.proofs.Buildable.{read-long}
use Rattle.tables.proofs.Parts.{part-entry}
use Rattle.tables.proofs.Sides.{side-within}

-- ---- a difference of two counts, in the machine

module _ (a b : ℕ) (h : a < 65536) (k : b < 65536) where
  diff-fits : SFits w32 (diff a b)
  diff-fits = abs-fits (diff a b) (omega (arith, abs_diff a b 65536 (omega arith) (omega arith)))

  read : to_z w32 a -ℤ to_z w32 b ≡ diff a b
  unfolding diff
  read = ap₂ ◌-ℤ◌ (to_z_pos w32 {n = a} (omega arith)) (to_z_pos w32 {n = b} (omega arith))

  pub sub_back : to_z w32 (of_z w32 (to_z w32 a -ℤ to_z w32 b)) ≡ diff a b
  sub_back = rw read (to_z-of_z diff-fits)

-- ---- recipes by their numbers

-- a count over the recipes that hold f is one over their numbers
held-from : (q : List ℕ → Bool) (f : ℕ) (look : ℕ → List ℕ) (rs : List (List ℕ)) (j : ℕ) → ((i : ℕ) → look (j + i) ≡ get_or rs i [])
    → count (λ r. holds r f && q r) rs ≡ count (λ i. q (look i)) (recipes_from f j rs)
unfolding count total recipes_from
held-from q f look [] j h = refl
held-from q f look (r ∷ rs) j h = go (holds r f) (held-from q f look rs (suc j) (λ i. ap look (suc-add j i ∙ sym (add-suc j i)) ∙ h (suc i)))
  where
    e : look j ≡ r
    e = ap look (sym (add-zero j)) ∙ h 0

    go : (b : Bool) → total (λ r. bit (holds r f && q r)) rs ≡ total (λ i. bit (q (look i))) (recipes_from f (suc j) rs)
        → bit (b && q r) + total (λ r. bit (holds r f && q r)) rs
        ≡ total (λ i. bit (q (look i))) (cond b (j ∷ recipes_from f (suc j) rs) (recipes_from f (suc j) rs))
    go true ih = ap₂ ◌+◌ (ap (λ x. bit (q x)) (sym e)) ih
    go false ih = omega (arith, ih)

pub held-count : (q : List ℕ → Bool) (f : ℕ) (rs : List (List ℕ)) → count (λ r. holds r f && q r) rs ≡ count (λ j. q (get_or rs j [])) (recipes_of rs f)
held-count q f rs = held-from q f (λ j. get_or rs j []) rs 0 (λ i. ap (λ n. get_or rs n []) (zero-add i))

from-below : (f : ℕ) (rs : List (List ℕ)) (j : ℕ) → AllBelow (j + length rs) (recipes_from f j rs)
unfolding recipes_from
from-below f [] j i l = absurd (omega arith)
from-below f (r ∷ rs) j i l = go (holds r f) i l (from-below f rs (suc j))
  where
    js : List ℕ
    js = recipes_from f (suc j) rs

    go : (b : Bool) (i : ℕ) → i < length (cond b (j ∷ js) js) → ((k : ℕ) → k < length js → get_or js k 0 < suc j + length rs)
        → get_or (cond b (j ∷ js) js) i 0 < j + suc (length rs)
    go true zero l ih = omega arith
    go true (suc i) l ih = omega (arith, ih i (omega arith))
    go false i l ih = omega (arith, ih i l)

-- they are recipes
pub recipes-below : (f : ℕ) (rs : List (List ℕ)) → AllBelow (length rs) (recipes_of rs f)
recipes-below f rs = rw zero-add at (from-below f rs 0)

-- two tests that agree below n have one count over numbers below n
count-agree : (n : ℕ) (p q : ℕ → Bool) → ((i : ℕ) → i < n → p i ≡ q i) → (js : List ℕ) → AllBelow n js → count p js ≡ count q js
unfolding count total
count-agree n p q h [] b = refl
count-agree n p q h (j ∷ js) b = ap₂ ◌+◌ (ap bit (h j (b 0 (omega arith)))) (count-agree n p q h js (λ i l. b (suc i) (omega arith)))

-- tables of the counts on f's own side and on the other give its gain
gain-by : (sides : List ℕ) (rs : List (List ℕ)) (f : ℕ) (mine theirs : List ℕ)
    → ((j : ℕ) → j < length rs → get_or mine j 0 ≡ count_on sides (side_of sides f) (get_or rs j []))
    → ((j : ℕ) → j < length rs → get_or theirs j 0 ≡ count_on sides (other (side_of sides f)) (get_or rs j []))
    → gain_by mine theirs (recipes_of rs f) ≡ gain sides rs f
unfolding gain_by gain count_on alone together
gain-by sides rs f mine theirs a b =
    ap₂ diff
    (count-agree (length rs) (on_side mine 1) (λ j. eqb (count_on sides (side_of sides f) (get_or rs j [])) 1)
    (λ j l. ap (λ (k : ℕ). eqb k 1) (a j l)) (recipes_of rs f) (recipes-below f rs)
    ∙ sym (held-count (λ r. eqb (count_on sides (side_of sides f) r) 1) f rs))
    (count-agree (length rs) (on_side theirs 0) (λ j. eqb (count_on sides (other (side_of sides f)) (get_or rs j [])) 0)
    (λ j l. ap (λ (k : ℕ). eqb k 0) (b j l)) (recipes_of rs f) (recipes-below f rs)
    ∙ sym (held-count (λ r. eqb (count_on sides (other (side_of sides f)) r) 0) f rs))

module _ (job : SoundJob) {z : List ℕ} (stands : Stands job z) where
  abbrev sides : List ℕ
  sides = job.sides.now

  abbrev at_side : ℕ → ℕ
  at_side u = side_at (counts_at (many_files job) (many_pins job)) (many_recipes job) u

  -- the counts of side u as a table
  table : (u : ℕ) → u ≤ 1 → (j : ℕ) → j < length (read_recipes job) → get_or (part (at_side u) (many_recipes job) z) j 0 ≡ count_on sides u (get_or (read_recipes job) j [])
  table u h j l = part-entry (at_side u) (many_recipes job) z j (omega (arith, read-long job)) ∙ (stands.counts.each j (omega (arith, read-long job))).on u h

  -- file f's cells, from s up to e
  module _ {f s e : ℕ} (h : f < many_files job) (from : s ≡ cells_at (many_files job) + start_in (many_files job) (many_pins job) z f)
      (to : e ≡ cells_at (many_files job) + end_in (many_files job) (many_pins job) z f) where
    held : part s (e - s) z ≡ recipes_of (read_recipes job) f
    held =
        let k : e - s ≡ end_in (many_files job) (many_pins job) z f - start_in (many_files job) (many_pins job) z f = omega arith in
        ap₂ (λ (i n : ℕ). part i n z) from k ∙ stands.cells.hold f h

    -- what the code works out is entry f of the starting gains
    pub start-gain-is : {mine theirs : ℕ} → mine ≡ at_side (side_of sides f) → theirs ≡ at_side (other (side_of sides f))
        → start_gain z (get_or job.marks.now f 0) s e mine theirs (many_recipes job) ≡ get_or (gains_at_start job) f (pos 0)
    unfolding start_gain gains_after standing
    start-gain-is i o =
        rw (held, i, o)
        (ap (λ (g : ℤ). cond (eqb (get_or job.marks.now f 0) 0) g (pos 0))
        (gain-by sides (read_recipes job) f (part (at_side (side_of sides f)) (many_recipes job) z) (part (at_side (other (side_of sides f))) (many_recipes job) z)
        (table (side_of sides f) (job.binary f)) (table (other (side_of sides f)) (omega arith))))
        ∙ sym (get_d-tabled (λ f. cond (free (state_at_start job) f) (gain sides (read_recipes job) f) (pos 0)) (many_files job) f (pos 0) h)

pub start-gains-long : (job : SoundJob) → length (gains_at_start job) ≡ many_files job
unfolding gains_after
start-gains-long job = length-tabled _ (many_files job)

-- what the gain of a file asks: its cells, and the counts of both sides, stand in the scratch
pub gain-asks : {rs : List (List ℕ)} {c p : ℕ} {z : List ℕ} (n f side : ℕ) {s e own other : ℕ} → Cells rs c p z → f < c → p < 65535 → counts_at c p + 4 * n ≤ length z
    → s ≡ cells_at c + start_in c p z f → e ≡ cells_at c + end_in c p z f → own ≡ side_at (counts_at c p) n side → other ≡ side_at (counts_at c p) n (1 - side)
    → ((s ≤ e) × (e ≤ length z) × (e - s < 65536)) × ((own + n ≤ length z) × (other + n ≤ length z))
gain-asks {c = c} {p = p} n f side d h few fits x y u v =
    let a = d.order f h in
    let b = d.inside f h in
    let i = side-within (counts_at c p) n side in
    let j = side-within (counts_at c p) n (1 - side) in
    ((omega arith, omega arith, omega arith), (omega arith, omega arith))
