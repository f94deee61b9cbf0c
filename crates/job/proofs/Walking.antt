-- The walk over a recipe that counts what a vault holds of it. Assumes nothing.
use mathlib.Core.Path.{◌≡◌, sym, ap, ◌∙◌}
use Prim.Native.Nat.{ℕ, ◌+◌, ◌≤◌, ◌<◌}
use mathlib.Core.Bool.{Bool, not, ◌&&◌}
use mathlib.Core.List.{List}
use lib.Dec.{eqb, ltb}
use lib.ListN.{length, get_or}
use Rattle.rules.specs.Lists.{bit}
use Rattle.rules.specs.Job.{is_read, read_in}
use Rattle.rules.specs.Split.{on_side, count_on, is_cut}
use Rattle.rules.specs.Move.{locked_on}
use Rattle.rules.proofs.Count.{bit_le, Summed, summed-none, summed-more, summed-entries}
use Rattle.rules.proofs.Readable.{count-those, cut-read}
use Rattle.job.specs.Parts.{of_marks}
use Rattle.job.specs.declared.holds.Held.{Held}
use Rattle.job.specs.declared.holds.Vaults.{Vaults}
use Rattle.job.specs.Holds.{held_on, tally_of, with_pin}

module _ (sides marks recipe : List ℕ) (u : ℕ) where
  -- the file is on side u, and locked besides
  abbrev there : ℕ → Bool
  there x = on_side sides u x

  abbrev stuck : ℕ → Bool
  stuck x = there x && not (eqb (get_or marks x 0) 0)

  abbrev read : (ℕ → Bool) → ℕ → Bool
  read p x = is_read (of_marks marks) x && p x

  -- the first k files are counted
  pub record Counted (k : ℕ) (h : Held) : Type 0 where
    pub all : Summed (λ i. bit (read there (get_or recipe i 0))) 1 (length recipe) k h.all
    pub locked : Summed (λ i. bit (read stuck (get_or recipe i 0))) 1 (length recipe) k h.locked

module _ {sides marks recipe : List ℕ} {u : ℕ} where
  pub counted_none : {h : Held} → h.all ≡ 0 → h.locked ≡ 0 → Counted sides marks recipe u 0 h
  counted_none a l = record { all = rw a summed-none; locked = rw l summed-none }

  pub counted-more : {k : ℕ} {h r : Held} → Counted sides marks recipe u k h → k < length recipe
      → r ≡ with_pin h (get_or marks (get_or recipe k 0) 0) (on_side sides u (get_or recipe k 0)) → Counted sides marks recipe u (k + 1) r
  counted-more {k} {h} {r} c l e =
      let f = get_or recipe k 0 in
      record {
        all = summed-more c.all r.all l (ap (λ (y : Held). y.all) e) (bit_le (read sides marks recipe u (there sides marks recipe u) f));
        locked = summed-more c.locked r.locked l (ap (λ (y : Held). y.locked) e) (bit_le (read sides marks recipe u (stuck sides marks recipe u) f));
      }

  pub counted-all : {k : ℕ} {h : Held} → Counted sides marks recipe u k h → length recipe ≤ k → h ≡ held_on sides marks u recipe
  unfolding count_on locked_on
  counted-all c l =
      let all = summed-entries _ recipe c.all l ∙ sym (count-those (there sides marks recipe u) (is_read (of_marks marks)) recipe) in
      let locked = summed-entries _ recipe c.locked l ∙ sym (count-those (stuck sides marks recipe u) (is_read (of_marks marks)) recipe) in
      λ i. record { all = all i; locked = locked i }

-- whether a recipe is cut, by what the vaults hold of it
pub cut_tally : (sides marks recipe : List ℕ) (t : Vaults) → t ≡ tally_of sides marks recipe → is_cut sides (read_in (of_marks marks) recipe) ≡ (ltb 0 t.a.all && ltb 0 t.b.all)
unfolding is_cut
cut_tally sides marks recipe t e = rw e (cut-read (of_marks marks) sides recipe)
