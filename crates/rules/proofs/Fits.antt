-- Lent lists that fit, length by length. Assumes nothing.
use mathlib.Core.Path.{◌≡◌}
use Prim.Native.Nat.{ℕ, ◌+◌, ◌*◌, ◌≤◌}
use mathlib.Core.Bool.{Bool, true, false, cond}
use native.Mathlib.Omega.{arith}
use lib.ListN.{length}
use lib.Dec.{leb, eqb}
use borrow.Author.Tests.{leb-true, eqb-true}
use Rattle.rules.specs.Job.{Job, file_count, recipe_count, Lent, scratch_numbers, scratch_for, fits}
use Rattle.rules.proofs.Tests.{and_yes}

-- every edition's scratch holds document 01's numbers, and edition 2's is the longest
numbers-by : (b : Bool) (p c n : ℕ) → (p + 4 * c + 4 * n + 16 ≤ p + 4 * c + cond b 8 4 * n + 16) × (p + 4 * c + cond b 8 4 * n + 16 ≤ p + 4 * c + 8 * n + 16)
numbers-by true p c n = (omega arith, omega arith)
numbers-by false p c n = (omega arith, omega arith)

pub numbers-least : (edition p c n : ℕ) → scratch_numbers 1 p c n ≤ scratch_numbers edition p c n
numbers-least edition p c n = (numbers-by (eqb edition 2) p c n).0

pub numbers-most : (edition p c n : ℕ) → scratch_numbers edition p c n ≤ scratch_numbers 2 p c n
numbers-most edition p c n = (numbers-by (eqb edition 2) p c n).1

pub record LongEnough (edition : ℕ) (job : Job) (l : Lent) : Type 0 where
  pub gains : length l.gains ≡ file_count job
  pub tried : file_count job ≤ length l.tried
  pub gained : file_count job ≤ length l.gained
  pub cuts : file_count job ≤ length l.cuts
  pub scans_so_far : file_count job ≤ length l.ends
  pub scanned_recipes : 4 * recipe_count job ≤ length l.recipes
  pub scanned_kinds : 4 * recipe_count job ≤ length l.kinds
  pub scratch : scratch_for edition job ≤ length l.scratch

pub long-enough : (edition : ℕ) (job : Job) (l : Lent) → fits edition job l ≡ true → LongEnough edition job l
long-enough edition job l ok =
    let t8 = and_yes _ (leb (scratch_for edition job) (length l.scratch)) ok in
    let t7 = and_yes _ (leb (4 * recipe_count job) (length l.kinds)) t8.0 in
    let t6 = and_yes _ (leb (4 * recipe_count job) (length l.recipes)) t7.0 in
    let t5 = and_yes _ (leb (file_count job) (length l.ends)) t6.0 in
    let t4 = and_yes _ (leb (file_count job) (length l.cuts)) t5.0 in
    let t3 = and_yes _ (leb (file_count job) (length l.gained)) t4.0 in
    let t2 = and_yes (eqb (length l.gains) (file_count job)) (leb (file_count job) (length l.tried)) t3.0 in
    record {
      gains = eqb-true (length l.gains) (file_count job) t2.0;
      tried = leb-true (file_count job) (length l.tried) t2.1;
      gained = leb-true (file_count job) (length l.gained) t3.1;
      cuts = leb-true (file_count job) (length l.cuts) t4.1;
      scans_so_far = leb-true (file_count job) (length l.ends) t5.1;
      scanned_recipes = leb-true (4 * recipe_count job) (length l.recipes) t6.1;
      scanned_kinds = leb-true (4 * recipe_count job) (length l.kinds) t7.1;
      scratch = leb-true (scratch_for edition job) (length l.scratch) t8.1;
    }
