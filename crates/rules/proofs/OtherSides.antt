-- A job with other sides: nothing but the sides, and what goes by them, is another, and it may be accepted again. Assumes nothing.
use mathlib.Core.Path.{◌≡◌, refl, ap, ◌∙◌}
use Prim.Native.Nat.{ℕ}
use mathlib.Core.Bool.{Bool, true}
use mathlib.Core.List.{List}
use Rattle.rules.specs.Job.{Job, Limits, files, views, read_in, recipes, Lent}
use Rattle.rules.specs.Split.{unread_files, unread_recipes, weight, smax, size_on, size_a, balanced}
use Rattle.rules.specs.Check.{done, check, check_job}
use Rattle.rules.specs.Move.{size_after, legal, dist_after, choose, moves}
use Rattle.rules.specs.Pass.{Pass, pass_of, tries, pass, leaves}
use Rattle.rules.specs.Writing.{with_sides}
use Rattle.rules.specs.Theorems.{Sound, Accepted, Sides}
use Rattle.rules.proofs.Proved.{accepted}
use Rattle.rules.proofs.Checking.{check-holds}

module _ (job : Job) (sides : List ℕ) where
  abbrev next : Job
  next = with_sides job sides

  pub same-recipes : recipes next ≡ recipes job
  unfolding views recipes read_in
  same-recipes = refl

  pub same_size : (u : ℕ) (x : List ℕ) → size_on next u x ≡ size_on job u x
  unfolding size_on files
  same_size u x = refl

  same-balance : (a : ℕ) → balanced next a ≡ balanced job a
  unfolding balanced weight smax files
  same-balance a = refl

  -- the pass that tries these moves, whoever chose them
  pub same-pass_of : (x ms : List ℕ) → pass_of next x ms ≡ pass_of job x ms
  unfolding pass_of size_on files views recipes read_in unread_files unread_recipes
  same-pass_of x ms = refl

  -- and those of edition 1
  pub same-tries : tries next ≡ tries job
  unfolding moves choose legal dist_after size_after balanced weight smax size_on files views recipes read_in
  same-tries = refl

  pub same-pass : (x : List ℕ) → pass next x ≡ pass job x
  same-pass x = same-pass_of x (tries next x) ∙ ap (λ (try : List ℕ → List ℕ). pass_of job x (try x)) same-tries

  pub same-leaves : (edition : ℕ) (l : Lent) (p : Pass) → leaves edition next l p ≡ leaves edition job l p
  unfolding leaves
  same-leaves edition l p = refl

  -- sides 0 or 1, as many as there are files
  pub sound-again : {most : Limits} → Sound most job → Sides job sides → Sound most next
  sound-again s w = record {
    some_file = s.some_file;
    some_recipe = s.some_recipe;
    few_files = s.few_files;
    few_recipes = s.few_recipes;
    few_pins = s.few_pins;
    sides_long = w.long;
    marks_long = s.marks_long;
    first = s.first;
    two = s.two;
    last = s.last;
    pins_below = s.pins_below;
    apart = s.apart;
    sizes = s.sizes;
    binary = w.binary;
    marks = s.marks;
  }

  -- from such sides, balanced, the same job passes its check again
  pub check-again : (most : Limits) (lent : Bool) → (check most job lent).number ≡ 0 → Sides job sides → balanced job (size_a job sides) ≡ true → check_job most next ≡ done
  unfolding views recipes read_in weight smax files
  check-again most lent ok w b =
      let a : Accepted most job = accepted most job lent ok in
      (check-holds most next true).accepted_passes
      (record {
        sound = sound-again a.sound w;
        distinct = a.distinct;
        ratio = a.ratio;
        wide = a.wide;
        free = a.free;
        filled = a.filled;
        balanced = same-balance (size_a next sides) ∙ ap (balanced job) (same_size 0 sides) ∙ b;
      })
      refl
