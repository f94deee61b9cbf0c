-- A pass that was made is told whole: the lists that it leaves hold all that a trace shows. Assumes nothing.
use mathlib.Core.Path.{◌≡◌, refl, ap, ◌∙◌}
use Prim.Native.Nat.{ℕ, zero, suc, ◌+◌, ◌*◌, ◌≤◌, ◌<◌}
use mathlib.Core.Bool.{true, false}
use mathlib.Core.List.{List, [], ◌∷◌}
use native.Mathlib.Omega.{arith}
use native.Mathlib.Nat.{add-zero}
use lib.ListN.{length, get_or, length-append}
use lib.Dec.{ltb}
use borrow.Author.Tests.{le-ltb, le-leb, eq-eqb}
use Rattle.rules.specs.Lists.{some_below, total}
use Rattle.rules.specs.Job.{Job, Limits, file_count, recipe_count, recipes, Lent, fits}
use Rattle.rules.specs.Check.{done}
use Rattle.rules.specs.Move.{State, moved, scans_of, scans, ends_from, start}
use Rattle.rules.specs.Pass.{Pass, pass_of, leaves}
use Rattle.rules.specs.Fronts.{tries_by}
use Rattle.rules.specs.Run.{first_pass, figures_of}
use Rattle.rules.specs.Trace.{Listing, listing, scans_before, bad_end, holds_pass}
use Rattle.rules.specs.Theorems.{Sound, MovesHold, ScansHold, Left}
use Rattle.rules.proofs.Proved.{pass-holds-by, scans-hold, lawful-frees, left, given-sides}
use Rattle.rules.proofs.FrontsProved.{editions-hold}
use Rattle.rules.proofs.Searches.{some-none}
use Rattle.rules.proofs.Steps.{ends-length}
use Rattle.rules.proofs.Fits.{long-enough}

-- where the scans of move i begin, if the first begin at n
abbrev begins_at : List ℕ → ℕ → ℕ → ℕ
begins_at ends n zero = n
begins_at ends n (suc i) = get_or ends i 0

-- the ends rise, and do not pass the scans
ends-rise : (rs : List (List ℕ)) (n : ℕ) (st : State) (ms : List ℕ) (i : ℕ) → i < length ms
    → (begins_at (ends_from rs n st ms) n i ≤ get_or (ends_from rs n st ms) i 0) × (get_or (ends_from rs n st ms) i 0 ≤ n + length (scans rs st ms))
unfolding ends_from scans
ends-rise rs n st [] i h = absurd (omega arith)
ends-rise rs n st (f ∷ fs) zero h = (omega arith, omega (arith, length-append (scans_of rs st f) (scans rs (moved st f) fs)))
ends-rise rs n st (f ∷ fs) (suc zero) h =
    let r = ends-rise rs (n + length (scans_of rs st f)) (moved st f) fs zero (omega arith) in
    (r.0, omega (arith, r.1, length-append (scans_of rs st f) (scans rs (moved st f) fs)))
ends-rise rs n st (f ∷ fs) (suc (suc i)) h =
    let r = ends-rise rs (n + length (scans_of rs st f)) (moved st f) fs (suc i) (omega arith) in
    (r.0, omega (arith, r.1, length-append (scans_of rs st f) (scans rs (moved st f) fs)))

-- what holds of the first pass by an edition
pub pass-made : (edition : ℕ) (most : Limits) (job : Job) → Sound most job
    → MovesHold job job.sides (tries_by edition job job.sides) × ScansHold job job.sides (tries_by edition job job.sides)
pass-made edition most job s =
    let w = given-sides most job s in
    let lawful = (editions-hold most job s).lawful edition job.sides w in
    ((pass-holds-by most job s job.sides _ w lawful).moves, scans-hold most job s job.sides _ w (lawful-frees most job s job.sides _ w lawful))

module _ (edition : ℕ) (most : Limits) (job : Job) (s : Sound most job) (l : Lent) (ok : fits edition job l ≡ true) where
  abbrev one : Pass
  one = first_pass edition job

  these-hold : MovesHold job job.sides (tries_by edition job job.sides)
  these-hold = (pass-made edition most job s).0

  its-scans : ScansHold job job.sides (tries_by edition job job.sides)
  its-scans = (pass-made edition most job s).1

  there : Left edition job l one
  there = left most job s edition job.sides (tries_by edition job job.sides) l ok these-hold its-scans

  abbrev told : Listing
  told = listing (leaves edition job l one)

  -- the ends that are told are those of the pass
  end-told : (i : ℕ) → i < length (tries_by edition job job.sides) → get_or told.ends i 0 ≡ get_or (ends_from (recipes job) 0 (start job job.sides) (tries_by edition job job.sides)) i 0
  unfolding pass_of
  end-told i h = there.ends.holds 0 i (rw (ends-length (recipes job) 0 (start job job.sides) (tries_by edition job job.sides)) h)

  begin-told : (i : ℕ) → i < length (tries_by edition job job.sides) → scans_before told i ≡ begins_at (ends_from (recipes job) 0 (start job job.sides) (tries_by edition job job.sides)) 0 i
  begin-told zero h = refl
  begin-told (suc i) h = end-told i (omega arith)

  few-scans : length (scans (recipes job) (start job job.sides) (tries_by edition job job.sides)) ≤ 4 * recipe_count job
  unfolding pass_of
  few-scans = its-scans.scans

  no-bad-end : (i : ℕ) → i < length (tries_by edition job job.sides) → bad_end told i ≡ false
  no-bad-end i h =
      let r = ends-rise (recipes job) 0 (start job job.sides) (tries_by edition job job.sides) i h in
      let e = end-told i h in
      let f = long-enough edition job l ok in
      let rise : ltb (get_or told.ends i 0) (scans_before told i) ≡ false = le-ltb (get_or told.ends i 0) (scans_before told i) (omega (arith, e, begin-told i h, r.0)) in
      let within : ltb (length told.recipes) (get_or told.ends i 0) ≡ false = le-ltb (length told.recipes) (get_or told.ends i 0) (omega (arith, e, r.1, few-scans, there.recipes.long, f.scanned_recipes)) in
      let kinds : ltb (length told.kinds) (get_or told.ends i 0) ≡ false = le-ltb (length told.kinds) (get_or told.ends i 0) (omega (arith, e, r.1, few-scans, there.kinds.long, f.scanned_kinds)) in
      rw (rise, within, kinds) refl

  tried-told : (figures_of done one (one ∷ [])).tried ≡ length (tries_by edition job job.sides)
  unfolding figures_of total pass_of
  tried-told = add-zero (length (tries_by edition job job.sides))

  pub pass-told : holds_pass job.sizes (figures_of done one (one ∷ [])) told ≡ true
  pass-told =
      let f = long-enough edition job l ok in
      let n = length (tries_by edition job job.sides) in
      let ends : some_below (bad_end told) n ≡ false = some-none (bad_end told) n no-bad-end in
      let gains : length told.gains ≡ file_count job = ap length there.gains ∙ these-hold.all in
      rw (
        tried-told,
        eq-eqb (length told.gains) (file_count job) gains,
        le-leb n (file_count job) these-hold.few,
        le-leb n (length told.tried) (omega (arith, these-hold.few, there.tried.long, f.tried)),
        le-leb n (length told.gained) (omega (arith, these-hold.few, there.gained.long, f.gained)),
        le-leb n (length told.cuts) (omega (arith, these-hold.few, there.cuts.long, f.cuts)),
        le-leb n (length told.ends) (omega (arith, these-hold.few, there.ends.long, f.scans_so_far)),
        ends,
      ) refl
