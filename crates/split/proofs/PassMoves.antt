-- The moves of a pass by an edition: the choice by the lists is the choice that makes them. Assumes nothing.
use mathlib.Core.Path.{◌≡◌, refl, sym, ap, ◌∙◌}
use Prim.Native.Nat.{ℕ}
use mathlib.Core.Bool.{Bool, true, false, cond}
use mathlib.Core.List.{List}
use mathlib.Core.Option.{Option, none, some}
use lib.ListN.{length}
use lib.Seq.{take-length}
use lib.Dec.{eqb}
use Rattle.rules.specs.Job.{Job, Limits, file_count}
use Rattle.rules.specs.Split.{side_of}
use Rattle.rules.specs.Move.{State, moved, after, Frees, legal, choose, moves}
use Rattle.rules.specs.Pass.{tries}
use Rattle.rules.specs.Fronts.{Buckets, start_buckets, moved_on, choose_front, front_tries, tries_by}
use Rattle.rules.specs.FrontsHold.{buckets_at, fronts_at}
use Rattle.rules.specs.Theorems.{Sound, Chosen}
use Rattle.rules.proofs.Tests.{clash}
use Rattle.rules.proofs.Choice.{chosen}
use Rattle.rules.proofs.MovesEnd.{StateLong, moves_each, pass-end}
use Rattle.rules.proofs.Proved.{lawful-frees, given-sides}
use Rattle.rules.proofs.FrontsProved.{editions-hold, pass-holds-fronts, good-at, chosen-front}
use Rattle.split.proofs.Going.{begins, stands}
use Rattle.split.proofs.NextMove.{Picked}

-- the moves of a pass from the job's sides
abbrev pub pass_moves : ℕ → Job → List ℕ
pass_moves edition job = tries_by edition job job.sides

-- the buckets after k of them, and what the edition chooses then
abbrev pub buckets_now : ℕ → Job → ℕ → Buckets
buckets_now edition job k = buckets_at job job.sides (pass_moves edition job) k

abbrev pub pick_at : ℕ → Job → ℕ → Option ℕ
pick_at edition job k = cond (eqb edition 2) (choose_front job (buckets_now edition job k)) (choose job (stands job (pass_moves edition job) k))

module _ (most : Limits) (job : Job) (s : Sound most job) where
  pub pass-frees : (edition : ℕ) → Frees (begins job) (pass_moves edition job)
  pass-frees edition = let w = given-sides most job s in lawful-frees most job s job.sides _ w ((editions-hold most job s).lawful edition job.sides w)

  begins-long : StateLong (file_count job) (begins job)
  begins-long = record { sides = s.sides_long; locks = s.marks_long }

  -- at the end edition 1 chooses no file
  end_none : (f : ℕ) → choose job (stands job (tries job job.sides) (length (tries job job.sides))) ≡ some f → ⊥
  end_none f e =
      let ms : List ℕ = tries job job.sides in
      let c : Chosen job (after (begins job) ms) f = rw (take-length ms) at (chosen job (stands job ms (length ms)) f e) in
      clash (sym c.lawful ∙ pass-end job (begins job) begins-long f c.below)

  first-picked : Picked (λ k. choose job (stands job (tries job job.sides) k)) (tries job job.sides)
  unfolding moves
  first-picked = record {
    each = λ k h. moves_each (choose job) moved (file_count job) (begins job) k h;
    ended = go (choose job (stands job (tries job job.sides) (length (tries job job.sides)))) refl;
  }
    where
      go : (o : Option ℕ) → choose job (stands job (tries job job.sides) (length (tries job job.sides))) ≡ o → o ≡ none
      go none e = refl
      go (some f) e = absurd (end_none f e)

  -- nor does edition 2
  fronts-picked : Picked (λ k. choose_front job (fronts_at job job.sides k)) (front_tries job job.sides)
  unfolding front_tries
  fronts-picked = record {
    each = λ k h. moves_each (choose_front job) (moved_on job) (file_count job) (start_buckets job job.sides) k h;
    ended = go (choose_front job (fronts_at job job.sides (length (front_tries job job.sides)))) refl;
  }
    where
      go : (o : Option ℕ) → choose_front job (fronts_at job job.sides (length (front_tries job job.sides))) ≡ o → o ≡ none
      go none e = refl
      go (some f) e =
          let p = pass-holds-fronts most job s job.sides (given-sides most job s) in
          let last : ℕ = length (front_tries job job.sides) in
          let b : Buckets = fronts_at job job.sides last in
          let w = given-sides most job s in
          let good = good-at most job s job.sides (front_tries job job.sides) w (lawful-frees most job s job.sides _ w p.lawful) last in
          let c = chosen-front job b (p.buckets.fronts last) f e in
          clash (sym c.lawful ∙ ap (λ (st : State). legal job st f) (p.buckets.seen last) ∙ p.ended (side_of b.state.sides f) f (good.binary f) c.front)

  pub pass-picked : (edition : ℕ) → Picked (pick_at edition job) (pass_moves edition job)
  pass-picked edition = go (eqb edition 2)
    where
      go : (t : Bool) → Picked (λ k. cond t (choose_front job (buckets_at job job.sides (cond t (front_tries job job.sides) (tries job job.sides)) k))
          (choose job (stands job (cond t (front_tries job job.sides) (tries job job.sides)) k))) (cond t (front_tries job job.sides) (tries job job.sides))
      go true = fronts-picked
      go false = first-picked
