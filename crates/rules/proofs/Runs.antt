-- The prefix kept, and the passes of a run. Assumes nothing.
use mathlib.Core.Path.{◌≡◌, refl, sym, ap, ◌∙◌}
use mathlib.Core.Logic.{◌≢◌}
use Prim.Native.Nat.{ℕ, zero, suc, ◌≤◌, ◌<◌}
use mathlib.Core.Bool.{Bool, true, false}
use mathlib.Core.List.{List, [], ◌∷◌, ◌++◌}
use native.Mathlib.Decide.{ℕ_discrete}
use native.Mathlib.Omega.{arith}
use lib.ListN.{length, get_or, take}
use lib.Seq.{take-suc}
use borrow.Author.Tests.{eqb-true, eqb-false, eq-eqb, ne_eqb}
use Rattle.rules.specs.Job.{Job, recipes}
use Rattle.rules.specs.Split.{cut, unread_files, unread_recipes, size_a}
use Rattle.rules.specs.Move.{steps_by, State, start, after}
use Rattle.rules.specs.Pass.{cut_at, keeps, Pass, pass_of}
use Rattle.rules.specs.Run.{settles, pass_by, passes_by, most_passes, last_of}
use Rattle.rules.specs.Theorems.{start_sides}
use Rattle.rules.proofs.Tests.{clash}
use Rattle.rules.proofs.Searches.{best-le, best-least, best-shortest}

-- ---- the prefix kept has the least cut of all prefixes, none included, and is the shortest such

module _ (rs : List (List ℕ)) (st : State) (ms : List ℕ) where
  pub keeps-le : keeps rs st ms ≤ length ms
  unfolding keeps
  keeps-le = best-le (cut_at rs st ms) (length ms)

  pub keeps-least : (k : ℕ) → k ≤ length ms → cut_at rs st ms (keeps rs st ms) ≤ cut_at rs st ms k
  unfolding keeps
  keeps-least k h = best-least (cut_at rs st ms) (length ms) k h

  pub keeps-shortest : (k : ℕ) → k < keeps rs st ms → cut_at rs st ms (keeps rs st ms) < cut_at rs st ms k
  unfolding keeps
  keeps-shortest k h = best-shortest (cut_at rs st ms) (length ms) k h

-- ---- passes, whoever chooses the moves

module _ (job : Job) (try : List ℕ → List ℕ) where
  -- a pass never raises the cut, and the next starts where it ends
  pub pass-falls : (sides : List ℕ) → (pass_by job try sides).cut_after ≤ (pass_by job try sides).cut_before
  unfolding pass_of cut_at steps_by
  pass-falls sides = keeps-least (recipes job) _ _ 0 (omega arith)

  pub pass-from : (sides : List ℕ) → (pass_by job try sides).cut_before ≡ cut sides (recipes job)
  unfolding pass_of
  pass-from sides = refl

  -- what could not be read is the job's
  pub pass-unread : (sides : List ℕ) → ((pass_by job try sides).unread ≡ unread_files job) × ((pass_by job try sides).holding ≡ unread_recipes job)
  unfolding pass_of
  pass-unread sides = (refl, refl)

  pub pass-to : (sides : List ℕ) → cut (pass_by job try sides).sides_after (recipes job) ≡ (pass_by job try sides).cut_after
  unfolding pass_of
  pass-to sides = refl

  pub pass-size : (sides : List ℕ) → (pass_by job try sides).size_after ≡ size_a job (pass_by job try sides).sides_after
  unfolding pass_of
  pass-size sides = refl

  -- a pass that does not settle lessens the cut
  pub lessens : (sides : List ℕ) → settles (pass_by job try sides) ≡ false → (pass_by job try sides).cut_after < (pass_by job try sides).cut_before
  lessens sides e =
      let n : (pass_by job try sides).cut_after ≢ (pass_by job try sides).cut_before = eqb-false (pass_by job try sides).cut_after (pass_by job try sides).cut_before e in
      omega (arith, pass-falls sides)

  -- a pass that settles keeps no move, and so leaves the sides as they are
  pub settled-none : (sides : List ℕ) → settles (pass_by job try sides) ≡ true → (pass_by job try sides).kept ≡ 0
  unfolding pass_of
  settled-none sides e = elim (ℕ_discrete (pass_by job try sides).kept 0) [
    | yes z ↦ z
    | no n ↦
        let same : (pass_by job try sides).cut_after ≡ (pass_by job try sides).cut_before = eqb-true (pass_by job try sides).cut_after (pass_by job try sides).cut_before e in
        let less : (pass_by job try sides).cut_after < (pass_by job try sides).cut_before = unfold cut_at steps_by in keeps-shortest (recipes job) (start job sides) (try sides) 0 (omega arith) in
        absurd (omega arith)
  ]

  pub settled-stays : (sides : List ℕ) → settles (pass_by job try sides) ≡ true → (pass_by job try sides).sides_after ≡ sides
  unfolding pass_of steps_by
  settled-stays sides e = ap (λ (k : ℕ). (after (start job sides) (take k (try sides))).sides) (settled-none sides e)

  -- and is the only one of the passes from there
  pub settled_only : (n : ℕ) (sides : List ℕ) → 1 ≤ n → settles (pass_by job try sides) ≡ true → passes_by job try n sides ≡ pass_by job try sides ∷ []
  unfolding passes_by
  settled_only zero sides h e = absurd (omega arith)
  settled_only (suc n) sides h e = rw (e, passes_by) refl

  -- how a list of passes came about: no turn was left, or a pass settled, or one did not and others followed it
  pub data Passes : ℕ → List ℕ → List Pass → Type 0 where
    out : {sides : List ℕ} → Passes zero sides []
    ended : {n : ℕ} {sides : List ℕ} → settles (pass_by job try sides) ≡ true → Passes (suc n) sides (pass_by job try sides ∷ [])
    on : {n : ℕ} {sides : List ℕ} {ps : List Pass} → settles (pass_by job try sides) ≡ false → Passes n (pass_by job try sides).sides_after ps → Passes (suc n) sides (pass_by job try sides ∷ ps)

  pub passes-come : (n : ℕ) (sides : List ℕ) → Passes n sides (passes_by job try n sides)
  unfolding passes_by
  passes-come zero sides = out
  passes-come (suc n) sides = go (settles (pass_by job try sides)) refl (passes-come n (pass_by job try sides).sides_after)
    where
      go : (b : Bool) → settles (pass_by job try sides) ≡ b → Passes n (pass_by job try sides).sides_after (passes_by job try n (pass_by job try sides).sides_after)
          → Passes (suc n) sides (passes_by job try (suc n) sides)
      go true e rest = rw (e, passes_by) (ended e)
      go false e rest = rw (e, passes_by) (on e rest)

  -- the first is from the sides given, each other from the sides that the one before left
  pub come-first : {n : ℕ} {sides : List ℕ} {ps : List Pass} → Passes n sides ps → (d : Pass) → 1 ≤ length ps → get_or ps 0 d ≡ pass_by job try sides
  come-first out d h = absurd (omega arith)
  come-first (ended e) d h = refl
  come-first (on e rest) d h = refl

  pub come-next : {n : ℕ} {sides : List ℕ} {ps : List Pass} → Passes n sides ps → (d : Pass) (i : ℕ) → suc i < length ps
      → get_or ps (suc i) d ≡ pass_by job try (get_or ps i d).sides_after
  come-next out d i h = absurd (omega arith)
  come-next (ended e) d i h = absurd (omega arith)
  come-next (on e rest) d zero h = come-first rest d (omega arith)
  come-next (on e rest) d (suc i) h = come-next rest d i (omega arith)

  -- each pass but the last lessened the cut
  pub come-less : {n : ℕ} {sides : List ℕ} {ps : List Pass} → Passes n sides ps → (d : Pass) (i : ℕ) → suc i < length ps
      → (get_or ps i d).cut_after < (get_or ps i d).cut_before
  come-less out d i h = absurd (omega arith)
  come-less (ended e) d i h = absurd (omega arith)
  come-less (on {sides = s} e rest) d zero h = lessens s e
  come-less (on e rest) d (suc i) h = come-less rest d i (omega arith)

  -- at most one pass more than the starting cut, and no more than the turns
  pub come-few : {n : ℕ} {sides : List ℕ} {ps : List Pass} → Passes n sides ps → length ps ≤ suc (cut sides (recipes job))
  come-few out = omega arith
  come-few (ended e) = omega arith
  come-few (on {sides = s} e rest) = omega (arith, come-few rest, lessens s e, pass-from s, pass-to s)

  pub come-turns : {n : ℕ} {sides : List ℕ} {ps : List Pass} → Passes n sides ps → length ps ≤ n
  come-turns out = omega arith
  come-turns (ended e) = omega arith
  come-turns (on e rest) = omega (arith, come-turns rest)

  -- with more turns than the cut, the last pass settles
  pub come-settled : {n : ℕ} {sides : List ℕ} {ps : List Pass} → Passes n sides ps → (d : Pass) → cut sides (recipes job) < n → settles (last_of d ps) ≡ true
  unfolding last_of
  come-settled out d h = absurd (omega arith)
  come-settled (ended e) d h = e
  come-settled (on {sides = s} e rest) d h = come-settled rest (pass_by job try s) (omega (arith, lessens s e, pass-from s, pass-to s))

  -- if the last does not settle, every turn was taken
  pub come-full : {n : ℕ} {sides : List ℕ} {ps : List Pass} → Passes n sides ps → (d : Pass) → settles (last_of d ps) ≡ false → length ps ≡ n
  unfolding last_of
  come-full out d h = refl
  come-full (ended e) d h = clash (sym e ∙ h)
  come-full (on {sides = s} e rest) d h = ap suc (come-full rest (pass_by job try s) h)

  -- each pass of a run is from the sides that it starts from
  pub come-start : {n : ℕ} {ps : List Pass} → Passes n job.sides ps → (d : Pass) (i : ℕ) → i < length ps → get_or ps i d ≡ pass_by job try (start_sides job try i)
  unfolding start_sides
  come-start came d zero h = come-first came d h
  come-start came d (suc i) h = come-next came d i h ∙ ap (λ (p : Pass). pass_by job try p.sides_after) (come-start came d i (omega arith))

  -- what a pass hands on from sides to sides holds at the start of each pass, and of the last
  module _ {ℓ} (good : List ℕ → Type ℓ) (keep : (sides : List ℕ) → good sides → good (pass_by job try sides).sides_after) where
    pub each_start : good job.sides → (i : ℕ) → good (start_sides job try i)
    unfolding start_sides
    each_start w zero = w
    each_start w (suc i) = keep (start_sides job try i) (each_start w i)

    pub come-last : {n : ℕ} {sides : List ℕ} {ps : List Pass} → Passes n sides ps → good sides → (d : Pass)
        → ((before : List ℕ) × good before × (d ≡ pass_by job try before)) → (before : List ℕ) × good before × (last_of d ps ≡ pass_by job try before)
    unfolding last_of
    come-last out w d q = q
    come-last (ended {sides = s} e) w d q = (s, w, refl)
    come-last (on {sides = s} e rest) w d q = come-last rest (keep s w) (pass_by job try s) (s, w, refl)

-- ---- the turns of a run: the cap, or one more than the starting cut

pub turns-none : (job : Job) → job.cap ≡ 0 → most_passes job ≡ suc (cut job.sides (recipes job))
unfolding most_passes
turns-none job e = rw (eq-eqb job.cap 0 e) refl

pub turns-cap : (job : Job) → job.cap ≢ 0 → most_passes job ≡ job.cap
unfolding most_passes
turns-cap job n = rw (ne_eqb job.cap 0 n) refl

pub turns-some : (job : Job) → 1 ≤ most_passes job
turns-some job = elim (ℕ_discrete job.cap 0) [
  | yes e ↦ omega (arith, turns-none job e)
  | no n ↦ omega (arith, turns-cap job n)
]

-- a run with a turn makes a pass
pub come-some : (job : Job) (try : List ℕ → List ℕ) {n : ℕ} {sides : List ℕ} {ps : List Pass} → Passes job try n sides ps → 1 ≤ n → 1 ≤ length ps
come-some job try out h = absurd (omega arith)
come-some job try (ended e) h = omega arith
come-some job try (on e rest) h = omega arith

-- ---- the last of passes

pub last_more : (first : Pass) (ps : List Pass) (p : Pass) → last_of first (ps ++ (p ∷ [])) ≡ p
unfolding last_of
last_more first [] p = refl
last_more first (q ∷ ps) p = last_more q ps p

-- among the first k + 1, the one at k
pub last-at : (first d : Pass) (ps : List Pass) (k : ℕ) → k < length ps → last_of first (take (suc k) ps) ≡ get_or ps k d
last-at first d ps k h = ap (last_of first) (take-suc ps k d h) ∙ last_more first (take k ps) (get_or ps k d)
