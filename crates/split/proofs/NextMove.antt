-- Moves one by one, whoever chose them: each is of a file then free. Where a choice made them, it gives the next one while there is one,
-- and none where they have ended. Assumes nothing.
use mathlib.Core.Path.{◌≡◌, ap, subst, ◌∙◌}
use Prim.Native.Nat.{ℕ, zero, suc, ◌≤◌, ◌<◌}
use mathlib.Core.List.{List, [], ◌∷◌, ◌++◌}
use mathlib.Core.Option.{Option, none, some}
use native.Mathlib.Decide.{dec_lt}
use native.Mathlib.Omega.{arith}
use lib.ListN.{length, get_or, take}
use lib.Seq.{take-suc}
use Rattle.rules.specs.Job.{Job, file_count}
use Rattle.rules.specs.Move.{steps_by, State, lock_of, moved, after, Frees, stop, move}
use Rattle.rules.specs.Theorems.{Binary}
use Rattle.rules.proofs.MovesEnd.{StateLong, after-long, frees-few}
use Rattle.rules.proofs.OneMove.{Moves, move-of}
use Rattle.rules.proofs.GainKept.{frees-take, after-binary}
use Rattle.rules.proofs.Steps.{after-snoc}
use Rattle.split.proofs.Going.{begins, made, stands, Line}

-- f is move k
pub record Next (job : Job) (ms : List ℕ) (k f : ℕ) : Type 0 where
  pub few : k < length ms
  pub early : k < file_count job
  pub more : made ms (suc k) ≡ made ms k ++ (f ∷ [])
  pub then : stands job ms (suc k) ≡ moved (stands job ms k) f
  pub below : f < file_count job
  pub free : lock_of (stands job ms k) f ≡ 0
  pub moves : Moves (stands job ms k) (moved (stands job ms k) f) f

-- the moves are those of a choice, which ends them: `pick k` is what it gives after k moves
pub record Picked (pick : ℕ → Option ℕ) (ms : List ℕ) : Type 0 where
  pub each : (k : ℕ) → k < length ms → pick k ≡ some (get_or ms k 0)
  pub ended : pick (length ms) ≡ none

-- a move is of a file then free
frees-at : {st : State} {fs : List ℕ} → Frees st fs → (k : ℕ) → k < length fs
    → (get_or fs k 0 < length (after st (take k fs)).locks) × (lock_of (after st (take k fs)) (get_or fs k 0) ≡ 0)
unfolding steps_by
frees-at stop k h = absurd (omega arith)
frees-at (move a b e rest) zero h = (b, e)
frees-at (move a b e rest) (suc k) h = frees-at rest k (omega arith)

same_some : (o : Option ℕ) (a b : ℕ) → o ≡ some a → o ≡ some b → a ≡ b
same_some o a b p q = cc

never_both {ℓ} : {X : Type ℓ} (o : Option ℕ) (a : ℕ) → o ≡ some a → o ≡ none → X
never_both o a p q = let z : ◌≡◌ {A = ℕ} 0 1 = cc in absurd (omega arith)

module _ {job : Job} {ms : List ℕ} (v : Line job ms) where
  pub begins-long : StateLong (file_count job) (begins job)
  begins-long = record { sides = v.sound.sides_long; locks = v.sound.marks_long }

  -- what holds of every state on the way
  pub stands-long : (k : ℕ) → StateLong (file_count job) (stands job ms k)
  stands-long k = after-long (begins job) (made ms k) begins-long

  pub made-free : (k : ℕ) → Frees (begins job) (made ms k)
  made-free k = frees-take k v.frees

  pub stands-binary : (k : ℕ) → Binary (stands job ms k).sides
  stands-binary k = after-binary (begins job) (made ms k) (made-free k) v.sound.binary

  pub few-moves : length ms ≤ file_count job
  few-moves = omega (arith, frees-few v.frees, v.sound.marks_long)

  pub next-at : (k : ℕ) → k < length ms → Next job ms k (get_or ms k 0)
  next-at k h =
      let f : ℕ = get_or ms k 0 in
      let more : made ms (suc k) ≡ made ms k ++ (f ∷ []) = take-suc ms k 0 h in
      let here = frees-at v.frees k h in
      let long : StateLong (file_count job) (stands job ms k) = stands-long k in
      let below : f < file_count job = omega (arith, here.0, long.locks) in
      record {
        few = h;
        early = omega (arith, few-moves);
        more = more;
        then = ap (λ (l : List ℕ). after (begins job) l) more ∙ after-snoc (begins job) (made ms k) f;
        below = below;
        free = here.1;
        moves = move-of (stands job ms k) f (omega (arith, below, long.sides)) (omega (arith, below, long.locks)) here.1 (stands-binary k);
      }

  module _ {pick : ℕ → Option ℕ} (p : Picked pick ms) (k : ℕ) (few : k ≤ length ms) where
    pub next-move : (f : ℕ) → pick k ≡ some f → Next job ms k f
    next-move f e = elim (dec_lt k (length ms)) [
      | yes h ↦ subst (Next job ms k) (same_some (pick k) (get_or ms k 0) f (p.each k h) e) (next-at k h)
      | no n ↦
          let q : k ≡ length ms = omega arith in
          never_both (pick k) f e (rw q p.ended)
    ]

    pub no_move : pick k ≡ none → k ≡ length ms
    no_move e = elim (dec_lt k (length ms)) [
      | yes h ↦ never_both (pick k) (get_or ms k 0) (p.each k h) e
      | no n ↦ omega arith
    ]
