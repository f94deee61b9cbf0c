-- Moves, as a loop that chooses and moves has them. Assumes nothing.
use mathlib.Core.Path.{◌≡◌, refl, sym, ap, subst, ◌∙◌}
use Prim.Native.Nat.{ℕ, suc, ◌-◌, ◌≤◌, ◌<◌, ◌^◌}
use mathlib.Core.List.{List}
use mathlib.Core.Option.{Option, none, some}
use native.Mathlib.Omega.{arith}
use lib.ListN.{length, drop}
use Rattle.rules.specs.Job.{Job, file_count, Lent}
use Rattle.rules.specs.Move.{Frees}
use Rattle.choice.specs.declared.window.Window.{Window}
use Rattle.choice.specs.Choosing.{file_or}
use Rattle.split.specs.Moving.{Board, move_one}
use Rattle.split.specs.Movable.{Movable}
use Rattle.split.proofs.Going.{links_from, begins, Line, Going, beyond-more}
use Rattle.split.proofs.Playable.{Playable}
use Rattle.rules.proofs.Fits.{long-enough}
use Rattle.split.proofs.Bounds.{BoardLong, board-long, size_few}
use Rattle.split.proofs.MoveNow.{MoveFits, recipes-treated, move-safe, move-fits, move-goes}
use Rattle.split.proofs.NextMove.{Next, Picked, next-move, no_move}

-- ---- numbers, for where many lists are known

pub same-below : {a b n : ℕ} → a ≡ b → b < n → a < n
same-below e h = omega arith

pub one_less : {k k' n : ℕ} → k < n → k' ≡ suc k → n - k' < n - k
one_less h e = omega arith

-- the moves made
abbrev pub moves_of : Board → ℕ
moves_of b = b.rest.scanned.progress.moves

-- between two moves; what lies beyond the first n numbers of the scratch is as it was lent
pub record Underway (n : ℕ) (job : Job) (ms : List ℕ) (l : Lent) (w : Window) (b : Board) : Type 0 where
  pub playable : Playable job l w
  pub frees : Frees (begins job) ms
  pub going : Going job ms l (moves_of b) b
  pub counts : links_from job ≤ n
  pub enough : n ≤ length l.scratch
  pub beyond : drop n b.rest.scratch ≡ drop n l.scratch

-- f is what the choice gives that makes these moves; C where it gives none
pub record Chose (job : Job) (ms : List ℕ) (b : Board) (f : ℕ) : Type 0 where
  pub pick : ℕ → Option ℕ
  pub picked : Picked pick ms
  pub file : f ≡ file_or (file_count job) (pick (moves_of b))

-- the lists fit the choice, and |A| is a four-byte number
pub record Choosable (job : Job) (b : Board) : Type 0 where
  pub sides : length b.sides ≡ file_count job
  pub gains : length b.rest.scanned.gains ≡ file_count job
  pub locks : file_count job ≤ length b.rest.scratch
  pub size : b.rest.scanned.progress.size < 2 ^ 32

-- a file below n, and none
file-some : (n f : ℕ) (o : Option ℕ) → f ≡ file_or n o → f < n → o ≡ some f
file-some n f none e h = absurd (omega arith)
file-some n f (some x) e h = ap some (sym e)

file-none : (n f : ℕ) (o : Option ℕ) → ((x : ℕ) → o ≡ some x → x < n) → f ≡ file_or n o → n ≤ f → o ≡ none
file-none n f none below e h = refl
file-none n f (some x) below e h = absurd (omega (arith, below x refl))

module _ {n : ℕ} {job : Job} {ms : List ℕ} {l : Lent} {w : Window} {b : Board} (u : Underway n job ms l w b) where
  abbrev y : Playable job l w
  y = u.playable

  abbrev pub line : Line job ms
  line = record { most = y.most; sound = y.sound; frees = u.frees }

  abbrev g : Going job ms l (moves_of b) b
  g = u.going

  -- the lists are as long as lent
  pub under-long : BoardLong job l b
  under-long = board-long line y.fitting g

  pub sides-stay : length b.sides ≡ length job.sides
  sides-stay = under-long.sides ∙ sym y.sound.sides_long

  pub gains-stay : length b.rest.scanned.gains ≡ length l.gains
  gains-stay = under-long.gains ∙ sym (long-enough 1 job l y.fitting).gains

  pub choosable : Choosable job b
  choosable =
      let m : BoardLong job l b = under-long in
      record {
        sides = m.sides;
        gains = m.gains;
        locks = omega (arith, (long-enough 1 job l y.fitting).scratch, m.scratch);
        size = omega (arith, g.progress.size, size_few line (moves_of b), y.small.weight);
      }

  -- once a file is chosen
  module _ {f : ℕ} (c : Chose job ms b f) where
    -- it is a file: the next move
    module _ (h : f < file_count job) where
      pub playing-next : Next job ms (moves_of b) f
      playing-next = next-move line c.picked (moves_of b) g.few f (file-some (file_count job) f (c.pick (moves_of b)) c.file h)

      pub playing-safe : Movable job.sizes job.bounds job.pins f b.sides b.rest
      playing-safe = move-safe line y.small y.fitting g playing-next

      pub playing-fits : MoveFits job.sizes job.bounds job.pins f b
      playing-fits = move-fits line y.small y.fitting g playing-next

      module _ {b' : Board} (e : b' ≡ move_one job.sizes job.bounds job.pins f b) where
        goes : Going job ms l (suc (moves_of b)) b'
        goes = subst (Going job ms l (suc (moves_of b))) (sym e) (move-goes line y.small y.fitting g playing-next)

        -- one move more
        pub playing-more : moves_of b' ≡ suc (moves_of b)
        playing-more = goes.progress.moves

        pub playing-goes : Underway n job ms l w b'
        unfolding move_one
        playing-goes = record {
          playable = y;
          frees = u.frees;
          going = subst (λ (k : ℕ). Going job ms l k b') (sym playing-more) goes;
          counts = u.counts;
          enough = u.enough;
          beyond =
              ap (λ (x : Board). drop n x.rest.scratch) e
              ∙ beyond-more job n _ _ u.counts (recipes-treated line y.small y.fitting g playing-next).beyond ∙ u.beyond;
        }

    -- none is: the moves have ended
    pub playing-end : file_count job ≤ f → Going job ms l (length ms) b
    playing-end h =
        let pick : Option ℕ = c.pick (moves_of b) in
        let below : (x : ℕ) → pick ≡ some x → x < file_count job = λ x e. (next-move line c.picked (moves_of b) g.few x e).below in
        let end : moves_of b ≡ length ms = no_move line c.picked (moves_of b) g.few (file-none (file_count job) f pick below c.file h) in
        subst (λ (k : ℕ). Going job ms l k b) end g
