-- The moves of a pass: each is what the choice picks, no file moves twice, and they end when nothing is left to pick. Assumes nothing.
use mathlib.Core.Path.{◌≡◌, refl, sym, ap, subst, ◌∙◌}
use mathlib.Core.Logic.{◌≢◌}
use Prim.Native.Nat.{ℕ, zero, suc, ◌≤◌, ◌<◌}
use mathlib.Core.Bool.{false}
use mathlib.Core.List.{List, [], ◌∷◌}
use mathlib.Core.Option.{Option, none, some}
use native.Mathlib.Decide.{ℕ_discrete}
use native.Mathlib.Omega.{arith}
use lib.Dec.{eqb}
use lib.ListN.{length, get_or, set, take, length-set}
use lib.Seq.{get_or-set_same, get_or-set_other, take-nil}
use borrow.Author.Tests.{eqb-true}
use Rattle.rules.specs.Lists.{total, count}
use Rattle.rules.specs.Job.{Job, file_count}
use Rattle.rules.specs.Split.{side_of, times, balanced}
use Rattle.rules.specs.Move.{steps_by, State, lock_of, free, moved, after, Frees, stop, move, size_after, legal, choose, moves_by, moves}
use Rattle.rules.specs.Theorems.{Chosen}
use Rattle.rules.proofs.Count.{hit-eq, hit-ne, count-le}
use Rattle.rules.proofs.Tests.{and_yes}
use Rattle.rules.proofs.Choice.{chosen, nothing_left}

-- ---- the moves, for any choice

module _ {ℓ} {S : Type ℓ} (pick : S → Option ℕ) (step : S → ℕ → S) where
  pub moves-stop : (k : ℕ) (s : S) → pick s ≡ none → moves_by pick step k s ≡ []
  unfolding moves_by
  moves-stop zero s e = refl
  moves-stop (suc k) s e = rw (e, moves_by)

  pub moves-go : (k : ℕ) (s : S) (f : ℕ) → pick s ≡ some f → moves_by pick step (suc k) s ≡ f ∷ moves_by pick step k (step s f)
  unfolding moves_by
  moves-go k s f e = rw (e, moves_by)

  -- each move is what the choice picks there
  pub moves_each : (k : ℕ) (s : S) (i : ℕ) → i < length (moves_by pick step k s)
      → pick (steps_by step s (take i (moves_by pick step k s))) ≡ some (get_or (moves_by pick step k s) i 0)
  unfolding steps_by
  moves_each zero s i h = let q : i < 0 = unfold moves_by in h in absurd (omega arith)
  moves_each (suc k) s i h = go (pick s) refl i h (λ f. moves_each k (step s f))
    where
      go : (o : Option ℕ) → pick s ≡ o → (i : ℕ) → i < length (moves_by pick step (suc k) s)
          → ((f : ℕ) (i : ℕ) → i < length (moves_by pick step k (step s f)) → pick (steps_by step (step s f) (take i (moves_by pick step k (step s f)))) ≡ some (get_or (moves_by pick step k (step s f)) i 0))
          → pick (steps_by step s (take i (moves_by pick step (suc k) s))) ≡ some (get_or (moves_by pick step (suc k) s) i 0)
      go none e i h ih = let q : i < 0 = rw (moves-stop (suc k) s e) at h in absurd (omega arith)
      go (some f) e zero h ih = rw (moves-go k s f e) e
      go (some f) e (suc i) h ih =
          let q : suc i < suc (length (moves_by pick step k (step s f))) = rw (moves-go k s f e) at h in
          rw (moves-go k s f e) (ih f i (omega arith))

-- what each move keeps: it holds after every move, and another choice that agrees where it holds makes the same moves
module _ {ℓ κ} {S : Type ℓ} (pick : S → Option ℕ) (step : S → ℕ → S) (good : S → Type κ) (keep : (s : S) (f : ℕ) → good s → pick s ≡ some f → good (step s f)) where
  pub moves-keep : (k : ℕ) (s : S) → good s → (i : ℕ) → good (steps_by step s (take i (moves_by pick step k s)))
  unfolding steps_by
  moves-keep zero s g i = rw (moves-none, take-nil) g
    where
      moves-none : moves_by pick step zero s ≡ []
      moves-none = unfold moves_by in refl
  moves-keep (suc k) s g i = go (pick s) refl i (λ f. moves-keep k (step s f))
    where
      go : (o : Option ℕ) → pick s ≡ o → (i : ℕ)
          → ((f : ℕ) → good (step s f) → (i : ℕ) → good (steps_by step (step s f) (take i (moves_by pick step k (step s f)))))
          → good (steps_by step s (take i (moves_by pick step (suc k) s)))
      go none e i ih = rw (moves-stop pick step (suc k) s e, take-nil) g
      go (some f) e zero ih = g
      go (some f) e (suc i) ih = rw (moves-go pick step k s f e) (ih f (keep s f g e) i)

  pub moves-same : (pick' : S → Option ℕ) → ((s : S) → good s → pick s ≡ pick' s) → (k : ℕ) (s : S) → good s → moves_by pick step k s ≡ moves_by pick' step k s
  moves-same pick' same zero s g = unfold moves_by in refl
  moves-same pick' same (suc k) s g = go (pick s) refl (λ f. moves-same pick' same k (step s f))
    where
      go : (o : Option ℕ) → pick s ≡ o → ((f : ℕ) → good (step s f) → moves_by pick step k (step s f) ≡ moves_by pick' step k (step s f))
          → moves_by pick step (suc k) s ≡ moves_by pick' step (suc k) s
      go none e ih = moves-stop pick step (suc k) s e ∙ sym (moves-stop pick' step (suc k) s (sym (same s g) ∙ e))
      go (some f) e ih =
          moves-go pick step k s f e ∙ ap (λ (l : List ℕ). f ∷ l) (ih f (keep s f g e)) ∙ sym (moves-go pick' step k s f (sym (same s g) ∙ e))

-- how many files are free
abbrev pub free_count : State → ℕ
free_count st = count (λ l. eqb l 0) st.locks

set-less : (l : List ℕ) (f : ℕ) → f < length l → get_or l f 0 ≡ 0 → suc (count (λ l. eqb l 0) (set l f 1)) ≡ count (λ l. eqb l 0) l
unfolding count total
set-less [] f h e = absurd (omega arith)
set-less (x ∷ l) zero h e = omega (arith, hit-eq e)
set-less (x ∷ l) (suc f) h e = omega (arith, set-less l f (omega arith) e)

pub record StateLong (n : ℕ) (st : State) : Type 0 where
  pub sides : length st.sides ≡ n
  pub locks : length st.locks ≡ n

pub moved-long : {n : ℕ} {st : State} (f : ℕ) → StateLong n st → StateLong n (moved st f)
unfolding moved
moved-long {n} {st} f l = record { sides = length-set st.sides f _ ∙ l.sides; locks = length-set st.locks f 1 ∙ l.locks }

pub after-long : {n : ℕ} (st : State) (fs : List ℕ) → StateLong n st → StateLong n (after st fs)
unfolding steps_by
after-long st [] l = l
after-long st (f ∷ fs) l = after-long (moved st f) fs (moved-long f l)

-- moves of files below n, each free where it is moved
pub frees_each : {n : ℕ} (st : State) (ms : List ℕ) → StateLong n st → ((i : ℕ) → i < length ms → (get_or ms i 0 < n) × (lock_of (after st (take i ms)) (get_or ms i 0) ≡ 0)) → Frees st ms
unfolding steps_by
frees_each st [] l each = stop
frees_each st (f ∷ fs) l each =
    let q = each 0 (omega arith) in
    move {st = st} {f = f} (omega (arith, q.0, l.sides)) (omega (arith, q.0, l.locks)) q.1 (frees_each (moved st f) fs (moved-long f l) (λ i h. each (suc i) (omega arith)))

-- a choice of free files below n, while `good` holds, which each step keeps: `see` gives the state that the choice's own s stands for
pub record Picks {ℓ} (n : ℕ) {S : Type ℓ} (pick : S → Option ℕ) (step : S → ℕ → S) (see : S → State) (good : S → Type 0) : Type ℓ where
  pub seen : (s : S) (f : ℕ) → see (step s f) ≡ moved (see s) f
  pub long : (s : S) → good s → StateLong n (see s)
  pub keeps : (s : S) (f : ℕ) → good s → pick s ≡ some f → good (step s f)
  pub free : (s : S) (f : ℕ) → good s → pick s ≡ some f → (f < n) × (lock_of (see s) f ≡ 0)

module _ {ℓ} {n : ℕ} {S : Type ℓ} {pick : S → Option ℕ} {step : S → ℕ → S} {see : S → State} {good : S → Type 0} (p : Picks n pick step see good) where
  -- the state after moves is the one seen
  steps-seen : (s : S) (ms : List ℕ) → see (steps_by step s ms) ≡ after (see s) ms
  unfolding steps_by
  steps-seen s [] = refl
  steps-seen s (f ∷ ms) = steps-seen (step s f) ms ∙ ap (λ (x : State). after x ms) (p.seen s f)

  -- what holds of each file picked holds of each move where it is made
  pub moves-see : (fine : State → ℕ → Type 0) → ((s : S) (f : ℕ) → good s → pick s ≡ some f → fine (see s) f) → (k : ℕ) (s : S) → good s
      → (i : ℕ) → i < length (moves_by pick step k s) → fine (after (see s) (take i (moves_by pick step k s))) (get_or (moves_by pick step k s) i 0)
  moves-see fine picked k s g i h =
      let ms : List ℕ = moves_by pick step k s in
      subst (λ (x : State). fine x (get_or ms i 0)) (steps-seen s (take i ms))
      (picked (steps_by step s (take i ms)) (get_or ms i 0) (moves-keep pick step good p.keeps k s g i) (moves_each pick step k s i h))

  -- each move is of a file then still free
  pub moves-free : (k : ℕ) (s : S) → good s → Frees (see s) (moves_by pick step k s)
  moves-free k s g = frees_each (see s) (moves_by pick step k s) (p.long s g) (moves-see (λ st f. (f < n) × (lock_of st f ≡ 0)) p.free k s g)

  -- and with no fewer turns than free files, they end where nothing is picked
  pub moves-end : (k : ℕ) (s : S) → good s → free_count (see s) ≤ k → pick (steps_by step s (moves_by pick step k s)) ≡ none
  moves-end zero s g h = go (pick s) refl
    where
      go : (o : Option ℕ) → pick s ≡ o → pick (steps_by step s (moves_by pick step zero s)) ≡ none
      go none e = rw (moves-stop pick step zero s e) (unfold steps_by in e)
      go (some f) e =
          let q = p.free s f g e in
          absurd (omega (arith, set-less (see s).locks f (omega (arith, q.0, (p.long s g).locks)) q.1))
  moves-end (suc k) s g h = go (pick s) refl (λ f. moves-end k (step s f))
    where
      go : (o : Option ℕ) → pick s ≡ o
          → ((f : ℕ) → good (step s f) → free_count (see (step s f)) ≤ k → pick (steps_by step (step s f) (moves_by pick step k (step s f))) ≡ none)
          → pick (steps_by step s (moves_by pick step (suc k) s)) ≡ none
      go none e ih = rw (moves-stop pick step (suc k) s e) (unfold steps_by in e)
      go (some f) e ih =
          let q = p.free s f g e in
          let less : free_count (moved (see s) f) ≤ k = unfold moved in omega (arith, set-less (see s).locks f (omega (arith, q.0, (p.long s g).locks)) q.1) in
          rw (moves-go pick step k s f e) (unfold steps_by in ih f (p.keeps s f g e) (rw (p.seen s f) less))

-- no file moves twice
locked-out : {st : State} {fs : List ℕ} (x : ℕ) → 1 ≤ lock_of st x → Frees st fs → times x fs ≡ 0
unfolding times count total moved
locked-out x l stop = refl
locked-out {st} x l (move {f = f} {fs = fs} a b e rest) =
    let n : f ≢ x = λ q. omega (arith, ap (lock_of st) q) in
    omega (arith, hit-ne n, locked-out x (rw (get_or-set_other st.locks f x 1 0 (λ q. n (sym q))) l) rest)

-- nor does a file that is locked
pub locked-stays : {st : State} {fs : List ℕ} (x : ℕ) → 1 ≤ lock_of st x → Frees st fs → side_of (after st fs).sides x ≡ side_of st.sides x
unfolding steps_by moved
locked-stays x l stop = refl
locked-stays {st} x l (move {f = f} {fs = fs} a b e rest) =
    let n : x ≢ f = λ q. omega (arith, ap (lock_of st) q) in
    locked-stays {fs = fs} x (rw (get_or-set_other st.locks f x 1 0 n) l) rest ∙ get_or-set_other st.sides f x _ 0 n

pub frees-once : {st : State} {fs : List ℕ} (x : ℕ) → Frees st fs → times x fs ≤ 1
unfolding times count total moved
frees-once x stop = omega arith
frees-once {st} x (move {f = f} {fs = fs} a b e rest) = elim (ℕ_discrete f x) [
  | yes q ↦ omega (arith, hit-eq q, locked-out {fs = fs} x (rw (← q, get_or-set_same st.locks f 1 0 b) (omega arith)) rest)
  | no n ↦ omega (arith, hit-ne n, frees-once x rest)
]

-- so there are no more moves than files
free-count : {st : State} {fs : List ℕ} → Frees st fs → length fs ≤ free_count st
unfolding moved
free-count stop = omega arith
free-count {st} (move {f = f} a b e rest) = omega (arith, free-count rest, set-less st.locks f b e)

pub frees-few : {st : State} {fs : List ℕ} → Frees st fs → length fs ≤ length st.locks
frees-few {st} l = omega (arith, free-count l, count-le (λ l. eqb l 0) st.locks)

-- ---- one pass of document 01

module _ (job : Job) where
  picks : Picks (file_count job) (choose job) moved (λ s. s) (StateLong (file_count job))
  unfolding legal
  picks = record {
    seen = λ s f. refl;
    long = λ s l. l;
    keeps = λ s f l e. moved-long f l;
    free = λ s f l e.
        let c = chosen job s f e in
        (c.below, eqb-true (lock_of s f) 0 (and_yes (free s f) (balanced job (size_after job s f)) c.lawful).0);
  }

  module _ (st : State) (long : StateLong (file_count job) st) where
    -- each move is the choice there: legal, of greatest gain, then nearest, then lowest
    pub pass-each : (i : ℕ) → i < length (moves job st) → Chosen job (after st (take i (moves job st))) (get_or (moves job st) i 0)
    unfolding moves
    pass-each = moves-see picks (Chosen job) (λ s f l e. chosen job s f e) (file_count job) st long

    -- C turns are enough: at the end no legal move exists
    pub pass-end : (g : ℕ) → g < file_count job → legal job (after st (moves job st)) g ≡ false
    unfolding moves
    pass-end =
        nothing_left job (after st (moves_by (choose job) moved (file_count job) st))
        (moves-end picks (file_count job) st long (omega (arith, count-le (λ l. eqb l 0) st.locks, long.locks)))
