-- A pass goes on by one move: what the code of a move leaves is the pass after one move more. Assumes nothing.
use mathlib.Core.Path.{◌≡◌, refl, sym, ap, ap₂, ◌∙◌}
use Prim.Native.Nat.{ℕ, suc, ◌+◌, ◌<◌}
use mathlib.Core.Bool.{true}
use mathlib.Core.List.{List, [], ◌∷◌, ◌++◌}
use native.Mathlib.Nat.{zero-add}
use native.Mathlib.Omega.{arith}
use lib.IntN.{ℤ, pos}
use lib.ListN.{length, get_or, set}
use Rattle.rules.specs.Lists.{best_up_to, onto}
use Rattle.rules.specs.Job.{Job, file_count, recipes, Lent, fits}
use Rattle.rules.specs.Split.{cut, gain, size_of, size_a, side_of}
use Rattle.rules.specs.Move.{State, moved, size_after, scans, ends_from}
use Rattle.rules.specs.Pass.{gains_when, cuts_after, cut_at, start_gains}
use Rattle.rules.proofs.Entries.{onto-set}
use Rattle.rules.proofs.GainKept.{kept_up, gains_scanned}
use Rattle.rules.proofs.Steps.{kept-snoc, gains-snoc, cuts-snoc, ends_snoc, gains-length, cuts-length, ends-length}
use Rattle.split.specs.declared.progress.Progress.{Progress}
use Rattle.choice.specs.Choosing.{size_by}
use Rattle.tables.specs.Ending.{turned}
use Rattle.split.specs.Moving.{Board, counted_on, cut_by, treat_move, move_one}
use Rattle.split.proofs.Going.{begins, made, stands, Line, InProgress, Going}
use Rattle.split.proofs.Treats.{Shifted, MoveTreated}
use Rattle.split.proofs.NextMove.{Next}
use Rattle.split.proofs.ChoiceNow.{gains_now, size-moved-by}
use Rattle.split.proofs.BestSoFar.{costs, cost-now, made-length, keeps-made, least-made, counted-best, counted-least, counted-figure}
use Rattle.rules.proofs.Fits.{LongEnough, long-enough}
use Rattle.split.proofs.Bounds.{gain-now, cut-next}

-- one entry more in a list that holds one for each move made
one_more {ℓ} : {A : Type ℓ} (xs xs' old now : List A) (k : ℕ) (v v' : A) → now ≡ onto xs old → k ≡ length xs → v ≡ v' → xs' ≡ xs ++ (v' ∷ []) → length xs < length old
    → set now k v ≡ onto xs' old
one_more xs xs' old now k v v' e i w m h = rw (e, i, w, m) (onto-set xs old v' h)

module _ {job : Job} {ms : List ℕ} (v : Line job ms) {l : Lent} (ok : fits 1 job l ≡ true) {k f : ℕ} {b : Board} (g : Going job ms l k b) (n : Next job ms k f) where
  sides-on : turned b.sides f ≡ (stands job ms (suc k)).sides
  unfolding moved
  sides-on = ap (λ (x : List ℕ). turned x f) g.sides ∙ sym (ap (λ (st : State). st.sides) n.then)

  gain-of : get_or b.rest.scanned.gains f (pos 0) ≡ gain (stands job ms k).sides (recipes job) f
  gain-of = ap (λ (x : List ℤ). get_or x f (pos 0)) g.gains ∙ gain-now v k f n

  gains-on : gains_scanned (recipes job) (stands job ms k) f b.rest.scanned.gains ≡ gains_now job ms (suc k)
  gains-on =
      ap (λ (x : List ℤ). gains_scanned (recipes job) (stands job ms k) f x) g.gains
      ∙ sym (ap (λ (ms : List ℕ). kept_up (recipes job) (begins job) ms (start_gains (recipes job) (file_count job) (begins job))) n.more
      ∙ kept-snoc (recipes job) (begins job) (made ms k) f (start_gains (recipes job) (file_count job) (begins job)))

  size-on : size_by b.rest.scanned.progress.size (side_of b.sides f) (size_of job f) ≡ size_a job (stands job ms (suc k)).sides
  unfolding size_after
  size-on =
      ap₂ (λ (a : ℕ) (x : List ℕ). size_by a (side_of x f) (size_of job f)) g.progress.size g.sides
      ∙ size-moved-by v k f n.below n.free
      ∙ sym (ap (λ (st : State). size_a job st.sides) n.then)

  cut-moves : cut_by b.rest.scanned.progress.cut (get_or b.rest.scanned.gains f (pos 0)) ≡ cut (moved (stands job ms k) f).sides (recipes job)
  cut-moves =
      ap₂ (λ (a : ℕ) (x : List ℤ). cut_by a (get_or x f (pos 0))) g.progress.cut_now g.gains
      ∙ omega (arith, cut-next v k f n)

  cut_on : cut (moved (stands job ms k) f).sides (recipes job) ≡ cut (stands job ms (suc k)).sides (recipes job)
  cut_on = sym (ap (λ (st : State). cut st.sides (recipes job)) n.then)

  progress-on : (q : Progress) → Shifted job ms k f b q → InProgress job ms (suc k) (counted_on q)
  unfolding counted_on
  progress-on q t =
      let cut_now : q.cut ≡ cut (stands job ms (suc k)).sides (recipes job) = t.cut_now ∙ cut-moves ∙ cut_on in
      let now : q.cut ≡ costs job ms (suc k) = cut_now ∙ sym (cost-now job ms (suc k)) in
      let moves : q.moves ≡ k = t.moves ∙ g.progress.moves in
      let best : q.best ≡ best_up_to (costs job ms) k = t.best ∙ g.progress.best ∙ keeps-made job ms k g.few in
      let least : q.least ≡ costs job ms (best_up_to (costs job ms) k)
      = t.least ∙ g.progress.least ∙ ap (λ (i : ℕ). cut_at (recipes job) (begins job) (made ms k) i) g.progress.best ∙ least-made job ms k g.few in
      let size_at : ℕ → ℕ = λ i. size_a job (stands job ms i).sides in
      let next : suc k ≡ q.moves + 1 = omega arith in
      let kept = counted-best (costs job ms) k q now moves best least ∙ sym (keeps-made job ms (suc k) n.few) in
      record {
        size = t.size ∙ size-on;
        cut_now = cut_now;
        moves = omega arith;
        best = kept;
        least =
            counted-least (costs job ms) k q now moves best least
            ∙ sym (ap (λ (i : ℕ). cut_at (recipes job) (begins job) (made ms (suc k)) i) kept ∙ least-made job ms (suc k) n.few);
        atbest = counted-figure size_at q (t.size ∙ size-on ∙ ap size_at next) (t.atbest ∙ g.progress.atbest ∙ ap size_at (sym t.best));
        scanned = t.scanned;
        visited = t.visited;
      }

  pub goes_on : MoveTreated job ms l k f b (treat_move job.sizes job.bounds job.pins f b)
      → Going job ms l (suc k) (move_one job.sizes job.bounds job.pins f b)
  unfolding move_one
  goes_on t =
      let r : LongEnough 1 job l = long-enough 1 job l ok in
      let rs : List (List ℕ) = recipes job in
      let now : List ℕ = made ms k in
      let long : length now ≡ k = made-length job ms k g.few in
      let at : b.rest.scanned.progress.moves ≡ k = g.progress.moves in
      let early : k < file_count job = n.early in
      record {
        few = n.few;
        sides = sides-on;
        locks = t.locks;
        cells = t.cells;
        counts = t.counts;
        long = t.long ∙ g.long;
        gains = t.gains ∙ gains-on;
        tried = one_more now (made ms (suc k)) l.tried b.tried _ f f g.tried (at ∙ sym long) refl n.more (omega arith);
        gained =
            one_more (gains_when rs (begins job) now) (gains_when rs (begins job) (made ms (suc k))) l.gained b.gained _ _ (gain (stands job ms k).sides rs f) g.gained
            (at ∙ sym (gains-length rs (begins job) now ∙ long)) gain-of
            (ap (λ (x : List ℕ). gains_when rs (begins job) x) n.more ∙ gains-snoc rs (begins job) now f)
            (rw (gains-length rs (begins job) now) (omega arith));
        cuts =
            one_more (cuts_after rs (begins job) now) (cuts_after rs (begins job) (made ms (suc k))) l.cuts b.cuts _ _ (cut (moved (stands job ms k) f).sides rs) g.cuts
            (at ∙ sym (cuts-length rs (begins job) now ∙ long)) (t.progress.cut_now ∙ cut-moves)
            (ap (λ (x : List ℕ). cuts_after rs (begins job) x) n.more ∙ cuts-snoc rs (begins job) now f)
            (rw (cuts-length rs (begins job) now) (omega arith));
        scans_so_far =
            one_more (ends_from rs 0 (begins job) now) (ends_from rs 0 (begins job) (made ms (suc k))) l.ends b.ends _ _ (0 + length (scans rs (begins job) (now ++ (f ∷ [])))) g.scans_so_far
            (at ∙ sym (ends-length rs 0 (begins job) now ∙ long))
            (t.progress.scanned ∙ ap (λ (x : List ℕ). length (scans rs (begins job) x)) n.more ∙ sym (zero-add (length (scans rs (begins job) (now ++ (f ∷ []))))))
            (ap (λ (x : List ℕ). ends_from rs 0 (begins job) x) n.more ∙ ends_snoc rs 0 (begins job) now f)
            (rw (ends-length rs 0 (begins job) now) (omega arith));
        scanned_recipes = t.scanned_recipes;
        scanned_kinds = t.scanned_kinds;
        progress = progress-on (treat_move job.sizes job.bounds job.pins f b).scanned.progress t.progress;
      }
