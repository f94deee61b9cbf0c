-- After the last move: the figures are those of a pass with these moves, the sides of the best prefix come back, and with zeros filled in the lists are those it leaves. Assumes nothing.
use mathlib.Core.Path.{◌≡◌, refl, sym, ap, ap₂, ◌∙◌}
use Prim.Native.Nat.{ℕ, zero, suc, ◌+◌, ◌-◌, ◌*◌, ◌≤◌, ◌<◌}
use mathlib.Core.List.{List, map}
use native.Mathlib.Nat.{add-zero, add-suc}
use native.Mathlib.Omega.{arith}
use lib.IntN.{pos}
use lib.ListN.{length, get_or, take, length-map}
use lib.Seq.{take-length}
use Rattle.rules.specs.Lists.{onto, listed}
use Rattle.rules.specs.Job.{Job, file_count, recipe_count, views, recipes, Lent}
use Rattle.rules.specs.Split.{size_a}
use Rattle.rules.specs.Move.{State, Scan, scans, ends_from, visits}
use Rattle.rules.specs.Pass.{gains_when, cuts_after, cut_at, keeps, gains_after, pass_of, leaves}
use Rattle.rules.proofs.Entries.{onto-in}
use Rattle.rules.proofs.MovesEnd.{StateLong}
use Rattle.rules.proofs.GainKept.{gains-kept}
use Rattle.rules.proofs.Steps.{move-back, gains-length, cuts-length, ends-length}
use Rattle.rules.proofs.Runs.{keeps-le}
use Rattle.rules.proofs.SoundJob.{recipes-distinct}
use Rattle.tables.specs.Ending.{turned, back_to}
use Rattle.split.specs.Moving.{Board}
use Rattle.split.proofs.Going.{begins, made, stands, Line, Going}
use Rattle.tables.specs.Clearing.{cleared}
use Rattle.split.proofs.NextMove.{Next, next-at, stands-long, stands-binary, made-free, few-moves}
use Rattle.split.proofs.Bounds.{scans-few}
use Rattle.split.proofs.LentLists.{listed_of}

-- the moves beyond `best` taken back
back_to_lem : {job : Job} {ms : List ℕ} → Line job ms → (tried : List ℕ) (best d : ℕ) → best + d ≤ length ms
    → ((i : ℕ) → i < best + d → get_or tried i 0 ≡ get_or ms i 0)
    → back_to tried best d (stands job ms (best + d)).sides ≡ (stands job ms best).sides
unfolding back_to
back_to_lem {job} {ms} v tried best zero h e = ap (λ (i : ℕ). (stands job ms i).sides) (add-zero best)
back_to_lem {job} {ms} v tried best (suc d) h e =
    let k : ℕ = best + d in
    let f : ℕ = get_or ms k 0 in
    let n : Next job ms k f = next-at v k (omega arith) in
    let long : StateLong (file_count job) (stands job ms k) = stands-long v k in
    ap (λ (i : ℕ). back_to tried best d (turned (stands job ms i).sides (get_or tried k 0))) (add-suc best d)
    ∙ ap₂ (λ (st : State) (x : ℕ). back_to tried best d (turned st.sides x)) n.then (e k (omega arith))
    ∙ ap (λ (x : List ℕ). back_to tried best d x) (move-back (stands job ms k) f (omega (arith, n.below, long.sides)) (stands-binary v k f))
    ∙ back_to_lem v tried best d (omega arith) (λ i l. e i (omega arith))

-- z filled in where the lists of the pass end
fill-in {ℓ} : {A : Type ℓ} (n : ℕ) (z : A) (xs ys old now : List A) (k : ℕ) → now ≡ onto xs old → k ≡ length xs → xs ≡ ys → length ys ≤ n
    → cleared k n z now ≡ listed n z ys old
fill-in n z xs ys old now k e i m h = rw (e, i, m) (listed_of n z ys old h)

-- what the end of a pass finds
pub record Finished (edition : ℕ) (job : Job) (ms : List ℕ) (l : Lent) (b : Board) : Type 0 where
  -- there is room for the zeros, and the moves beyond the best prefix are taken back
  pub early : b.rest.scanned.progress.moves ≤ file_count job
  pub few : b.rest.scanned.progress.scans ≤ 4 * recipe_count job
  pub back : back_to b.tried b.rest.scanned.progress.best (b.rest.scanned.progress.moves - b.rest.scanned.progress.best) b.sides
      ≡ (pass_of job job.sides ms).sides_after
  -- the figures are those of the pass
  pub best : b.rest.scanned.progress.best ≡ (pass_of job job.sides ms).kept
  pub least : b.rest.scanned.progress.least ≡ (pass_of job job.sides ms).cut_after
  pub size : b.rest.scanned.progress.atbest ≡ (pass_of job job.sides ms).size_after
  pub moves : b.rest.scanned.progress.moves ≡ length (pass_of job job.sides ms).tried
  pub scanned : b.rest.scanned.progress.scans ≡ length (pass_of job job.sides ms).scanned
  pub visited : b.rest.scanned.progress.visits ≡ (pass_of job job.sides ms).visited
  -- the lists end in zeros
  pub gains : b.rest.scanned.gains ≡ (leaves edition job l (pass_of job job.sides ms)).gains
  pub tried : cleared b.rest.scanned.progress.moves (file_count job) 0 b.tried ≡ (leaves edition job l (pass_of job job.sides ms)).tried
  pub gained : cleared b.rest.scanned.progress.moves (file_count job) (pos 0) b.gained ≡ (leaves edition job l (pass_of job job.sides ms)).gained
  pub cuts : cleared b.rest.scanned.progress.moves (file_count job) 0 b.cuts ≡ (leaves edition job l (pass_of job job.sides ms)).cuts
  pub scans_so_far : cleared b.rest.scanned.progress.moves (file_count job) 0 b.ends ≡ (leaves edition job l (pass_of job job.sides ms)).ends
  pub scanned_recipes : cleared b.rest.scanned.progress.scans (4 * recipe_count job) 0 b.rest.scanned.recipes ≡ (leaves edition job l (pass_of job job.sides ms)).recipes
  pub scanned_kinds : cleared b.rest.scanned.progress.scans (4 * recipe_count job) 0 b.rest.scanned.kinds ≡ (leaves edition job l (pass_of job job.sides ms)).kinds

module _ {job : Job} {ms : List ℕ} (v : Line job ms) {l : Lent} {k : ℕ} {b : Board} (g : Going job ms l k b) (end : k ≡ length ms) where
  all_made : made ms k ≡ ms
  all_made = ap (λ (i : ℕ). take i ms) end ∙ take-length ms

  kept : b.rest.scanned.progress.best ≡ keeps (recipes job) (begins job) ms
  kept = g.progress.best ∙ ap (λ (x : List ℕ). keeps (recipes job) (begins job) x) all_made

  moves-made : b.rest.scanned.progress.moves ≡ length (made ms k)
  moves-made = g.progress.moves ∙ end ∙ sym (ap length all_made)

  tried-at : (i : ℕ) → i < k → get_or b.tried i 0 ≡ get_or ms i 0
  tried-at i h =
      ap (λ (x : List ℕ). get_or x i 0) (g.tried ∙ ap (λ (x : List ℕ). onto x l.tried) all_made)
      ∙ onto-in 0 ms l.tried i (omega arith)

  goes_back : back_to b.tried b.rest.scanned.progress.best (b.rest.scanned.progress.moves - b.rest.scanned.progress.best) b.sides
      ≡ (stands job ms (keeps (recipes job) (begins job) ms)).sides
  goes_back =
      let B : ℕ = keeps (recipes job) (begins job) ms in
      let few : B ≤ length ms = keeps-le (recipes job) (begins job) ms in
      let e : B + (k - B) ≡ k = omega arith in
      rw (kept, g.progress.moves, g.sides)
      (ap (λ (i : ℕ). back_to b.tried B (k - B) (stands job ms i).sides) (sym e)
      ∙ back_to_lem v b.tried B (k - B) (omega arith) (λ i h. tried-at i (omega arith)))

  pub finished : (edition : ℕ) → Finished edition job ms l b
  unfolding pass_of leaves
  finished edition =
      let rs : List (List ℕ) = recipes job in
      let few : length ms ≤ file_count job = few-moves v in
      let scanned : scans rs (begins job) (made ms k) ≡ scans rs (begins job) ms = ap (λ (x : List ℕ). scans rs (begins job) x) all_made in
      let some : length (scans rs (begins job) ms) ≤ 4 * recipe_count job = rw all_made at (scans-few v k) in
      record {
        early = omega (arith, g.progress.moves);
        few = rw g.progress.scanned (scans-few v k);
        back = goes_back;
        best = kept;
        least =
            g.progress.least
            ∙ ap₂ (λ (x : List ℕ) (i : ℕ). cut_at rs (begins job) x i) all_made kept
            ∙ (unfold cut_at in refl);
        size = g.progress.atbest ∙ ap (λ (i : ℕ). size_a job (stands job ms i).sides) kept;
        moves = g.progress.moves ∙ end;
        scanned = g.progress.scanned ∙ ap length scanned;
        visited = g.progress.visited ∙ ap (λ (x : List Scan). visits (views job) x) scanned;
        gains =
            g.gains
            ∙ gains-kept rs (recipes-distinct v.most job v.sound) (file_count job) (begins job) (made ms k) (made-free v k) v.sound.binary
            ∙ ap (λ (x : List ℕ). gains_after rs (file_count job) (begins job) x) all_made;
        tried = fill-in (file_count job) 0 (made ms k) ms l.tried b.tried _ g.tried moves-made all_made few;
        gained = fill-in (file_count job) (pos 0) (gains_when rs (begins job) (made ms k)) (gains_when rs (begins job) ms) l.gained b.gained _ g.gained
            (moves-made ∙ sym (gains-length rs (begins job) (made ms k))) (ap (λ (x : List ℕ). gains_when rs (begins job) x) all_made) (rw (gains-length rs (begins job) ms) few);
        cuts = fill-in (file_count job) 0 (cuts_after rs (begins job) (made ms k)) (cuts_after rs (begins job) ms) l.cuts b.cuts _ g.cuts
            (moves-made ∙ sym (cuts-length rs (begins job) (made ms k))) (ap (λ (x : List ℕ). cuts_after rs (begins job) x) all_made) (rw (cuts-length rs (begins job) ms) few);
        scans_so_far = fill-in (file_count job) 0 (ends_from rs 0 (begins job) (made ms k)) (ends_from rs 0 (begins job) ms) l.ends b.ends _ g.scans_so_far
            (moves-made ∙ sym (ends-length rs 0 (begins job) (made ms k))) (ap (λ (x : List ℕ). ends_from rs 0 (begins job) x) all_made) (rw (ends-length rs 0 (begins job) ms) few);
        scanned_recipes = fill-in (4 * recipe_count job) 0 (map (λ c. c.recipe) (scans rs (begins job) (made ms k))) (map (λ c. c.recipe) (scans rs (begins job) ms)) l.recipes b.rest.scanned.recipes _ g.scanned_recipes
            (g.progress.scanned ∙ sym (length-map (scans rs (begins job) (made ms k)) (λ c. c.recipe))) (ap (λ (x : List Scan). map (λ c. c.recipe) x) scanned) (rw length-map some);
        scanned_kinds = fill-in (4 * recipe_count job) 0 (map (λ c. c.kind) (scans rs (begins job) (made ms k))) (map (λ c. c.kind) (scans rs (begins job) ms)) l.kinds b.rest.scanned.kinds _ g.scanned_kinds
            (g.progress.scanned ∙ sym (length-map (scans rs (begins job) (made ms k)) (λ c. c.kind))) (ap (λ (x : List Scan). map (λ c. c.kind) x) scanned) (rw length-map some);
      }
