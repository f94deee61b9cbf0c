-- The recipes of a moved file, treated in rising number: the counts after the move, the scans of document 01, and nothing unsafe on the way. Assumes nothing.
use mathlib.Core.Path.{◌≡◌, refl, sym, ap, ◌∙◌}
use Prim.Native.Nat.{ℕ, suc, ◌+◌, ◌*◌, ◌≤◌, ◌<◌}
use mathlib.Core.Bool.{Bool, true, false, cond}
use mathlib.Core.List.{List, [], ◌∷◌, map}
use native.Mathlib.Decide.{ℕ_discrete}
use native.Mathlib.Omega.{arith}
use native.Mathlib.Nat.{add-zero, zero-add, suc-add, add-suc}
use lib.ListN.{length, get_or}
use Rattle.rules.specs.Lists.{AllBelow}
use Rattle.rules.specs.Split.{other, side_of, times, holds, recipes_from, recipes_of}
use Rattle.rules.specs.Move.{State, moved, Scan, kinds_in, scans_of, scan_all, visits}
use Rattle.rules.specs.Theorems.{Distinct}
use Rattle.rules.proofs.Count.{holds-yes, holds-no, count_on-le}
use Rattle.rules.proofs.Locked.{locked_on-le}
use Rattle.rules.proofs.OneMove.{Moves, left-count, out-count, out-locked}
use Rattle.rules.proofs.Steps.{scans_over, scans-cells}
use Rattle.split.specs.declared.scan.Way.{Way}
use Rattle.tables.specs.Zones.{counts_at, CountsOf, Counts}
use Rattle.split.specs.Scanning.{Treated, treat_one, treat_all, Treatable, Ready, none, next}
use Rattle.split.specs.Moving.{way_to}
use Rattle.split.proofs.Recount.{two-lists, places, counts-seen, Beside, beside-self, beside-then, Recounted, recounted}
use Rattle.split.proofs.ScanKinds.{scan_one, scans_by, scans-then, scans-map, kinds-scanned}
use Rattle.split.proofs.ScansMade.{scans_made, with_scans, Writes, gains-made, progress-made, recipes-made, kinds-made}

-- the way of the move of f
abbrev pub way_of : ℕ → ℕ → ℕ → State → ℕ → Way
way_of c n p st f = way_to c n p (other (side_of st.sides f))

-- ---- the recipes of f, one after the other

-- js are the numbers from b on, below n, of the recipes that hold f, which they do once
data Turns (rs : List (List ℕ)) (f n : ℕ) : ℕ → List ℕ → Type 0 where
  over : {b : ℕ} → n ≤ b → Turns rs f n b []
  without : {b : ℕ} {js : List ℕ} → b < n → times f (get_or rs b []) ≡ 0 → Turns rs f n (suc b) js → Turns rs f n b js
  within : {b : ℕ} {js : List ℕ} → b < n → times f (get_or rs b []) ≡ 1 → Turns rs f n (suc b) js → Turns rs f n b (b ∷ js)

turns-from : (rs : List (List ℕ)) → Distinct rs → (f n : ℕ) (rest : List (List ℕ)) (b : ℕ) → ((i : ℕ) → get_or rs (b + i) [] ≡ get_or rest i []) → b + length rest ≡ n
    → Turns rs f n b (recipes_from f b rest)
unfolding recipes_from
turns-from rs dis f n [] b e long = over {b = b} (omega arith)
turns-from rs dis f n (r ∷ rest) b e long =
    go (holds r f) refl (turns-from rs dis f n rest (suc b) (λ i. ap (λ k. get_or rs k []) (suc-add b i ∙ sym (add-suc b i)) ∙ e (suc i)) (omega arith))
  where
    this : get_or rs b [] ≡ r
    this = ap (λ k. get_or rs k []) (sym (add-zero b)) ∙ e 0

    go : (hf : Bool) → holds r f ≡ hf → Turns rs f n (suc b) (recipes_from f (suc b) rest)
        → Turns rs f n b (cond hf (b ∷ recipes_from f (suc b) rest) (recipes_from f (suc b) rest))
    go true q ts = within {b = b} (omega arith) (holds-yes f (get_or rs b []) (dis b f) (ap (λ g. holds g f) this ∙ q)) ts
    go false q ts = without {b = b} (omega arith) (ap (times f) this ∙ holds-no f r q) ts

turns : (rs : List (List ℕ)) → Distinct rs → (f n : ℕ) → length rs ≡ n → Turns rs f n 0 (recipes_of rs f)
turns rs dis f n long = turns-from rs dis f n rs 0 (λ i. ap (λ k. get_or rs k []) (zero-add i)) (omega arith)

-- ---- one recipe more

-- the counts of the recipes below b are those of st', the others still those of st
record Between (rs : List (List ℕ)) (st st' : State) (at n b : ℕ) (z : List ℕ) : Type 0 where
  done : (i : ℕ) → i < b → CountsOf rs st' at n z i
  todo : (i : ℕ) → b ≤ i → i < n → CountsOf rs st at n z i

-- recipe b is done too
further : {rs : List (List ℕ)} {st st' : State} {at n b : ℕ} {z : List ℕ}
    → ((i : ℕ) → i < b → CountsOf rs st' at n z i) → CountsOf rs st' at n z b → ((i : ℕ) → suc b ≤ i → i < n → CountsOf rs st at n z i)
    → Between rs st st' at n (suc b) z
further {rs} {st'} {at} {n} {b} {z} a k t = record {
  done = λ i h. elim (ℕ_discrete i b) [
    | yes e ↦ rw e k
    | no ne ↦ a i (omega arith)
  ];
  todo = t;
}

module _ {rs : List (List ℕ)} {st : State} {f : ℕ} (m : Moves st (moved st f) f) (c n p : ℕ) where
  -- a recipe that does not hold the moved file has the same counts before and after the move
  out-counts : {at : ℕ} {z : List ℕ} {j : ℕ} → times f (get_or rs j []) ≡ 0 → CountsOf rs st at n z j → CountsOf rs (moved st f) at n z j
  out-counts {j} o k =
      let r = get_or rs j [] in
      record { on = λ u l. k.on u l ∙ sym (out-count m u r o); locked = λ u l. k.locked u l ∙ sym (out-locked m u r o) }

  passed : {b : ℕ} {z : List ℕ} → b < n → times f (get_or rs b []) ≡ 0
      → Between rs st (moved st f) (counts_at c p) n b z → Between rs st (moved st f) (counts_at c p) n (suc b) z
  passed {b} h o w = further w.done (out-counts o (w.todo b (omega arith) h)) (λ i a l. w.todo i (omega arith) l)

  treated-too : {b : ℕ} {z z' : List ℕ} → b < n → Recounted rs (moved st f) (counts_at c p) n b z z'
      → Between rs st (moved st f) (counts_at c p) n b z → Between rs st (moved st f) (counts_at c p) n (suc b) z'
  treated-too h g w =
      further (λ i a. g.others (moved st f) i (omega arith) (omega arith) (w.done i a)) g.own
      (λ i a l. g.others st i l (omega arith) (w.todo i (omega arith) l))

-- ---- all recipes of the moved file

-- what treating recipes makes of y, cs the scans of the recipes treated; ws are the recipes as the scans walk them
record Treats (rs ws : List (List ℕ)) (st' now : State) (at n t : ℕ) (cs : List Scan) (y y' : Treated) : Type 0 where
  counts : Counts rs st' at n y'.scratch
  beside : Beside at n y.scratch y'.scratch
  made : y'.scanned ≡ scans_made ws now t cs y.scanned

-- the scans of the recipes js
abbrev scans_in : List (List ℕ) → State → ℕ → List ℕ → List Scan
scans_in rs st f js = scans_over (λ j. get_or rs j []) st f js

module _ (rs ws : List (List ℕ)) (st : State) (f : ℕ) (m : Moves st (moved st f) f) (c n p : ℕ) (look : ℕ → List ℕ)
    (sees : (j : ℕ) → j < n → look j ≡ get_or ws j []) where
  treat-one : (now : State) (j : ℕ) → j < n → times f (get_or rs j []) ≡ 1 → (y : Treated) → CountsOf rs st (counts_at c p) n y.scratch j
      → (treat_one now (way_of c n p st f) j (look j) y).scanned
      ≡ scans_made ws now (other (side_of st.sides f)) (map (λ k. record { recipe = j; kind = k }) (kinds_in st f (get_or rs j []))) y.scanned
  unfolding treat_one way_to
  treat-one now j h o y k =
      kinds-scanned m c n p y.scratch j o k now (look j) y.scanned
      ∙ ap (λ r. scans_by (scan_one now (other (side_of st.sides f)) j r) (kinds_in st f (get_or rs j [])) y.scanned) (sees j h)
      ∙ sym (scans-map _ (λ k. record { recipe = j; kind = k }) (kinds_in st f (get_or rs j [])) y.scanned)

  treat-turns : (now : State) {b : ℕ} {js : List ℕ} → Turns rs f n b js
      → (y : Treated) → counts_at c p + 4 * n ≤ length y.scratch → Between rs st (moved st f) (counts_at c p) n b y.scratch
      → Treats rs ws (moved st f) now (counts_at c p) n (other (side_of st.sides f)) (scans_in rs st f js) y (treat_all now (way_of c n p st f) look js y)
  unfolding treat_all treat_one scans_over
  treat-turns now (over e) y fits w =
      record { counts = record { each = λ i h. w.done i (omega arith) }; beside = beside-self (counts_at c p) n y.scratch; made = unfold scans_by in refl }
  treat-turns now (without h o ts) y fits w = treat-turns now ts y fits (passed m c n p h o w)
  treat-turns now (within {b} {js} h o ts) y fits w =
      let k = w.todo b (omega arith) h in
      let g = recounted m c n p y.scratch fits b h o k in
      let i = treat-turns now ts (treat_one now (way_of c n p st f) b (look b) y) (omega (arith, g.beside.long)) (treated-too m c n p h g w) in
      record {
        counts = i.counts;
        beside = beside-then g.beside i.beside;
        made = i.made
            ∙ ap (scans_made ws now (other (side_of st.sides f)) (scans_in rs st f js)) (treat-one now b h o y k)
            ∙ sym (scans-then _ (map (λ k. record { recipe = b; kind = k }) (kinds_in st f (get_or rs b []))) (scans_in rs st f js) y.scanned);
      }

  module _ (e : ℕ) (low : e ≤ counts_at c p) (below : (j : ℕ) → j < n → AllBelow c (look j)) (short : (j : ℕ) → j < n → length (get_or rs j []) < 65535) where
    treatable : (z : List ℕ) → counts_at c p + 4 * n ≤ length z → (j : ℕ) → j < n → times f (get_or rs j []) ≡ 1
        → CountsOf rs st (counts_at c p) n z j → Treatable (way_of c n p st f) look e z j
    treatable z fits j h o k =
        let s = side_of st.sides f in
        let r = get_or rs j [] in
        let a = counts-seen c n p s (m.binary f) k in
        let q = places (two-lists c n p (other s) (omega arith)) j h in
        record {
          counts = record {
            some = omega (arith, a.left, left-count m r o);
            there = omega (arith, a.there, count_on-le st.sides (other s) r, short j h);
            locked = omega (arith, a.locked, locked_on-le st (other s) r, short j h);
            inside = omega arith;
          };
          above = omega arith;
          below = unfold way_to in below j h;
        }

    ready-turns : {b : ℕ} {js : List ℕ} → Turns rs f n b js → (z : List ℕ) → counts_at c p + 4 * n ≤ length z
        → Between rs st (moved st f) (counts_at c p) n b z → Ready (way_of c n p st f) look e js z
    ready-turns (over e) z fits w = none
    ready-turns (without h o ts) z fits w = ready-turns ts z fits (passed m c n p h o w)
    ready-turns (within {b} h o ts) z fits w =
        let k = w.todo b (omega arith) h in
        let g = recounted m c n p z fits b h o k in
        next (treatable z fits b h o k) (ready-turns ts _ (omega (arith, g.beside.long)) (treated-too m c n p h g w))

-- what treating all recipes of f, which moves from the state st, makes of y; now is the state that the scans see, ws the recipes that they walk
pub record TreatedMove (rs ws : List (List ℕ)) (st now : State) (f at n : ℕ) (y y' : Treated) : Type 0 where
  pub counts : Counts rs (moved st f) at n y'.scratch
  pub beside : Beside at n y.scratch y'.scratch
  pub gains : y'.scanned.gains ≡ scan_all ws now (other (side_of st.sides f)) (scans_of rs st f) y.scanned.gains
  pub progress : y'.scanned.progress
      ≡ with_scans y.scanned.progress (y.scanned.progress.scans + length (scans_of rs st f)) (y.scanned.progress.visits + visits ws (scans_of rs st f))
  pub recipes : Writes (λ s. s.recipe) (scans_of rs st f) y.scanned.progress.scans y.scanned.recipes y'.scanned.recipes
  pub kinds : Writes (λ s. s.kind) (scans_of rs st f) y.scanned.progress.scans y.scanned.kinds y'.scanned.kinds

module _ (rs ws : List (List ℕ)) (dis : Distinct rs) (st : State) (f : ℕ) (m : Moves st (moved st f) f) (c n p : ℕ) (long : length rs ≡ n)
    (look : ℕ → List ℕ) (sees : (j : ℕ) → j < n → look j ≡ get_or ws j []) where
  -- no recipe is treated yet
  start_between : {z : List ℕ} → Counts rs st (counts_at c p) n z → Between rs st (moved st f) (counts_at c p) n 0 z
  start_between k = record { done = λ i h. absurd (omega arith); todo = λ i a h. k.each i h }

  pub move-treated : (now : State) (y : Treated) → counts_at c p + 4 * n ≤ length y.scratch → Counts rs st (counts_at c p) n y.scratch
      → TreatedMove rs ws st now f (counts_at c p) n y (treat_all now (way_of c n p st f) look (recipes_of rs f) y)
  move-treated now y fits k =
      let t = other (side_of st.sides f) in
      let cs = scans_of rs st f in
      let a = treat-turns rs ws st f m c n p look sees now (turns rs dis f n long) y fits (start_between k) in
      let made : (treat_all now (way_of c n p st f) look (recipes_of rs f) y).scanned ≡ scans_made ws now t cs y.scanned
      = a.made ∙ ap (λ l. scans_made ws now t l y.scanned) (sym (scans-cells rs st f)) in
      record {
        counts = a.counts;
        beside = a.beside;
        gains = rw made (gains-made ws now t cs y.scanned);
        progress = rw made (progress-made ws now t cs y.scanned);
        recipes = rw made (recipes-made ws now t cs y.scanned);
        kinds = rw made (kinds-made ws now t cs y.scanned);
      }

  pub move-ready : (e : ℕ) → e ≤ counts_at c p → (z : List ℕ) → counts_at c p + 4 * n ≤ length z → Counts rs st (counts_at c p) n z
      → ((j : ℕ) → j < n → AllBelow c (look j)) → ((j : ℕ) → j < n → length (get_or rs j []) < 65535)
      → Ready (way_of c n p st f) look e (recipes_of rs f) z
  move-ready e low z fits k below short = ready-turns rs ws st f m c n p look sees e low below short (turns rs dis f n long) z fits (start_between k)
