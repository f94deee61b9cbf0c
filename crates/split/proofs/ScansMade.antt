-- What listed scans, made one after the other, come to. Assumes nothing.
use mathlib.Core.Path.{◌≡◌, refl, sym, ap₂, ◌∙◌}
use Prim.Native.Nat.{ℕ, ◌+◌, ◌≤◌}
use mathlib.Core.List.{List, [], ◌∷◌, ◌++◌, map}
use native.Mathlib.Omega.{arith}
use native.Mathlib.Nat.{add-zero}
use native.Mathlib.Numerals.{add-one}
use lib.ListN.{length, get_or, set, drop, length-append, length-map}
use lib.Seq.{sets, sets-eq, take-append_seam, drop-append-add, drop-drop}
use Rattle.rules.specs.Lists.{total, onto}
use Rattle.rules.specs.Move.{State, Scan, scan_all, visits}
use Rattle.rules.proofs.Entries.{onto-length}
use Rattle.split.specs.declared.progress.Progress.{Progress}
use Rattle.split.specs.Scanning.{Scanned, visited_by}
use Rattle.split.proofs.ScanKinds.{scan_one, scans_by}

-- a listed scan of one of the recipes rs, in the state after the move to side t
abbrev pub scan_in : List (List ℕ) → State → ℕ → Scan → Scanned → Scanned
scan_in rs st t c = scan_one st t c.recipe (get_or rs c.recipe []) c.kind

abbrev pub scans_made : List (List ℕ) → State → ℕ → List Scan → Scanned → Scanned
scans_made rs st t = scans_by (scan_in rs st t)

-- the pass in progress, with n scans and v visits
abbrev pub with_scans : Progress → ℕ → ℕ → Progress
with_scans q n v = record {
  size = q.size;
  cut = q.cut;
  moves = q.moves;
  best = q.best;
  least = q.least;
  atbest = q.atbest;
  scans = n;
  visits = v;
}

-- where the list l holds k entries over an old list, l' holds an entry for each scan behind them
abbrev pub Writes : (Scan → ℕ) → List Scan → ℕ → List ℕ → List ℕ → Type 0
Writes entry cs k l l' = (xs old : List ℕ) → l ≡ onto xs old → length xs ≡ k → k + length cs ≤ length old → l' ≡ onto (xs ++ map entry cs) old

sets-onto : (xs vs old : List ℕ) → length xs + length vs ≤ length old → sets (onto xs old) (length xs) vs ≡ onto (xs ++ vs) old
unfolding onto
sets-onto xs vs old h =
    let e : length (xs ++ drop (length xs) old) ≡ length old = onto-length 0 xs old (omega arith) in
    sets-eq vs (xs ++ drop (length xs) old) (length xs) (rw e h) ∙ rw (take-append_seam, drop-append-add, drop-drop, length-append)

sets-write : (entry : Scan → ℕ) (cs : List Scan) (k : ℕ) (l : List ℕ) → Writes entry cs k l (sets l k (map entry cs))
sets-write entry cs k l xs old e q h = rw (e, ← q) (sets-onto xs (map entry cs) old (rw (length-map cs entry, q) h))

module _ (rs : List (List ℕ)) (st : State) (t : ℕ) where
  pub gains-made : (cs : List Scan) (x : Scanned) → (scans_made rs st t cs x).gains ≡ scan_all rs st t cs x.gains
  unfolding scans_by scan_one scan_all
  gains-made [] x = refl
  gains-made (c ∷ cs) x = gains-made cs _

  pub progress-made : (cs : List Scan) (x : Scanned)
      → (scans_made rs st t cs x).progress ≡ with_scans x.progress (x.progress.scans + length cs) (x.progress.visits + visits rs cs)
  unfolding scans_by scan_one visited_by visits total
  progress-made [] x = ap₂ (with_scans x.progress) (sym (add-zero x.progress.scans)) (sym (add-zero x.progress.visits))
  progress-made (c ∷ cs) x =
      let n : x.progress.scans + 1 + length cs ≡ x.progress.scans + length (c ∷ cs) = omega arith in
      let v : x.progress.visits + length (get_or rs c.recipe []) + visits rs cs ≡ x.progress.visits + visits rs (c ∷ cs) = omega arith in
      progress-made cs _ ∙ ap₂ (with_scans x.progress) n v

  -- a list of x that each scan writes one entry to, where the scans so far end
  module _ (entry : Scan → ℕ) (list : Scanned → List ℕ) (writes : (c : Scan) (x : Scanned) → list (scan_in rs st t c x) ≡ set (list x) x.progress.scans (entry c)) where
    entries-set : (cs : List Scan) (x : Scanned) → list (scans_made rs st t cs x) ≡ sets (list x) x.progress.scans (map entry cs)
    unfolding scans_by scan_one visited_by
    entries-set [] x = refl
    entries-set (c ∷ cs) x = entries-set cs (scan_in rs st t c x) ∙ rw (writes c x, add-one)

    entries-made : (cs : List Scan) (x : Scanned) → Writes entry cs x.progress.scans (list x) (list (scans_made rs st t cs x))
    entries-made cs x = rw (entries-set cs x) (sets-write entry cs x.progress.scans (list x))

  pub recipes-made : (cs : List Scan) (x : Scanned) → Writes (λ c. c.recipe) cs x.progress.scans x.recipes (scans_made rs st t cs x).recipes
  unfolding scan_one
  recipes-made = entries-made (λ c. c.recipe) (λ x. x.recipes) (λ c x. refl)

  pub kinds-made : (cs : List Scan) (x : Scanned) → Writes (λ c. c.kind) cs x.progress.scans x.kinds (scans_made rs st t cs x).kinds
  unfolding scan_one
  kinds-made = entries-made (λ c. c.kind) (λ x. x.kinds) (λ c x. refl)
