-- What scans do to a gain list, change by change. Assumes nothing.
use mathlib.Core.Path.{◌≡◌, refl, sym, ap, ◌∙◌}
use Prim.Native.Nat.{ℕ, zero, suc}
use mathlib.Core.Bool.{Bool, true, false, cond}
use mathlib.Core.List.{List, [], ◌∷◌, ◌++◌, map}
use native.Mathlib.Omega.{arith}
use lib.IntN.{ℤ}
use lib.ListN.{get_or}
use borrow.Author.Tests.{ltb-true, lt-ltb}
use Rattle.rules.specs.Lists.{total, count, those}
use Rattle.rules.specs.Split.{on_side, other, times, holds}
use Rattle.rules.specs.Move.{steps_by, State, free, Scan, reaches, touches, scan_pins, scan_all, Change, change_of, changes_in, changes_by, changed}
use Rattle.rules.specs.Theorems.{ScansChange}
use Rattle.rules.proofs.Tests.{and_yes}
use Rattle.rules.proofs.Count.{hit-self}
use Rattle.rules.proofs.InTurn.{Every, every_append}

pub steps-append {ℓ κ} : {S : Type ℓ} {A : Type κ} (step : S → A → S) (s : S) (xs ys : List A) → steps_by step s (xs ++ ys) ≡ steps_by step (steps_by step s xs) ys
unfolding steps_by
steps-append step s [] ys = refl
steps-append step s (x ∷ xs) ys = steps-append step (step s x) xs ys

module _ (st : State) (t : ℕ) where
  -- one scan
  scan-changes : (k : ℕ) (r : List ℕ) (g : List ℤ) → scan_pins st t k r g ≡ steps_by changed g (changes_in st t k r)
  unfolding scan_pins changes_in those steps_by
  scan-changes k [] g = refl
  scan-changes k (x ∷ r) g = scan-changes k r _ ∙ go (touches st t k x)
    where
      go : (b : Bool) → steps_by changed (cond b (changed g (change_of k x)) g) (map (change_of k) (those (touches st t k) r))
          ≡ steps_by changed g (map (change_of k) (cond b (x ∷ those (touches st t k) r) (those (touches st t k) r)))
      go true = refl
      go false = refl

  -- a scan touches free files of its recipe only
  abbrev Touched : List ℕ → Change → Type 0
  Touched r c = (free st c.file ≡ true) × (holds r c.file ≡ true)

  touched-in : (k : ℕ) (d : Change) (r : List ℕ) → Every d (Touched r) (changes_in st t k r)
  unfolding changes_in those
  touched-in k d [] = λ i h. absurd (omega arith)
  touched-in k d (x ∷ r) = go (touches st t k x) refl (λ i h. let q = touched-in k d r i h in (q.0, more _ q.1))
    where
      more : (y : ℕ) → holds r y ≡ true → holds (x ∷ r) y ≡ true
      more y h = lt-ltb 0 (times y (x ∷ r)) (unfold times count total in omega (arith, ltb-true 0 (times y r) h))

      first : holds (x ∷ r) x ≡ true
      first = lt-ltb 0 (times x (x ∷ r)) (unfold times count total in omega (arith, hit-self x))

      go : (b : Bool) → touches st t k x ≡ b → Every d (Touched (x ∷ r)) (map (change_of k) (those (touches st t k) r))
          → Every d (Touched (x ∷ r)) (map (change_of k) (cond b (x ∷ those (touches st t k) r) (those (touches st t k) r)))
      go true e ih zero h = ((and_yes (free st x) (reaches (on_side st.sides t x) (on_side st.sides (other t) x) k) e).0, first)
      go true e ih (suc i) h = ih i (omega arith)
      go false e ih i h = ih i h

  module _ (rs : List (List ℕ)) where
    all-changes : (cs : List Scan) (g : List ℤ) → scan_all rs st t cs g ≡ steps_by changed g (changes_by rs st t cs)
    unfolding scan_all changes_by steps_by
    all-changes [] g = refl
    all-changes (c ∷ cs) g =
        let r : List ℕ = get_or rs c.recipe [] in
        all-changes cs _ ∙ ap (λ (x : List ℤ). steps_by changed x (changes_by rs st t cs)) (scan-changes c.kind r g)
        ∙ sym (steps-append changed g (changes_in st t c.kind r) (changes_by rs st t cs))

    touched-by : (d : Change) (cs : List Scan) → Every d (λ c. (free st c.file ≡ true) × (j : ℕ) × (holds (get_or rs j []) c.file ≡ true)) (changes_by rs st t cs)
    unfolding changes_by
    touched-by d [] = λ i h. absurd (omega arith)
    touched-by d (c ∷ cs) =
        every_append d (λ c. (free st c.file ≡ true) × (j : ℕ) × (holds (get_or rs j []) c.file ≡ true)) (changes_in st t c.kind (get_or rs c.recipe [])) (changes_by rs st t cs)
        (λ i h. let q = touched-in c.kind d (get_or rs c.recipe []) i h in (q.0, c.recipe, q.1)) (touched-by d cs)

pub scans-change : (rs : List (List ℕ)) (st : State) (t : ℕ) → ScansChange rs st t
scans-change rs st t = record {
  one = scan-changes st t;
  all = all-changes st t rs;
  free = λ cs d i h. (touched-by st t rs d cs i h).0;
  held = λ cs d i h. let q = touched-by st t rs d cs i h in (q.1, q.2);
}
