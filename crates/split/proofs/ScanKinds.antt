-- The kinds that the code scans a recipe for are those of document 01. Assumes nothing.
use mathlib.Core.Path.{◌≡◌, refl, sym, ◌∙◌}
use mathlib.Core.Logic.{◌≢◌}
use Prim.Native.Nat.{ℕ, zero, suc, ◌+◌}
use mathlib.Core.Bool.{cond, ◌&&◌}
use mathlib.Core.List.{List, [], ◌∷◌, ◌++◌, map, append_assoc}
use native.Mathlib.Omega.{arith}
use lib.ListN.{length, get_or, set}
use lib.Dec.{eqb}
use borrow.Author.Tests.{eq-eqb, ne_eqb}
use Rattle.rules.specs.Split.{other, side_of, count_on, times}
use Rattle.rules.specs.Move.{State, locked_on, moved, kind_if, kinds_in, scan_pins}
use Rattle.rules.proofs.Count.{is0, is1}
use Rattle.rules.proofs.Locked.{kinds_by, kinds-by}
use Rattle.rules.proofs.OneMove.{Moves, left-count, left-locked}
use Rattle.tables.specs.Zones.{counts_at, CountsOf}
use Rattle.split.specs.Scanning.{Scanned, scanned, visited_by, scan_if, kind_by, kind_or_none, kind_there, kind_left, kinds_now, count_f, locked_f}
use Rattle.split.specs.Moving.{way_to}
use Rattle.split.proofs.Recount.{counts-seen}

-- ---- the cases of a kind by its counts

module _ (k count locked : ℕ) where
  pub kind-none : count ≡ 0 → k ≡ kind_by k count locked
  kind-none e = simp (eq-eqb count 0 e)

  pub kind-many : count ≢ 0 → count ≢ 1 → 0 ≡ kind_by k count locked
  kind-many m n = simp (ne_eqb count 0 m, ne_eqb count 1 n)

  pub kind-locked : count ≡ 1 → locked ≢ 0 → 0 ≡ kind_by k count locked
  kind-locked e n = rw e (simp (ne_eqb locked 0 n))

  pub kind-free : count ≡ 1 → locked ≡ 0 → k + 1 ≡ kind_by k count locked
  kind-free e f = rw (e, f) refl

-- ---- the scans that they ask for

-- one scan, of recipe j, whose files are r
unfoldable pub scan_one : State → ℕ → ℕ → List ℕ → ℕ → Scanned → Scanned
scan_one st t j r kind x =
    scanned (scan_pins st t kind r x.gains) (set x.recipes x.progress.scans j) (set x.kinds x.progress.scans kind)
    (visited_by x.progress (length r))

-- scans, one after the other
unfoldable pub scans_by {ℓ} : {A : Type ℓ} → (A → Scanned → Scanned) → List A → Scanned → Scanned
scans_by scan [] x = x
scans_by scan (a ∷ l) x = scans_by scan l (scan a x)

pub scans-then {ℓ} : {A : Type ℓ} (scan : A → Scanned → Scanned) (l m : List A) (x : Scanned)
    → scans_by scan (l ++ m) x ≡ scans_by scan m (scans_by scan l x)
unfolding scans_by
scans-then scan [] m x = refl
scans-then scan (a ∷ l) m x = scans-then scan l m (scan a x)

pub scans-map {ℓ κ} : {A : Type ℓ} {B : Type κ} (scan : B → Scanned → Scanned) (h : A → B) (l : List A) (x : Scanned)
    → scans_by scan (map h l) x ≡ scans_by (λ a. scan (h a)) l x
unfolding scans_by
scans-map scan h [] x = refl
scans-map scan h (a ∷ l) x = scans-map scan h l (scan (h a) x)

module _ (st : State) (t j : ℕ) (r : List ℕ) where
  -- one side with n files, l of them locked: it asks for one kind where it has none, for another where it has one, free
  side-scans : (a b n l : ℕ) (x : Scanned)
      → scan_if st t j r (kind_or_none (cond (eqb n 0) (suc a) (cond (eqb n 1 && eqb l 0) (suc b) 0))) x
      ≡ scans_by (scan_one st t j r) (kind_if (eqb n 0) (suc a) ++ kind_if (eqb n 1 && eqb l 0) (suc b)) x
  unfolding scan_if scan_one scans_by
  side-scans a b zero l x = rw is0
  side-scans a b (suc zero) zero x = rw is0
  side-scans a b (suc zero) (suc l) x = rw is0
  side-scans a b (suc (suc n)) l x = rw (is0, is1)

  both-scans : (T Lt F LF : ℕ) (x : Scanned)
      → scan_if st t j r (kind_or_none (kind_left F LF)) (scan_if st t j r (kind_or_none (kind_there T Lt)) x) ≡ scans_by (scan_one st t j r) (kinds_by T Lt F LF) x
  unfolding kinds_by
  both-scans T Lt F LF x = rw (side-scans 0 1 T Lt, side-scans 2 3 F LF, ← scans-then) (simp append_assoc)

-- the kinds that the code finds by the counts of recipe j, which holds the moved file, are those of its scans
pub kinds-scanned : {rs : List (List ℕ)} {st : State} {f : ℕ} → Moves st (moved st f) f → (c n p : ℕ) (z : List ℕ) (j : ℕ)
    → times f (get_or rs j []) ≡ 1 → CountsOf rs st (counts_at c p) n z j → (now : State) (r : List ℕ) (x : Scanned) →
    let t = other (side_of st.sides f) in
    let way = way_to c n p t in
    scan_if now t j r (kinds_now way j z).second (scan_if now t j r (kinds_now way j z).first x)
    ≡ scans_by (scan_one now t j r) (kinds_in st f (get_or rs j [])) x
kinds-scanned {rs} {st} {f} m c n p z j o k now r x =
    let s = side_of st.sides f in
    let a = counts-seen c n p s (m.binary f) k in
    let F : count_f (way_to c n p (other s)) j z ≡ count_on (moved st f).sides s (get_or rs j [])
    = omega (arith, a.left, left-count m (get_or rs j []) o) in
    let LF : locked_f (way_to c n p (other s)) j z ≡ locked_on (moved st f) s (get_or rs j []) = a.staying ∙ sym (left-locked m (get_or rs j []) o) in
    rw (a.there, a.locked, F, LF, kinds-by st f (get_or rs j [])) (both-scans now (other s) j r _ _ _ _ x)
