-- One move more at the end of a list of moves, as a loop makes it, and one move taken back. Assumes nothing.
use mathlib.Core.Path.{◌≡◌, refl, sym, ap, ap₂, ◌∙◌}
use Prim.Native.Nat.{ℕ, zero, suc, ◌+◌, ◌≤◌, ◌<◌}
use mathlib.Core.List.{List, [], ◌∷◌, ◌++◌, map, append_assoc}
use native.Mathlib.Omega.{arith}
use native.Mathlib.Nat.{add-zero, zero-add, suc-add, add-suc}
use mathlib.Core.Bool.{Bool, true, false, cond}
use lib.IntN.{ℤ, pos, ◌+ℤ◌}
use lib.ListN.{length, get_or, set, take, length-append}
use lib.Seq.{get_or-set_same, set-set, set-get_or}
use Rattle.rules.specs.Split.{other, side_of, holds, recipes_from, recipes_of, gain, cut}
use Rattle.rules.specs.Move.{steps_by, State, moved, after, Scan, scans_of, scans, scan_all, ends_from, kinds_in, kinds_of, scans_from, touches, change, scan_pins}
use Rattle.rules.specs.Pass.{gains_when, cuts_after, cut_at}
use Rattle.rules.proofs.GainKept.{kept_up}

-- one pin more of a scan
pub scan-more : (st : State) (t k : ℕ) (r : List ℕ) (x : ℕ) (g : List ℤ)
    → scan_pins st t k (r ++ (x ∷ [])) g ≡ cond (touches st t k x) (set (scan_pins st t k r g) x (get_or (scan_pins st t k r g) x (pos 0) +ℤ change k)) (scan_pins st t k r g)
unfolding scan_pins
scan-more st t k [] x g = refl
scan-more st t k (y ∷ r) x g = scan-more st t k r x _

-- the scans of a move, by the list of the moved file's own recipes
unfoldable pub scans_over : (ℕ → List ℕ) → State → ℕ → List ℕ → List Scan
scans_over look st f [] = []
scans_over look st f (j ∷ js) = map (λ k. record { recipe = j; kind = k }) (kinds_in st f (look j)) ++ scans_over look st f js

scans-over : (look : ℕ → List ℕ) (st : State) (f : ℕ) (rs : List (List ℕ)) (j : ℕ) → ((i : ℕ) → look (j + i) ≡ get_or rs i [])
    → scans_from st f j rs ≡ scans_over look st f (recipes_from f j rs)
unfolding scans_from kinds_of recipes_from scans_over
scans-over look st f [] j h = refl
scans-over look st f (r ∷ rs) j h = go (holds r f) (scans-over look st f rs (suc j) (λ i. ap look (suc-add j i ∙ sym (add-suc j i)) ∙ h (suc i)))
  where
    tag : ℕ → Scan
    tag k = record { recipe = j; kind = k }

    e : look j ≡ r
    e = ap look (sym (add-zero j)) ∙ h 0

    go : (b : Bool) → scans_from st f (suc j) rs ≡ scans_over look st f (recipes_from f (suc j) rs)
        → map tag (cond b (kinds_in st f r) []) ++ scans_from st f (suc j) rs ≡ scans_over look st f (cond b (j ∷ recipes_from f (suc j) rs) (recipes_from f (suc j) rs))
    go true ih = ap₂ (λ (q : List ℕ) (l : List Scan). map tag (kinds_in st f q) ++ l) (sym e) ih
    go false ih = ih

pub scans-cells : (rs : List (List ℕ)) (st : State) (f : ℕ) → scans_of rs st f ≡ scans_over (λ j. get_or rs j []) st f (recipes_of rs f)
scans-cells rs st f = scans-over (λ j. get_or rs j []) st f rs 0 (λ i. ap (λ n. get_or rs n []) (zero-add i))

pub after-snoc : (st : State) (ms : List ℕ) (f : ℕ) → after st (ms ++ (f ∷ [])) ≡ moved (after st ms) f
unfolding steps_by
after-snoc st [] f = refl
after-snoc st (m ∷ ms) f = after-snoc (moved st m) ms f

module _ (rs : List (List ℕ)) where
  pub scans-append : (st : State) (ms ns : List ℕ) → scans rs st (ms ++ ns) ≡ scans rs st ms ++ scans rs (after st ms) ns
  unfolding scans steps_by
  scans-append st [] ns = refl
  scans-append st (m ∷ ms) ns =
      ap (λ (r : List Scan). scans_of rs st m ++ r) (scans-append (moved st m) ms ns)
      ∙ sym (append_assoc (scans_of rs st m) (scans rs (moved st m) ms) (scans rs (after (moved st m) ms) ns))

  pub kept-snoc : (st : State) (ms : List ℕ) (f : ℕ) (g : List ℤ)
      → kept_up rs st (ms ++ (f ∷ [])) g
      ≡ scan_all rs (moved (after st ms) f) (other (side_of (after st ms).sides f)) (scans_of rs (after st ms) f) (kept_up rs st ms g)
  unfolding kept_up steps_by
  kept-snoc st [] f g = refl
  kept-snoc st (m ∷ ms) f g = kept-snoc (moved st m) ms f _

  pub gains-snoc : (st : State) (ms : List ℕ) (f : ℕ) → gains_when rs st (ms ++ (f ∷ [])) ≡ gains_when rs st ms ++ (gain (after st ms).sides rs f ∷ [])
  unfolding gains_when steps_by
  gains-snoc st [] f = refl
  gains-snoc st (m ∷ ms) f = ap (λ (l : List ℤ). gain st.sides rs m ∷ l) (gains-snoc (moved st m) ms f)

  -- the gains of the first k moves
  pub gains-take : (k : ℕ) (st : State) (ms : List ℕ) → take k (gains_when rs st ms) ≡ gains_when rs st (take k ms)
  unfolding gains_when
  gains-take zero st ms = refl
  gains-take (suc k) st [] = refl
  gains-take (suc k) st (m ∷ ms) = ap (λ (l : List ℤ). gain st.sides rs m ∷ l) (gains-take k (moved st m) ms)

  pub cuts-snoc : (st : State) (ms : List ℕ) (f : ℕ) → cuts_after rs st (ms ++ (f ∷ [])) ≡ cuts_after rs st ms ++ (cut (moved (after st ms) f).sides rs ∷ [])
  unfolding cuts_after steps_by
  cuts-snoc st [] f = refl
  cuts-snoc st (m ∷ ms) f = ap (λ (l : List ℕ). cut (moved st m).sides rs ∷ l) (cuts-snoc (moved st m) ms f)

  -- the scans listed so far, n of them before the first move
  pub ends_snoc : (n : ℕ) (st : State) (ms : List ℕ) (f : ℕ)
      → ends_from rs n st (ms ++ (f ∷ [])) ≡ ends_from rs n st ms ++ ((n + length (scans rs st (ms ++ (f ∷ [])))) ∷ [])
  unfolding ends_from scans
  ends_snoc n st [] f = ap (λ (k : ℕ). (n + k) ∷ []) (omega (arith, length-append (scans_of rs st f) []))
  ends_snoc n st (m ∷ ms) f =
      ap (λ (l : List ℕ). (n + length (scans_of rs st m)) ∷ l)
      (ends_snoc (n + length (scans_of rs st m)) (moved st m) ms f
      ∙ ap (λ (k : ℕ). ends_from rs (n + length (scans_of rs st m)) (moved st m) ms ++ (k ∷ []))
      (omega (arith, length-append (scans_of rs st m) (scans rs (moved st m) (ms ++ (f ∷ []))))))

  -- an entry for each move
  pub gains-length : (st : State) (ms : List ℕ) → length (gains_when rs st ms) ≡ length ms
  unfolding gains_when
  gains-length st [] = refl
  gains-length st (m ∷ ms) = ap suc (gains-length (moved st m) ms)

  pub cuts-length : (st : State) (ms : List ℕ) → length (cuts_after rs st ms) ≡ length ms
  unfolding cuts_after
  cuts-length st [] = refl
  cuts-length st (m ∷ ms) = ap suc (cuts-length (moved st m) ms)

  -- the last of the ends is where the scans end
  pub ends_last : (n : ℕ) (st : State) (ms : List ℕ) → get_or (n ∷ ends_from rs n st ms) (length ms) 0 ≡ n + length (scans rs st ms)
  unfolding ends_from scans
  ends_last n st [] = sym (add-zero n)
  ends_last n st (f ∷ fs) = omega (arith, ends_last (n + length (scans_of rs st f)) (moved st f) fs, length-append (scans_of rs st f) (scans rs (moved st f) fs))

  pub ends-length : (n : ℕ) (st : State) (ms : List ℕ) → length (ends_from rs n st ms) ≡ length ms
  unfolding ends_from
  ends-length n st [] = refl
  ends-length n st (m ∷ ms) = ap suc (ends-length (n + length (scans_of rs st m)) (moved st m) ms)

-- a file that changes its side again is back: what restores the prefix kept
pub move-back : (st : State) (f : ℕ) → f < length st.sides → side_of st.sides f ≤ 1
    → set (moved st f).sides f (other (side_of (moved st f).sides f)) ≡ st.sides
unfolding moved
move-back st f h b =
    let s : ℕ = side_of st.sides f in
    let e : other (other s) ≡ s = omega arith in
    set-set st.sides f (other s) _ ∙ ap (λ v. set st.sides f (other v)) (get_or-set_same st.sides f (other s) 0 h) ∙ ap (λ v. set st.sides f v) e ∙ set-get_or st.sides f 0

-- the cuts listed are those of the prefixes
pub cuts-at : (rs : List (List ℕ)) (st : State) (ms : List ℕ) (i : ℕ) → i < length ms → get_or (cuts_after rs st ms) i 0 ≡ cut_at rs st ms (suc i)
unfolding cuts_after cut_at steps_by
cuts-at rs st [] i h = absurd (omega arith)
cuts-at rs st (m ∷ ms) zero h = refl
cuts-at rs st (m ∷ ms) (suc i) h = cuts-at rs (moved st m) ms i (omega arith)
