-- The gain list is kept by the listed scans alone, and the cut by the gains, over any list of moves. Assumes nothing.
use mathlib.Core.Path.{◌≡◌, refl, sym, ap, ap₂, ◌∙◌}
use mathlib.Core.Logic.{◌≢◌}
use Prim.Native.Nat.{ℕ, zero, suc, ◌+◌, ◌-◌, ◌≤◌, ◌<◌}
use mathlib.Core.Bool.{Bool, true, false, not, cond, ◌&&◌}
use mathlib.Core.List.{List, [], ◌∷◌, ◌++◌, map, append_assoc, append-nil}
use native.Mathlib.Decide.{ℕ_discrete}
use native.Mathlib.Omega.{arith}
use native.Mathlib.Nat.{zero-add, add-zero, suc-add, add-suc}
use lib.IntN.{ℤ, pos, neg_ℤ, ◌+ℤ◌, ◌-ℤ◌, +ℤ_assoc, +ℤ_idr, neg_ℤ-+ℤ}
use lib.ListN.{length, get_or, set, take, drop, length-set, take-append-drop}
use lib.Seq.{get_or-set_same, get_or-set_other, take-append_seam, drop-append_seam, ext_get_or}
use borrow.Author.Tests.{eq-eqb, ne_eqb}
use Rattle.rules.specs.Lists.{bit, total, count, diff, sum}
use Rattle.rules.specs.Split.{other, side_of, on_side, cut, is_cut, times, holds, alone, together, gain}
use Rattle.rules.specs.Move.{steps_by, State, lock_of, free, moved, after, Frees, stop, move, Scan, kinds_of, scans_from, scans_of, scans, reaches, touches, raises, change, scan_pins, scan_all, replay, ends_from}
use Rattle.rules.specs.Pass.{gains_when, standing, gains_after, start_gains}
use Rattle.rules.specs.Theorems.{Binary, Distinct, scans_told}
use Rattle.rules.proofs.Count.{get_d-tabled, length-tabled, hit-eq, hit-ne, total-append, total-map, total-law, holds-yes, holds-no}
use Rattle.rules.proofs.Signed.{diff-add, diff-eq, diff-neg, diff-pos, diff-zero, step-diff}
use Rattle.rules.proofs.Tests.{and-false}
use Rattle.rules.proofs.OneMove.{Moves, move-of, was_free, stays-binary, law, recipe-law, cut-law}
use Rattle.rules.proofs.Locked.{kinds-by}

abbrev at : List ℤ → ℕ → ℤ
at g x = get_or g x (pos 0)

-- ---- one scan over a recipe's pins, read at the file y

pub scan-length : (st : State) (t k : ℕ) (r : List ℕ) (g : List ℤ) → length (scan_pins st t k r g) ≡ length g
unfolding scan_pins
scan-length st t k [] g = refl
scan-length st t k (x ∷ r) g = scan-length st t k r _ ∙ go (touches st t k x)
  where
    go : (b : Bool) → length (cond b (set g x (at g x +ℤ change k)) g) ≡ length g
    go true = length-set g x _
    go false = refl

scan-out : (st : State) (t k y : ℕ) (r : List ℕ) (g : List ℤ) → times y r ≡ 0 → at (scan_pins st t k r g) y ≡ at g y
unfolding scan_pins times count total
scan-out st t k y [] g o = refl
scan-out st t k y (x ∷ r) g o = scan-out st t k y r _ (omega arith) ∙ go (touches st t k x)
  where
    n : y ≢ x
    n e = omega (arith, hit-eq (sym e))

    go : (b : Bool) → at (cond b (set g x (at g x +ℤ change k)) g) y ≡ at g y
    go true = get_or-set_other g x y _ (pos 0) n
    go false = refl

scan-in : (st : State) (t k y : ℕ) (r : List ℕ) (g : List ℤ) → times y r ≡ 1 → y < length g
    → at (scan_pins st t k r g) y ≡ at g y +ℤ cond (touches st t k y) (change k) (pos 0)
unfolding scan_pins times count total
scan-in st t k y [] g o h = absurd (omega arith)
scan-in st t k y (x ∷ r) g o h = elim (ℕ_discrete x y) [
  | yes e ↦ rw e (scan-out st t k y r _ (omega (arith, hit-eq e)) ∙ same (touches st t k y))
  | no n ↦ scan-in st t k y r _ (omega (arith, hit-ne n)) (long (touches st t k x)) ∙ ap (λ z. z +ℤ cond (touches st t k y) (change k) (pos 0)) (off n (touches st t k x))
]
  where
    same : (b : Bool) → at (cond b (set g y (at g y +ℤ change k)) g) y ≡ at g y +ℤ cond b (change k) (pos 0)
    same true = get_or-set_same g y _ (pos 0) h
    same false = sym (+ℤ_idr (at g y))

    long : (b : Bool) → y < length (cond b (set g x (at g x +ℤ change k)) g)
    long true = rw length-set h
    long false = h

    off : x ≢ y → (b : Bool) → at (cond b (set g x (at g x +ℤ change k)) g) y ≡ at g y
    off n true = get_or-set_other g x y _ (pos 0) (λ e. n (sym e))
    off n false = refl

-- what a scan of kind k of the recipe r gives the file y, and takes from it
ups_of : State → ℕ → ℕ → ℕ → List ℕ → ℕ
ups_of st t y k r = bit (holds r y && (touches st t k y && raises k))

downs_of : State → ℕ → ℕ → ℕ → List ℕ → ℕ
downs_of st t y k r = bit (holds r y && (touches st t k y && not (raises k)))

scan-at : (st : State) (t k y : ℕ) (r : List ℕ) (g : List ℤ) → times y r ≤ 1 → y < length g
    → at (scan_pins st t k r g) y ≡ at g y +ℤ diff (ups_of st t y k r) (downs_of st t y k r)
unfolding ups_of downs_of
scan-at st t k y r g o h = go (holds r y) refl
  where
    go : (b : Bool) → holds r y ≡ b → at (scan_pins st t k r g) y ≡ at g y +ℤ diff (bit (b && (touches st t k y && raises k))) (bit (b && (touches st t k y && not (raises k))))
    go true e = scan-in st t k y r g (holds-yes y r o e) h ∙ ap (λ z. at g y +ℤ z) (step-diff (touches st t k y) (raises k))
    go false e = scan-out st t k y r g (holds-no y r e) ∙ sym (ap (λ z. at g y +ℤ z) diff-zero ∙ +ℤ_idr (at g y))

-- ---- scans one after the other

module _ (rs : List (List ℕ)) (dis : Distinct rs) (st : State) (t : ℕ) where
  all-length : (cs : List Scan) (g : List ℤ) → length (scan_all rs st t cs g) ≡ length g
  unfolding scan_all
  all-length [] g = refl
  all-length (c ∷ cs) g = all-length cs _ ∙ scan-length st t c.kind (get_or rs c.recipe []) g

  all-sum : (cs : List Scan) (g : List ℤ) (y : ℕ) → y < length g
      → at (scan_all rs st t cs g) y ≡ at g y
      +ℤ diff (total (λ c. ups_of st t y c.kind (get_or rs c.recipe [])) cs) (total (λ c. downs_of st t y c.kind (get_or rs c.recipe [])) cs)
  unfolding scan_all total
  all-sum [] g y h = sym (ap (λ z. at g y +ℤ z) diff-zero ∙ +ℤ_idr (at g y))
  all-sum (c ∷ cs) g y h =
      let r : List ℕ = get_or rs c.recipe [] in
      let U : ℕ = total (λ c. ups_of st t y c.kind (get_or rs c.recipe [])) cs in
      let D : ℕ = total (λ c. downs_of st t y c.kind (get_or rs c.recipe [])) cs in
      all-sum cs (scan_pins st t c.kind r g) y (rw (scan-length st t c.kind r g) h)
      ∙ ap (λ z. z +ℤ diff U D) (scan-at st t c.kind y r g (dis c.recipe y) h)
      ∙ +ℤ_assoc (at g y) (diff (ups_of st t y c.kind r) (downs_of st t y c.kind r)) (diff U D)
      ∙ ap (λ z. at g y +ℤ z) (diff-add (ups_of st t y c.kind r) (downs_of st t y c.kind r) U D)

-- a sum over the scans of a move, by recipes: `look` finds a recipe by its number
pub total-scans : (st : State) (f : ℕ) (W : ℕ → List ℕ → ℕ) (look : ℕ → List ℕ) (rs : List (List ℕ)) (j : ℕ)
    → ((i : ℕ) → look (j + i) ≡ get_or rs i [])
    → total (λ c. W c.kind (look c.recipe)) (scans_from st f j rs) ≡ total (λ r. total (λ k. W k r) (kinds_of st f r)) rs
unfolding total scans_from
total-scans st f W look [] j h = refl
total-scans st f W look (r ∷ rs) j h =
    let w : Scan → ℕ = λ c. W c.kind (look c.recipe) in
    let e : look j ≡ r = ap look (sym (add-zero j)) ∙ h 0 in
    let t : total (λ k. W k (look j)) (kinds_of st f r) ≡ total (λ k. W k r) (kinds_of st f r) = ap (λ (q : List ℕ). total (λ k. W k q) (kinds_of st f r)) e in
    let n : (i : ℕ) → look (suc j + i) ≡ get_or rs i [] = λ i. ap look (suc-add j i ∙ sym (add-suc j i)) ∙ h (suc i) in
    total-append w (map (λ k. record { recipe = j; kind = k }) (kinds_of st f r)) (scans_from st f (suc j) rs)
    ∙ ap₂ ◌+◌ (total-map w (λ k. record { recipe = j; kind = k }) (kinds_of st f r) ∙ t) (total-scans st f W look rs (suc j) n)

-- ---- one move

-- the gain list after the move of f, by its own scans
abbrev pub gains_scanned : List (List ℕ) → State → ℕ → List ℤ → List ℤ
gains_scanned rs st f g = scan_all rs (moved st f) (other (side_of st.sides f)) (scans_of rs st f) g

-- and after a list of moves
unfoldable pub kept_up : List (List ℕ) → State → List ℕ → List ℤ → List ℤ
kept_up rs st [] g = g
kept_up rs st (f ∷ fs) g = kept_up rs (moved st f) fs (gains_scanned rs st f g)

untouched : (st : State) (t y : ℕ) (rs : List (List ℕ)) (up : ℕ → Bool) (cs : List Scan) → 1 ≤ lock_of st y
    → total (λ c. bit (holds (get_or rs c.recipe []) y && (touches st t c.kind y && up c.kind))) cs ≡ 0
unfolding total
untouched st t y rs up [] l = refl
untouched st t y rs up (c ∷ cs) l =
    let e : free st y ≡ false = ne_eqb (lock_of st y) 0 (λ e. omega arith) in
    omega (arith, untouched st t y rs up cs l, ap (λ b. bit (holds (get_or rs c.recipe []) y && ((b && reaches (on_side st.sides t y) (on_side st.sides (other t) y) c.kind) && up c.kind))) e ∙ ap bit (and-false (holds (get_or rs c.recipe []) y)))

module _ (rs : List (List ℕ)) (dis : Distinct rs) (st : State) (f : ℕ) (m : Moves st (moved st f) f) where
  -- the scans of a move turn the gain of a file that stays free into its gain after the move
  pub scanned-free : (g : List ℤ) (y : ℕ) → y < length g → lock_of (moved st f) y ≡ 0 → at g y ≡ gain st.sides rs y
      → at (gains_scanned rs st f g) y ≡ gain (moved st f).sides rs y
  unfolding gain count
  scanned-free g y h l e =
      let st' : State = moved st f in
      let t : ℕ = other (side_of st.sides f) in
      let P : List ℕ → ℕ = λ r. bit (alone st.sides y r) in
      let M : List ℕ → ℕ = λ r. bit (together st.sides y r) in
      let P' : List ℕ → ℕ = λ r. bit (alone st'.sides y r) in
      let M' : List ℕ → ℕ = λ r. bit (together st'.sides y r) in
      let U : List ℕ → ℕ = λ r. total (λ k. ups_of st' t y k r) (kinds_of st f r) in
      let D : List ℕ → ℕ = λ r. total (λ k. downs_of st' t y k r) (kinds_of st f r) in
      let look : (i : ℕ) → get_or rs (0 + i) [] ≡ get_or rs i [] = λ i. ap (λ n. get_or rs n []) (zero-add i) in
      let eu = total-scans st f (ups_of st' t y) (λ j. get_or rs j []) rs 0 look in
      let ed = total-scans st f (downs_of st' t y) (λ j. get_or rs j []) rs 0 look in
      let q : total P' rs + total M rs + total D rs ≡ total P rs + total U rs + total M' rs
      = total-law P' M D P U M' rs (λ j. unfold law kinds_of alone together ups_of downs_of in rw (kinds-by st f (get_or rs j [])) (recipe-law m (get_or rs j []) y (dis j f) (dis j y) l)) in
      all-sum rs dis st' t (scans_of rs st f) g y h
      ∙ ap₂ (λ z w. z +ℤ w) e (ap₂ diff eu ed)
      ∙ diff-add (total P rs) (total M rs) (total U rs) (total D rs)
      ∙ diff-eq (total P rs + total U rs) (total M rs + total D rs) (total P' rs) (total M' rs) (omega arith)

  -- no scan of it touches a locked file
  pub scanned-locked : (g : List ℤ) (y : ℕ) → y < length g → 1 ≤ lock_of (moved st f) y → at (gains_scanned rs st f g) y ≡ at g y
  unfolding ups_of downs_of
  scanned-locked g y h l =
      let t : ℕ = other (side_of st.sides f) in
      let z : (up : ℕ → Bool) → total (λ c. bit (holds (get_or rs c.recipe []) y && (touches (moved st f) t c.kind y && up c.kind))) (scans_of rs st f) ≡ 0
      = λ up. untouched (moved st f) t y rs up (scans_of rs st f) l in
      all-sum rs dis (moved st f) t (scans_of rs st f) g y h
      ∙ ap (λ z. at g y +ℤ z) (ap₂ diff (z raises) (z (λ k. not (raises k))) ∙ diff-zero)
      ∙ +ℤ_idr (at g y)

  -- the cut less the gain of the moved file is the cut after the move
  pub cut_moved : pos (cut st.sides rs) -ℤ gain st.sides rs f ≡ pos (cut (moved st f).sides rs)
  unfolding cut gain count
  cut_moved =
      let I : List ℕ → ℕ = λ r. bit (is_cut st.sides r) in
      let I' : List ℕ → ℕ = λ r. bit (is_cut (moved st f).sides r) in
      let P : List ℕ → ℕ = λ r. bit (alone st.sides f r) in
      let M : List ℕ → ℕ = λ r. bit (together st.sides f r) in
      let O : List ℕ → ℕ = λ r. 0 in
      let q : total I' rs + total P rs + total O rs ≡ total I rs + total M rs + total O rs
      = total-law I' P O I M O rs (λ j. ap (λ n. n + 0) (cut-law m (get_or rs j []) (dis j f))) in
      ap₂ (λ z w. z +ℤ w) (diff-pos (total I rs)) (diff-neg (total P rs) (total M rs))
      ∙ diff-add (total I rs) 0 (total M rs) (total P rs)
      ∙ diff-eq (total I rs + total M rs) (0 + total P rs) (total I' rs) 0 (omega arith)
      ∙ sym (diff-pos (total I' rs))

-- ---- any list of moves, each of a file then still free

-- g holds for each free file its gain afresh
abbrev pub Fresh : List (List ℕ) → State → List ℤ → Type 0
Fresh rs st g = (y : ℕ) → y < length g → lock_of st y ≡ 0 → get_or g y (pos 0) ≡ gain st.sides rs y

-- so does every prefix of the moves
pub frees-take : {st : State} {fs : List ℕ} (k : ℕ) → Frees st fs → Frees st (take k fs)
frees-take zero l = stop
frees-take (suc k) stop = stop
frees-take {st} (suc k) (move {f = f} {fs = fs} a b e rest) = move a b e (frees-take {st = moved st f} k rest)

pub after-binary : (st : State) (fs : List ℕ) → Frees st fs → Binary st.sides → Binary (after st fs).sides
unfolding steps_by
after-binary st [] stop bin = bin
after-binary st (f ∷ fs) (move a b e rest) bin = after-binary (moved st f) fs rest (stays-binary (move-of st f a b e bin))

lock-stays : (st st' : State) (f : ℕ) → Moves st st' f → (y : ℕ) → 1 ≤ lock_of st y → 1 ≤ lock_of st' y
lock-stays st st' f m y l = elim (ℕ_discrete y f) [
  | yes e ↦ omega (arith, ap (lock_of st') e, m.lock)
  | no n ↦ omega (arith, m.locks y n)
]

module _ (rs : List (List ℕ)) (dis : Distinct rs) where
  scanned-length : (st : State) (f : ℕ) (g : List ℤ) → length (gains_scanned rs st f g) ≡ length g
  scanned-length st f g = all-length rs dis (moved st f) (other (side_of st.sides f)) (scans_of rs st f) g

  pub kept-length : (st : State) (fs : List ℕ) (g : List ℤ) → length (kept_up rs st fs g) ≡ length g
  unfolding kept_up
  kept-length st [] g = refl
  kept-length st (f ∷ fs) g = kept-length (moved st f) fs _ ∙ scanned-length st f g

  -- demand 3: replaying only the listed scans on gains that are fresh gives each free file's gain afresh
  pub gain-kept : (st : State) (fs : List ℕ) → Frees st fs → Binary st.sides → (g : List ℤ) → Fresh rs st g → Fresh rs (after st fs) (kept_up rs st fs g)
  unfolding steps_by kept_up
  gain-kept st [] stop bin g fresh = fresh
  gain-kept st (f ∷ fs) (move a b e rest) bin g fresh =
      let m : Moves st (moved st f) f = move-of st f a b e bin in
      gain-kept (moved st f) fs rest (stays-binary m) (gains_scanned rs st f g)
      (λ y h l. let k : y < length g = rw (← scanned-length st f g) h in scanned-free rs dis st f m g y k l (fresh y k (was_free m y l)))

  -- a locked file's entry stays
  pub locked-kept : (st : State) (fs : List ℕ) → Frees st fs → Binary st.sides → (g : List ℤ) (y : ℕ) → y < length g → 1 ≤ lock_of st y
      → get_or (kept_up rs st fs g) y (pos 0) ≡ get_or g y (pos 0)
  unfolding kept_up
  locked-kept st [] stop bin g y h l = refl
  locked-kept st (f ∷ fs) (move a b e rest) bin g y h l =
      let m : Moves st (moved st f) f = move-of st f a b e bin in
      let k : 1 ≤ lock_of (moved st f) y = lock-stays st (moved st f) f m y l in
      locked-kept (moved st f) fs rest (stays-binary m) (gains_scanned rs st f g) y (rw (scanned-length st f g) h) k
      ∙ scanned-locked rs dis st f m g y h k

  -- a move leaves the entry of every file that is locked after it
  pub kept_more : (st : State) (fs : List ℕ) → Frees st fs → Binary st.sides → (g : List ℤ) (k y : ℕ) → k < length fs → y < length g
      → 1 ≤ lock_of (after st (take (suc k) fs)) y → get_or (kept_up rs st (take (suc k) fs) g) y (pos 0) ≡ get_or (kept_up rs st (take k fs) g) y (pos 0)
  unfolding kept_up steps_by
  kept_more st [] stop bin g k y p h l = absurd (omega arith)
  kept_more st (f ∷ fs) (move a b e rest) bin g zero y p h l = scanned-locked rs dis st f (move-of st f a b e bin) g y h l
  kept_more st (f ∷ fs) (move a b e rest) bin g (suc k) y p h l =
      kept_more (moved st f) fs rest (stays-binary (move-of st f a b e bin)) (gains_scanned rs st f g) k y (omega arith) (rw (scanned-length st f g) h) l

  -- the same after every move
  pub gain-kept-at : (k : ℕ) (st : State) (fs : List ℕ) → Frees st fs → Binary st.sides → (g : List ℤ) → Fresh rs st g
      → Fresh rs (after st (take k fs)) (kept_up rs st (take k fs) g)
  gain-kept-at k st fs l bin g fresh = gain-kept st (take k fs) (frees-take k l) bin g fresh

  -- the starting cut less the gains so far is the present cut
  pub cut-kept : (st : State) (fs : List ℕ) → Frees st fs → Binary st.sides
      → pos (cut st.sides rs) -ℤ sum (gains_when rs st fs) ≡ pos (cut (after st fs).sides rs)
  unfolding steps_by gains_when sum
  cut-kept st [] stop bin = +ℤ_idr (pos (cut st.sides rs))
  cut-kept st (f ∷ fs) (move a b e rest) bin =
      let m : Moves st (moved st f) f = move-of st f a b e bin in
      let R : ℤ = sum (gains_when rs (moved st f) fs) in
      ap (λ z. pos (cut st.sides rs) +ℤ z) (neg_ℤ-+ℤ (gain st.sides rs f) R)
      ∙ sym (+ℤ_assoc (pos (cut st.sides rs)) (neg_ℤ (gain st.sides rs f)) (neg_ℤ R))
      ∙ ap (λ z. z -ℤ R) (cut_moved rs dis st f m)
      ∙ cut-kept (moved st f) fs rest (stays-binary m)

-- the lists of the moves fs ++ rest, whatever follows in them, replayed for fs alone, give what the scans of fs do
replay-prefix : (rs : List (List ℕ)) (n : ℕ) (st : State) (fs rest more : List ℕ) (over : List Scan) (g : List ℤ)
    → replay rs st fs n (ends_from rs n st (fs ++ rest) ++ more) (scans rs st (fs ++ rest) ++ over) g ≡ kept_up rs st fs g
unfolding replay ends_from scans kept_up
replay-prefix rs n st [] rest more over g = refl
replay-prefix rs n st (f ∷ fs) rest more over g =
    let a : List Scan = scans_of rs st f in
    let b : List Scan = scans rs (moved st f) (fs ++ rest) in
    let e : n + length a - n ≡ length a = omega arith in
    rw (e, append_assoc a b over, take-append_seam a (b ++ over), drop-append_seam a (b ++ over)) (replay-prefix rs (n + length a) (moved st f) fs rest more over _)

pub replay-within : (k : ℕ) (rs : List (List ℕ)) (st : State) (fs more : List ℕ) (over : List Scan) (g : List ℤ)
    → replay rs st (take k fs) 0 (ends_from rs 0 st fs ++ more) (scans rs st fs ++ over) g ≡ kept_up rs st (take k fs) g
replay-within k rs st fs more over g =
    ap (λ (l : List ℕ). replay rs st (take k fs) 0 (ends_from rs 0 st l ++ more) (scans rs st l ++ over) g) (sym (take-append-drop k fs))
    ∙ replay-prefix rs 0 st (take k fs) (drop k fs) more over g

pub replay-listed : (k : ℕ) (rs : List (List ℕ)) (st : State) (fs : List ℕ) (g : List ℤ)
    → replay rs st (take k fs) 0 (ends_from rs 0 st fs) (scans rs st fs) g ≡ kept_up rs st (take k fs) g
replay-listed k rs st fs g =
    ap₂ (λ (x : List ℕ) (y : List Scan). replay rs st (take k fs) 0 x y g) (sym (append-nil (ends_from rs 0 st fs))) (sym (append-nil (scans rs st fs)))
    ∙ replay-within k rs st fs [] [] g

-- scans told by two lists, whatever follows in them
pub told_more : (cs : List Scan) (js ks : List ℕ) → scans_told (map (λ c. c.recipe) cs ++ js) (map (λ c. c.kind) cs ++ ks) ≡ cs ++ scans_told js ks
unfolding scans_told
told_more [] js ks = refl
told_more (c ∷ cs) js ks = ap (λ (l : List Scan). c ∷ l) (told_more cs js ks)

-- ---- the gain list that a pass leaves

-- a pinned file holds 0
pub gains-pinned : (rs : List (List ℕ)) (n : ℕ) (st : State) (fs : List ℕ) (y : ℕ) → y < n → lock_of st y ≢ 0 → get_or (gains_after rs n st fs) y (pos 0) ≡ pos 0
unfolding gains_after
gains-pinned rs n st fs y h e =
    get_d-tabled (λ f. cond (free st f) (standing rs st fs f) (pos 0)) n y (pos 0) h
    ∙ ap (λ (b : Bool). cond b (standing rs st fs y) (pos 0)) (ne_eqb (lock_of st y) 0 e)

-- a file that is moved was free
frees-free : {st : State} {fs : List ℕ} → Frees st fs → (i : ℕ) → i < length fs → (get_or fs i 0 < length st.locks) × (lock_of st (get_or fs i 0) ≡ 0)
unfolding moved
frees-free stop i h = absurd (omega arith)
frees-free (move a b e rest) zero h = (b, e)
frees-free {st} (move {f = f} {fs = fs} a b e rest) (suc i) h =
    let r = frees-free rest i (omega arith) in (
      rw (length-set st.locks f 1) at r.0,
      elim (ℕ_discrete (get_or fs i 0) f) [
        | yes q ↦ ap (lock_of st) q ∙ e
        | no n ↦ sym (get_or-set_other st.locks f (get_or fs i 0) 1 0 n) ∙ r.1
      ],
    )

-- a moved file keeps the gain it had when chosen
standing-when : (rs : List (List ℕ)) {st : State} {fs : List ℕ} → Frees st fs → (i : ℕ) → i < length fs
    → standing rs st fs (get_or fs i 0) ≡ get_or (gains_when rs st fs) i (pos 0)
unfolding standing gains_when
standing-when rs stop i h = absurd (omega arith)
standing-when rs (move {f = f} a b e rest) zero h = rw (eq-eqb f f refl) refl
standing-when rs {st} (move {f = f} {fs = fs} a b e rest) (suc i) h =
    let l : lock_of (moved st f) f ≡ 1 = unfold moved in get_or-set_same st.locks f 1 0 b in
    let n : f ≢ get_or fs i 0 = λ q. omega (arith, ap (lock_of (moved st f)) q, (frees-free rest i (omega arith)).1) in
    rw (ne_eqb f (get_or fs i 0) n) (standing-when rs rest i (omega arith))

pub gains-chosen : (rs : List (List ℕ)) (n : ℕ) {st : State} {fs : List ℕ} → Frees st fs → length st.locks ≡ n → (i : ℕ) → i < length fs
    → get_or (gains_after rs n st fs) (get_or fs i 0) (pos 0) ≡ get_or (gains_when rs st fs) i (pos 0)
unfolding gains_after
gains-chosen rs n {st} {fs} l long i h =
    let r = frees-free l i h in
    let y : ℕ = get_or fs i 0 in
    get_d-tabled (λ f. cond (free st f) (standing rs st fs f) (pos 0)) n y (pos 0) (omega (arith, r.0))
    ∙ ap (λ (b : Bool). cond b (standing rs st fs y) (pos 0)) (eq-eqb (lock_of st y) 0 r.1)
    ∙ standing-when rs l i h

module _ (rs : List (List ℕ)) (dis : Distinct rs) where
  -- a moved file keeps the gain it had when chosen, a file that is free at the end has its gain afresh
  standing-kept : (st : State) (fs : List ℕ) → Frees st fs → Binary st.sides → (g : List ℤ) → Fresh rs st g
      → (y : ℕ) → y < length g → lock_of st y ≡ 0 → get_or (kept_up rs st fs g) y (pos 0) ≡ standing rs st fs y
  unfolding kept_up standing
  standing-kept st [] stop bin g fresh y h l = fresh y h l
  standing-kept st (f ∷ fs) (move a b e rest) bin g fresh y h l =
      let m : Moves st (moved st f) f = move-of st f a b e bin in
      let long : y < length (gains_scanned rs st f g) = rw (scanned-length rs dis st f g) h in
      elim (ℕ_discrete f y) [
        | yes q ↦
            let k : 1 ≤ lock_of (moved st f) y = omega (arith, ap (lock_of (moved st f)) q, m.lock) in
            rw (eq-eqb f y q)
            (locked-kept rs dis (moved st f) fs rest (stays-binary m) (gains_scanned rs st f g) y long k
            ∙ scanned-locked rs dis st f m g y h k
            ∙ fresh y h l)
        | no n ↦
            rw (ne_eqb f y n)
            (standing-kept (moved st f) fs rest (stays-binary m) (gains_scanned rs st f g)
            (λ x p q. let k : x < length g = rw (← scanned-length rs dis st f g) p in scanned-free rs dis st f m g x k q (fresh x k (was_free m x q)))
            y long (m.locks y (λ q. n (sym q)) ∙ l))
      ]

  pub start-fresh : (n : ℕ) (st : State) → Fresh rs st (start_gains rs n st)
  unfolding gains_after standing
  start-fresh n st y h l =
      let k : y < n = rw (← length-tabled (λ f. cond (free st f) (gain st.sides rs f) (pos 0)) n) h in
      get_d-tabled (λ f. cond (free st f) (gain st.sides rs f) (pos 0)) n y (pos 0) k
      ∙ ap (λ (b : Bool). cond b (gain st.sides rs y) (pos 0)) (eq-eqb (lock_of st y) 0 l)

  -- the gain list of document 01 is what the scans make of the starting gains
  pub gains-kept : (n : ℕ) (st : State) (fs : List ℕ) → Frees st fs → Binary st.sides → kept_up rs st fs (start_gains rs n st) ≡ gains_after rs n st fs
  unfolding gains_after
  gains-kept n st fs l bin =
      let g : List ℤ = start_gains rs n st in
      let long : length g ≡ n = length-tabled _ n in
      ext_get_or (pos 0) (kept_up rs st fs g) (gains_after rs n st fs)
      (kept-length rs dis st fs g ∙ long ∙ sym (length-tabled _ n))
      (λ y h.
      let k : y < length g = rw (← kept-length rs dis st fs g) h in
      let k' : y < n = omega arith in
      elim (ℕ_discrete (lock_of st y) 0) [
        | yes e ↦
            standing-kept st fs l bin g (start-fresh n st) y k e
            ∙ sym (get_d-tabled (λ f. cond (free st f) (standing rs st fs f) (pos 0)) n y (pos 0) k'
            ∙ ap (λ (b : Bool). cond b (standing rs st fs y) (pos 0)) (eq-eqb (lock_of st y) 0 e))
        | no z ↦
            locked-kept rs dis st fs l bin g y k (omega arith)
            ∙ get_d-tabled (λ f. cond (free st f) (standing rs st [] f) (pos 0)) n y (pos 0) k'
            ∙ ap (λ (b : Bool). cond b (standing rs st [] y) (pos 0)) (ne_eqb (lock_of st y) 0 z)
            ∙ sym (get_d-tabled (λ f. cond (free st f) (standing rs st fs f) (pos 0)) n y (pos 0) k'
            ∙ ap (λ (b : Bool). cond b (standing rs st fs y) (pos 0)) (ne_eqb (lock_of st y) 0 z))
      ])
