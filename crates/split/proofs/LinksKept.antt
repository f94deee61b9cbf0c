-- What entering, choosing and following leave of the scratch; and that after a move the links stand for the free files, as before it. Assumes nothing.
use mathlib.Core.Path.{◌≡◌, refl, sym, ap, ap₂, ◌∙◌}
use mathlib.Core.Logic.{◌⊎◌, inl, inr, ◌≢◌}
use Prim.Native.Nat.{ℕ, zero, suc, ◌+◌, ◌≤◌, ◌<◌}
use mathlib.Core.Bool.{Bool, true, false, not, cond}
use mathlib.Core.List.{List, [], ◌∷◌, ◌++◌, map, map-append}
use native.Mathlib.Decide.{ℕ_discrete}
use native.Mathlib.Omega.{arith}
use lib.ListN.{length, get_or, set, drop}
use lib.Seq.{get_or-set_same, get_or-set_other}
use lib.Dec.{eqb}
use lib.IntN.{ℤ, pos}
use borrow.Author.Tests.{lt-ltb, eqb-true, eq-eqb, ne_eqb}
use Rattle.rules.specs.Lists.{those, up_to}
use Rattle.rules.specs.Job.{Job, file_count}
use Rattle.rules.specs.Split.{times, side_of}
use Rattle.rules.specs.Move.{State, free, steps_by, touches, Change, change_of, changes_in, changes_by}
use Rattle.rules.specs.Theorems.{scans_told}
use Rattle.rules.specs.Fronts.{Buckets, without, to_front, reenters}
use Rattle.rules.specs.FrontsHold.{Standing}
use Rattle.rules.proofs.Tests.{and_yes}
use Rattle.rules.proofs.Latest.{changed-enter}
use Rattle.choice.specs.declared.window.Window.{Window}
use Rattle.choice.specs.Best.{choice_in}
use Rattle.buckets.specs.declared.slots.Shape.{Shape}
use Rattle.buckets.specs.Slots.{Fits}
use Rattle.buckets.specs.Entries.{entered_all, taken_out}
use Rattle.buckets.specs.Offers.{Chosen, chosen_front}
use Rattle.buckets.specs.StandFor.{◌∈◌, StandFor}
use Rattle.buckets.proofs.Rows.{those-pass, pass-those}
use Rattle.buckets.proofs.Leaving.{gone}
use Rattle.buckets.proofs.Upkeep.{stands_same, stands-turned}
use Rattle.buckets.proofs.Calls.{enters-all, takes_out, brings-front, stands-chosen, times-in}
use Rattle.tables.specs.Zones.{state_in}
use Rattle.split.specs.Links.{links_at, links_long, shape_of, links_in, with_links, HasLinks, entered_by, picked_is, picked_by, brought_all, touched_by, followed_by}
use Rattle.split.proofs.LinksLent.{Kept, kept_same, kept-with, links-long, links-back, all-long, chosen-long, out-long}
use Rattle.split.proofs.LinksSteps.{brought-long}

-- ---- by any edition nothing but the links differs

module _ (edition c n p : ℕ) (z : List ℕ) (fits : HasLinks edition c n p z) where
  pub entered-kept : (marks sides : List ℕ) (gains : List ℤ) → Kept c n p z (entered_by edition c n p marks sides gains z)
  unfolding entered_by
  entered-kept marks sides gains = go (eqb edition 2) refl
    where
      links : List ℕ
      links = entered_all (shape_of c n) marks sides gains (links_in c n p z)

      go : (b : Bool) → eqb edition 2 ≡ b → Kept c n p z (cond b (with_links c n p z links) z)
      go true e = let h = fits (eqb-true edition 2 e) in kept-with c n p z h links (all-long (shape_of c n) marks sides gains (links_in c n p z) ∙ links-long c n p z h)
      go false e = kept_same

  pub picked-kept : (w : Window) (size : ℕ) (sizes sides : List ℕ) (gains : List ℤ) → Kept c n p z (picked_by edition c n p w size sizes sides gains z).scratch
  unfolding picked_by
  picked-kept w size sizes sides gains = go (eqb edition 2) refl
    where
      e' : Chosen
      e' = chosen_front (shape_of c n) w size sizes sides gains (links_in c n p z)

      go : (b : Bool) → eqb edition 2 ≡ b
          → Kept c n p z (cond b (picked_is e'.best (with_links c n p z e'.links)) (picked_is (choice_in w size sizes sides z gains) z)).scratch
      go true e = let h = fits (eqb-true edition 2 e) in kept-with c n p z h e'.links (chosen-long (shape_of c n) w size sizes sides gains (links_in c n p z) ∙ links-long c n p z h)
      go false e = kept_same

  pub followed-kept : (gains : List ℤ) (sides : List ℕ) (look : ℕ → List ℕ) (js ks : List ℕ) (f : ℕ) → Kept c n p z (followed_by edition c n p gains sides look js ks f z)
  unfolding followed_by
  followed-kept gains sides look js ks f = go (eqb edition 2) refl
    where
      fs : List ℕ
      fs = touched_by (state_in c sides z) (side_of sides f) look js ks

      out : List ℕ
      out = taken_out (shape_of c n) f (links_in c n p z)

      go : (b : Bool) → eqb edition 2 ≡ b → Kept c n p z (cond b (with_links c n p z (brought_all (shape_of c n) sides gains fs out)) z)
      go true e =
          let h = fits (eqb-true edition 2 e) in
          kept-with c n p z h (brought_all (shape_of c n) sides gains fs out)
          (brought-long (shape_of c n) sides gains fs out ∙ out-long (shape_of c n) f (links_in c n p z) ∙ links-long c n p z h)
      go false e = kept_same

-- ---- what the links stand for once the free files have entered, and after a choice

module _ (edition c n p : ℕ) (e : edition ≡ 2) (z : List ℕ) (fits : links_at c n p + links_long c n ≤ length z) where
  pub links-entered : (marks sides : List ℕ) (gains : List ℤ) → links_in c n p (entered_by edition c n p marks sides gains z) ≡ entered_all (shape_of c n) marks sides gains (links_in c n p z)
  unfolding entered_by
  links-entered marks sides gains =
      rw (eq-eqb edition 2 e)
      (links-back c n p z fits (entered_all (shape_of c n) marks sides gains (links_in c n p z)) (all-long (shape_of c n) marks sides gains (links_in c n p z) ∙ links-long c n p z fits))

  pub entered-stands : (marks sides : List ℕ) (gains : List ℤ) → Fits (shape_of c n) → c ≤ length gains
      → StandFor (shape_of c n) sides gains (steps_by to_front [] (those (λ f. eqb (get_or marks f 0) 0) (up_to c))) (links_in c n p (entered_by edition c n p marks sides gains z))
  entered-stands marks sides gains small gained =
      rw (links-entered marks sides gains) (enters-all (shape_of c n) marks sides gains (links_in c n p z) small gained (omega (arith, links-long c n p z fits)))

  module _ (w : Window) (size : ℕ) (sizes sides : List ℕ) (gains : List ℤ) where
    pub best-picked : (picked_by edition c n p w size sizes sides gains z).best ≡ (chosen_front (shape_of c n) w size sizes sides gains (links_in c n p z)).best
    unfolding picked_by
    best-picked = rw (eq-eqb edition 2 e) refl

    pub links-picked : links_in c n p (picked_by edition c n p w size sizes sides gains z).scratch ≡ (chosen_front (shape_of c n) w size sizes sides gains (links_in c n p z)).links
    unfolding picked_by
    links-picked =
        rw (eq-eqb edition 2 e)
        (links-back c n p z fits (chosen_front (shape_of c n) w size sizes sides gains (links_in c n p z)).links (chosen-long (shape_of c n) w size sizes sides gains (links_in c n p z) ∙ links-long c n p z fits))

    pub picked-stands : {order : List ℕ} → StandFor (shape_of c n) sides gains order (links_in c n p z)
        → StandFor (shape_of c n) sides gains order (links_in c n p (picked_by edition c n p w size sizes sides gains z).scratch)
    picked-stands s = rw links-picked (stands-chosen s w size sizes)

-- ---- files brought to the front, one after the other

in-front : (order : List ℕ) (x y : ℕ) → y ∈ order → y ∈ to_front order x
unfolding ◌∈◌
in-front order x y m = elim (ℕ_discrete y x) [
  | yes e ↦ inl e
  | no ne ↦ inr (pass-those (λ g. not (eqb g x)) y order (ap not (ne_eqb y x ne)) m)
]

from_front : (order : List ℕ) (x y : ℕ) → y ≢ x → y ∈ to_front order x → y ∈ order
unfolding ◌∈◌
from_front order x y ne (inl e) = absurd (ne e)
from_front order x y ne (inr k) = (those-pass (λ g. not (eqb g x)) y order k).1

-- the gains may have changed already, of these files alone
pub brings-all : {shape : Shape} {sides : List ℕ} (gains' : List ℤ) → shape.files ≤ length gains' → (fs : List ℕ) {gains : List ℤ} {order links : List ℕ}
    → StandFor shape sides gains order links
    → ((x : ℕ) → x ∈ fs → x ∈ order)
    → ((g : ℕ) → g ∈ order → ¬ (g ∈ fs) → get_or gains' g (pos 0) ≡ get_or gains g (pos 0))
    → StandFor shape sides gains' (steps_by to_front order fs) (brought_all shape sides gains' fs links)
unfolding steps_by ◌∈◌
brings-all {shape} {sides} gains' long [] s held same = stands_same s sides gains' long (λ g m. refl) (λ g m. same g m (λ k. k))
brings-all {shape} {sides} gains' long (x ∷ fs) {gains} {order} {links} s held same =
    brings-all gains' long fs (brings-front s x (held x (inl refl)) v) (λ y m. in-front order x y (held y (inr m))) after
  where
    v : ℤ
    v = get_or gains' x (pos 0)

    after : (g : ℕ) → g ∈ to_front order x → ¬ (g ∈ fs) → get_or gains' g (pos 0) ≡ get_or (set gains x v) g (pos 0)
    after g m out = elim (ℕ_discrete g x) [
      | yes e ↦ rw e (sym (get_or-set_same gains x v (pos 0) (omega (arith, s.gained, (s.linked.known x (held x (inl refl))).0))))
      | no ne ↦ same g (from_front order x g ne m) (λ k. elim k [ inl e ↦ ne e | inr l ↦ out l ]) ∙ sym (get_or-set_other gains x g v (pos 0) ne)
    ]

-- the move of f to side t: it leaves, and the files that its scans changed enter anew
pub move-stands : {shape : Shape} {sides : List ℕ} {gains : List ℤ} {order links : List ℕ} → StandFor shape sides gains order links
    → (f t : ℕ) → f ∈ order → (gains' : List ℤ) → shape.files ≤ length gains' → (fs : List ℕ)
    → ((x : ℕ) → x ∈ fs → x ∈ without order f)
    → ((g : ℕ) → g ∈ without order f → ¬ (g ∈ fs) → get_or gains' g (pos 0) ≡ get_or gains g (pos 0))
    → StandFor shape (set sides f t) gains' (steps_by to_front (without order f) fs) (brought_all shape (set sides f t) gains' fs (taken_out shape f links))
move-stands {order} s f t m gains' long fs held same = brings-all gains' long fs (stands-turned (takes_out s f m) f t (λ k. gone f f order k refl)) held same

-- ---- the files that the scans listed change, in their order

in_either : (x : ℕ) (xs ys : List ℕ) → x ∈ xs ++ ys → (x ∈ xs) ⊎ (x ∈ ys)
unfolding ◌∈◌
in_either x [] ys m = inr m
in_either x (y ∷ xs) ys (inl e) = inl (inl e)
in_either x (y ∷ xs) ys (inr m) = elim (in_either x xs ys m) [ inl k ↦ inl (inr k) | inr k ↦ inr k ]

files-of : (k : ℕ) (xs : List ℕ) → map (λ (c : Change). c.file) (map (change_of k) xs) ≡ xs
files-of k [] = refl
files-of k (x ∷ xs) = ap (λ (l : List ℕ). x ∷ l) (files-of k xs)

module _ (st : State) (t : ℕ) (look : ℕ → List ℕ) where
  -- each of them is free
  pub touched-free : (js ks : List ℕ) (x : ℕ) → x ∈ touched_by st t look js ks → free st x ≡ true
  unfolding touched_by ◌∈◌
  touched-free [] ks x m = absurd m
  touched-free (j ∷ js) ks x m = elim (in_either x (those (touches st t (get_or ks 0 0)) (look j)) (touched_by st t look js (drop 1 ks)) m) [
    | inl k ↦ (and_yes (free st x) _ (those-pass (touches st t (get_or ks 0 0)) x (look j) k).0).0
    | inr k ↦ touched-free js (drop 1 ks) x k
  ]

  -- they are the files of the changes
  pub touched-told : (rs : List (List ℕ)) (js ks : List ℕ) → length js ≡ length ks
      → ((i : ℕ) → i < length js → look (get_or js i 0) ≡ get_or rs (get_or js i 0) [])
      → touched_by st t look js ks ≡ map (λ c. c.file) (changes_by rs st t (scans_told js ks))
  unfolding touched_by changes_by changes_in scans_told
  touched-told rs [] ks l same = refl
  touched-told rs (j ∷ js) [] l same = absurd (omega arith)
  touched-told rs (j ∷ js) (k ∷ ks) l same =
      ap₂ ◌++◌ (ap (those (touches st t k)) (same 0 (omega arith)) ∙ sym (files-of k (those (touches st t k) (get_or rs j [])))) (touched-told rs js ks (omega arith) (λ i h. same (suc i) (omega arith)))
      ∙ sym (map-append (λ (c : Change). c.file) (map (change_of k) (those (touches st t k) (get_or rs j []))) (changes_by rs st t (scans_told js ks)))

-- ---- who stands in the list of free files

-- a number that does not stand there is counted none
pub out-times : (x : ℕ) (xs : List ℕ) → ¬ (x ∈ xs) → times x xs ≡ 0
out-times x xs out = go (times x xs) refl
  where
    go : (k : ℕ) → times x xs ≡ k → k ≡ 0
    go zero e = refl
    go (suc k) e = absurd (out (times-in x xs (omega arith)))

-- a free file does
pub standing-in : (job : Job) (b : Buckets) → Standing job b → (x : ℕ) → x < file_count job → free b.state x ≡ true → x ∈ b.entered
standing-in job b s x h e = times-in x b.entered (rw (s x, lt-ltb x (file_count job) h, e) (omega arith))

-- ---- the links of a scratch once they followed a move

module _ (c n p : ℕ) (gains : List ℤ) where
  pub links-followed : (edition : ℕ) → edition ≡ 2 → (sides : List ℕ) (look : ℕ → List ℕ) (js ks : List ℕ) (f : ℕ) (z : List ℕ) → links_at c n p + links_long c n ≤ length z
      → links_in c n p (followed_by edition c n p gains sides look js ks f z)
      ≡ brought_all (shape_of c n) sides gains (touched_by (state_in c sides z) (side_of sides f) look js ks) (taken_out (shape_of c n) f (links_in c n p z))
  unfolding followed_by
  links-followed edition e sides look js ks f z h =
      let fs : List ℕ = touched_by (state_in c sides z) (side_of sides f) look js ks in
      let out : List ℕ = taken_out (shape_of c n) f (links_in c n p z) in
      rw (eq-eqb edition 2 e)
      (links-back c n p z h (brought_all (shape_of c n) sides gains fs out)
      (brought-long (shape_of c n) sides gains fs out ∙ out-long (shape_of c n) f (links_in c n p z) ∙ links-long c n p z h))

-- ---- after the move of f to side t the links of the scratch stand for what is left, with the changed files entered anew

module _ (c n p : ℕ) (z : List ℕ) {sides : List ℕ} {gains : List ℤ} {order : List ℕ} (fits : links_at c n p + links_long c n ≤ length z) (s : StandFor (shape_of c n) sides gains order (links_in c n p z))
    (f t : ℕ) (held : f ∈ order) (gains' : List ℤ) (long : c ≤ length gains') (look : ℕ → List ℕ) (js ks : List ℕ) (changes : List Change)
    (told : touched_by (state_in c (set sides f t) z) (side_of (set sides f t) f) look js ks ≡ map (λ c. c.file) changes)
    (free-still : (x : ℕ) → x ∈ map (λ c. c.file) changes → x ∈ without order f)
    (others : (g : ℕ) → g ∈ without order f → ¬ (g ∈ map (λ c. c.file) changes) → get_or gains' g (pos 0) ≡ get_or gains g (pos 0)) where
  pub followed-stands : (edition : ℕ) → edition ≡ 2
      → StandFor (shape_of c n) (set sides f t) gains' (steps_by reenters (without order f) changes) (links_in c n p (followed_by edition c n p gains' (set sides f t) look js ks f z))
  followed-stands edition e =
      rw (links-followed c n p gains' edition e (set sides f t) look js ks f z fits, told, changed-enter changes (without order f))
      (move-stands s f t held gains' long (map (λ c. c.file) changes) free-still others)
