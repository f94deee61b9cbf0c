-- The list of the free files, the latest entered first: who stands in it at the start, after one enters or leaves, and after a move. Assumes nothing.
use mathlib.Core.Path.{◌≡◌, refl, sym, ap, ap₂, subst, ◌∙◌}
use mathlib.Core.Logic.{◌≢◌}
use Prim.Native.Nat.{ℕ, suc, ◌+◌, ◌≤◌, ◌<◌}
use mathlib.Core.Bool.{Bool, true, false, cond, ◌&&◌}
use mathlib.Core.List.{List, [], ◌∷◌, map}
use native.Mathlib.Decide.{ℕ_discrete, dec_lt}
use native.Mathlib.Omega.{arith}
use lib.Dec.{ltb, eqb}
use lib.IntN.{ℤ, pos}
use lib.ListN.{length, get_or, take, get_or-eq_default}
use lib.Seq.{get_or-set_same, get_or-set_other}
use borrow.Author.Tests.{ltb-true, lt-ltb, le-ltb}
use Rattle.rules.specs.Lists.{bit, total, count, those, up_to}
use Rattle.rules.specs.Job.{Job, Limits, file_count, recipe_count, files, view, recipes}
use Rattle.rules.specs.Split.{other, side_of, times, holds, gain, is_free}
use Rattle.rules.specs.Move.{State, start, lock_of, free, moved, steps_by, scans_of, Change, changes_of, changed}
use Rattle.rules.specs.Pass.{start_gains, gains_after}
use Rattle.rules.specs.Fronts.{Buckets, without, to_front, entered_first, start_buckets, reenters, moved_on}
use Rattle.rules.specs.FrontsHold.{Standing, put, entries, buckets_at, entries_to}
use Rattle.rules.specs.Theorems.{Distinct, Sound}
use Rattle.rules.proofs.Tests.{and-false}
use Rattle.rules.proofs.Count.{hit-eq, hit-ne, times_none, times_above, times_below, length-tabled}
use Rattle.rules.proofs.Readable.{read-times, those-append}
use Rattle.rules.proofs.Changes.{steps-append, scans-change}
use Rattle.rules.proofs.InTurn.{Every}
use Rattle.rules.proofs.SoundJob.{view-below, recipe-at, recipes-length}
use Rattle.rules.proofs.OneMove.{Moves, was_free}
use Rattle.rules.proofs.GainKept.{scanned-free, start-fresh}
use Rattle.rules.proofs.MovesEnd.{StateLong}
use Rattle.rules.proofs.Latest.{times-kept, times-gone, left-gone, left-others, entered-once, entered-others, without-absent, Latest, latest-left, latest-all, changed-enter}

-- ---- the files that enter at the start

enters-others : (ys fs : List ℕ) (x : ℕ) → times x ys ≡ 0 → times x (steps_by to_front fs ys) ≡ times x fs
unfolding steps_by
enters-others [] fs x h = refl
enters-others (y ∷ ys) fs x h =
    let q : bit (eqb y x) + times x ys ≡ 0 = unfold times count total in h in
    elim (ℕ_discrete y x) [
      | yes e ↦ absurd (omega (arith, hit-eq e))
      | no n ↦ enters-others ys (to_front fs y) x (omega arith) ∙ entered-others fs y x (λ e. n (sym e))
    ]

enters-once : (ys fs : List ℕ) (x : ℕ) → 1 ≤ times x ys → times x (steps_by to_front fs ys) ≡ 1
unfolding steps_by
enters-once [] fs x h = let q : 1 ≤ 0 = unfold times count total in h in absurd (omega arith)
enters-once (y ∷ ys) fs x h =
    let q : 1 ≤ bit (eqb y x) + times x ys = unfold times count total in h in
    elim (ℕ_discrete (times x ys) 0) [
      | no n ↦ enters-once ys (to_front fs y) x (omega (arith, n))
      | yes z ↦ elim (ℕ_discrete y x) [
        | yes e ↦ enters-others ys (to_front fs y) x z ∙ ap (λ (g : ℕ). times x (to_front fs g)) e ∙ entered-once fs x
        | no n ↦ absurd (omega (arith, hit-ne n))
      ]
    ]

-- those below n, one file after the other
unfoldable pub entered_below : Job → ℕ → List ℕ
entered_below job n = steps_by to_front [] (those (is_free job) (up_to n))

module _ (job : Job) where
  pub entered_all : entered_below job (file_count job) ≡ entered_first job
  unfolding entered_below entered_first files
  entered_all = refl

  pub entered_below_lem : (n x : ℕ) → times x (entered_below job n) ≡ bit (ltb x n && is_free job x)
  unfolding entered_below
  entered_below_lem n x = go (is_free job x) refl
    where
      go : (t : Bool) → is_free job x ≡ t → times x (steps_by to_front [] (those (is_free job) (up_to n))) ≡ bit (ltb x n && t)
      go true e = elim (dec_lt x n) [
        | yes l ↦ enters-once (those (is_free job) (up_to n)) [] x (omega (arith, times-kept (is_free job) x e (up_to n), times_below x n l)) ∙ sym (rw (lt-ltb x n l) refl)
        | no m ↦ enters-others (those (is_free job) (up_to n)) [] x (times-kept (is_free job) x e (up_to n) ∙ times_above x n (omega arith)) ∙ (unfold times count total in sym (rw (le-ltb x n (omega arith)) refl))
      ]
      go false e = enters-others (those (is_free job) (up_to n)) [] x (times-gone (is_free job) x e (up_to n)) ∙ (unfold times count total in sym (ap bit (and-false (ltb x n))))

  -- file n enters at the front of those below it, if it is free
  pub entered-more : (n : ℕ) → entered_below job (suc n) ≡ cond (is_free job n) (n ∷ entered_below job n) (entered_below job n)
  unfolding entered_below up_to those
  entered-more n =
      ap (steps_by to_front []) (those-append (is_free job) (up_to n) (n ∷ []))
      ∙ steps-append to_front [] (those (is_free job) (up_to n)) (those (is_free job) (n ∷ []))
      ∙ go (is_free job n)
    where
      new : without (steps_by to_front [] (those (is_free job) (up_to n))) n ≡ steps_by to_front [] (those (is_free job) (up_to n))
      new = without-absent (steps_by to_front [] (those (is_free job) (up_to n))) n (entered_below_lem n n ∙ rw (le-ltb n n (omega arith)) refl)

      go : (t : Bool) → steps_by to_front (steps_by to_front [] (those (is_free job) (up_to n))) (cond t (n ∷ []) [])
          ≡ cond t (n ∷ steps_by to_front [] (those (is_free job) (up_to n))) (steps_by to_front [] (those (is_free job) (up_to n)))
      go true = unfold steps_by in ap (λ (l : List ℕ). n ∷ l) new
      go false = unfold steps_by in refl

  pub start-standing : (sides : List ℕ) → Standing job (start_buckets job sides)
  start-standing sides f = ap (times f) (sym entered_all) ∙ entered_below_lem (file_count job) f

-- ---- the changes of a move are of free files of the job

module _ (most : Limits) (job : Job) (s : Sound most job) where
  -- a recipe's files are the job's
  pub recipes-below : (j f : ℕ) → holds (get_or (recipes job) j []) f ≡ true → f < file_count job
  recipes-below j f h = elim (dec_lt f (file_count job)) [
    | yes l ↦ l
    | no n ↦ elim (dec_lt j (recipe_count job)) [
      | yes l ↦
          absurd
          (omega (
            arith,
            ltb-true 0 (times f (get_or (recipes job) j [])) h,
            ap (times f) (recipe-at most job s j l),
            read-times job f (view job j),
            times_none f (view job j) (λ i k e. omega (arith, view-below most job s j i l k)),
          ))
      | no m ↦
          let e : get_or (recipes job) j [] ≡ [] = get_or-eq_default (recipes job) [] {n = j} (omega (arith, recipes-length most job s)) in
          let z : times f [] ≡ 0 = unfold times count total in refl in
          absurd (omega (arith, ltb-true 0 (times f (get_or (recipes job) j [])) h, ap (times f) e))
    ]
  ]

  pub changes-free : (st : State) (f : ℕ) (d : Change) → Every d (λ c. (c.file < file_count job) × (free (moved st f) c.file ≡ true)) (changes_of (recipes job) st f)
  changes-free st f d i h =
      let c = scans-change (recipes job) (moved st f) (other (side_of st.sides f)) in
      let q = c.held (scans_of (recipes job) st f) d i h in
      (recipes-below q.0 _ q.1, c.free (scans_of (recipes job) st f) d i h)

-- ---- a move

-- whoever enters again was there, so the same files stand there as before
pub reenter-standing : (d : Change) (here : ℕ → Bool) (cs : List Change) (fs : List ℕ) → Every d (λ c. here c.file ≡ true) cs
    → ((x : ℕ) → times x fs ≡ bit (here x)) → (x : ℕ) → times x (steps_by reenters fs cs) ≡ bit (here x)
unfolding steps_by
reenter-standing d here [] fs all e x = e x
reenter-standing d here (c ∷ cs) fs all e x =
    reenter-standing d here cs (reenters fs c) (λ i h. all (suc i) (omega arith))
    (λ y. elim (ℕ_discrete y c.file) [
      | yes q ↦ ap (λ (z : ℕ). times z (to_front fs c.file)) q ∙ entered-once fs c.file ∙ ap bit (sym (ap here q ∙ all 0 (omega arith)))
      | no n ↦ entered-others fs c.file y n ∙ e y
    ])
    x

module _ (most : Limits) (job : Job) (s : Sound most job) (b : Buckets) (f : ℕ) (long : StateLong (file_count job) b.state) (h : f < file_count job) where
  lock-own : free (moved b.state f) f ≡ false
  unfolding moved
  lock-own = rw (get_or-set_same b.state.locks f 1 0 (omega (arith, long.locks))) refl

  lock-others : (x : ℕ) → x ≢ f → free (moved b.state f) x ≡ free b.state x
  unfolding moved
  lock-others x n = ap (λ (l : ℕ). eqb l 0) (get_or-set_other b.state.locks f x 1 0 n)

  -- the moved file leaves
  pub left-standing : Standing job b → (x : ℕ) → times x (without b.entered f) ≡ bit (ltb x (file_count job) && free (moved b.state f) x)
  left-standing e x = elim (ℕ_discrete x f) [
    | yes q ↦
        ap (λ (z : ℕ). times z (without b.entered f)) q ∙ left-gone b.entered f
        ∙ ap bit (sym (ap₂ ◌&&◌ (lt-ltb x (file_count job) (omega arith)) (ap (free (moved b.state f)) q ∙ lock-own)))
    | no n ↦ left-others b.entered f x n ∙ e x ∙ ap (λ (t : Bool). bit (ltb x (file_count job) && t)) (sym (lock-others x n))
  ]

  pub moved-standing : Standing job b → Standing job (moved_on job b f)
  unfolding moved_on
  moved-standing e =
      let d : Change = record { file = 0; by = pos 0 } in
      reenter-standing d (λ x. ltb x (file_count job) && free (moved b.state f) x) (changes_of (recipes job) b.state f) (without b.entered f)
      (λ i k. let q = changes-free most job s b.state f d i k in ap₂ ◌&&◌ (lt-ltb _ (file_count job) q.0) q.1)
      (left-standing e)

-- ---- whoever stands first entered last

pub start-latest : (job : Job) → Latest (entered_first job) (steps_by put [] (those (is_free job) (files job)))
unfolding entered_first
start-latest job = latest-all (those (is_free job) (files job)) [] [] (λ x y a b l. l)

moved-latest : (job : Job) (b : Buckets) (f : ℕ) (h : List ℕ) → Latest b.entered h → Latest (moved_on job b f).entered (steps_by put h (map (λ c. c.file) (changes_of (recipes job) b.state f)))
unfolding moved_on
moved-latest job b f h l =
    let xs : List ℕ = map (λ c. c.file) (changes_of (recipes job) b.state f) in
    subst (λ (fs : List ℕ). Latest fs (steps_by put h xs)) (sym (changed-enter (changes_of (recipes job) b.state f) (without b.entered f)))
    (latest-all xs (without b.entered f) h (latest-left b.entered h f l))

after-latest : (job : Job) (b : Buckets) (ms h : List ℕ) → Latest b.entered h → Latest (steps_by (moved_on job) b ms).entered (steps_by put h (entries job b.state ms))
unfolding steps_by entries moved_on
after-latest job b [] h l = l
after-latest job b (f ∷ ms) h l =
    let xs : List ℕ = map (λ c. c.file) (changes_of (recipes job) b.state f) in
    subst (λ (g : List ℕ). Latest (steps_by (moved_on job) (moved_on job b f) ms).entered g)
    (sym (steps-append put h xs (entries job (moved b.state f) ms)))
    (after-latest job (moved_on job b f) ms (steps_by put h xs) (moved-latest job b f h l))

pub moves-latest : (job : Job) (sides ms : List ℕ) (k : ℕ) → Latest (buckets_at job sides ms k).entered (steps_by put [] (entries_to job sides ms k))
moves-latest job sides ms k =
    let xs : List ℕ = those (is_free job) (files job) in
    subst (λ (g : List ℕ). Latest (buckets_at job sides ms k).entered g) (sym (steps-append put [] xs (entries job (start job sides) (take k ms))))
    (after-latest job (start_buckets job sides) (take k ms) (steps_by put [] xs) (start-latest job))

-- ---- a file that no scan of a move changes keeps its gain

changed-others : (cs : List Change) (g : List ℤ) (x : ℕ) → times x (map (λ c. c.file) cs) ≡ 0 → get_or (steps_by changed g cs) x (pos 0) ≡ get_or g x (pos 0)
unfolding steps_by
changed-others [] g x h = refl
changed-others (c ∷ cs) g x h =
    let q : bit (eqb c.file x) + times x (map (λ c. c.file) cs) ≡ 0 = unfold times count total in h in
    elim (ℕ_discrete x c.file) [
      | yes e ↦ absurd (omega (arith, hit-eq (sym e)))
      | no n ↦ changed-others cs (changed g c) x (omega arith) ∙ get_or-set_other g c.file x _ (pos 0) n
    ]

pub gain-unchanged : (rs : List (List ℕ)) (dis : Distinct rs) (st : State) (f x : ℕ) → Moves st (moved st f) f → lock_of (moved st f) x ≡ 0
    → times x (map (λ c. c.file) (changes_of rs st f)) ≡ 0 → gain (moved st f).sides rs x ≡ gain st.sides rs x
gain-unchanged rs dis st f x m l h =
    let g : List ℤ = start_gains rs (suc x) st in
    let long : length g ≡ suc x = unfold gains_after in length-tabled _ (suc x) in
    let fresh : get_or g x (pos 0) ≡ gain st.sides rs x = start-fresh rs dis (suc x) st x (omega arith) (was_free m x l) in
    sym (scanned-free rs dis st f m g x (omega arith) l fresh)
    ∙ ap (λ (z : List ℤ). get_or z x (pos 0)) ((scans-change rs (moved st f) (other (side_of st.sides f))).all (scans_of rs st f) g)
    ∙ changed-others (changes_of rs st f) g x h ∙ fresh
