-- After a move by edition 2 the links stand for the free files in the order in which they then entered. Assumes nothing.
use mathlib.Core.Path.{◌≡◌, refl, sym, ap, ap₂, subst, ◌∙◌}
use Prim.Native.Nat.{ℕ, suc, ◌+◌, ◌-◌, ◌≤◌, ◌<◌}
use mathlib.Core.Logic.{◌≢◌, inl, inr}
use mathlib.Core.Bool.{Bool, true, false, not}
use mathlib.Core.List.{List, [], ◌∷◌, ◌++◌, map, map-append, append-nil, append_assoc}
use native.Mathlib.Decide.{dec_lt}
use native.Mathlib.Omega.{arith}
use lib.ListN.{length, get_or, set, take, drop, length-append, length-map}
use lib.Seq.{take_at, drop_at, get_or-set_same}
use lib.Dec.{eqb}
use lib.IntN.{ℤ, pos}
use borrow.Author.Tests.{le-ltb, eq-eqb, ne_eqb, eqb-true, eqb-false}
use Rattle.rules.specs.Lists.{onto}
use Rattle.rules.specs.Job.{Job, file_count, recipe_count, pin_count, view_of, view, views, recipes, Lent, is_read}
use Rattle.rules.specs.Split.{other, side_of, gain}
use Rattle.rules.specs.Move.{State, free, lock_of, moved, Scan, scans_of, scans, Change, changes_by, changes_of, steps_by}
use Rattle.rules.specs.Fronts.{Buckets, start_buckets, without, reenters, moved_on}
use Rattle.rules.specs.Theorems.{scans_told}
use Rattle.rules.proofs.Tests.{clash}
use Rattle.rules.proofs.InTurn.{Every}
use Rattle.rules.proofs.Changes.{steps-append}
use Rattle.rules.proofs.GainKept.{told_more}
use Rattle.rules.proofs.NeverFree.{changes-whole, unread-locked}
use Rattle.rules.proofs.OneMove.{was_free}
use Rattle.rules.proofs.Count.{get_d-tabled, length-tabled}
use Rattle.rules.proofs.Entries.{get_d_past}
use Rattle.rules.proofs.SoundJob.{recipes-distinct}
use Rattle.rules.proofs.Steps.{scans-append}
use Rattle.rules.proofs.Entering.{changes-free, gain-unchanged}
use Rattle.buckets.specs.StandFor.{◌∈◌, StandFor}
use Rattle.buckets.proofs.Rows.{those-pass, pass-those}
use Rattle.choice.specs.declared.window.Window.{Window}
use Rattle.tables.specs.Zones.{state_in}
use Rattle.tables.specs.Ending.{turned}
use Rattle.split.specs.Moving.{Board}
use Rattle.split.specs.Links.{links_long, shape_of, links_in, touched_by, followed_by}
use Rattle.split.proofs.Going.{links_from, begins, made, stands, Line, Going}
use Rattle.split.proofs.ChoiceNow.{gains-long, gains-fresh}
use Rattle.split.proofs.NextMove.{Next, stands-long}
use Rattle.split.proofs.Played.{moves_of, line}
use Rattle.split.proofs.PassMoves.{pass_moves, buckets_now}
use Rattle.split.proofs.Choosing.{PassUnderway, now, good, seen, held-free}
use Rattle.split.proofs.LinksKept.{touched-told, out-times, standing-in, followed-stands}

-- what holds of each change holds of each file changed
in-every : (d : Change) (P : ℕ → Type 0) (cs : List Change) → Every d (λ c. P c.file) cs → (x : ℕ) → x ∈ map (λ c. c.file) cs → P x
unfolding ◌∈◌
in-every d P [] e x m = absurd m
in-every d P (c ∷ cs) e x (inl q) = subst P (sym q) (e 0 (omega arith))
in-every d P (c ∷ cs) e x (inr m) = in-every d P cs (λ i h. e (suc i) (omega arith)) x m

not_yes : (a : Bool) → not a ≡ true → a ≡ false
not_yes true h = clash (sym h)
not_yes false h = refl

-- beyond the end of a list
past_end : (xs : List (List ℕ)) (i : ℕ) → length xs ≤ i → get_or xs i [] ≡ []
past_end xs i h = ap (λ (l : List (List ℕ)). get_or l i []) (sym (append-nil xs)) ∙ get_d_past [] xs [] i h

-- the entries of a list behind those before
entries-behind : {A : Type 0} (xs ys old : List A) → take (length ys) (drop (length xs) (onto (xs ++ ys) old)) ≡ ys
unfolding onto
entries-behind xs ys old =
    ap (λ (z : List _). take (length ys) (drop (length xs) z)) (append_assoc xs ys (drop (length (xs ++ ys)) old))
    ∙ ap (take (length ys)) (drop_at xs (ys ++ drop (length (xs ++ ys)) old) (length xs) refl)
    ∙ take_at ys (drop (length (xs ++ ys)) old) (length ys) refl

-- one move more: its scans come behind those before
pub scans-next : {job : Job} {ms : List ℕ} {k f : ℕ} → Next job ms k f
    → scans (recipes job) (begins job) (made ms (suc k)) ≡ scans (recipes job) (begins job) (made ms k) ++ scans_of (recipes job) (stands job ms k) f
unfolding scans
scans-next {job} {ms} {k} {f} x =
    ap (scans (recipes job) (begins job)) x.more ∙ scans-append (recipes job) (begins job) (made ms k) (f ∷ [])
    ∙ ap (λ (y : List Scan). scans (recipes job) (begins job) (made ms k) ++ y) (append-nil (scans_of (recipes job) (stands job ms k) f))

module _ {edition : ℕ} {job : Job} {l : Lent} {w : Window} {b : Board} (u : PassUnderway edition job l w b) {f : ℕ} (x : Next job (pass_moves edition job) (moves_of b) f)
    {b' : Board} (g' : Going job (pass_moves edition job) l (suc (moves_of b)) b') (turns : b'.sides ≡ turned b.sides f)
    (same : links_in (file_count job) (recipe_count job) (pin_count job) b'.rest.scratch ≡ links_in (file_count job) (recipe_count job) (pin_count job) b.rest.scratch)
    (fits : links_from job + links_long (file_count job) (recipe_count job) ≤ length b'.rest.scratch) where
  abbrev ms : List ℕ
  ms = pass_moves edition job

  abbrev k : ℕ
  k = moves_of b

  abbrev c : ℕ
  c = file_count job

  abbrev n : ℕ
  n = recipe_count job

  abbrev p : ℕ
  p = pin_count job

  abbrev rs : List (List ℕ)
  rs = recipes job

  abbrev st : State
  st = stands job ms k

  abbrev v : Line job ms
  v = line u.under

  abbrev g : Going job ms l k b
  g = u.under.going

  abbrev t : ℕ
  t = other (side_of b.sides f)

  abbrev changes : List Change
  changes = changes_of rs st f

  -- the scans of the move, as the lists have them
  abbrev cs : List Scan
  cs = scans_of rs st f

  abbrev before : List Scan
  before = scans rs (begins job) (made ms k)

  from : b.rest.scanned.progress.scans ≡ length before
  from = g.progress.scanned

  to : b'.rest.scanned.progress.scans ≡ length before + length cs
  to = g'.progress.scanned ∙ ap length (scans-next x) ∙ length-append before cs

  abbrev listed : List ℕ → List ℕ
  listed zs = take (b'.rest.scanned.progress.scans - b.rest.scanned.progress.scans) (drop b.rest.scanned.progress.scans zs)

  read_back : (h : Scan → ℕ) (old zs : List ℕ) → zs ≡ onto (map h (scans rs (begins job) (made ms (suc k)))) old → listed zs ≡ map h cs
  read_back h old zs e =
      let d : length before + length cs - length before ≡ length (map h cs) = omega (arith, length-map cs h) in
      let a : length before ≡ length (map h before) = sym (length-map before h) in
      rw (from, to, d, a, e, scans-next x, map-append h before cs) (entries-behind (map h before) (map h cs) old)

  js-are : listed b'.rest.scanned.recipes ≡ map (λ s. s.recipe) cs
  js-are = read_back (λ s. s.recipe) l.recipes b'.rest.scanned.recipes g'.scanned_recipes

  ks-are : listed b'.rest.scanned.kinds ≡ map (λ s. s.kind) cs
  ks-are = read_back (λ s. s.kind) l.kinds b'.rest.scanned.kinds g'.scanned_kinds

  -- the state after the move, as the lists show it
  moved-is : state_in c (set b.sides f t) b'.rest.scratch ≡ moved st f
  unfolding moved
  moved-is =
      let a : set b.sides f t ≡ (moved st f).sides = sym turns ∙ g'.sides ∙ ap (λ (y : State). y.sides) x.then in
      let e : take c b'.rest.scratch ≡ (moved st f).locks = g'.locks ∙ ap (λ (y : State). y.locks) x.then in
      λ i. record { sides = a i; locks = e i }

  side-is : side_of (set b.sides f t) f ≡ other (side_of st.sides f)
  side-is =
      get_or-set_same b.sides f t 0 (omega (arith, x.below, ap length g.sides, (stands-long v k).sides))
      ∙ ap (λ (y : List ℕ). other (side_of y f)) g.sides

  unread-stays : (i : ℕ) → is_read job i ≡ false → free (moved st f) i ≡ false
  unread-stays i e = rw (← x.then) (unread-locked job job.sides (made ms (suc k)) i e)

  -- a recipe that there is not is empty
  sees : (j : ℕ) → view_of job.bounds job.pins j ≡ get_or (views job) j []
  unfolding views view_of
  sees j = elim (dec_lt j n) [
    | yes h ↦ sym (get_d-tabled (view job) n j [] h)
    | no h ↦ rw (le-ltb (suc j) (length job.bounds) (omega arith)) (sym (past_end (views job) j (omega (arith, length-tabled (view job) n))))
  ]

  told : touched_by (state_in c (set b.sides f t) b'.rest.scratch) (side_of (set b.sides f t) f) (view_of job.bounds job.pins) (listed b'.rest.scanned.recipes) (listed b'.rest.scanned.kinds)
      ≡ map (λ c. c.file) changes
  told =
      rw (moved-is, side-is, js-are, ks-are)
      (touched-told (moved st f) (other (side_of st.sides f)) (view_of job.bounds job.pins) (views job) (map (λ s. s.recipe) cs) (map (λ s. s.kind) cs)
      (length-map cs (λ s. s.recipe) ∙ sym (length-map cs (λ s. s.kind))) (λ i h. sees _)
      ∙ ap (λ (y : List Scan). map (λ c. c.file) (changes_by (views job) (moved st f) (other (side_of st.sides f)) y)) back
      ∙ ap (map (λ c. c.file)) (changes-whole job st (moved st f) unread-stays (other (side_of st.sides f)) f))
    where
      back : scans_told (map (λ s. s.recipe) cs) (map (λ s. s.kind) cs) ≡ cs
      back =
          ap₂ scans_told (sym (append-nil (map (λ s. s.recipe) cs))) (sym (append-nil (map (λ s. s.kind) cs)))
          ∙ told_more cs [] [] ∙ (unfold scans_told in append-nil cs)

  -- a file that is free after the move stands in the list without f
  stands-still : (y : ℕ) → (y < c) × (free (moved st f) y ≡ true) → y ∈ without (now u).entered f
  stands-still y h =
      let locked : lock_of (moved st f) y ≡ 0 = eqb-true (lock_of (moved st f) y) 0 h.1 in
      let was : lock_of st y ≡ 0 = was_free x.moves y locked in
      let other : y ≢ f = λ e. omega (arith, locked, x.moves.lock, ap (lock_of (moved st f)) e) in
      pass-those (λ g. not (eqb g f)) y (now u).entered (ap not (ne_eqb y f other))
      (standing-in job (now u) (good u).standing y h.0 (eq-eqb (lock_of (now u).state y) 0 (ap (λ (s : State). lock_of s y) (seen u) ∙ was)))

  held : f ∈ (now u).entered
  held = standing-in job (now u) (good u).standing f x.below (eq-eqb (lock_of (now u).state f) 0 (ap (λ (s : State). lock_of s f) (seen u) ∙ x.free))

  some : Change
  some = record { file = 0; by = pos 0 }

  changed-stand : (y : ℕ) → y ∈ map (λ c. c.file) changes → y ∈ without (now u).entered f
  changed-stand y m = stands-still y (in-every some (λ y. (y < c) × (free (moved st f) y ≡ true)) changes (changes-free v.most job v.sound st f some) y m)

  -- any other file has the gain it had
  others_keep : (y : ℕ) → y ∈ without (now u).entered f → ¬ (y ∈ map (λ c. c.file) changes) → get_or b'.rest.scanned.gains y (pos 0) ≡ get_or b.rest.scanned.gains y (pos 0)
  others_keep y m out =
      let q = those-pass (λ g. not (eqb g f)) y (now u).entered m in
      let h = held-free u y q.1 in
      let apart : y ≢ f = eqb-false y f (not_yes (eqb y f) q.0) in
      let still : lock_of (moved st f) y ≡ 0 = x.moves.locks y apart ∙ h.1 in
      ap (λ (z : List ℤ). get_or z y (pos 0)) g'.gains
      ∙ gains-fresh v (suc k) y (omega (arith, h.0, gains-long v (suc k))) (ap (λ (s : State). lock_of s y) x.then ∙ still)
      ∙ ap (λ (s : State). gain s.sides rs y) x.then
      ∙ gain-unchanged rs (recipes-distinct v.most job v.sound) st f y x.moves still (out-times y (map (λ c. c.file) changes) out)
      ∙ sym (gains-fresh v k y (omega (arith, h.0, gains-long v k)) h.1)
      ∙ sym (ap (λ (z : List ℤ). get_or z y (pos 0)) g.gains)

  -- the buckets one move further
  next-buckets : (buckets_now edition job (suc k)).entered ≡ steps_by reenters (without (now u).entered f) changes
  unfolding steps_by moved_on
  next-buckets =
      ap (λ (fs : List ℕ). (steps_by (moved_on job) (start_buckets job job.sides) fs).entered) x.more
      ∙ ap (λ (y : Buckets). y.entered) (steps-append (moved_on job) (start_buckets job job.sides) (made ms k) (f ∷ []))
      ∙ ap (λ (s : State). steps_by reenters (without (now u).entered f) (changes_of rs s f)) (seen u)

  pub follows : edition ≡ 2
      → StandFor (shape_of c n) b'.sides b'.rest.scanned.gains (buckets_now edition job (suc k)).entered
      (links_in c n p (followed_by edition c n p b'.rest.scanned.gains b'.sides (view_of job.bounds job.pins) (listed b'.rest.scanned.recipes) (listed b'.rest.scanned.kinds) f b'.rest.scratch))
  follows e =
      rw (next-buckets, turns)
      (followed-stands c n p b'.rest.scratch fits
      (subst (λ (y : List ℕ). StandFor (shape_of c n) b.sides b.rest.scanned.gains (now u).entered y) (sym same) (u.fronts e))
      f t held b'.rest.scanned.gains (omega (arith, ap length g'.gains, gains-long v (suc k))) (view_of job.bounds job.pins) (listed b'.rest.scanned.recipes) (listed b'.rest.scanned.kinds)
      changes told changed-stand others_keep edition e)
