-- A pass by an edition, between two moves; what it chooses by its lists is what the edition chooses there. Assumes nothing.
use mathlib.Core.Path.{◌≡◌, refl, sym, ap, ap₂, subst, ◌∙◌}
use Prim.Native.Nat.{ℕ, ◌<◌}
use mathlib.Core.Bool.{Bool, true, false, cond, ◌&&◌}
use mathlib.Core.List.{List}
use mathlib.Core.Option.{Option, none, some}
use native.Mathlib.Omega.{arith}
use lib.ListN.{get_or}
use lib.Dec.{leb, eqb}
use lib.IntN.{ℤ, pos}
use borrow.Author.Tests.{eq-eqb, eqb-true}
use Rattle.rules.specs.Job.{Job, file_count, recipe_count, pin_count, recipes, Lent, scratch_for}
use Rattle.rules.specs.Split.{gain, size_a}
use Rattle.rules.specs.Move.{State, lock_of, legal, dist_after, choose}
use Rattle.rules.specs.Fronts.{Buckets, gain_in, front_of, choose_front}
use Rattle.rules.proofs.Proved.{given-sides}
use Rattle.rules.proofs.FrontsProved.{Good, good-at, gain-within, standing-free, buckets-hold}
use Rattle.choice.specs.declared.window.Window.{Window}
use Rattle.choice.specs.declared.edition1.Best.{Best}
use Rattle.choice.specs.Choosing.{file_or, dist_in}
use Rattle.choice.specs.Best.{best_of, choice_in}
use Rattle.choice.proofs.FilesPassed.{choice-fit}
use Rattle.buckets.specs.Offers.{Chosen as Picks, chosen_front}
use Rattle.buckets.specs.StandFor.{◌∈◌, StandFor}
use Rattle.buckets.proofs.Calls.{in-times, answers-chosen}
use Rattle.buckets.proofs.Found.{Known}
use Rattle.split.specs.Moving.{Board}
use Rattle.split.specs.Links.{shape_of, links_in, with_links, Picked, picked_is, picked_by}
use Rattle.split.proofs.Playable.{Playable}
use Rattle.split.proofs.Going.{stands, Line, Going}
use Rattle.split.proofs.ChoiceNow.{gains-long, gains-fresh, dist_same, legal-same, choice-now}
use Rattle.split.proofs.Played.{moves_of, Underway, line, Chose, Choosable, choosable}
use Rattle.split.proofs.PassMoves.{pass_moves, buckets_now, pick_at, pass-picked}

-- between two moves: by edition 2 the links stand for the free files in the order in which they entered
pub record PassUnderway (edition : ℕ) (job : Job) (l : Lent) (w : Window) (b : Board) : Type 0 where
  pub under : Underway (scratch_for edition job) job (pass_moves edition job) l w b
  pub fronts : edition ≡ 2 → StandFor (shape_of (file_count job) (recipe_count job)) b.sides b.rest.scanned.gains
      (buckets_now edition job (moves_of b)).entered (links_in (file_count job) (recipe_count job) (pin_count job) b.rest.scratch)

-- what is kept has the file's number and gain
kept-file : (gain : ℕ → ℤ) (dist : ℕ → ℕ) (n : ℕ) (o : Option ℕ) → (best_of gain dist n o).file ≡ file_or n o
kept-file gain dist n none = refl
kept-file gain dist n (some f) = refl

kept-gain : (gain : ℕ → ℤ) (dist : ℕ → ℕ) (n : ℕ) (o : Option ℕ) → (best_of gain dist n o).file < n → (best_of gain dist n o).gain ≡ gain (best_of gain dist n o).file
kept-gain gain dist n none h = absurd (omega arith)
kept-gain gain dist n (some f) h = refl

module _ {edition : ℕ} {job : Job} {l : Lent} {w : Window} {b : Board} (u : PassUnderway edition job l w b) where
  abbrev ms : List ℕ
  ms = pass_moves edition job

  abbrev k : ℕ
  k = moves_of b

  abbrev c : ℕ
  c = file_count job

  abbrev y : Playable job l w
  y = u.under.playable

  abbrev v : Line job ms
  v = line u.under

  abbrev g : Going job ms l k b
  g = u.under.going

  abbrev size : ℕ
  size = b.rest.scanned.progress.size

  abbrev gains : List ℤ
  gains = b.rest.scanned.gains

  -- as the code keeps it
  abbrev best_from : Option ℕ → Best
  best_from o = best_of (λ f. get_or gains f (pos 0)) (dist_in w size job.sizes b.sides) c o

  -- edition 1's walk
  first-best : choice_in w size job.sizes b.sides b.rest.scratch gains ≡ best_from (choose job (stands job ms k))
  first-best =
      let o : Choosable job b = choosable u.under in
      choice-fit w size job.sizes b.sides b.rest.scratch gains o.sides o.gains o.locks
      ∙ ap best_from (choice-now v k w y.measured.den y.measured.aim y.measured.span g)

  -- ---- edition 2's fronts

  abbrev pub now : Buckets
  now = buckets_now edition job k

  pub good : Good job now
  good = good-at y.most job y.sound job.sides ms (given-sides y.most job y.sound) u.under.frees k

  -- the buckets are those of the state
  pub seen : now.state ≡ stands job ms k
  seen = (buckets-hold y.most job y.sound job.sides ms (given-sides y.most job y.sound) u.under.frees).seen k

  pub held-free : (f : ℕ) → f ∈ now.entered → (f < c) × (lock_of (stands job ms k) f ≡ 0)
  held-free f m =
      let q = standing-free job now good.standing f (in-times f now.entered m) in
      (q.0, ap (λ (st : State). lock_of st f) (sym seen) ∙ eqb-true (lock_of now.state f) 0 q.1)

  same-sides : b.sides ≡ now.state.sides
  same-sides = g.sides ∙ ap (λ (st : State). st.sides) (sym seen)

  pub known : Known (shape_of c (recipe_count job)) now.state.sides gains now.entered (gain_in job now)
  known = record {
    sided = λ f m. good.binary f;
    listed = λ f m.
        let h = held-free f m in
        ap (λ (x : List ℤ). get_or x f (pos 0)) g.gains
        ∙ gains-fresh v k f (omega (arith, h.0, gains-long v k)) h.1
        ∙ ap (λ (st : State). gain st.sides (recipes job) f) (sym seen);
    within = λ f m. gain-within y.most job y.sound now f;
  }

  near-now : (f : ℕ) → f ∈ now.entered → dist_in w size job.sizes now.state.sides f ≡ dist_after job now.state f
  near-now f m =
      let h = held-free f m in
      ap₂ (λ (a : ℕ) (st : State). dist_in w a job.sizes st.sides f) g.progress.size seen
      ∙ dist_same v k w y.measured.den y.measured.aim y.measured.span f h.0 h.1
      ∙ ap (λ (st : State). dist_after job st f) (sym seen)

  legal-now : (f : ℕ) → f ∈ now.entered → legal job now.state f ≡ leb (dist_after job now.state f) w.span
  legal-now f m =
      let h = held-free f m in
      let st : State = stands job ms k in
      ap (λ (x : State). legal job x f) seen
      ∙ sym (legal-same v k w y.measured.den y.measured.aim y.measured.span f h.0)
      ∙ ap (λ (t : Bool). t && leb (dist_in w (size_a job st.sides) job.sizes st.sides f) w.span) (eq-eqb (lock_of st f) 0 h.1)
      ∙ ap (λ (d : ℕ). leb d w.span) (dist_same v k w y.measured.den y.measured.aim y.measured.span f h.0 h.1)
      ∙ ap (λ (x : State). leb (dist_after job x f) w.span) (sym seen)

  abbrev links : List ℕ
  links = links_in c (recipe_count job) (pin_count job) b.rest.scratch

  -- what its code answers, and the links that it leaves
  abbrev fronted : Picks
  fronted = chosen_front (shape_of c (recipe_count job)) w size job.sizes b.sides gains links

  fronts-best : edition ≡ 2 → fronted.best ≡ best_from (choose_front job now)
  unfolding choose_front front_of
  fronts-best e =
      let s : StandFor (shape_of c (recipe_count job)) now.state.sides gains now.entered links
      = subst (λ (x : List ℕ). StandFor (shape_of c (recipe_count job)) x gains now.entered links) same-sides (u.fronts e) in
      subst (λ (x : List ℕ). (chosen_front (shape_of c (recipe_count job)) w size job.sizes x gains links).best ≡ best_of (λ f. get_or gains f (pos 0)) (dist_in w size job.sizes x) c (choose_front job now)) (sym same-sides)
      (answers-chosen s w size job.sizes (gain_in job now) (dist_after job now.state) (legal job now.state) known near-now legal-now)

  -- ---- by edition

  module _ {best : Best} {z : List ℕ}
      (answered : picked_is best z ≡ picked_by edition c (recipe_count job) (pin_count job) w size job.sizes b.sides gains b.rest.scratch) where
    best-is : best ≡ best_from (pick_at edition job k)
    unfolding picked_by
    best-is = ap (λ (x : Picked). x.best) answered ∙ go (eqb edition 2) (eqb-true edition 2)
      where
        go : (t : Bool) → (t ≡ true → edition ≡ 2)
            → (cond t (picked_is fronted.best (with_links c (recipe_count job) (pin_count job) b.rest.scratch fronted.links))
            (picked_is (choice_in w size job.sizes b.sides b.rest.scratch gains) b.rest.scratch)).best
            ≡ best_from (cond t (choose_front job now) (choose job (stands job ms k)))
        go true h = fronts-best (h refl)
        go false h = first-best

    pub pass-chose : Chose job ms b best.file
    pass-chose = record {
      pick = pick_at edition job;
      picked = pass-picked y.most job y.sound edition;
      file = ap (λ (x : Best). x.file) best-is ∙ kept-file _ _ c (pick_at edition job k);
    }

    pub pass-gain : best.file < c → best.gain ≡ get_or gains best.file (pos 0)
    pass-gain = subst (λ (x : Best). x.file < c → x.gain ≡ get_or gains x.file (pos 0)) (sym best-is) (kept-gain _ _ c (pick_at edition job k))

    -- the scratch that is left: by edition 2 the tops came down
    pub picked-scratch : z ≡ cond (eqb edition 2) (with_links c (recipe_count job) (pin_count job) b.rest.scratch fronted.links) b.rest.scratch
    unfolding picked_by
    picked-scratch = ap (λ (x : Picked). x.scratch) answered ∙ go (eqb edition 2)
      where
        go : (t : Bool)
            → (cond t (picked_is fronted.best (with_links c (recipe_count job) (pin_count job) b.rest.scratch fronted.links))
            (picked_is (choice_in w size job.sizes b.sides b.rest.scratch gains) b.rest.scratch)).scratch
            ≡ cond t (with_links c (recipe_count job) (pin_count job) b.rest.scratch fronted.links) b.rest.scratch
        go true = refl
        go false = refl
