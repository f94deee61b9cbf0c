-- The moves of the balancing, as its loop has them. It keeps no move lists: those that a pass would have are only spoken of. Assumes nothing.
use mathlib.Core.Path.{◌≡◌, refl, sym, ap, ap₂, subst, ◌∙◌}
use mathlib.Core.Logic.{◌≢◌}
use Prim.Native.Nat.{ℕ, suc, ◌+◌, ◌*◌, ◌≤◌, ◌<◌}
use mathlib.Core.Bool.{Bool, true, false, not, cond}
use mathlib.Core.List.{List, [], ◌++◌}
use mathlib.Core.Option.{Option, none, some}
use native.Mathlib.Omega.{arith}
use lib.Dec.{leb, ltb, eqb}
use lib.IntN.{ℤ, pos}
use lib.ListN.{length, get_or, take, set, replicate, length-replicate}
use lib.Seq.{take-length}
use borrow.Author.Tests.{leb-true, leb-false, le-leb, lt-leb, le-ltb, lt-ltb, eqb-true, eq-eqb}
use Rattle.rules.proofs.Tests.{and_yes}
use Rattle.rules.specs.declared.Verdict.{Verdict}
use Rattle.rules.specs.Numbers.{BalanceFigures}
use Rattle.rules.specs.Lists.{listed}
use Rattle.rules.specs.Job.{Job, Limits, file_count, recipe_count, pin_count, recipes, Lent, lent_of, scratch_for, fits}
use Rattle.rules.specs.Split.{side_of, on_side, size_of, cut, unread_files, unread_recipes, weight, tolerance, size_a}
use Rattle.rules.specs.Check.{done}
use Rattle.rules.specs.Move.{State, moved, distance, greater, first_below, after}
use Rattle.rules.specs.Balance.{too_large, too_small, heavy, balance_choice, balance_moves, balance_sides, balance_figures, no_balance_figures, balance_verdict, Balancing, balancing_of, balancing}
use Rattle.rules.specs.Theorems.{Binary, Sound}
use Rattle.rules.proofs.First.{first-ok}
use Rattle.rules.proofs.Fits.{long-enough}
use Rattle.rules.proofs.Verdicts.{zero_of}
use Rattle.job.specs.Survey.{Survey}
use Rattle.job.specs.Survey.{check_for}
use Rattle.rules.proofs.MovesEnd.{moves_each}
use Rattle.rules.proofs.Balance.{Toward, choice-stop, listed_same}
use Rattle.rules.proofs.Balancing.{toward-at, balance-holds, balance-answers}
use Rattle.tables.specs.Clearing.{cleared_in}
use Rattle.tables.specs.Ending.{turned}
use Rattle.tables.specs.declared.lent.ListLengths.{ListLengths}
use Rattle.tables.specs.LayingOut.{Prepared, LaysOut}
use Rattle.tables.specs.LentFits.{fits_of, WordOn}
use Rattle.tables.proofs.Filled.{cleared-front, cleared-in}
use Rattle.tables.proofs.LentWord.{word-late}
use Rattle.tables.proofs.Accepted.{Narrow}
use Rattle.choice.specs.declared.window.Window.{Window}
use Rattle.split.specs.declared.progress.Progress.{Progress}
use Rattle.split.specs.OwnLists.{OwnLists}
use Rattle.split.specs.Scanning.{Treated, treated}
use Rattle.choice.specs.Choosing.{file_or}
use Rattle.choice.specs.Heavy.{heavy_in, free_in, gain_in, greatest_in, greatest_file}
use Rattle.choice.proofs.Leading.{greatest-fit}
use Rattle.split.specs.Moving.{Board, board, begun, counted_on, treat_from, move_one}
use Rattle.split.specs.Movable.{Movable}
use Rattle.split.specs.Playing.{balanced_from, heavy_file}
use Rattle.split.proofs.Going.{begins, stands, Going}
use Rattle.split.proofs.Playable.{Playable, Measured, size_at_start, cut_at_start}
use Rattle.split.proofs.NextMove.{Picked, stands-binary}
use Rattle.split.proofs.ChoiceNow.{gains-long, gains-fresh}
use Rattle.split.proofs.LentLists.{listed-none}
use Rattle.split.proofs.MoveNow.{MoveFits}
use Rattle.split.proofs.OneMove.{steps-move}
use Rattle.split.proofs.PassOnce.{first_under}
use Rattle.split.proofs.Accepting.{Accepting, accepting, told}
use Rattle.split.proofs.Played.{moves_of, Underway, line, Chose, under-long, Choosable, choosable, playing-next, playing-safe, playing-fits, playing-more, playing-goes, playing-end}

-- ---- the side to move from

-- 2 where there is none
abbrev side_or : Option ℕ → ℕ
side_or none = 2
side_or (some u) = u

-- the two tests of the definition by the distance of the code
tests_agree : (x y z : ℕ) → side_or (cond (not (leb x (y + z))) (some 0) (cond (not (leb y (x + z))) (some 1) none)) ≡ cond (leb (distance x y) z) 2 (cond (ltb y x) 0 1)
tests_agree x y z = go (leb x (y + z)) (leb y (x + z)) refl refl
  where
    go : (a b : Bool) → leb x (y + z) ≡ a → leb y (x + z) ≡ b
        → side_or (cond (not a) (some 0) (cond (not b) (some 1) none)) ≡ cond (leb (distance x y) z) 2 (cond (ltb y x) 0 1)
    go true true p q = rw (le-leb (distance x y) z (omega (arith, leb-true x (y + z) p, leb-true y (x + z) q))) refl
    go true false p q =
        rw (lt-leb (distance x y) z (omega (arith, leb-false y (x + z) q)), le-ltb y x (omega (arith, leb-false y (x + z) q))) refl
    go false b p q =
        rw (lt-leb (distance x y) z (omega (arith, leb-false x (y + z) p)), lt-ltb y x (omega (arith, leb-false x (y + z) p))) refl

heavy-is : (job : Job) (w : Window) → Measured job w → (a : ℕ) → side_or (heavy job a) ≡ heavy_in w a
unfolding heavy too_large too_small
heavy-is job w m a = rw (m.den, m.aim, m.span) (tests_agree (job.den * a) (job.num * weight job) (job.den * tolerance job))

-- the side to move from is one of two
heavy_two : (job : Job) (a u : ℕ) → heavy job a ≡ some u → eqb u 2 ≡ false
unfolding heavy
heavy_two job a u = go (too_large job a) (too_small job a)
  where
    go : (x y : Bool) → cond x (some 0) (cond y (some 1) none) ≡ some u → eqb u 2 ≡ false
    go true y e = let is : 0 ≡ u = cc in rw (← is) refl
    go false true e = let is : 1 ≡ u = cc in rw (← is) refl
    go false false e = cc

-- ---- the choice by the lists

-- no file is on a third side
no_third : (sides locks : List ℕ) (gains : List ℤ) (n : ℕ) → Binary sides → greatest_in 2 sides locks gains n ≡ none
unfolding greatest_in
no_third sides locks gains n b = go (first_below (free_in 2 sides locks) (greater (gain_in gains)) n) refl
  where
    apart : (f : ℕ) → free_in 2 sides locks f ≡ true → ⊥
    apart f e = omega (arith, b f, eqb-true (side_of sides f) 2 (and_yes (eqb (get_or locks f 0) 0) (on_side sides 2 f) e).1)

    go : (o : Option ℕ) → first_below (free_in 2 sides locks) (greater (gain_in gains)) n ≡ o → o ≡ none
    go none e = refl
    go (some f) e = absurd (apart f (first-ok (free_in 2 sides locks) (greater (gain_in gains)) n f e).1)

-- ---- the moves

module _ (most : Limits) (job : Job) (s : Sound most job) (wide : 1 ≤ job.k) where
  each-picked : (k : ℕ) → k < length (balance_moves job) → balance_choice job (stands job (balance_moves job) k) ≡ some (get_or (balance_moves job) k 0)
  unfolding balance_moves
  each-picked k h = moves_each (balance_choice job) moved (file_count job) (begins job) k h

  balance-picked : Picked (λ k. balance_choice job (stands job (balance_moves job) k)) (balance_moves job)
  balance-picked = record { each = each-picked; ended = rw (take-length (balance_moves job)) (balance-holds most job s wide).ended }

-- they are underway, with some move lists
pub record BalanceUnderway (job : Job) (l : Lent) (w : Window) (sides : List ℕ) (y : Treated) : Type 0 where
  pub tried : List ℕ
  pub gained : List ℤ
  pub cuts : List ℕ
  pub ends : List ℕ
  pub under : Underway (scratch_for 1 job) job (balance_moves job) l w (record { sides = sides; tried = tried; gained = gained; cuts = cuts; ends = ends; rest = y })

pub balance-first : {job : Job} {l : Lent} {w : Window} {g : List ℤ} {z : List ℕ} {p : Progress} → Playable job l w
    → Prepared job.bounds job.pins job.sides job.marks l.scratch z g (recipe_count job)
    → p ≡ begun (size_at_start job) (cut_at_start job) → BalanceUnderway job l w job.sides (treated z g l.recipes l.kinds p)
balance-first {job} {l} y d e = record {
  tried = l.tried;
  gained = l.gained;
  cuts = l.cuts;
  ends = l.ends;
  under = first_under (balance-holds y.most job y.sound y.wide).frees y (omega arith) (long-enough 1 job l y.fitting).scratch d e;
}

module _ {job : Job} {l : Lent} {w : Window} {sides : List ℕ} {y : Treated} (u : BalanceUnderway job l w sides y) where
  abbrev ms : List ℕ
  ms = balance_moves job

  abbrev b : Board
  b = record { sides = sides; tried = u.tried; gained = u.gained; cuts = u.cuts; ends = u.ends; rest = y }

  abbrev k : ℕ
  k = moves_of b

  abbrev st : State
  st = stands job ms k

  abbrev c : ℕ
  c = file_count job

  abbrev g : Going job ms l k b
  g = u.under.going

  abbrev may : Playable job l w
  may = u.under.playable

  -- the choice where the side is known
  picks : (o : Option ℕ) → heavy job (size_a job st.sides) ≡ o
      → file_or c (greatest_in (side_or o) st.sides st.locks y.scanned.gains c) ≡ file_or c (balance_choice job st)
  unfolding greatest_in
  picks none e = ap (file_or c) (no_third st.sides st.locks y.scanned.gains c (stands-binary (line u.under) k) ∙ sym (choice-stop job st e))
  picks (some x) e =
      let way = toward-at may.most job may.sound may.wide k in
      let toward : Toward job x st = subst (λ (t : ℕ). Toward job t st) (sym (way.way x e)) way in
      ap (file_or c) (listed_same job x st y.scanned.gains toward e (ap length g.gains ∙ gains-long (line u.under) k) (rw g.gains (gains-fresh (line u.under) k)))

  module _ {side f : ℕ} (heavier : side ≡ heavy_in w y.scanned.progress.size)
      (greatest : f ≡ greatest_file side sides y.scratch y.scanned.gains) where
    side-is : side ≡ side_or (heavy job (size_a job st.sides))
    side-is = heavier ∙ ap (heavy_in w) g.progress.size ∙ sym (heavy-is job w may.measured (size_a job st.sides))

    file-is : f ≡ file_or c (balance_choice job st)
    file-is =
        let o : Choosable job b = choosable u.under in
        greatest
        ∙ greatest-fit side sides y.scratch y.scanned.gains (o.gains ∙ sym o.sides) (omega (arith, o.sides, o.locks))
        ∙ ap (λ (n : ℕ). file_or n (greatest_in side sides (take n y.scratch) y.scanned.gains n)) o.sides
        ∙ ap₂ (λ (x z : List ℕ). file_or c (greatest_in side x z y.scanned.gains c)) g.sides g.locks
        ∙ ap (λ (x : ℕ). file_or c (greatest_in x st.sides st.locks y.scanned.gains c)) side-is
        ∙ picks (heavy job (size_a job st.sides)) refl

  -- as src/ has it, which asks for a file only where there is a side
  side-now : heavy_in w y.scanned.progress.size ≡ side_or (heavy job (size_a job st.sides))
  side-now = ap (heavy_in w) g.progress.size ∙ sym (heavy-is job w may.measured (size_a job st.sides))

  picks-now : (o : Option ℕ) → heavy job (size_a job st.sides) ≡ o
      → cond (eqb (side_or o) 2) (length sides) (greatest_file (side_or o) sides y.scratch y.scanned.gains) ≡ file_or c (balance_choice job st)
  picks-now none e = (choosable u.under).sides ∙ ap (file_or c) (sym (choice-stop job st e))
  picks-now (some x) e =
      let heavier : x ≡ heavy_in w y.scanned.progress.size = sym (side-now ∙ ap side_or e) in
      rw (heavy_two job (size_a job st.sides) x e) (file-is heavier refl)

  module _ {f : ℕ} (picked : f ≡ heavy_file w y.scanned.progress.size sides y.scratch y.scanned.gains) where
    file-now : f ≡ file_or c (balance_choice job st)
    file-now =
        picked
        ∙ ap (λ (side : ℕ). cond (eqb side 2) (length sides) (greatest_file side sides y.scratch y.scanned.gains)) side-now
        ∙ picks-now (heavy job (size_a job st.sides)) refl

    chose : Chose job ms b f
    chose = record { pick = λ i. balance_choice job (stands job ms i); picked = balance-picked may.most job may.sound may.wide; file = file-now }

    -- a file: it is moved
    module _ (is : f < length sides) where
      h : f < c
      h = omega (arith, is, (choosable u.under).sides)

      pub balance-safe : Movable job.sizes job.bounds job.pins f sides y
      balance-safe = playing-safe u.under chose h

      pub balance-fits : MoveFits job.sizes job.bounds job.pins f b
      balance-fits = playing-fits u.under chose h

      pub balance-early : k < c
      balance-early = (playing-next u.under chose h).early

      module _ {sides' : List ℕ} {y' : Treated} {r : Progress} (d : sides' ≡ turned sides f) (e : y' ≡ treat_from job.sizes job.bounds job.pins f sides y)
          (q : r ≡ counted_on y'.scanned.progress) where
        then : board sides' (set u.tried k f) (set u.gained k (get_or y.scanned.gains f (pos 0))) (set u.cuts k y'.scanned.progress.cut) (set u.ends k y'.scanned.progress.scans)
            y'.scratch y'.scanned.gains y'.scanned.recipes y'.scanned.kinds r ≡ move_one job.sizes job.bounds job.pins f b
        then = steps-move job.sizes job.bounds job.pins f b d refl e q

        pub balance-more : r.moves ≡ suc k
        balance-more = playing-more u.under chose h then

        pub balance-goes : BalanceUnderway job l w sides' (treated y'.scratch y'.scanned.gains y'.scanned.recipes y'.scanned.kinds r)
        balance-goes = record {
          tried = set u.tried k f;
          gained = set u.gained k (get_or y.scanned.gains f (pos 0));
          cuts = set u.cuts k y'.scanned.progress.cut;
          ends = set u.ends k y'.scanned.progress.scans;
          under = playing-goes u.under chose h then;
        }

    -- none: the moves have ended
    module _ (none_is : f ≡ length sides) where
      over : Going job ms l (length ms) b
      over = playing-end u.under chose (omega (arith, none_is, (choosable u.under).sides))

      all_made : stands job ms (length ms) ≡ after (begins job) ms
      all_made = ap (after (begins job)) (take-length ms)

      pub balance-ends : {r : BalanceFigures} {z : List ℕ} {unread holding numbers : ℕ} → (unread ≡ unread_files job) × (holding ≡ unread_recipes job)
          → r ≡ balanced_from unread holding y.scanned.progress → numbers ≡ scratch_for 1 job
          → z ≡ cleared_in 0 numbers 0 y.scratch
          → balancing_of r sides z ≡ balancing_of (balance_figures job done) (balance_sides job) (listed (scratch_for 1 job) 0 [] l.scratch)
      unfolding balance_figures
      balance-ends {r} {z} un told n e =
          let long : scratch_for 1 job ≤ length y.scratch = omega (arith, (under-long u.under).scratch, (long-enough 1 job l may.fitting).scratch) in
          let scratch = e ∙ ap (λ (i : ℕ). cleared_in 0 i 0 y.scratch) n
          ∙ cleared-in 0 (scratch_for 1 job) 0 y.scratch (omega arith) long
          ∙ cleared-front 0 (scratch_for 1 job) y.scratch
          ∙ ap (λ (x : List ℕ). replicate (scratch_for 1 job) 0 ++ x) u.under.beyond
          ∙ listed-none (scratch_for 1 job) 0 l.scratch in
          let cuts = over.progress.cut_now ∙ ap (λ (x : State). cut x.sides (recipes job)) all_made in
          let sizes = over.progress.size ∙ ap (λ (x : State). size_a job x.sides) all_made in
          λ i. record {
            answer = (told ∙ λ j. record { verdict = done; moves = over.progress.moves j; cut = cuts j; size = sizes j; unread = un.0 j; holding = un.1 j }) i;
            sides = (over.sides ∙ ap (λ (x : State). x.sides) all_made) i;
            scratch = scratch i;
          }

-- ---- the lists of its own

-- with move lists that are only spoken of
abbrev pub own_lent : ℕ → List ℤ → List ℕ → List ℕ → List ℕ → Lent
own_lent c gains rs kinds scratch = lent_of gains (replicate c 0) (replicate c (pos 0)) (replicate c 0) (replicate c 0) rs kinds scratch

module _ (most : Limits) (job : Job) (gains : List ℤ) (rs kinds scratch : List ℕ)
    (own : OwnLists most.files most.recipes (file_count job) (length gains) (length rs) (length kinds)) where
  abbrev l : Lent
  l = own_lent (file_count job) gains rs kinds scratch

  -- they fit a job within its most, so that only the scratch is asked
  own-fit : WordOn most.files most.recipes most.pins (file_count job) (recipe_count job) (pin_count job) (fits 1 job l) (leb (scratch_for 1 job) (length scratch))
  own-fit h n p =
      let c = file_count job in
      rw (
        length-replicate {A = ℕ} c 0,
        length-replicate c (pos 0),
        eq-eqb (length gains) c (own.each h),
        le-leb c c (omega arith),
        le-leb (4 * recipe_count job) (length rs) (omega (arith, own.room)),
        le-leb (4 * recipe_count job) (length kinds) (omega (arith, own.room)),
      )
      refl

  verdict-same : check_for true most job (fits 1 job l) ≡ balance_verdict most job scratch
  verdict-same = word-late true most job (fits 1 job l) (leb (scratch_for 1 job) (length scratch)) own-fit

  -- of the move lists only the lengths are told
  abbrev pub own_lengths : ListLengths
  own_lengths = record { tried = file_count job; gained = file_count job; cuts = file_count job; ends = file_count job; recipes = length rs; kinds = length kinds }

  own-word : fits_of 1 (file_count job) (recipe_count job) (pin_count job) (length gains) (length scratch) own_lengths ≡ fits 1 job l
  own-word = rw (length-replicate {A = ℕ} (file_count job) 0, length-replicate (file_count job) (pos 0)) refl

  pub own-accepting : {g : List ℤ} {z : List ℕ} {s : Survey}
      → LaysOut true most job (fits_of 1 (file_count job) (recipe_count job) (pin_count job) (length gains) (length scratch) own_lengths) gains scratch g z s
      → Narrow most → ((i : ℕ) → size_of job i < 65536) → Accepting 1 true most job l g z s
  own-accepting {g} {z} {s} lays n h = accepting 1 true most job l (subst (λ (word : Bool). LaysOut true most job word gains scratch g z s) own-word lays) n h

  module _ {g : List ℤ} {z : List ℕ} {s : Survey} (a : Accepting 1 true most job l g z s) where
    told-so : s.verdict ≡ balance_verdict most job scratch
    told-so = told a ∙ verdict-same

    pub balance-refused : {r : BalanceFigures} → s.verdict.number ≢ 0 → r ≡ no_balance_figures s.verdict → balancing_of r job.sides z ≡ balancing most job scratch
    balance-refused n e =
        rw ((a.lays.refused n).1, e, told-so) (sym ((balance-answers most job scratch).refused (λ q. n (ap (λ (v : Verdict). v.number) told-so ∙ q))))

    pub balance-done : {x : Balancing} → s.verdict.number ≡ 0
        → x ≡ balancing_of (balance_figures job done) (balance_sides job) (listed (scratch_for 1 job) 0 [] scratch) → x ≡ balancing most job scratch
    balance-done d e = e ∙ sym ((balance-answers most job scratch).made (zero_of told-so d))
