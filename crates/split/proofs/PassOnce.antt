-- One pass, put together from what its steps answer. Assumes nothing.
use mathlib.Core.Path.{◌≡◌, refl, sym, ap, subst, ◌∙◌}
use Prim.Native.Nat.{ℕ, ◌-◌, ◌*◌, ◌≤◌, ◌<◌}
use mathlib.Core.List.{List, ◌++◌}
use native.Mathlib.Nat.{add-zero}
use native.Mathlib.Omega.{arith}
use lib.ListN.{length, replicate}
use lib.IntN.{ℤ, pos}
use Rattle.rules.specs.Numbers.{Figures}
use Rattle.rules.specs.Lists.{total}
use Rattle.rules.specs.Job.{Job, Limits, file_count, recipe_count, pin_count, views, read_in, recipes, Lent, lent_of, scratch_numbers, scratch_for}
use Rattle.rules.specs.Split.{unread_files, unread_recipes}
use Rattle.rules.specs.Check.{done}
use Rattle.rules.specs.Move.{Frees}
use Rattle.rules.specs.Pass.{Pass, leaves}
use Rattle.rules.specs.Fronts.{tries_by}
use Rattle.rules.specs.Run.{ended_of, last_of, first_pass, figures_of}
use Rattle.rules.specs.Theorems.{Sound}
use Rattle.rules.proofs.Fits.{LongEnough, long-enough}
use Rattle.rules.proofs.Runs.{pass-from, pass-unread}
use Rattle.tables.specs.declared.zones.Extent.{Extent}
use Rattle.tables.specs.Zones.{extent_of}
use Rattle.tables.specs.Clearing.{cleared_in}
use Rattle.tables.specs.Ending.{back_to}
use Rattle.tables.specs.LayingOut.{Prepared}
use Rattle.tables.proofs.Filled.{cleared-front, cleared-in}
use Rattle.choice.specs.declared.window.Window.{Window}
use Rattle.split.specs.declared.progress.Progress.{Progress}
use Rattle.split.specs.Moving.{Board, board, begun}
use Rattle.split.specs.Playing.{pass_left, figures_from}
use Rattle.split.proofs.Going.{links_from, begins, Line, Going, beyond-more}
use Rattle.split.proofs.LentLists.{listed-none}
use Rattle.split.proofs.Treats.{Begun}
use Rattle.split.proofs.Playable.{Playable, size_at_start, cut_at_start}
use Rattle.split.proofs.Bounds.{BoardLong, board-long}
use Rattle.split.proofs.FirstMove.{goes_first}
use Rattle.split.proofs.LastMove.{Finished, finished}
use Rattle.split.proofs.Played.{Underway}
use Rattle.split.proofs.PassMoves.{pass_moves}

-- ---- before the first move

-- the gains and the scratch are prepared, the other lists as lent
abbrev pub board_on : Job → Lent → List ℤ → List ℕ → Progress → Board
board_on job l g z p = board job.sides l.tried l.gained l.cuts l.ends z g l.recipes l.kinds p

-- what is prepared stands before the first move; l has the lists as lent, which need not be the prepared gains and scratch
begins-here : (most : Limits) (job : Job) → Sound most job → (l : Lent) (g : List ℤ) (z : List ℕ)
    → Prepared job.bounds job.pins job.sides job.marks l.scratch z g (recipe_count job)
    → Begun job l (board_on job l g z (begun (size_at_start job) (cut_at_start job)))
unfolding recipes views read_in
begins-here most job s l g z d =
    let e : length job.sides ≡ file_count job = s.sides_long in
    record {
      sides = refl;
      locks = rw (← e) d.locks;
      cells = rw (← e) d.cells;
      counts = rw (← e) d.counts;
      long = d.long;
      gains = rw (← e) d.starting;
      tried = refl;
      gained = refl;
      cuts = refl;
      scans_so_far = refl;
      scanned_recipes = refl;
      scanned_kinds = refl;
      progress = refl;
    }

pub first_under : {n : ℕ} {job : Job} {ms : List ℕ} → Frees (begins job) ms → {l : Lent} {w : Window} {g : List ℤ} {z : List ℕ} {p : Progress} → Playable job l w
    → links_from job ≤ n → n ≤ length l.scratch
    → Prepared job.bounds job.pins job.sides job.marks l.scratch z g (recipe_count job)
    → p ≡ begun (size_at_start job) (cut_at_start job) → Underway n job ms l w (board_on job l g z p)
first_under {n} {job} {ms} frees {l} {w} {g} {z} y h k d e =
    subst (λ (q : Progress). Underway n job ms l w (board_on job l g z q)) (sym e)
    (record {
      playable = y;
      frees = frees;
      going = goes_first (begins-here y.most job y.sound l g z d);
      counts = h;
      enough = k;
      beyond = beyond-more job n z l.scratch h (rw y.sound.sides_long at d.beyond);
    })

-- ---- after the last

-- there are few files, bounds and pins
pub few-numbers : {job : Job} {l : Lent} {w : Window} → Playable job l w → (file_count job < 65536) × (length job.bounds < 65536) × (pin_count job < 65536)
few-numbers y = (y.small.files, y.small.bounds, omega (arith, y.small.pins))

-- how far the scan lists and the scratch end in zeros, by the job's extent
pub extent-known : (edition : ℕ) {e : Extent} {c n p : ℕ} → e ≡ extent_of c n p → (4 * e.recipes ≡ 4 * n) × (scratch_numbers edition e.pins e.files e.recipes ≡ scratch_numbers edition p c n)
extent-known edition q = (ap (λ (e : Extent). 4 * e.recipes) q, ap (λ (e : Extent). scratch_numbers edition e.pins e.files e.recipes) q)

module _ (edition : ℕ) {job : Job} {l : Lent} {w : Window} {b : Board} (u : Underway (scratch_for edition job) job (pass_moves edition job) l w b)
    (going : Going job (pass_moves edition job) l (length (pass_moves edition job)) b) where
  abbrev y : Playable job l w
  y = u.playable

  abbrev q : Progress
  q = b.rest.scanned.progress

  abbrev line : Line job (pass_moves edition job)
  line = record { most = y.most; sound = y.sound; frees = u.frees }

  ended : Finished edition job (pass_moves edition job) l b
  ended = finished line going refl edition

  -- what the pass leaves; scans and numbers as the code has them
  pub pass-ends : {before unread holding scans numbers : ℕ} {r : Figures} {sides tried : List ℕ} {gained : List ℤ} {cuts ends rs kinds scratch : List ℕ}
      → before ≡ cut_at_start job
      → (unread ≡ unread_files job) × (holding ≡ unread_recipes job)
      → r ≡ figures_from before unread holding q
      → (sides ≡ back_to b.tried q.best (q.moves - q.best) b.sides)
      × (tried ≡ cleared_in q.moves (file_count job) 0 b.tried)
      × (gained ≡ cleared_in q.moves (file_count job) (pos 0) b.gained)
      × (cuts ≡ cleared_in q.moves (file_count job) 0 b.cuts)
      × (ends ≡ cleared_in q.moves (file_count job) 0 b.ends)
      → (scans ≡ 4 * recipe_count job) × (numbers ≡ scratch_for edition job)
      → (rs ≡ cleared_in q.scans scans 0 b.rest.scanned.recipes)
      × (kinds ≡ cleared_in q.scans scans 0 b.rest.scanned.kinds)
      × (scratch ≡ cleared_in 0 numbers 0 b.rest.scratch)
      → ended_of r sides (lent_of b.rest.scanned.gains tried gained cuts ends rs kinds scratch) ≡ pass_left edition job l
  unfolding figures_of last_of total leaves
  pass-ends {scans = scans} {numbers = numbers} be un told m ro s =
      let p : Pass = first_pass edition job in
      let c : ℕ = file_count job in
      let d : Finished edition job (pass_moves edition job) l b = ended in
      let o : LongEnough 1 job l = long-enough 1 job l y.fitting in
      let long : BoardLong job l b = board-long line y.fitting going in
      let early : q.moves ≤ c = d.early in
      let back = m.0 ∙ d.back in
      let tr = m.1 ∙ cleared-in q.moves c 0 b.tried early (omega (arith, long.tried, o.tried)) ∙ d.tried in
      let ga = m.2 ∙ cleared-in q.moves c (pos 0) b.gained early (omega (arith, long.gained, o.gained)) ∙ d.gained in
      let cu = m.3 ∙ cleared-in q.moves c 0 b.cuts early (omega (arith, long.cuts, o.cuts)) ∙ d.cuts in
      let en = m.4 ∙ cleared-in q.moves c 0 b.ends early (omega (arith, long.scans_so_far, o.scans_so_far)) ∙ d.scans_so_far in
      let re = s.0 ∙ ap (λ (i : ℕ). cleared_in q.scans i 0 b.rest.scanned.recipes) ro.0
      ∙ cleared-in q.scans (4 * recipe_count job) 0 b.rest.scanned.recipes d.few (omega (arith, long.scanned_recipes, o.scanned_recipes)) ∙ d.scanned_recipes in
      let ki = s.1 ∙ ap (λ (i : ℕ). cleared_in q.scans i 0 b.rest.scanned.kinds) ro.0
      ∙ cleared-in q.scans (4 * recipe_count job) 0 b.rest.scanned.kinds d.few (omega (arith, long.scanned_kinds, o.scanned_kinds)) ∙ d.scanned_kinds in
      let sc = s.2 ∙ ap (λ (i : ℕ). cleared_in 0 i 0 b.rest.scratch) ro.1
      ∙ cleared-in 0 (scratch_for edition job) 0 b.rest.scratch (omega arith) (omega (arith, long.scratch, u.enough))
      ∙ cleared-front 0 (scratch_for edition job) b.rest.scratch
      ∙ ap (λ (x : List ℕ). replicate (scratch_for edition job) 0 ++ x) u.beyond
      ∙ listed-none (scratch_for edition job) 0 l.scratch in
      λ i. record {
        answer = (told ∙ λ j. record {
          verdict = done;
          before = (be ∙ sym (pass-from job (tries_by edition job) job.sides)) j;
          cut = d.least j;
          size = d.size j;
          tried = (d.moves ∙ sym (add-zero (length p.tried))) j;
          kept = (d.best ∙ sym (add-zero p.kept)) j;
          scans = (d.scanned ∙ sym (add-zero (length p.scanned))) j;
          visits = (d.visited ∙ sym (add-zero p.visited)) j;
          unread = (un.0 ∙ sym (pass-unread job (tries_by edition job) job.sides).0) j;
          holding = (un.1 ∙ sym (pass-unread job (tries_by edition job) job.sides).1) j;
        }) i;
        sides = back i;
        lent = record {
          gains = d.gains i;
          tried = tr i;
          gained = ga i;
          cuts = cu i;
          ends = en i;
          recipes = re i;
          kinds = ki i;
          scratch = sc i;
        };
      }
