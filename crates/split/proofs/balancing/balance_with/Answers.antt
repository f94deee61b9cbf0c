-- The answer of the check decides: refused, nothing changes; let through, the moves are made one after the other and the scratch is ended.
-- Assumes nothing.
use mathlib.Core.Path.{refl, ap}
use Prim.Native.Nat.{ℕ, ◌<◌}
use mathlib.Core.Bool.{true}
use mathlib.Core.List.{List}
use lib.IntN.{ℤ}
use lib.ListN.{length, get_or}
use Rattle.rules.specs.Cases.{as_balance_figures}
use Rattle.rules.specs.Job.{Job, file_count, recipe_count, pin_count}
use Rattle.rules.proofs.Exits.{exit-is, not-done}
use Rattle.job.specs.declared.TheConstants.Job.{MOST_FILES, MOST_RECIPES}
use Rattle.job.specs.declared.lent.Scans.{Scans}
use Rattle.job.specs.Survey.{Survey}
use Rattle.job.specs.Given.{the_limits, the_job}
use Rattle.tables.specs.LayingOut.{LaysOut}
use Rattle.tables.proofs.Accepted.{narrow}
use Rattle.tables.specs.LentFits.{fits_of}
use Rattle.split.specs.OwnLists.{OwnLists}
use Rattle.split.specs.Scanning.{Treated}
use Rattle.split.proofs.PassOnce.{extent-known}
use Rattle.split.proofs.Played.{same-below, one_less, choosable}
use Rattle.split.proofs.Accepting.{Accepting, unread-is, begins-as, sums-small, playable}
use Rattle.split.proofs.Balanced.{balance-first, balance-safe, balance-fits, balance-early, balance-more, balance-goes, balance-ends, own_lent, own_lengths, own-accepting, balance-refused, balance-done}
use Rattle.split.proofs.balancing.balance_with.Goals as goal

-- ---- the answer, by the job's own limits

accept : (job : Job) (gains : List ℤ) (l : Scans) (scratch : List ℕ)
    → (own : OwnLists MOST_FILES MOST_RECIPES (file_count job) (length gains) (length l.recipes.now) (length l.kinds.now))
    → {g : List ℤ} {z : List ℕ} {s : Survey} →
    let lengths = own_lengths the_limits job gains l.recipes.now l.kinds.now scratch own in
    LaysOut true the_limits job (fits_of 1 (file_count job) (recipe_count job) (pin_count job) (length gains) (length scratch) lengths) gains scratch g z s
    → ((f : ℕ) → get_or job.sizes f 0 < 65536)
    → Accepting 1 true the_limits job (own_lent (file_count job) gains l.recipes.now l.kinds.now scratch) g z s
accept job gains l scratch own lays two = own-accepting the_limits job gains l.recipes.now l.kinds.now scratch own lays narrow two

-- ---- the job is refused

pub returns-in_err-s : goal.returns-in_err-s
returns-in_err-s c =
    let g = c.args in
    let job : Job = the_job g.job g.book g.sides.now in
    let a = accept job g.gains.now g.scans.now g.scratch.now c.requires (rw c.in_err-s.was at c.lay_out.ensures) c.two_byte_sizes.ensures in
    balance-refused the_limits job g.gains.now g.scans.now.recipes.now g.scans.now.kinds.now g.scratch.now c.requires a
    (not-done _) (ap as_balance_figures (exit-is _ _ c.from_residual.ensures.1))

-- ---- it is let through

pub window_of-window-requires : goal.window_of-window-requires
window_of-window-requires c =
    let g = c.args in
    let job : Job = the_job g.job g.book g.sides.now in
    sums-small (accept job g.gains.now g.scans.now g.scratch.now c.requires (rw c.in_ok-s.was at c.lay_out.ensures) c.two_byte_sizes.ensures) refl

pub loop-f-init : goal.loop-f-init
loop-f-init c =
    let g = c.args in
    let job : Job = the_job g.job g.book g.sides.now in
    let a = accept job g.gains.now g.scans.now g.scratch.now c.requires (rw c.in_ok-s.was at c.lay_out.ensures) c.two_byte_sizes.ensures in
    balance-first (playable a refl c.window_of-window.ensures) (a.lays.laid refl) (begins-as a refl c.new-p.ensures)

pub overflow_cast-p : goal.overflow_cast-p
overflow_cast-p c = record { fits = (choosable c.loop-f.invariant.under).size }

-- ---- a move

pub treat_move-requires : goal.treat_move-requires
treat_move-requires c = balance-safe c.loop-f.invariant c.in-Some.ensures.file_or_none c.in-Some.ensures.below

pub counted-p-requires : goal.counted-p-requires
counted-p-requires c =
    same-below (ap (λ (y : Treated). y.scanned.progress.moves) c.treat_move.ensures.treated_after)
    (balance-fits c.loop-f.invariant c.in-Some.ensures.file_or_none c.in-Some.ensures.below).moves

pub loop-f-smaller : goal.loop-f-smaller
loop-f-smaller c =
    one_less (balance-early c.loop-f.invariant c.in-Some.ensures.file_or_none c.in-Some.ensures.below)
    (balance-more c.loop-f.invariant c.in-Some.ensures.file_or_none c.in-Some.ensures.below
    c.treat_move.ensures.sides_after c.treat_move.ensures.treated_after c.counted-p.ensures)

pub loop-f-preserved : goal.loop-f-preserved
loop-f-preserved c =
    balance-goes c.loop-f.invariant c.in-Some.ensures.file_or_none c.in-Some.ensures.below
    c.treat_move.ensures.sides_after c.treat_move.ensures.treated_after c.counted-p.ensures

-- ---- no move is left

pub returns : goal.returns
returns c =
    let g = c.args in
    let job : Job = the_job g.job g.book g.sides.now in
    let a = accept job g.gains.now g.scans.now g.scratch.now c.requires (rw c.in_ok-s.was at c.lay_out.ensures) c.two_byte_sizes.ensures in
    balance-done the_limits job g.gains.now g.scans.now.recipes.now g.scans.now.kinds.now g.scratch.now c.requires a refl
    (balance-ends c.loop-f.invariant c.in_default.ensures.file_or_none refl (unread-is a refl) c.balanced.ensures
    (extent-known 1 c.extent_of.ensures).1 c.end_scans.ensures.scratch_after)
