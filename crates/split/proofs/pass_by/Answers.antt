-- The answer of the check decides: refused, nothing changes; let through, the free files enter, the moves are made one after the other and the lists ended.
-- Assumes nothing.
use mathlib.Core.Path.{refl, ap, ◌∙◌}
use Rattle.rules.specs.Cases.{as_figures}
use Rattle.rules.proofs.Exits.{exit-is, not-done}
use Rattle.split.specs.Editions.{edition_number}
use Rattle.split.proofs.PassGoes.{known-edition, accept, plays, room-for-links, starts, size-now, ends, move-safe, move-fits, move-followable, move-gain, goes-on, one-more}
use Rattle.split.proofs.PassOnce.{few-numbers, extent-known, pass-ends}
use Rattle.split.proofs.Accepting.{cut-is, unread-is, sums-small, pass-refused, pass-done}
use Rattle.split.proofs.pass_by.Goals as goal

-- ---- before the moves

pub returns-in_err-s-clause-ends : goal.returns-in_err-s-clause-ends
returns-in_err-s-clause-ends c =
    let a = c.args in
    let x = accept a.edition a.job a.book a.sides.now a.gains.now a.moves.now a.scans.now a.scratch.now c.number.ensures c.lengths_of-lists.ensures
    c.in_err-s.ensures c.two_byte_sizes.ensures in
    pass-refused x (known-edition a.edition) (not-done _) (ap as_figures (exit-is _ _ c.from_residual.ensures.1))

pub window_of-window-requires : goal.window_of-window-requires
window_of-window-requires c =
    let a = c.args in
    sums-small (accept a.edition a.job a.book a.sides.now a.gains.now a.moves.now a.scans.now a.scratch.now c.number.ensures c.lengths_of-lists.ensures
    c.in_ok-s.ensures c.two_byte_sizes.ensures) refl

pub extent_of-extent-requires : goal.extent_of-extent-requires
extent_of-extent-requires c =
    let a = c.args in
    few-numbers (plays (accept a.edition a.job a.book a.sides.now a.gains.now a.moves.now a.scans.now a.scratch.now c.number.ensures c.lengths_of-lists.ensures
    c.in_ok-s.ensures c.two_byte_sizes.ensures) refl c.window_of-window.ensures)

pub enter_by-requires : goal.enter_by-requires
enter_by-requires c =
    let a = c.args in
    room-for-links (accept a.edition a.job a.book a.sides.now a.gains.now a.moves.now a.scans.now a.scratch.now c.number.ensures c.lengths_of-lists.ensures
    c.in_ok-s.ensures c.two_byte_sizes.ensures) refl c.window_of-window.ensures c.extent_of-extent.ensures

pub loop-chosen-init : goal.loop-chosen-init
loop-chosen-init c =
    let a = c.args in
    record {
      same_moves = record { tried = refl; gained = refl; cuts = refl; ends = refl };
      same_scans = record { recipes = refl; kinds = refl };
      under =
          starts (accept a.edition a.job a.book a.sides.now a.gains.now a.moves.now a.scans.now a.scratch.now c.number.ensures c.lengths_of-lists.ensures
          c.in_ok-s.ensures c.two_byte_sizes.ensures) refl
          c.window_of-window.ensures c.extent_of-extent.ensures c.new-p.ensures c.enter_by.ensures;
    }

-- ---- the moves

pub overflow_cast-p : goal.overflow_cast-p
overflow_cast-p c = record { fits = size-now c.loop-chosen.invariant.under c.extent_of-extent.ensures }

pub make_move-p-requires-clause-safe : goal.make_move-p-requires-clause-safe
make_move-p-requires-clause-safe c = move-safe c.loop-chosen.invariant.under c.extent_of-extent.ensures c.in-Some.ensures.best_or_none c.in-Some.ensures.file

pub make_move-p-requires-clause-fits : goal.make_move-p-requires-clause-fits
make_move-p-requires-clause-fits c = move-fits c.loop-chosen.invariant.under c.extent_of-extent.ensures c.in-Some.ensures.best_or_none c.in-Some.ensures.file

pub make_move-p-requires-clause-links_can_follow : goal.make_move-p-requires-clause-links_can_follow
make_move-p-requires-clause-links_can_follow c = move-followable c.loop-chosen.invariant.under c.extent_of-extent.ensures c.in-Some.ensures.best_or_none c.in-Some.ensures.file

pub make_move-p-requires-clause-gain : goal.make_move-p-requires-clause-gain
make_move-p-requires-clause-gain c = move-gain c.loop-chosen.invariant.under c.extent_of-extent.ensures c.in-Some.ensures.best_or_none c.in-Some.ensures.file

pub loop-chosen-smaller : goal.loop-chosen-smaller
loop-chosen-smaller c =
    one-more c.loop-chosen.invariant.under c.extent_of-extent.ensures c.in-Some.ensures.best_or_none c.in-Some.ensures.file c.make_move-p.ensures.board_after

pub loop-chosen-preserved : goal.loop-chosen-preserved
loop-chosen-preserved c =
    let m = c.make_move-p.ensures.same_moves in
    let s = c.make_move-p.ensures.same_scans in
    let i = c.loop-chosen.invariant in
    record {
      same_moves = record {
        tried = m.tried ∙ i.same_moves.tried;
        gained = m.gained ∙ i.same_moves.gained;
        cuts = m.cuts ∙ i.same_moves.cuts;
        ends = m.ends ∙ i.same_moves.ends;
      };
      same_scans = record { recipes = s.recipes ∙ i.same_scans.recipes; kinds = s.kinds ∙ i.same_scans.kinds };
      under = goes-on i.under c.extent_of-extent.ensures c.in-Some.ensures.best_or_none c.in-Some.ensures.file c.make_move-p.ensures.board_after;
    }

-- ---- after the last

pub returns-clause-ends : goal.returns-clause-ends
returns-clause-ends c =
    let a = c.args in
    let x = accept a.edition a.job a.book a.sides.now a.gains.now a.moves.now a.scans.now a.scratch.now c.number.ensures c.lengths_of-lists.ensures
    c.in_ok-s.ensures c.two_byte_sizes.ensures in
    let left = ends c.loop-chosen.invariant.under c.extent_of-extent.ensures c.in_default.ensures.best_or_none refl in
    let far = extent-known (edition_number a.edition) c.extent_of-extent.ensures in
    let moves = c.end_moves.ensures.moves_after in
    let scans = c.end_scans.ensures.scans_after in
    pass-done x (known-edition a.edition) refl
    (pass-ends (edition_number a.edition) left.0 left.1 (cut-is x refl) (unread-is x refl) c.figures.ensures
    (c.end_moves.ensures.sides_after, moves.0, moves.1, moves.2, moves.3)
    far
    (scans.0, scans.1, rw c.number-2.ensures at c.end_scans.ensures.scratch_after))
