-- `scan::treat_all` meets its contract: each turn treats the recipe of its cell. Assumes nothing.
use Rattle.std.proofs.Common.{rules}
use Rattle.split.specs.Scanning.{scanned}
use Rattle.split.proofs.Turns.{turn_last, turn-treatable, own_below, first_fits, second-near, second_fits, turn_more}
use Rattle.split.proofs.scan.treat_all.Goals as goal

pub recount_one-kinds-requires : goal.recount_one-kinds-requires
recount_one-kinds-requires c =
    (turn-treatable c.loop-i.invariant.turn c.loop-i-test.true).counts

-- ---- once the counts are changed: what both scans ask, of the recipe's own pins

pub scan_if-q-requires-clause-pins_are_files : goal.scan_if-q-requires-clause-pins_are_files
scan_if-q-requires-clause-pins_are_files c =
    rw c.requires.a_gain_each.1
    (own_below c.loop-i.invariant.turn c.loop-i-test.true c.view-own.ensures c.recount_one-kinds.ensures.1 c.recount_one-kinds.ensures.0)

pub scan_if-q-requires-clause-fits : goal.scan_if-q-requires-clause-fits
scan_if-q-requires-clause-fits c =
    first_fits c.loop-i.invariant.turn c.loop-i-test.true c.view-own.ensures c.recount_one-kinds.ensures.1 c.recount_one-kinds.ensures.0 c.requires.fits

-- ---- and once the first scan is made

pub scan_if-q-requires-in-loop-i-clause-pins_are_files : goal.scan_if-q-requires-in-loop-i-clause-pins_are_files
scan_if-q-requires-in-loop-i-clause-pins_are_files c =
    rw c.requires.a_gain_each.1
    (own_below c.loop-i.invariant.turn c.loop-i-test.true c.view-own.ensures c.recount_one-kinds.ensures.1 c.recount_one-kinds.ensures.0)

pub scan_if-q-requires-in-loop-i-clause-near_visits : goal.scan_if-q-requires-in-loop-i-clause-near_visits
scan_if-q-requires-in-loop-i-clause-near_visits c =
    let s = c.scan_if-q in
    let made = scanned s.new.gains s.new.scans.recipes.now s.new.scans.kinds.now s.result in
    second-near c.loop-i.invariant.turn c.loop-i-test.true c.view-own.ensures c.recount_one-kinds.ensures.1 c.recount_one-kinds.ensures.0
    {x = made} s.ensures.scanned_after

pub scan_if-q-requires-in-loop-i-clause-fits : goal.scan_if-q-requires-in-loop-i-clause-fits
scan_if-q-requires-in-loop-i-clause-fits c =
    let s = c.scan_if-q in
    let made = scanned s.new.gains s.new.scans.recipes.now s.new.scans.kinds.now s.result in
    second_fits c.loop-i.invariant.turn c.loop-i-test.true c.view-own.ensures c.recount_one-kinds.ensures.1 c.recount_one-kinds.ensures.0
    {x = made} s.ensures.scanned_after c.requires.fits

pub loop-i-preserved : goal.loop-i-preserved
loop-i-preserved c =
    let s = c.scan_if-q in
    let t = c.scan_if-q-in-loop-i in
    let made = scanned s.new.gains s.new.scans.recipes.now s.new.scans.kinds.now s.result in
    let then = scanned t.new.gains t.new.scans.recipes.now t.new.scans.kinds.now t.result in
    record {
      same_lists = search rules;
      turn =
          turn_more c.loop-i.invariant.turn c.loop-i-test.true c.view-own.ensures c.recount_one-kinds.ensures.1 c.recount_one-kinds.ensures.0
          {x = made} s.ensures.scanned_after {x' = then} t.ensures.scanned_after;
    }

pub returns-clause-treated_after : goal.returns-clause-treated_after
returns-clause-treated_after c = turn_last c.loop-i.invariant.turn c.loop-i-test.false
