-- The scan has its place in the lists, and its visits fit. Assumes nothing.
use native.Mathlib.Omega.{arith}
use lib.ListN.{length}
use Rattle.split.proofs.Lasting.{near-room, scan-fits}
use Rattle.split.proofs.scan.Moved.scan_if.Goals as goal

pub offset_bounds-scans-at : goal.offset_bounds-scans-at
offset_bounds-scans-at c = omega (arith, (scan-fits _ _ _ _ c.in-Some.is c.requires.fits).recipes)

pub bounds-scans-at : goal.bounds-scans-at
bounds-scans-at c = (scan-fits _ _ _ _ c.in-Some.is c.requires.fits).recipes

pub offset_bounds-scans-at-2 : goal.offset_bounds-scans-at-2
offset_bounds-scans-at-2 c = omega (arith, (scan-fits _ _ _ _ c.in-Some.is c.requires.fits).kinds)

pub bounds-scans-at-2 : goal.bounds-scans-at-2
bounds-scans-at-2 c = (scan-fits _ _ _ _ c.in-Some.is c.requires.fits).kinds

pub scan_pins-requires-clause-room_for : goal.scan_pins-requires-clause-room_for
scan_pins-requires-clause-room_for c =
    near-room (length c.args.pins.now) c.requires.near_visits (scan-fits _ _ _ _ c.in-Some.is c.requires.fits).visits

pub visited-requires : goal.visited-requires
visited-requires c = omega (arith, scan-fits _ _ _ _ c.in-Some.is c.requires.fits)
