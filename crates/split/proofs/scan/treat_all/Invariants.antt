-- The invariant: the rest of the cells leads to the same end. Assumes nothing.
use lib.ListN.{take}
use Rattle.rules.specs.Job.{view_of}
use Rattle.job.specs.Given.{SameScans}
use Rattle.tables.specs.Zones.{state_of}
use Rattle.split.specs.Scanning.{treated}
use Rattle.split.proofs.Turns.{Turn}
use Rattle.split.proofs.scan.treat_all.Given as goal

abbrev pub invariant-loop-i : goal.invariant-loop-i
invariant-loop-i l = record {
  same_lists : SameScans l.initial.scans l.scans;
  turn :
      Turn (state_of l.sides (take l.way.files l.initial.scratch)) l.way (view_of l.recipes.bounds.now l.recipes.pins.now) l.fn.cells.from l.fn.cells.to
      (treated l.initial.scratch l.initial.gains l.initial.scans.recipes.now l.initial.scans.kinds.now l.fn.p) l.i
      (treated l.scratch l.gains l.scans.recipes.now l.scans.kinds.now l.q);
}
