-- `Moved::scan_pins` meets its contract. The invariant: the gains are those of the entry with the pins so far scanned. Assumes nothing.
use mathlib.Core.Path.{◌≡◌}
use lib.ListN.{take}
use Rattle.rules.specs.Move.{scan_pins}
use Rattle.tables.specs.Zones.{state_of}
use Rattle.split.proofs.scan.Moved.scan_pins.Given as goal

abbrev pub invariant-loop-pin : goal.invariant-loop-pin
invariant-loop-pin l =
    l.gains ≡ scan_pins (state_of l.sides l.locks) l.side l.kind (take l.pin-index l.pins) l.initial.gains
