use mathlib.Core.Path.{refl}
use Prim.Native.Nat.{◌-◌, ◌<◌, ◌^◌}
use lib.IntN.{pos}
use lib.ListN.{get_or}
use Rattle.std.proofs.Common.{rules}
use Rattle.rules.specs.Move.{scan_pins}
use Rattle.rules.proofs.Signed.{abs}
use Rattle.tables.specs.Zones.{state_of}
use Rattle.split.proofs.ScanLaws.{scan-pin, scan-room}
use Rattle.split.proofs.scan.Moved.scan_pins.Goals as goal

pub loop-pin-init : goal.loop-pin-init
unfolding scan_pins
loop-pin-init c = refl

-- a gain has room for one more step
pub shifted-requires : goal.shifted-requires
shifted-requires c =
    let a = c.args in
    let room : abs (get_or c.loop-pin.gains (get_or a.pins.now c.loop-pin.pin-index 0) (pos 0)) < 2 ^ 31 - 1
    = scan-room _ a.self.side a.kind a.pins.now c.loop-pin.pin-index a.gains.now c.loop-pin-test.true c.loop-pin.invariant c.requires.room_for _ in
    search rules

pub loop-pin-preserved : goal.loop-pin-preserved
loop-pin-preserved c =
    let a = c.args in
    let room : abs (get_or c.loop-pin.gains (get_or a.pins.now c.loop-pin.pin-index 0) (pos 0)) < 2 ^ 31 - 1
    = scan-room _ a.self.side a.kind a.pins.now c.loop-pin.pin-index a.gains.now c.loop-pin-test.true c.loop-pin.invariant c.requires.room_for _ in
    let more = scan-pin (state_of a.self.sides.now a.self.locks.now) a.self.side a.kind a.pins.now c.loop-pin.pin-index a.gains.now c.loop-pin-test.true c.loop-pin.invariant in
    search rules
