use Rattle.std.proofs.Common.{◌≡◌, ◌-◌}
use Rattle.rules.specs.Stored.{block_count, blocks_verdict}
use Rattle.stored.specs.Room.{lists_of}
use Rattle.stored.specs.Steps.{TakenTo}
use Rattle.stored.proofs.entries.take_blocks.Given as goal

abbrev pub invariant-loop-b : goal.invariant-loop-b
invariant-loop-b l =
    let h = l.fn.taken.header in
    let end = block_count h in record {
      header : l.taken.header ≡ h;
      verdict : blocks_verdict h l.bytes 1 (end - 1) ≡ blocks_verdict h l.bytes l.b (end - l.b);
      taken : TakenTo l.bytes h l.b (lists_of l.fn.taken) (lists_of l.taken);
    }
