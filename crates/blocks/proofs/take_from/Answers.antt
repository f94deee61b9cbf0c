-- The bytes of one block after those that had come.
use Rattle.std.proofs.Common.{ap, sym, subst, ◌∙◌, ◌++◌, drop, take, take-add, drop-drop}
use Rattle.std.specs.Io.KnownBytes.{Consumes}
use Rattle.std.proofs.KnownBytes.{Consumes-trans}
use Rattle.blocks.proofs.take_from.Goals as goal

pub loop-at-preserved : goal.loop-at-preserved
loop-at-preserved g c =
    let l = c.loop-at in
    let block = c.in_ok-got.ensures in
    let n = c.in_ok-got.got in
    let room = c.take_block.new.room in
    let joined = ap (λ xs. xs ++ take n (drop l.at room)) (sym block.front) ∙ sym (take-add l.at n room) in
    record {
      within = block.within;
      beyond = cc (drop-drop n l.at l.room, drop-drop n l.at c.args.room.now);
      bytes = subst (Consumes _ _) joined (Consumes-trans _ _ _ _ _ l.invariant.bytes block.bytes);
    }
