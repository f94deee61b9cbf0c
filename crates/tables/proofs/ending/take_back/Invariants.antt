-- The moves from k on are taken back. Assumes nothing.
use Rattle.std.proofs.Common.{◌≡◌, ◌-◌}
use Rattle.tables.specs.Ending.{back_to}
use Rattle.tables.proofs.ending.take_back.Given as goal

abbrev pub invariant-loop-k : goal.invariant-loop-k
invariant-loop-k l = back_to l.moves.tried.now l.best (l.k - l.best) l.sides ≡ back_to l.moves.tried.now l.best (l.made - l.best) l.initial.sides
