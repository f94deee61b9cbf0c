-- The leader is that of the files passed. Assumes nothing.
use Rattle.std.proofs.Common.{◌<◌, IfSome, length, take}
use Rattle.choice.specs.Cases.{as_file}
use Rattle.choice.proofs.Leading.{Led}
use Rattle.choice.proofs.heavy.greatest_on.Given as goal

abbrev pub invariant-loop-f : goal.invariant-loop-f
invariant-loop-f l = record {
  led : Led l.side l.sides (take (length l.sides) l.scratch) l.gains (length l.sides) l.f (as_file (length l.sides) l.best);
  file : IfSome l.best (λ best. best < length l.sides);
}
