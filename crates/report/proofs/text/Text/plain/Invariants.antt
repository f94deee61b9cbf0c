use mathlib.Core.List.{[], ◌∷◌}
use Rattle.report.proofs.Laying.{Laying}
use Rattle.report.proofs.text.Text.plain.Given as goal

abbrev pub invariant-loop-byte : goal.invariant-loop-byte
invariant-loop-byte l = Laying (λ b. b ∷ []) l.text l.byte-index l.byte-index l.initial.self l.self
