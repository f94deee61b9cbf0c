use Rattle.report.proofs.Forms.{Filling}
use Rattle.report.proofs.text.Text.form.Given as goal

abbrev pub invariant-loop-byte : goal.invariant-loop-byte
invariant-loop-byte l = Filling l.numbers l.form l.byte-index l.initial.self l.self
