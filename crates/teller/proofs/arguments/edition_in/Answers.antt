use Rattle.teller.proofs.Named.{other_length, digit-one, digit-two, no_digit}
use Rattle.teller.proofs.arguments.edition_in.Goals as goal

pub returns-then-word-ne1-clause-named : goal.returns-then-word-ne1-clause-named
returns-then-word-ne1-clause-named c = other_length c.args.word.now c.if-word-ne1.true

pub returns-then-digit-eq49-clause-named : goal.returns-then-digit-eq49-clause-named
returns-then-digit-eq49-clause-named c = digit-one c.args.word.now c.if-word-ne1.false c.if-digit-eq49.true

pub returns-then-digit-eq50-clause-named : goal.returns-then-digit-eq50-clause-named
returns-then-digit-eq50-clause-named c = digit-two c.args.word.now c.if-word-ne1.false c.if-digit-eq49.false c.if-digit-eq50.true

pub returns-clause-named : goal.returns-clause-named
returns-clause-named c = no_digit c.args.word.now c.if-word-ne1.false c.if-digit-eq49.false c.if-digit-eq50.false
