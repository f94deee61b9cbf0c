use mathlib.Core.Path.{◌∙◌}
use Rattle.teller.proofs.Named.{unsaid-named, named-unsaid, named_more, named-one}
use Rattle.teller.proofs.arguments.edition_named.Goals as goal

pub returns-then-count-lt2-clause-named : goal.returns-then-count-lt2-clause-named
returns-then-count-lt2-clause-named c =
    let a = c.args in
    rw c.then_some.ensures (unsaid-named a.unsaid ∙ named-unsaid a.count a.word.now a.unsaid c.if-count-lt2.true)

pub returns-then-count-gt2-clause-named : goal.returns-then-count-gt2-clause-named
returns-then-count-gt2-clause-named c = let a = c.args in named_more a.count a.word.now a.unsaid c.if-count-lt2.false c.if-count-gt2.true

pub returns-clause-named : goal.returns-clause-named
returns-clause-named c = let a = c.args in c.edition_in.ensures.named ∙ named-one a.count a.word.now a.unsaid c.if-count-lt2.false c.if-count-gt2.false
