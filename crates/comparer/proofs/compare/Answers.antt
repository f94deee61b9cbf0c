use Rattle.std.proofs.Common.{rules}
use Rattle.report.specs.Comparison.{records_in}
use Rattle.comparer.proofs.Found.{Remade, refused, list-stays, list-short, list-made}
use Rattle.comparer.proofs.compare.Goals as goal

pub returns-in_err-count : goal.returns-in_err-count
returns-in_err-count c =
    let remade : Remade refused c.find.result c.map_err.result = search rules in
    list-stays _ _ _ _ _ c.find.ensures.answer _ remade _ _ c.in_err-count.was c.from_residual.ensures.1

pub returns-then-list-count : goal.returns-then-list-count
returns-then-list-count c =
    let remade : Remade refused c.find.result c.map_err.result = search rules in
    list-short _ _ _ _ _ c.find.ensures.answer _ remade c.in_ok-count.was c.if-list-count.true

pub returns : goal.returns
returns c =
    let remade : Remade refused c.find.result c.map_err.result = search rules in
    list-made _ _ _ _ _ c.find.ensures.answer _ remade c.in_ok-count.was (λ n. records_in n c.find.new.numbers) c.find.ensures.records c.store.ensures c.if-list-count.false
