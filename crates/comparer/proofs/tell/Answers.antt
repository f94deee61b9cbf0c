use Rattle.std.proofs.Common.{rules, arith}
use Rattle.comparer.proofs.Found.{Remade}
use Rattle.comparer.proofs.Telling.{refused_job, tells}
use Rattle.comparer.proofs.tell.Goals as goal

pub returns : goal.returns
returns c =
    let found = c.find.ensures in
    let told = c.comparison.ensures in
    let remade : Remade refused_job c.find.result c.map_err-found.result = search rules in
    let w = tells _ _ _ _ _ _ _ found.answer found.records (omega arith) remade _ _ _ told.out_after told.enough_lines (omega arith) in
    record { out_after = w.0; answered = w.1 }
