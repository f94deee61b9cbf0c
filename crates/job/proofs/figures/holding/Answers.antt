use mathlib.Core.Path.{◌∙◌}
use mathlib.Core.Bool.{Bool}
use mathlib.Core.List.{List}
use Prim.Native.Nat.{ℕ}
use lib.Dec.{ltb}
use borrow.Author.Tests.{tests}
use Rattle.std.proofs.Common.{rules}
use Rattle.rules.specs.Job.{view_of, views}
use Rattle.rules.specs.Split.{count_on}
use Rattle.rules.proofs.Chains.{chain-counts}
use Rattle.rules.proofs.Count.{count-mapped}
use Rattle.rules.proofs.Readable.{unread-recipes}
use Rattle.job.specs.Parts.{of_marked}
use Rattle.job.proofs.figures.holding.Goals as goal

pub returns : goal.returns
unfolding views
returns c =
    let a = c.args in
    let n = c.count.result in
    let view : ℕ → List ℕ = view_of a.book.recipes.bounds.now a.book.recipes.pins.now in
    let holds : List ℕ → Bool = λ r. ltb 0 (count_on a.book.files.marks.now 2 r) in
    rw (unread-recipes (of_marked a.book.files.marks.now a.book.recipes.bounds.now a.book.recipes.pins.now), ← c.count.ensures)
    (chain-counts _ (λ j. holds (view j)) n c.filter.ensures.source c.filter.ensures.closure (λ x r q k. search (rules, tests)) c.count-2.ensures.ran ∙ count-mapped holds view n)
