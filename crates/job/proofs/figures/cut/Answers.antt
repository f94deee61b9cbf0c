use mathlib.Core.Path.{sym, ◌∙◌}
use mathlib.Core.Bool.{Bool}
use mathlib.Core.List.{List, map}
use Prim.Native.Nat.{ℕ}
use borrow.Author.Tests.{tests}
use Rattle.std.proofs.Common.{rules}
use Rattle.rules.specs.Lists.{bit, count, up_to}
use Rattle.rules.specs.Job.{view_of, views, read_in, recipes}
use Rattle.rules.specs.Split.{is_cut, cut}
use Rattle.rules.proofs.Chains.{chain-counts}
use Rattle.rules.proofs.Count.{total-map, count-mapped}
use Rattle.job.specs.Parts.{of_marks}
use Rattle.job.proofs.figures.cut.Goals as goal

pub returns : goal.returns
unfolding cut recipes views read_in count
returns c =
    let a = c.args.placed in
    let n = c.count.result in
    let read : List ℕ → List ℕ = read_in (of_marks a.book.files.marks.now) in
    let view : ℕ → List ℕ = view_of a.book.recipes.bounds.now a.book.recipes.pins.now in
    let seen : List ℕ → Bool = λ r. is_cut a.sides.now (read r) in
    rw (← c.count.ensures)
    (chain-counts _ (λ j. seen (view j)) n c.filter.ensures.source c.filter.ensures.closure (λ x r q k. search (rules, tests)) c.count-2.ensures.ran
    ∙ count-mapped seen view n ∙ sym (total-map (λ r. bit (is_cut a.sides.now r)) read (map view (up_to n))))
