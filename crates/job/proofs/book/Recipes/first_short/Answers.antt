use mathlib.Core.Path.{◌≡◌}
use Prim.Native.Nat.{ℕ}
use mathlib.Core.Bool.{Bool, true, false}
use mathlib.Core.List.{[]}
use borrow.Author.Tests.{tests}
use Rattle.std.proofs.Common.{rules}
use Rattle.std.proofs.lemmas.Iterator.{first_from_Range}
use Rattle.rules.specs.Check.{short}
use Rattle.job.specs.Parts.{of_recipes}
use Rattle.job.proofs.Search.{find-first}
use Rattle.job.proofs.book.Recipes.first_short.Goals as goal

pub returns : goal.returns
returns c =
    let low : ℕ → Bool = short (of_recipes c.args.self.bounds.now []) in
    rw (← c.count.ensures)
    (find-first low _ _ (first_from_Range _ _ _ _ (λ j. low j ≡ true) (λ j. low j ≡ false) c.find.ensures.ran (λ x q k. search (rules, tests)) (λ x q k. search (rules, tests))))
