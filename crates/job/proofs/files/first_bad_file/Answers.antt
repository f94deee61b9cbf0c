use mathlib.Core.Path.{◌≡◌}
use Prim.Native.Nat.{ℕ}
use mathlib.Core.Bool.{Bool, true, false}
use borrow.Author.Tests.{tests}
use Rattle.std.proofs.Common.{rules}
use Rattle.std.proofs.lemmas.Iterator.{first_from_Range}
use Rattle.rules.specs.Check.{bad_file}
use Rattle.job.specs.Given.{the_files}
use Rattle.job.proofs.Search.{find-first}
use Rattle.job.proofs.files.first_bad_file.Goals as goal

pub returns : goal.returns
returns c =
    let p = c.args.placed in
    let bad : ℕ → Bool = bad_file (the_files p.book p.sides.now) in
    find-first bad _ _ (first_from_Range _ _ _ _ (λ i. bad i ≡ true) (λ i. bad i ≡ false) c.find.ensures.ran (λ x q k. search (rules, tests)) (λ x q k. search (rules, tests)))
