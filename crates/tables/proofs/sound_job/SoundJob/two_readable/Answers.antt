-- The readable files are those that are left of the unread. Assumes nothing.
use Rattle.std.proofs.Common.{◌≤◌, ◌<◌, length, refl, arith}
use borrow.Author.Tests.{lt-leb, le-leb}
use Rattle.rules.proofs.Count.{count_on-le}
use Rattle.rules.proofs.Readable.{read-or-not}
use Rattle.job.specs.Parts.{of_marks}
use Rattle.tables.specs.Building.{readable}
use Rattle.tables.proofs.sound_job.SoundJob.two_readable.Goals as goal

pub overflow_add-count_on : goal.overflow_add-count_on
overflow_add-count_on c = omega (arith, c.count_on.ensures, count_on-le c.args.self.marks.now 2 c.view-recipe.result.now)

pub returns-then-recipe-count_on : goal.returns-then-recipe-count_on
returns-then-recipe-count_on c =
    let marks = c.args.self.marks.now in
    let recipe = c.view-recipe.result.now in
    let few : length (readable marks recipe) < 2 = omega (arith, c.if-recipe-count_on.true, c.count_on.ensures, read-or-not (of_marks marks) recipe) in
    rw (← c.view-recipe.ensures, lt-leb 2 (length (readable marks recipe)) few) refl

pub returns : goal.returns
returns c =
    let marks = c.args.self.marks.now in
    let recipe = c.view-recipe.result.now in
    let many : 2 ≤ length (readable marks recipe) = omega (arith, c.if-recipe-count_on.false, c.count_on.ensures, read-or-not (of_marks marks) recipe) in
    rw (← c.view-recipe.ensures, le-leb 2 (length (readable marks recipe)) many) refl
