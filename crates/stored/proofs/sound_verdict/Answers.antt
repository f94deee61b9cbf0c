use Rattle.std.proofs.Common.{◌∙◌, rules}
use Rattle.stored.proofs.Readings.{sound-taken}
use Rattle.stored.proofs.sound_verdict.Goals as goal

pub returns : goal.returns
returns c =
    let b = c.book.ensures in
    c.check_sound.ensures
    ∙ sound-taken _ c.requires (search rules) (search rules) (search rules) (search rules) b.files.0 c.sides.ensures b.files.1 b.recipes.0 b.recipes.1
