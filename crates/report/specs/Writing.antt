-- What a step that writes text promises. Assumes nothing.
use Rattle.std.specs.Prelude.{◌≡◌, ℕ, ◌+◌, ◌≤◌, List}
use Rattle.report.specs.declared.text.Text.{Text}
use Rattle.report.specs.Laying.{Laid}

-- this text was laid, of so many bytes at most, and into the same room
pub record Wrote (text : List ℕ) (most : ℕ) (old new : Text) : Type 0 where
  pub laid : Laid old.at text old.room.now new.at new.room.now
  pub short : new.at ≤ old.at + most
  pub same : new.room.ghost_name ≡ old.room.ghost_name
