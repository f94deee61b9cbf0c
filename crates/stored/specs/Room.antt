-- The lent lists of a call as rules' record, for contracts. Assumes nothing.
use Rattle.std.specs.Prelude.{◌≡◌, ℕ, List, replicate, Result, Ok, Err}
use Rattle.rules.specs.declared.refusal.Refusal.{Refusal}
use Rattle.rules.specs.Numbers.{verdict_of, ReadFigures}
use Rattle.rules.specs.Check.{done}
use Rattle.rules.specs.Job.{Limits}
use Rattle.rules.specs.Stored.{no_header, Room, Reading, reading}
use Rattle.rules.specs.Report.{all_room}
use Rattle.stored.specs.declared.room.Room.{Room as Lists}
use Rattle.stored.specs.declared.taken.TakenUp.{TakenUp}
use Rattle.stored.specs.declared.header.Lengths.{Lengths}

abbrev pub room_of : List ℕ → List ℕ → List ℕ → List ℕ → List ℕ → Room
room_of sizes sides marks bounds pins = record { sizes = sizes; sides = sides; marks = marks; bounds = bounds; pins = pins }

-- the lists that are lent
abbrev pub room_in : Lists → Room
room_in l = room_of l.sizes.now l.sides.now l.marks.now l.bounds.now l.pins.now

-- they are the same lists before a call and after it
pub record SameRoom (old new : Lists) : Type 0 where
  pub sizes : new.sizes.ghost_name ≡ old.sizes.ghost_name
  pub sides : new.sides.ghost_name ≡ old.sides.ghost_name
  pub marks : new.marks.ghost_name ≡ old.marks.ghost_name
  pub bounds : new.bounds.ghost_name ≡ old.bounds.ghost_name
  pub pins : new.pins.ghost_name ≡ old.pins.ghost_name

-- lists of these lengths: what they hold is no matter to a verdict
abbrev pub room_long : Lengths → Room
room_long l = room_of (replicate l.sizes 0) (replicate l.sides 0) (replicate l.marks 0) (replicate l.bounds 0) (replicate l.pins 0)

-- a stored job read into lists that are never too short
abbrev pub taking_up : Limits → List ℕ → Reading
taking_up most bytes = reading most bytes (all_room most)

-- the lists of a stored job that was taken up
abbrev pub lists_of : TakenUp → Room
lists_of t = room_of t.sizes t.sides t.marks t.bounds t.pins

-- what reading answers of it, refused or taken up
abbrev pub as_taken : Result TakenUp Refusal → ReadFigures
as_taken (Ok t) = record { verdict = done; header = t.header }
as_taken (Err r) = record { verdict = verdict_of r; header = no_header }
