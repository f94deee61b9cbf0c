-- A move of a pass as a whole: it is made, noted in the move lists, and edition 2's links follow. Assumes nothing.
use Rattle.std.specs.Prelude.{ℕ, ◌-◌, ◌≤◌, ◌<◌, ◌^◌, ◌≡◌, List, length, set, ℤ}
use Rattle.rules.specs.Lists.{AllBelow}
use Rattle.rules.specs.Job.{view_of, Lent, lent_of}
use Rattle.rules.specs.Theorems.{Binary}
use Rattle.job.specs.declared.lent.Moves.{Moves}
use Rattle.job.specs.declared.lent.Scans.{Scans}
use Rattle.tables.specs.declared.lent.ListLengths.{ListLengths}
use Rattle.tables.specs.Zones.{part}
use Rattle.tables.specs.Ending.{turned}
use Rattle.split.specs.declared.progress.Progress.{Progress}
use Rattle.split.specs.Moving.{Board, board, treat_move, move_one}
use Rattle.split.specs.Links.{HasLinks, followed_by}

-- what the lists lent hold, told one by one
abbrev pub lists_of : List ℤ → Moves → Scans → List ℕ → Lent
lists_of gains moves scans scratch = lent_of gains moves.tried.now moves.gained.now moves.cuts.now moves.ends.now scans.recipes.now scans.kinds.now scratch

-- how long those of them are that a pass tells only by their lengths
abbrev pub lengths_of : Moves → Scans → ListLengths
lengths_of moves scans = record {
  tried = length moves.tried.now;
  gained = length moves.gained.now;
  cuts = length moves.cuts.now;
  ends = length moves.ends.now;
  recipes = length scans.recipes.now;
  kinds = length scans.kinds.now;
}

-- the board of a pass: the sides, these lists and the record of the pass
abbrev pub board_of : List ℕ → List ℤ → Moves → Scans → List ℕ → Progress → Board
board_of sides gains moves scans scratch p =
    board sides moves.tried.now moves.gained.now moves.cuts.now moves.ends.now scratch gains scans.recipes.now scans.kinds.now p

-- a board with this scratch
abbrev pub on_scratch : Board → List ℕ → Board
on_scratch b z = board b.sides b.tried b.gained b.cuts b.ends z b.rest.scanned.gains b.rest.scanned.recipes b.rest.scanned.kinds b.rest.scanned.progress

-- ---- one move

-- the entries of move k stand in the move lists
pub record Noted (k f : ℕ) (gain : ℤ) (cut scans : ℕ) (old new : Moves) : Type 0 where
  pub tried : new.tried.now ≡ set old.tried.now k f
  pub gained : new.gained.now ≡ set old.gained.now k gain
  pub cuts : new.cuts.now ≡ set old.cuts.now k cut
  pub ends : new.ends.now ≡ set old.ends.now k scans

-- the links after the move of f from board b, which left board b'
abbrev pub links_follow : ℕ → List ℕ → List ℕ → List ℕ → ℕ → Board → Board → List ℕ
links_follow edition sizes bounds pins f b b' =
    let from = b.rest.scanned.progress.scans in
    let long = b'.rest.scanned.progress.scans - from in
    followed_by edition (length sizes) (length bounds - 1) (length pins) b'.rest.scanned.gains b'.sides (view_of bounds pins)
    (part from long b'.rest.scanned.recipes) (part from long b'.rest.scanned.kinds) f b'.rest.scratch

-- file f is moved, by an edition of the choice
abbrev pub moved_by : ℕ → List ℕ → List ℕ → List ℕ → ℕ → Board → Board
moved_by edition sizes bounds pins f b = let b' = move_one sizes bounds pins f b in on_scratch b' (links_follow edition sizes bounds pins f b b')

-- ---- what makes it safe

-- there is room for the entries of the move of f, which are two-byte numbers
pub record MoveFits (sizes bounds pins : List ℕ) (f : ℕ) (b : Board) : Type 0 where
  pub few : b.rest.scanned.progress.moves < 65536
  pub tried : b.rest.scanned.progress.moves < length b.tried
  pub gained : b.rest.scanned.progress.moves < length b.gained
  pub cuts : b.rest.scanned.progress.moves < length b.cuts
  pub ends : b.rest.scanned.progress.moves < length b.ends
  pub cut : (treat_move sizes bounds pins f b).scanned.progress.cut < 65536
  pub scans : (treat_move sizes bounds pins f b).scanned.progress.scans < 65536
  pub moves : (treat_move sizes bounds pins f b).scanned.progress.moves < 2 ^ 32

-- what the links follow is in order: the pins are files, each on a side, the scans of the move are listed, and the scratch that it leaves has the links
pub record Followable (edition : ℕ) (sizes bounds pins : List ℕ) (f : ℕ) (b : Board) : Type 0 where
  pub pins_below : AllBelow (length sizes) pins
  pub sides : (length (turned b.sides f) ≡ length sizes) × Binary (turned b.sides f)
  pub gains : length (treat_move sizes bounds pins f b).scanned.gains ≡ length sizes
  pub since : b.rest.scanned.progress.scans ≤ (treat_move sizes bounds pins f b).scanned.progress.scans
  pub recipes : (treat_move sizes bounds pins f b).scanned.progress.scans ≤ length (treat_move sizes bounds pins f b).scanned.recipes
  pub kinds : (treat_move sizes bounds pins f b).scanned.progress.scans ≤ length (treat_move sizes bounds pins f b).scanned.kinds
  pub links : HasLinks edition (length sizes) (length bounds - 1) (length pins) (treat_move sizes bounds pins f b).scratch
