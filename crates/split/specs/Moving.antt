-- What the code of a move does, on lists. Assumes nothing.
use Rattle.std.specs.Prelude.{◌≡◌, ℕ, ◌+◌, ◌-◌, cond, List, length, get_or, set, ltb, ℤ, pos}
use Rattle.rules.specs.Job.{view_of}
use Rattle.rules.specs.Split.{other, side_of}
use Rattle.rules.proofs.Signed.{up, down}
use Rattle.split.specs.declared.progress.Progress.{Progress}
use Rattle.split.specs.declared.scan.Way.{Way}
use Rattle.tables.specs.Zones.{cells_at, counts_at, side_at, state_in, start_in, end_in, cells_of}
use Rattle.split.specs.Scanning.{Treated, treated, treat_all}
use Rattle.choice.specs.Choosing.{size_by}
use Rattle.tables.specs.Ending.{turned}

-- ---- the pass in progress

-- no move yet
abbrev pub begun : ℕ → ℕ → Progress
begun size cut = record { size = size; cut = cut; moves = 0; best = 0; least = cut; atbest = size; scans = 0; visits = 0 }

-- |A| and the cut after a move
unfoldable pub shifted_to : Progress → ℕ → ℕ → Progress
shifted_to p size cut = record {
  size = size;
  cut = cut;
  moves = p.moves;
  best = p.best;
  least = p.least;
  atbest = p.atbest;
  scans = p.scans;
  visits = p.visits;
}

-- one move more; the best prefix where its cut is less
unfoldable pub counted_on : Progress → Progress
counted_on p =
    let less = ltb p.cut p.least in
    record {
      size = p.size;
      cut = p.cut;
      moves = p.moves + 1;
      best = cond less (p.moves + 1) p.best;
      least = cond less p.cut p.least;
      atbest = cond less p.size p.atbest;
      scans = p.scans;
      visits = p.visits;
    }

-- the cut less a gain
abbrev pub cut_by : ℕ → ℤ → ℕ
cut_by cut g = cut + down g - up g

-- the way of a move to side t
unfoldable pub way_to : ℕ → ℕ → ℕ → ℕ → Way
way_to c n p t = record { side = t; files = c; recipes = n; there = side_at (counts_at c p) n t; left = side_at (counts_at c p) n (other t) }

-- ---- one move

-- all that a move changes
pub record Board : Type 0 where
  pub sides : List ℕ
  pub tried : List ℕ
  pub gained : List ℤ
  pub cuts : List ℕ
  pub ends : List ℕ
  pub rest : Treated

abbrev pub board : List ℕ → List ℕ → List ℤ → List ℕ → List ℕ → List ℕ → List ℤ → List ℕ → List ℕ → Progress → Board
board sides tried gained cuts ends scratch gains recipes kinds p = record {
  sides = sides;
  tried = tried;
  gained = gained;
  cuts = cuts;
  ends = ends;
  rest = treated scratch gains recipes kinds p;
}

-- the file is locked, and its cells are told
pub record Locked (c p f : ℕ) (z z' : List ℕ) (from to : ℕ) : Type 0 where
  pub first : from ≡ cells_at c + start_in c p z f
  pub last : to ≡ cells_at c + end_in c p z f
  pub held : z' ≡ set z f 1

-- |A| and the cut after the move of f
abbrev pub shift_of : List ℕ → List ℕ → List ℤ → ℕ → Progress → Progress
shift_of sizes sides gains f p = shifted_to p (size_by p.size (side_of sides f) (get_or sizes f 0)) (cut_by p.cut (get_or gains f (pos 0)))

-- the file is turned over and locked, and its recipes are treated
unfoldable pub treat_from : List ℕ → List ℕ → List ℕ → ℕ → List ℕ → Treated → Treated
treat_from sizes bounds pins f sides y =
    let c = length sizes in
    let n = length bounds - 1 in
    let p = length pins in
    let z = y.scratch in
    let q = y.scanned.progress in
    let locked = set z f 1 in
    treat_all (state_in c (turned sides f) locked) (way_to c n p (side_of (turned sides f) f)) (view_of bounds pins) (cells_of c p z f)
    (treated locked y.scanned.gains y.scanned.recipes y.scanned.kinds (shift_of sizes sides y.scanned.gains f q))

abbrev pub treat_move : List ℕ → List ℕ → List ℕ → ℕ → Board → Treated
treat_move sizes bounds pins f b = treat_from sizes bounds pins f b.sides b.rest

unfoldable pub move_one : List ℕ → List ℕ → List ℕ → ℕ → Board → Board
move_one sizes bounds pins f b =
    let k = b.rest.scanned.progress.moves in
    let y = treat_move sizes bounds pins f b in
    let q = y.scanned.progress in
    board (turned b.sides f) (set b.tried k f) (set b.gained k (get_or b.rest.scanned.gains f (pos 0)))
    (set b.cuts k q.cut) (set b.ends k q.scans) y.scratch y.scanned.gains y.scanned.recipes y.scanned.kinds (counted_on q)
