-- What the code of a move's scans does, on lists. Assumes nothing.
use Rattle.std.specs.Prelude.{ℕ, ◌+◌, ◌-◌, ◌*◌, ◌≤◌, ◌<◌, ◌^◌, Bool, cond, ◌&&◌, eqb, ℤ, pos, ◌+ℤ◌}
use Rattle.std.specs.Prelude.{Option, None, Some, List, [], ◌∷◌, length, get_or, set}
use Rattle.rules.specs.Lists.{AllBelow}
use Rattle.rules.specs.Move.{State, reaches, change, scan_pins}
use Rattle.rules.proofs.Signed.{abs}
use Rattle.split.specs.declared.progress.Progress.{Progress}
use Rattle.split.specs.declared.scan.Way.{Way}
use Rattle.split.specs.declared.scan.Kinds.{Kinds}

-- ---- one pin, one scan

-- a scan of this kind changes a file with this lock on this side
abbrev pub changed_by : ℕ → ℕ → ℕ → ℕ → ℕ → Bool
changed_by lock side there left kind = eqb lock 0 && reaches (eqb side there) (eqb side left) kind

-- a file's gain after it
abbrev pub shifted_by : ℤ → ℕ → ℕ → ℕ → ℕ → ℕ → ℤ
shifted_by g lock side there left kind = cond (changed_by lock side there left kind) (g +ℤ change kind) g

-- one scan more, of a recipe with this many files
unfoldable pub visited_by : Progress → ℕ → Progress
visited_by p len = record {
  size = p.size;
  cut = p.cut;
  moves = p.moves;
  best = p.best;
  least = p.least;
  atbest = p.atbest;
  scans = p.scans + 1;
  visits = p.visits + len;
}

-- what a scan changes
pub record Scanned : Type 0 where
  pub gains : List ℤ
  pub recipes : List ℕ
  pub kinds : List ℕ
  pub progress : Progress

abbrev pub scanned : List ℤ → List ℕ → List ℕ → Progress → Scanned
scanned gains recipes kinds p = record { gains = gains; recipes = recipes; kinds = kinds; progress = p }

-- the scan of recipe j, whose files are r, in the state after the move to side t, where there is a kind
unfoldable pub scan_if : State → ℕ → ℕ → List ℕ → Option ℕ → Scanned → Scanned
scan_if st t j r None x = x
scan_if st t j r (Some kind) x =
    scanned (scan_pins st t kind r x.gains) (set x.recipes x.progress.scans j) (set x.kinds x.progress.scans kind)
    (visited_by x.progress (length r))

-- the gains are within the visits made and some more, so a scan's changes fit
pub record NearVisits (gains : List ℤ) (visits : ℕ) : Type 0 where
  pub near : (f : ℕ) → abs (get_or gains f (pos 0)) ≤ visits + 65536

-- each gain can change n times by one, and still fits
abbrev pub RoomFor : List ℤ → ℕ → Type 0
RoomFor gains n = (f : ℕ) → abs (get_or gains f (pos 0)) + n < 2 ^ 31

-- the scans made stand in the lists, and the visits are few
pub record Fits (x : Scanned) : Type 0 where
  pub recipes : x.progress.scans ≤ length x.recipes
  pub kinds : x.progress.scans ≤ length x.kinds
  pub visits : x.progress.visits ≤ 2 ^ 30

-- ---- one recipe

-- a kind by a count of files and of the locked ones among them: k where there is none, the next where there is one and it is free, else 0
abbrev pub kind_by : ℕ → ℕ → ℕ → ℕ
kind_by k count locked = cond (eqb count 0) k (cond (eqb count 1 && eqb locked 0) (k + 1) 0)

-- the kind of this number, none for 0
abbrev pub kind_or_none : ℕ → Option ℕ
kind_or_none k = cond (eqb k 0) None (Some k)

-- kinds 1 and 2 by T, kinds 3 and 4 by F
abbrev pub kind_there : ℕ → ℕ → ℕ
kind_there = kind_by 1

abbrev pub kind_left : ℕ → ℕ → ℕ
kind_left = kind_by 3

-- what treating a recipe changes
pub record Treated : Type 0 where
  pub scratch : List ℕ
  pub scanned : Scanned

abbrev pub treated : List ℕ → List ℤ → List ℕ → List ℕ → Progress → Treated
treated scratch gains recipes kinds p = record { scratch = scratch; scanned = scanned gains recipes kinds p }

-- T and F with their locked files, of recipe j, before the counts are changed
abbrev pub count_t : Way → ℕ → List ℕ → ℕ
count_t way j z = get_or z (way.there + j) 0

abbrev pub locked_t : Way → ℕ → List ℕ → ℕ
locked_t way j z = get_or z (way.there + j + 2 * way.recipes) 0

abbrev pub count_f : Way → ℕ → List ℕ → ℕ
count_f way j z = get_or z (way.left + j) 0 - 1

abbrev pub locked_f : Way → ℕ → List ℕ → ℕ
locked_f way j z = get_or z (way.left + j + 2 * way.recipes) 0

-- the moved file leaves one side and joins the other, locked
unfoldable pub recount : Way → ℕ → List ℕ → List ℕ
recount way j z =
    set (set (set z (way.left + j) (count_f way j z)) (way.there + j) (count_t way j z + 1)) (way.there + j + 2 * way.recipes) (locked_t way j z + 1)

-- the kinds of its scans
abbrev pub kinds_now : Way → ℕ → List ℕ → Kinds
kinds_now way j z = record {
  first = kind_or_none (kind_there (count_t way j z) (locked_t way j z));
  second = kind_or_none (kind_left (count_f way j z) (locked_f way j z));
}

-- r the files of recipe j
unfoldable pub treat_one : State → Way → ℕ → List ℕ → Treated → Treated
treat_one st way j r y =
    let kinds = kinds_now way j y.scratch in
    record { scratch = recount way j y.scratch; scanned = scan_if st way.side j r kinds.second (scan_if st way.side j r kinds.first y.scanned) }

-- recipe after recipe
unfoldable pub treat_all : State → Way → (ℕ → List ℕ) → List ℕ → Treated → Treated
treat_all st way look [] y = y
treat_all st way look (j ∷ js) y = treat_all st way look js (treat_one st way j (look j) y)

-- ---- what makes it safe

-- recipe j stands in the scratch with a file on the side left and room for one more on the other
pub record Countable (way : Way) (z : List ℕ) (j : ℕ) : Type 0 where
  pub some : 1 ≤ get_or z (way.left + j) 0
  pub there : get_or z (way.there + j) 0 < 65535
  pub locked : get_or z (way.there + j + 2 * way.recipes) 0 < 65535
  pub inside : (way.left + j < length z) × (way.there + j < length z) × (way.there + j + 2 * way.recipes < length z) × (way.left + j + 2 * way.recipes < length z)

-- and its counts lie above all that stands below e; its pins are files
pub record Treatable (way : Way) (look : ℕ → List ℕ) (e : ℕ) (z : List ℕ) (j : ℕ) : Type 0 where
  pub counts : Countable way z j
  pub above : (e ≤ way.left + j) × (e ≤ way.there + j)
  pub below : AllBelow way.files (look j)

-- so does each recipe of the list when its turn comes
pub data Ready (way : Way) (look : ℕ → List ℕ) (e : ℕ) : List ℕ → List ℕ → Type 0 where
  none : {z : List ℕ} → Ready way look e [] z
  next : {j : ℕ} {js z : List ℕ} → Treatable way look e z j → Ready way look e js (recount way j z) → Ready way look e (j ∷ js) z
