-- Document 02, order 11: more files. What wider limits leave as it was, what an older reader says of a larger job, and how long a stored job can be.
-- Assumes nothing.
use Rattle.std.specs.Prelude.{◌≡◌, ◌≢◌, ℕ, ◌*◌, ◌≤◌, Bool, true, false, List, length}
use Rattle.rules.specs.declared.Verdict.{Verdict}
use Rattle.rules.specs.declared.Difference.{Difference}
use Rattle.rules.specs.Job.{Job, Limits, limits_of, file_count, recipe_count, pin_count, Lent}
use Rattle.rules.specs.Check.{done, empty, over_most, bad_k, check_sound, check, check_lent, measure}
use Rattle.rules.specs.Stored.{header_of, under_one, block_verdict, Room, read_verdict, reading}
use Rattle.rules.specs.Run.{pass_ends, run_ends}
use Rattle.rules.specs.Report.{refusal, prints}
use Rattle.rules.specs.Trace.{traces}
use Rattle.rules.specs.Writing.{blocks_of, write_verdict, writing, resettles}
use Rattle.rules.specs.Balance.{balance_verdict, balancing, balances}
use Rattle.rules.specs.Compare.{read_for, comparing, compares}
use Rattle.rules.specs.Theorems.{most_bytes}

-- ---- two limits of which one is wider

-- refusal 2 is raised: no most is less than it was
pub record Raised (old new : Limits) : Type 0 where
  pub files : old.files ≤ new.files
  pub recipes : old.recipes ≤ new.recipes
  pub pins : old.pins ≤ new.pins

-- ---- a job that the old limits do not refuse as 2 (MoreFiles `calls_same`, of limits of which one is wider, and the same most for den)

-- each call answers what it did and leaves what it left, whatever it is lent
pub record CallsSame (old new : Limits) (job : Job) : Type 0 where
  pub check : (lent : Bool) → (check old job lent).number ≢ 2 → check new job lent ≡ check old job lent
  pub measure : (check_sound old job true).number ≢ 2 → measure new job ≡ measure old job
  pub pass : (edition : ℕ) (l : Lent) → (check_lent edition old job l).number ≢ 2 → pass_ends edition new job l ≡ pass_ends edition old job l
  pub run : (edition : ℕ) (l : Lent) → (check_lent edition old job l).number ≢ 2 → run_ends edition new job l ≡ run_ends edition old job l
  pub balancing : (scratch : List ℕ) → (balance_verdict old job scratch).number ≢ 2 → balancing new job scratch ≡ balancing old job scratch
  pub writing : (out : List ℕ) → (write_verdict old job out).number ≢ 2 → writing new job out ≡ writing old job out

-- ---- a stored job that the old limits do not refuse as 2

-- it is read as before, into lists of any length and by a program, which has room for every job of its limits; and compared as before (MoreFiles
-- `read_same`, of limits of which one is wider)
pub record ReadSame (old new : Limits) (input : List ℕ) : Type 0 where
  pub reading : (room : Room) → (read_verdict old input room).number ≢ 2 → reading new input room ≡ reading old input room
  pub read : (read_for old input).number ≢ 2 → read_for new input ≡ read_for old input
  pub comparing : (other : List ℕ) (room : List Difference) → (read_for old input).number ≢ 2 → (read_for old other).number ≢ 2
      → comparing new input other room ≡ comparing old input other room
  pub compares : (other : List ℕ) → (read_for old input).number ≢ 2 → (read_for old other).number ≢ 2 → compares new input other ≡ compares old input other

-- and planned as before, by each edition (MoreFiles `planned-same`, of limits of which one is wider, and the same most for den)
pub record PlannedSame (old new : Limits) (input : List ℕ) : Type 0 where
  pub prints : (edition : ℕ) → (read_for old input).number ≢ 2 → prints edition new input ≡ prints edition old input
  pub traces : (edition : ℕ) → (read_for old input).number ≢ 2 → traces edition new input ≡ traces edition old input
  pub resettles : (edition : ℕ) → (read_for old input).number ≢ 2 → resettles edition new input ≡ resettles edition old input
  pub balances : (read_for old input).number ≢ 2 → balances new input ≡ balances old input

-- ---- a larger stored job (MoreFiles `larger-refused`, of any input)

-- its header tells of more files, recipes or pins than the limits allow
abbrev pub larger : Limits → List ℕ → Bool
larger most input = over_most most (header_of input).files (header_of input).recipes (header_of input).pins

-- nothing that stands before 2 refuses it: not 20 for less than a block, not 21 or 22 of block 0, not 1
pub record BeforeTwo (input : List ℕ) : Type 0 where
  pub long : under_one input ≡ false
  pub opened : block_verdict (header_of input) input 0 ≡ done
  pub wide : bad_k (header_of input).k ≡ false
  pub some : empty (header_of input).files (header_of input).recipes ≡ false

abbrev pub two : Verdict
two = record { number = 2; place = 0 }

pub record LargerRefused (most : Limits) (input : List ℕ) : Type 0 where
  -- 2 is given exactly of a larger job that nothing before 2 refuses, whatever is lent
  pub given : (room : Room) → BeforeTwo input → larger most input ≡ true → read_verdict most input room ≡ two
  pub only : (room : Room) → (read_verdict most input room).number ≡ 2 → BeforeTwo input × (larger most input ≡ true)
  -- so the reader of these limits answers 2 on a larger job that other limits read, and its program prints that
  pub older : (new : Limits) (room mine : Room) → (read_verdict new input room).number ≡ 0 → larger most input ≡ true → read_verdict most input mine ≡ two
  pub printed : (new : Limits) (edition : ℕ) → (read_for new input).number ≡ 0 → larger most input ≡ true → prints edition most input ≡ refusal two

-- ---- how long a stored job can be (MoreFiles `longest-holds`, of any input and any job)

pub record LongestHolds (most : Limits) (input : List ℕ) (job : Job) : Type 0 where
  -- one that is read has no more bytes than the largest job, and a job of as many files, recipes and pins as there may be has as many
  pub read : (room : Room) → (read_verdict most input room).number ≡ 0 → length input ≤ most_bytes most
  pub met : file_count job ≡ most.files → recipe_count job ≡ most.recipes → pin_count job ≡ most.pins → length (blocks_of job) ≡ most_bytes most

-- in blocks of 512 bytes, by document 01's limits and by those of this order (MoreFiles `blocks-worked`)
pub record BlocksWorked : Type 0 where
  pub was : most_bytes (limits_of 1024 1024 4096 1000) ≡ 512 * 32
  pub is : most_bytes (limits_of 2048 1024 8192 1000) ≡ 512 * 56
