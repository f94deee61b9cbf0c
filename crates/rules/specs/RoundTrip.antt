-- What holds of writing, of reading what was written, and of `resettle`, a fact to a field. A line above each record names its proof and what that
-- asks. Assumes nothing.
use Rattle.std.specs.Prelude.{◌≡◌, ◌≢◌, ℕ, ◌*◌, ◌≤◌, ◌<◌, true, not, List, [], ◌∷◌, length}
use Rattle.rules.specs.Lists.{AllBelow}
use Rattle.rules.specs.Job.{Job, as_job, Limits, TwoByte, file_count}
use Rattle.rules.specs.Check.{done, refuse_if, ◌or_else◌, check_job, check_edition}
use Rattle.rules.specs.Stored.{header_of, block_count, job_of, Room, roomy, read_verdict, written, reading}
use Rattle.rules.specs.Split.{size_a}
use Rattle.rules.specs.Fronts.{tries_by}
use Rattle.rules.specs.Run.{settles, pass_by, passes, last_by, first_pass, run_by, last_pass, run_figures_of}
use Rattle.rules.specs.Report.{refusal, report, all_room, prints}
use Rattle.rules.specs.Writing.{header_for, blocks_of, writing_of, check_written, write_verdict, writing, with_sides, resettles}

-- ---- reading what was written gives the same job (RoundTrip `blocks-hold`, of a job that passes 1 to 6 and has a good k)

pub record BlocksHold (most : Limits) (job : Job) : Type 0 where
  -- as long as the header makes them; each byte is one, where every number of the job is a two-byte number, C among them
  pub long : length (blocks_of job) ≡ 512 * block_count (header_for job)
  pub bytes : TwoByte job → file_count job < 65536 → AllBelow 256 (blocks_of job)
  -- the header and the job that are stored
  pub header : header_of (blocks_of job) ≡ header_for job
  pub same : job_of (blocks_of job) ≡ job
  -- reading refuses them only for want of room, as 3; else it answers the figures and writes the job's entries
  pub verdict : (room : Room) → read_verdict most (blocks_of job) room ≡ refuse_if (not (roomy (header_for job) room)) 3 0
  pub reads : (room : Room) → roomy (header_for job) room ≡ true
      → reading most (blocks_of job) room ≡ record { answer = record { verdict = done; header = header_for job }; room = written job room }

-- ---- any file that is read past layout and 1 to 6 is written back (RoundTrip `back-holds`, of any bytes, each below 256)

pub record BackHolds (most : Limits) (bytes : List ℕ) (room : Room) : Type 0 where
  -- byte for byte
  pub same : (read_verdict most bytes room).number ≡ 0 → blocks_of (job_of bytes) ≡ bytes
  -- so no two files mean one job
  pub one : (others : List ℕ) (lent : Room) → AllBelow 256 others → (read_verdict most bytes room).number ≡ 0 → (read_verdict most others lent).number ≡ 0
      → job_of bytes ≡ job_of others → bytes ≡ others
  -- and the reader lets through exactly what the writer writes, where it has room for it
  pub only : (read_verdict most bytes room).number ≡ 0
      → (job : Job) × ((check_written most job true).number ≡ 0) × TwoByte job × (file_count job < 65536) × (roomy (header_for job) room ≡ true) × (bytes ≡ blocks_of job)
  pub each : (job : Job) → (check_written most job true).number ≡ 0 → roomy (header_for job) room ≡ true → bytes ≡ blocks_of job → read_verdict most bytes room ≡ done

-- ---- the call that writes (Writes `write-holds`, of any input)

pub record WriteHolds (most : Limits) (job : Job) (out : List ℕ) : Type 0 where
  -- refused, with one of 1 to 7, no byte of the output list changes
  pub refused : (write_verdict most job out).number ≢ 0 → writing most job out ≡ writing_of (write_verdict most job out) out
  pub numbers : (write_verdict most job out).number ≤ 7
  -- else it answers done, and the list is exactly the blocks
  pub writes : (write_verdict most job out).number ≡ 0 → writing most job out ≡ writing_of done (blocks_of job)
  -- which it is long enough for, of a job that passes 1 to 6 and has a good k
  pub exact : (write_verdict most job out).number ≡ 0 → length out ≡ 512 * block_count (header_for job)
  pub passes : (write_verdict most job out).number ≡ 0 → (check_written most job true).number ≡ 0
  -- and every such job is written to such a list, whatever its ratio and its cap
  pub all : length out ≡ 512 * block_count (header_for job) → write_verdict most job out ≡ check_written most job true
  pub carried : (num den cap : ℕ)
      → write_verdict most (as_job job.sizes job.sides job.marks job.bounds job.pins num den cap job.k) out ≡ write_verdict most job out
  -- the list's length never changes
  pub long : length (writing most job out).out ≡ length out

-- ---- the sides after a run, taken up again

-- the job with the sides that its run leaves, where `try` says what moves a pass of a job tries
abbrev pub resettled_by : (Job → List ℕ → List ℕ) → Job → Job
resettled_by try job = with_sides job (last_by job (try job)).sides_after

-- what is tried from these or those sides does not go by the job's own
abbrev pub Sideless : (Job → List ℕ → List ℕ) → Job → Type 0
Sideless try job = (sides : List ℕ) → try (with_sides job sides) ≡ try job

-- whoever chose the moves (Resettling `resettled-holds-by`, of a job that passes 1 to 10 and a `try` that is lawful and Sideless)
pub record ResettledHoldsBy (try : Job → List ℕ → List ℕ) (most : Limits) (job : Job) : Type 0 where
  -- it passes 1 to 10 again, so that it is never refused
  pub accepted : check_job most (resettled_by try job) ≡ done
  -- it starts from the split that the run left: its cut before is the cut after, and so with |A|
  pub cut : let new = resettled_by try job in (pass_by new (try new) new.sides).cut_before ≡ (last_by job (try job)).cut_after
  pub size : let new = resettled_by try job in size_a new new.sides ≡ (last_by job (try job)).size_after
  -- where the run settled, its own run is one pass, that one, which keeps no move and so leaves the sides as they are
  pub settled : settles (last_by job (try job)) ≡ true
      → (let new = resettled_by try job in passes new (try new) ≡ last_by job (try job) ∷ []) × ((last_by job (try job)).kept ≡ 0)
  pub still : settles (last_by job (try job)) ≡ true → resettled_by try (resettled_by try job) ≡ resettled_by try job

-- by an edition of the choice
abbrev pub resettled : ℕ → Job → Job
resettled edition job = resettled_by (tries_by edition) job

-- (Resettling `resettled-holds`, of a job that passes 1 to 10)
abbrev pub ResettledHolds : ℕ → Limits → Job → Type 0
ResettledHolds edition most job = ResettledHoldsBy (tries_by edition) most job

-- ---- the program `resettle`

-- refused by reading, or then by the run: nothing on standard output, the refusal's line on standard error (Resettling `refuses`, of any input)
pub record ResettleRefuses (edition : ℕ) (most : Limits) (input : List ℕ) : Type 0 where
  pub by_reading : (read_verdict most input (all_room most)).number ≢ 0 → resettles edition most input ≡ record { output = []; errors = refusal (read_verdict most input (all_room most)) }
  pub by_run : (read_verdict most input (all_room most)).number ≡ 0 → (check_edition edition or_else check_job most (job_of input)).number ≢ 0
      → resettles edition most input ≡ record { output = []; errors = refusal (check_edition edition or_else check_job most (job_of input)) }

-- (Resettling `hands-back`, of an edition that there is and an input that is read and whose job passes 1 to 10)
pub record HandsBack (edition : ℕ) (most : Limits) (input : List ℕ) : Type 0 where
  -- the blocks of the job with the sides after the run, and no line
  pub hands : resettles edition most input ≡ record { output = blocks_of (resettled edition (job_of input)); errors = [] }
  -- as many bytes as were read; each is one, where those were
  pub long : length (resettles edition most input).output ≡ length input
  pub bytes : AllBelow 256 input → AllBelow 256 (resettles edition most input).output
  -- read back they are that job, and a night by this edition runs it
  pub read : read_verdict most (resettles edition most input).output (all_room most) ≡ done
  pub same : job_of (resettles edition most input).output ≡ resettled edition (job_of input)
  pub night : prints edition most (resettles edition most input).output
      ≡ (let new = resettled edition (job_of input) in report new (run_figures_of done (first_pass edition new) (run_by edition new)) (last_pass edition new).sides_after)
