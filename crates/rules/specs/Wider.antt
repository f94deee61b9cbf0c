-- Document 02, order 6: a wider window when asked. What a header's six or seven values mean, what k = 1 leaves as it was, and windows worked by hand.
-- Assumes nothing.
use Rattle.std.specs.Prelude.{◌≡◌, ◌≢◌, ◌⊎◌, ℕ, ◌≤◌, true, false, List, [], ◌∷◌, map, get_or}
use Rattle.rules.specs.Job.{Job, Limits, as_job, limits_of}
use Rattle.rules.specs.Split.{smax, tolerance, balanced}
use Rattle.rules.specs.Check.{check_job}
use Rattle.rules.specs.Stored.{block_at, value, values_in, bad_check, Room, under_one, header_of, read_verdict}
use Rattle.rules.specs.Writing.{header_for}

-- ---- a header has six values or seven (Wider `header-counts`, of any bytes)

-- byte 3 of block 0
abbrev pub count_read : List ℕ → ℕ
count_read bytes = get_or (block_at bytes 0) 3 0

pub record HeaderCounts (most : Limits) (bytes : List ℕ) (room : Room) : Type 0 where
  -- six values mean k = 1, and seven carry k
  pub six : count_read bytes ≡ 6 → (header_of bytes).k ≡ 1
  pub seven : count_read bytes ≡ 7 → (header_of bytes).k ≡ value bytes 0 6
  -- a stored job that is read has six, or seven of which the last is 2, 3 or 4
  pub read : (read_verdict most bytes room).number ≡ 0 → (count_read bytes ≡ 6) ⊎ ((count_read bytes ≡ 7) × (2 ≤ value bytes 0 6) × (value bytes 0 6 ≤ 4))
  -- all else is 22 at block 0, once that is there with its check: another count, or a seventh value of 0, 1, 5 or more
  pub other_count : under_one bytes ≡ false → bad_check (block_at bytes 0) ≡ false → count_read bytes ≢ 6 → count_read bytes ≢ 7
      → read_verdict most bytes room ≡ record { number = 22; place = 0 }
  pub other_k : under_one bytes ≡ false → bad_check (block_at bytes 0) ≡ false → count_read bytes ≡ 7 → (value bytes 0 6 ≤ 1) ⊎ (5 ≤ value bytes 0 6)
      → read_verdict most bytes room ≡ record { number = 22; place = 0 }

-- ---- k = 1 is as before (Wider `one-as-before`, of any job)

pub record OneAsBefore (job : Job) : Type 0 where
  pub tolerance : job.k ≡ 1 → tolerance job ≡ smax job
  pub values : job.k ≡ 1 → values_in (header_for job) 0 ≡ 6

-- ---- a job worked by hand (Wider `worked`)

-- sizes 1, 1, 2, 2, 4, ratio 1/2, all but the last in A; file 4 is pinned, so that smax is 2 and W is 10
abbrev pub room5 : ℕ → Job
room5 k = as_job (1 ∷ 1 ∷ 2 ∷ 2 ∷ 4 ∷ []) (0 ∷ 0 ∷ 0 ∷ 0 ∷ 1 ∷ []) (0 ∷ 0 ∷ 0 ∷ 0 ∷ 1 ∷ []) (0 ∷ 2 ∷ 5 ∷ []) (0 ∷ 1 ∷ 2 ∷ 3 ∷ 4 ∷ []) 1 2 0 k

pub record WiderWorked : Type 0 where
  -- A may be 3 to 7 at k = 1 and 1 to 9 at k = 2; from k = 3 on the window holds anything
  pub one : map (balanced (room5 1)) (2 ∷ 3 ∷ 7 ∷ 8 ∷ []) ≡ false ∷ true ∷ true ∷ false ∷ []
  pub two : map (balanced (room5 2)) (0 ∷ 1 ∷ 9 ∷ 10 ∷ []) ≡ false ∷ true ∷ true ∷ false ∷ []
  pub three : map (balanced (room5 3)) (0 ∷ 10 ∷ []) ≡ true ∷ true ∷ []
  -- k is 1 to 4; where the window holds anything order 8 gives 10
  pub checked : map (λ k. (check_job (limits_of 5 2 5 2) (room5 k)).number) (0 ∷ 1 ∷ 2 ∷ 3 ∷ 4 ∷ 5 ∷ 6 ∷ 65535 ∷ []) ≡ 7 ∷ 0 ∷ 0 ∷ 10 ∷ 10 ∷ 7 ∷ 7 ∷ 7 ∷ []
