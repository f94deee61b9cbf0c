-- What holds of comparing two jobs, a fact to a field. A line above each record names its proof and what that asks. Assumes nothing.
use Rattle.std.specs.Prelude.{◌≡◌, ◌≢◌, ℕ, ◌≤◌, ◌<◌, cond, List, [], ◌∷◌, length, get_or, take, eqb}
use Rattle.rules.specs.declared.Difference.{Difference}
use Rattle.rules.specs.Lists.{onto, AllBelow}
use Rattle.rules.specs.Job.{Job, Limits, file_count, recipe_count, pin_count, view}
use Rattle.rules.specs.Split.{side_of, size_of}
use Rattle.rules.specs.Check.{done}
use Rattle.rules.specs.Stored.{job_of}
use Rattle.rules.specs.Marked.{small, chain}
use Rattle.rules.specs.Theorems.{most_bytes}
use Rattle.rules.specs.Writing.{with_sides}
use Rattle.rules.specs.Compare.{difference, differences, most_differences, read_for, compared, comparing_of, comparing, compares}

-- ---- the differences (Comparing `differences-hold`, of two sound jobs)

-- what a record of this kind and number shows of a job: 1 to 7 the figures of its header, 8 to 10 size, side and mark of a file, 11 the length of a recipe
abbrev pub shown : Job → ℕ → ℕ → ℕ
shown job what n =
    cond (eqb what 1) (file_count job)
    (cond (eqb what 2) (recipe_count job)
    (cond (eqb what 3) (pin_count job)
    (cond (eqb what 4) job.num
    (cond (eqb what 5) job.den
    (cond (eqb what 6) job.cap
    (cond (eqb what 7) job.k
    (cond (eqb what 8) (size_of job n)
    (cond (eqb what 9) (side_of job.sides n)
    (cond (eqb what 10) (get_or job.marks n 0)
    (length (view job n)))))))))))

-- record i; beyond the last one of kind 0
abbrev pub record_at : List Difference → ℕ → Difference
record_at ds i = get_or ds i (difference 0 0 0 0)

-- what a record says is true of the two jobs
pub record Told (old new : Job) (d : Difference) : Type 0 where
  pub kind : (1 ≤ d.what) × (d.what ≤ 11)
  pub before : d.old ≡ shown old d.what d.number
  pub after : d.new ≡ shown new d.what d.number
  pub figures : d.what ≢ 11 → d.old ≢ d.new
  pub pins : d.what ≡ 11 → view old d.number ≢ view new d.number
  pub header : d.what ≤ 7 → d.number ≡ 0

-- the records hold one of this kind and number
abbrev pub Has : Job → Job → ℕ → ℕ → Type 0
Has old new what n =
    (i : ℕ) × (i < length (differences old new)) × (record_at (differences old new) i ≡ difference what n (shown old what n) (shown new what n))

pub record DifferencesHold (most : Limits) (old new : Job) : Type 0 where
  -- each record is true of the two jobs
  pub told : (i : ℕ) → i < length (differences old new) → Told old new (record_at (differences old new) i)
  -- and each difference has its record
  pub header : (what : ℕ) → 1 ≤ what → what ≤ 7 → shown old what 0 ≢ shown new what 0 → Has old new what 0
  pub files : (what f : ℕ) → 8 ≤ what → what ≤ 10 → shown old what f ≢ shown new what f → Has old new what f
  pub recipes : (j : ℕ) → view old j ≢ view new j → Has old new 11 j
  -- none exactly if the two jobs are one
  pub none : differences old new ≡ [] → old ≡ new
  pub alike : old ≡ new → differences old new ≡ []
  -- how many there are at most
  pub few : length (differences old new) ≤ most_differences most

-- ---- the call and the program (Comparing `compare-holds`, of any input)

pub record CompareHolds (most : Limits) (old new : List ℕ) (room : List Difference) : Type 0 where
  -- job 1's refusal first, then job 2's; the list is left as it was
  pub first : (read_for most old).number ≢ 0 → comparing most old new room ≡ comparing_of (compared 1 (read_for most old) 0) room
  pub second : (read_for most old).number ≡ 0 → (read_for most new).number ≢ 0 → comparing most old new room ≡ comparing_of (compared 2 (read_for most new) 0) room
  -- then 30 for a list that is too short, with the number needed, and the list is left as it was
  pub short : (read_for most old).number ≡ 0 → (read_for most new).number ≡ 0 → length room < length (differences (job_of old) (job_of new))
      → comparing most old new room ≡ comparing_of (compared 0 (record { number = 30; place = 0 }) (length (differences (job_of old) (job_of new)))) room
  -- else the records, and entries beyond the last stay
  pub made : (read_for most old).number ≡ 0 → (read_for most new).number ≡ 0 → length (differences (job_of old) (job_of new)) ≤ length room
      → comparing most old new room
      ≡ comparing_of (compared 0 done (length (differences (job_of old) (job_of new)))) (onto (differences (job_of old) (job_of new)) room)
  -- all that holds of the differences of two sound jobs holds of those read
  pub read : (read_for most old).number ≡ 0 → (read_for most new).number ≡ 0 → DifferencesHold most (job_of old) (job_of new)
  -- a list that has room for the most is never refused as 30
  pub enough : most_differences most ≤ length room → (comparing most old new room).answer.verdict.number ≢ 30
  -- no differences exactly if the stored jobs are byte for byte equal
  pub equal : AllBelow 256 old → AllBelow 256 new → (read_for most old).number ≡ 0 → (read_for most new).number ≡ 0
      → differences (job_of old) (job_of new) ≡ [] → old ≡ new
  pub itself : old ≡ new → differences (job_of old) (job_of new) ≡ []
  -- the program prints nothing exactly then
  pub silent : AllBelow 256 old → AllBelow 256 new → compares most old new ≡ [] → old ≡ new
  pub quiet : (read_for most old).number ≡ 0 → old ≡ new → compares most old new ≡ []
  -- and need read no further than the largest job goes
  pub longer : (k : ℕ) → most_bytes most < k → compares most (take k old) (take k new) ≡ compares most old new

-- ---- jobs worked by hand (Comparing `worked`)

pub record CompareWorked : Type 0 where
  -- the chain before and after its night: file 1 went from B to A
  pub night : differences chain (with_sides chain (0 ∷ 0 ∷ 0 ∷ 1 ∷ [])) ≡ difference 9 1 1 0 ∷ []
  -- recipe 2 with its pins in another order: the lengths are equal
  pub order : differences chain (small (0 ∷ 1 ∷ 0 ∷ 1 ∷ []) (0 ∷ 2 ∷ 4 ∷ 6 ∷ []) (0 ∷ 1 ∷ 2 ∷ 3 ∷ 2 ∷ 1 ∷ [])) ≡ difference 11 2 2 2 ∷ []
  -- without its last recipe, and file 3 with it
  pub less : differences chain (small (0 ∷ 1 ∷ 0 ∷ []) (0 ∷ 2 ∷ 4 ∷ []) (0 ∷ 1 ∷ 1 ∷ 2 ∷ []))
      ≡ difference 1 0 4 3 ∷ difference 2 0 3 2 ∷ difference 3 0 6 4 ∷ difference 8 3 1 0 ∷ difference 9 3 1 0 ∷ difference 11 1 2 2 ∷ difference 11 2 2 0 ∷ []
