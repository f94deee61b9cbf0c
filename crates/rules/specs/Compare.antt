-- Document 02, order 7: compare last night with tonight. The differences of two jobs, the call over two stored jobs, and the program `compare`.
-- Assumes nothing.
use Rattle.std.specs.Prelude.{ℕ, ◌+◌, ◌*◌, max, Bool, true, false, cond, ◌&&◌, List, [], ◌∷◌, ◌++◌, length, get_or, leb, eqb}
use Rattle.rules.specs.declared.Verdict.{Verdict}
use Rattle.rules.specs.declared.Header.{Header}
use Rattle.rules.specs.declared.Difference.{Difference}
use Rattle.rules.specs.Numbers.{Compared}
use Rattle.rules.specs.Lists.{in_turn, onto}
use Rattle.rules.specs.Job.{Job, Limits, file_count, recipe_count, view}
use Rattle.rules.specs.Split.{side_of, size_of}
use Rattle.rules.specs.Check.{done, is_done, refuse_if}
use Rattle.rules.specs.Stored.{job_of, read_verdict}
use Rattle.rules.specs.Report.{digits, spaced, line, all_room}
use Rattle.rules.specs.Writing.{header_for}

-- ---- the differences of two jobs, old and new

abbrev pub difference : ℕ → ℕ → ℕ → ℕ → Difference
difference what number old new = record { what = what; number = number; old = old; new = new }

-- a record where two figures differ
abbrev pub figure : ℕ → ℕ → ℕ → ℕ → List Difference
figure what number old new = cond (eqb old new) [] (difference what number old new ∷ [])

-- 1 to 7 for C, N, P, num, den, cap, k, with number 0
unfoldable pub head_differences : Header → Header → List Difference
head_differences old new =
    figure 1 0 old.files new.files
    ++ figure 2 0 old.recipes new.recipes
    ++ figure 3 0 old.pins new.pins
    ++ figure 4 0 old.num new.num
    ++ figure 5 0 old.den new.den
    ++ figure 6 0 old.cap new.cap
    ++ figure 7 0 old.k new.k

-- 8 to 10 for size, side and mark of file f, which reads as zeros where a job lacks it
unfoldable pub file_differences : Job → Job → ℕ → List Difference
file_differences old new f =
    figure 8 f (size_of old f) (size_of new f)
    ++ figure 9 f (side_of old.sides f) (side_of new.sides f)
    ++ figure 10 f (get_or old.marks f 0) (get_or new.marks f 0)

-- the same numbers in the same order
unfoldable pub same : List ℕ → List ℕ → Bool
same [] [] = true
same [] (y ∷ ys) = false
same (x ∷ xs) [] = false
same (x ∷ xs) (y ∷ ys) = eqb x y && same xs ys

-- 11 for recipe j, with the two lengths, where the pin sequences differ; it is empty where a job lacks it
unfoldable pub recipe_differences : Job → Job → ℕ → List Difference
recipe_differences old new j = cond (same (view old j) (view new j)) [] (difference 11 j (length (view old j)) (length (view new j)) ∷ [])

-- then file by file, then recipe by recipe
unfoldable pub differences : Job → Job → List Difference
differences old new =
    head_differences (header_for old) (header_for new)
    ++ in_turn (file_differences old new) (max (file_count old) (file_count new))
    ++ in_turn (recipe_differences old new) (max (recipe_count old) (recipe_count new))

-- no two jobs have more: seven of the header, three of each file, one of each recipe
abbrev pub most_differences : Limits → ℕ
most_differences most = 7 + 3 * most.files + most.recipes

-- ---- the call: it is lent two stored jobs and a list of records

-- what it answers, and what the list then holds
pub record Comparing : Type 0 where
  pub answer : Compared
  pub room : List Difference

-- of the answer and the list of a call, for contracts
abbrev pub comparing_of : Compared → List Difference → Comparing
comparing_of a room = record { answer = a; room = room }

abbrev pub compared : ℕ → Verdict → ℕ → Compared
compared job v count = record { job = job; verdict = v; count = count }

-- a stored job is read up to check 6, with room for every job
abbrev pub read_for : Limits → List ℕ → Verdict
read_for most bytes = read_verdict most bytes (all_room most)

-- of what was read: a list that is too short is refused as 30, with the number needed; entries beyond the last record stay
unfoldable pub comparing_jobs : Job → Job → List Difference → Comparing
comparing_jobs old new room =
    let found = differences old new in
    cond (leb (length found) (length room))
    (comparing_of (compared 0 done (length found)) (onto found room))
    (comparing_of (compared 0 (refuse_if true 30 0) (length found)) room)

-- job 1's refusal first; refused, the list is left as it was
unfoldable pub comparing : Limits → List ℕ → List ℕ → List Difference → Comparing
comparing most old new room =
    let v = read_for most old in
    let w = read_for most new in
    cond (is_done v) (cond (is_done w) (comparing_jobs (job_of old) (job_of new) room) (comparing_of (compared 2 w 0) room)) (comparing_of (compared 1 v 0) room)

-- ---- the program: two files, each empty where it cannot be opened or is not named

-- each record's four numbers on a line, one space between
unfoldable pub difference_line : Difference → List ℕ
difference_line d = digits d.what ++ spaced (d.number ∷ d.old ∷ d.new ∷ []) ++ (10 ∷ [])

unfoldable pub difference_lines : List Difference → List ℕ
difference_lines [] = []
difference_lines (d ∷ ds) = difference_line d ++ difference_lines ds

-- `refused`, job, number and place
unfoldable pub refused_of : ℕ → Verdict → List ℕ
refused_of job v = line "refused" (job ∷ v.number ∷ v.place ∷ [])

-- it has room for every record, so that 30 is never given; nothing is printed of two jobs that are alike
unfoldable pub compares : Limits → List ℕ → List ℕ → List ℕ
compares most old new =
    let v = read_for most old in
    let w = read_for most new in
    cond (is_done v) (cond (is_done w) (difference_lines (differences (job_of old) (job_of new))) (refused_of 2 w)) (refused_of 1 v)
