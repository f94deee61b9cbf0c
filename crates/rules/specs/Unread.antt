-- Document 02, order 5: files that could not be read. What it leaves as it was, and a job worked by hand. Assumes nothing.
use Rattle.std.specs.Prelude.{◌≡◌, ◌≢◌, ℕ, ◌*◌, ◌/◌, ◌||◌, List, [], ◌∷◌, ◌++◌, get_or, ltb, eqb}
use Rattle.rules.specs.Lists.{bit, total}
use Rattle.rules.specs.Job.{Job, as_job, Limits, files, views, recipes}
use Rattle.rules.specs.Split.{side_of, on_side, size_of, weighs, unread_files, unread_recipes, weight, smax, size_on, cut}
use Rattle.rules.specs.Check.{bad_file}
use Rattle.rules.specs.Move.{start, scans, visits}
use Rattle.rules.specs.Stored.{over_second}
use Rattle.rules.specs.Theorems.{Sound}
use Rattle.rules.specs.Report.{text, line, first_lines, letter, letter_of}

-- ---- with no mark 2 everything is what it was (Unread `as_before`, of any job without one): the definitions that order 5 changed are those of document 01

-- no mark is 2
abbrev pub NoneUnread : Job → Type 0
NoneUnread job = (f : ℕ) → get_or job.marks f 0 ≢ 2

pub record AsBefore (most : Limits) (job : Job) : Type 0 where
  -- 6 is given for size 0, side over 1 or mark over 1
  pub file : (f : ℕ) → bad_file job f ≡ (eqb (size_of job f) 0 || ltb 1 (get_or job.sides f 0) || ltb 1 (get_or job.marks f 0))
  -- and 22 for a file's second value over 3, where none is 4 or 5, which would be a mark 2
  pub second : (v : ℕ) → v / 2 ≢ 2 → over_second v ≡ ltb 3 v
  -- cut, gains and scans go by whole recipes, in a job that passes 1 to 6
  pub recipes : Sound most job → recipes job ≡ views job
  pub weighs : (f : ℕ) → weighs job f ≡ size_of job f
  pub weight : weight job ≡ total (size_of job) (files job)
  pub size : (u : ℕ) (sides : List ℕ) → size_on job u sides ≡ total (λ f. bit (on_side sides u f) * size_of job f) (files job)
  pub unread : unread_files job ≡ 0
  pub holding : unread_recipes job ≡ 0
  pub first : first_lines (unread_files job) (unread_recipes job) ≡ line "done" []
  pub letter : (sides : List ℕ) (f : ℕ) → letter_of job sides f ≡ letter (side_of sides f)

-- ---- a job worked by hand (Unread `worked`)

-- files 0, 1 and 3 of size 1; file 2, of size 9, could not be read; recipes {0,1,2}, {2,3} and {0,1,3}; all but file 3 in A
abbrev pub torn : Job
torn =
    as_job (1 ∷ 1 ∷ 9 ∷ 1 ∷ []) (0 ∷ 0 ∷ 0 ∷ 1 ∷ []) (0 ∷ 0 ∷ 2 ∷ 0 ∷ []) (0 ∷ 3 ∷ 5 ∷ 8 ∷ []) (0 ∷ 1 ∷ 2 ∷ 2 ∷ 3 ∷ 0 ∷ 1 ∷ 3 ∷ [])
    1 2 0 1

pub record UnreadWorked : Type 0 where
  -- each recipe's readable files, in place; none where they are fewer than two
  pub read : recipes torn ≡ (0 ∷ 1 ∷ []) ∷ [] ∷ (0 ∷ 1 ∷ 3 ∷ []) ∷ []
  -- W is 3 and smax 1; file 2 counts in neither vault
  pub weighed : weight torn ≡ 3
  pub most : smax torn ≡ 1
  pub sizes : (size_on torn 0 torn.sides ≡ 2) × (size_on torn 1 torn.sides ≡ 1)
  -- {2,3} lies in both vaults, but has one readable file: it is not cut
  pub cuts : cut torn.sides (recipes torn) ≡ 1
  -- moving file 0: in {0,1,2} T is 0 and one free file is left, two scans; in {0,1,3} T is 1 and one free file is left, two scans. Each scan of {0,1,2} visits all three files
  pub visited : visits (views torn) (scans (recipes torn) (start torn torn.sides) (0 ∷ [])) ≡ 12
  -- one file could not be read, and two recipes hold it
  pub unread : (unread_files torn ≡ 1) × (unread_recipes torn ≡ 2)
  pub told : first_lines (unread_files torn) (unread_recipes torn) ≡ text "partial" ++ (10 ∷ []) ++ text "unread 1 2" ++ (10 ∷ [])
  pub letter : letter_of torn torn.sides 2 ≡ 63
