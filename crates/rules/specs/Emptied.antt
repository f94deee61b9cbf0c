-- Document 02, order 8: no vault may be emptied. What 10 says of the window and who never gives it, that no split of a job let through has an empty vault, and jobs worked by hand.
-- Assumes nothing.
use Rattle.std.specs.Prelude.{◌≡◌, ◌≢◌, ℕ, ◌≤◌, ◌<◌, true, false, ◌||◌, List, [], ◌∷◌, ◌++◌, map, length}
use Rattle.rules.specs.declared.Difference.{Difference}
use Rattle.rules.specs.Job.{Job, as_job, Limits, limits_of, Lent}
use Rattle.rules.specs.Split.{weight, size_on, size_a, balanced}
use Rattle.rules.specs.Check.{may_empty, check_job, check_lent, measure}
use Rattle.rules.specs.Pass.{pass_of}
use Rattle.rules.specs.Run.{passes, last_by, pass_ends, run_ends}
use Rattle.rules.specs.Stored.{job_of, Room, read_verdict}
use Rattle.rules.specs.Report.{text, prints}
use Rattle.rules.specs.Trace.{traces}
use Rattle.rules.specs.Writing.{write_verdict}
use Rattle.rules.specs.Balance.{balance_sides, none_balanced, balance_check, balance_verdict, balancing}
use Rattle.rules.specs.Compare.{comparing}
use Rattle.rules.specs.Marked.{small, checked}
use Rattle.rules.specs.Theorems.{Binary, Sides, state_at, Lawful, LawfulTry, state_in}

-- ---- 10 is given where the window would allow a vault of size 0 (Emptied `window-allows`, of any job whose num is not over its den)

-- |A| of 0 is balanced, or |A| of W, which leaves 0 for B
abbrev pub WindowAllows : Job → Type 0
WindowAllows job = may_empty job ≡ (balanced job 0 || balanced job (weight job))

-- ---- measure, reader, writer and the comparing never give it (Emptied `never-window`, of any input)

pub record NeverWindow (most : Limits) : Type 0 where
  pub measure : (job : Job) → (measure most job).verdict.number ≢ 10
  pub read : (bytes : List ℕ) (room : Room) → (read_verdict most bytes room).number ≢ 10
  pub write : (job : Job) (out : List ℕ) → (write_verdict most job out).number ≢ 10
  pub compare : (old new : List ℕ) (room : List Difference) → (comparing most old new room).answer.verdict.number ≢ 10

-- ---- no vault is emptied

-- the readable size of each vault is over 0
pub record BothHold (job : Job) (sides : List ℕ) : Type 0 where
  pub in_a : 0 < size_on job 0 sides
  pub in_b : 0 < size_on job 1 sides

-- (Emptied `none-emptied`, of a sound job with a k over 0 that 10 is not given of)
pub record NoneEmptied (job : Job) : Type 0 where
  -- no balanced split of it has an empty vault, whoever made it
  pub split : (sides : List ℕ) → Binary sides → balanced job (size_a job sides) ≡ true → BothHold job sides
  -- so none that a pass of lawful moves, as edition 1's are, meets on the way from a balanced start, nor the one that it returns
  pub met : (sides ms : List ℕ) → Sides job sides → Lawful job sides ms → balanced job (size_a job sides) ≡ true → (k : ℕ) → BothHold job (state_at job sides ms k).sides
  pub returned : (sides ms : List ℕ) → Sides job sides → Lawful job sides ms → balanced job (size_a job sides) ≡ true → BothHold job (pass_of job sides ms).sides_after
  -- none that a run of such passes meets, in every pass after every move, nor the one that it returns
  pub within : (try : List ℕ → List ℕ) → LawfulTry job try → balanced job (size_a job job.sides) ≡ true → (i k : ℕ) → i < length (passes job try)
      → BothHold job (state_in job try i k).sides
  pub ran : (try : List ℕ → List ℕ) → LawfulTry job try → balanced job (size_a job job.sides) ≡ true → BothHold job (last_by job try).sides_after
  -- nor the one that a balancing leaves, whatever the start, where the free files can be balanced; on the way a vault may be empty, as it may be at the start
  pub balancing : none_balanced job ≡ false → BothHold job (balance_sides job)

-- after a pass, a run or a balancing that is not refused each vault's readable size is over 0 (Emptied `calls-leave`, of any input)
pub record CallsLeave (edition : ℕ) (most : Limits) (job : Job) (l : Lent) : Type 0 where
  -- the start that the check lets through, and what the calls leave
  pub start : (check_lent edition most job l).number ≡ 0 → BothHold job job.sides
  pub pass : (check_lent edition most job l).number ≡ 0 → BothHold job (pass_ends edition most job l).sides
  pub run : (check_lent edition most job l).number ≡ 0 → BothHold job (run_ends edition most job l).sides
  pub balancing : (scratch : List ℕ) → (balance_verdict most job scratch).number ≡ 0 → BothHold job (balancing most job scratch).sides
  -- and on the way: all that is said above
  pub met : (check_lent edition most job l).number ≡ 0 → NoneEmptied job
  pub met_balancing : (scratch : List ℕ) → (balance_verdict most job scratch).number ≡ 0 → NoneEmptied job

-- ---- document 01's m5, and jobs at the edges of the test (Emptied `worked`)

-- one recipe {0,1}, sides A, B
abbrev pub pair : Job
pair = small (0 ∷ 1 ∷ []) (0 ∷ 2 ∷ []) (0 ∷ 1 ∷ [])

-- the pair as it is stored
abbrev pub pair_bytes : List ℕ
pair_bytes =
    checked 0 1 (2 ∷ 1 ∷ 2 ∷ 1 ∷ 2 ∷ 0 ∷ []) 184 85
    ++ (checked 1 2 (1 ∷ 0 ∷ 1 ∷ 1 ∷ []) 133 85
    ++ (checked 2 3 (0 ∷ 2 ∷ []) 118 85
    ++ checked 3 4 (0 ∷ 1 ∷ []) 115 85))

-- two free files of size 1 and a pinned one of size p: smax is 1, k·smax is k and W is p + 2; den is 3
abbrev pub edge : ℕ → List ℕ → ℕ → ℕ → Job
edge num sides p k = as_job (1 ∷ 1 ∷ p ∷ []) sides (0 ∷ 0 ∷ 1 ∷ []) (0 ∷ 3 ∷ []) (0 ∷ 1 ∷ 2 ∷ []) num 3 0 k

-- at 1/3 A may be empty if W is at most 3·k: file 0 in A, the others in B
abbrev pub edge_a : ℕ → ℕ → Job
edge_a p k = edge 1 (0 ∷ 1 ∷ 1 ∷ []) p k

-- at 2/3 B may be empty if 2·W + 3·k is at least 3·W: file 0 in B, the others in A
abbrev pub edge_b : ℕ → ℕ → Job
edge_b p k = edge 2 (1 ∷ 0 ∷ 0 ∷ []) p k

-- the numbers that the check and the balancing's give, of k = 1 to 4 with these pinned sizes
abbrev pub given : (ℕ → ℕ → Job) → ℕ → ℕ → ℕ → ℕ → List (ℕ × ℕ)
given job p q r s =
    map (λ j. ((check_job (limits_of 3 1 3 3) j).number, (balance_check (limits_of 3 1 3 3) j true).number))
    (job p 1 ∷ job q 2 ∷ job r 3 ∷ job s 4 ∷ [])

pub record EmptiedWorked : Type 0 where
  -- m5: refused 10, place 0, under any limits wide enough, by the check, the balancing and the programs; the measure answers as before
  pub m5·check : (most : Limits) → 2 ≤ most.files → 1 ≤ most.recipes → 2 ≤ most.pins → 2 ≤ most.den → check_job most pair ≡ record { number = 10; place = 0 }
  pub m5·balance : (most : Limits) → 2 ≤ most.files → 1 ≤ most.recipes → 2 ≤ most.pins → 2 ≤ most.den → balance_check most pair true ≡ record { number = 10; place = 0 }
  pub m5·stored : job_of pair_bytes ≡ pair
  pub m5·prints : (most : Limits) → 2 ≤ most.files → 1 ≤ most.recipes → 2 ≤ most.pins → 2 ≤ most.den → prints 1 most pair_bytes ≡ text "refused 10 0\n"
  pub m5·traces : (most : Limits) → 2 ≤ most.files → 1 ≤ most.recipes → 2 ≤ most.pins → 2 ≤ most.den → traces 1 most pair_bytes ≡ text "refused 10 0\n"
  pub m5·measure : ((measure (limits_of 2 1 2 2) pair).cut ≡ 1) × ((measure (limits_of 2 1 2 2) pair).size ≡ 1)
  -- the first half hit exactly, W = 3·k, and missed by one, W = 3·k + 1
  pub hit_a : given edge_a 1 4 7 10 ≡ (10, 10) ∷ (10, 10) ∷ (10, 10) ∷ (10, 10) ∷ []
  pub missed_a : given edge_a 2 5 8 11 ≡ (0, 0) ∷ (0, 0) ∷ (0, 0) ∷ (0, 0) ∷ []
  -- the second half hit exactly, 2·W + 3·k = 3·W, and missed by one
  pub hit_b : given edge_b 1 4 7 10 ≡ (10, 10) ∷ (10, 10) ∷ (10, 10) ∷ (10, 10) ∷ []
  pub missed_b : given edge_b 2 5 8 11 ≡ (0, 0) ∷ (0, 0) ∷ (0, 0) ∷ (0, 0) ∷ []
  -- before 9: all three in A, which is too large for 1/3; and after 8: with no file free and none that could be read W is 0
  pub before_start : check_job (limits_of 3 1 3 3) (edge 1 (0 ∷ 0 ∷ 0 ∷ []) 1 1) ≡ record { number = 10; place = 0 }
  pub unbalanced : balanced (edge 1 (0 ∷ 0 ∷ 0 ∷ []) 1 1) 3 ≡ false
  pub after_free : check_job (limits_of 2 1 2 2) (as_job (1 ∷ 1 ∷ []) (0 ∷ 1 ∷ []) (2 ∷ 2 ∷ []) (0 ∷ 2 ∷ []) (0 ∷ 1 ∷ []) 1 2 0 1) ≡ record { number = 8; place = 0 }
