-- What the steps of a comparison promise one another. Assumes nothing.
use Rattle.std.specs.Prelude.{◌≡◌, ℕ, ◌+◌, ◌*◌, ◌≤◌, cond, List, ◌++◌, length, Result, Ok, Err}
use Rattle.rules.specs.declared.refusal.Refusal.{Refusal}
use Rattle.rules.specs.declared.Difference.{Difference}
use Rattle.rules.specs.Numbers.{verdict_of, Compared}
use Rattle.rules.specs.Job.{Limits}
use Rattle.rules.specs.Check.{done, is_done}
use Rattle.rules.specs.Stored.{job_of}
use Rattle.rules.specs.Compare.{differences, read_for, compared}
use Rattle.report.specs.Comparison.{records_in}
use Rattle.comparer.specs.declared.notes.Notes.{Notes}

-- ---- a step notes records behind those that are there

-- the first n records of the numbers before, and these behind them, are the first m after
pub record Noted (n : ℕ) (before : List ℕ) (ds : List Difference) (m : ℕ) (after : List ℕ) : Type 0 where
  pub many : m ≡ n + length ds
  pub noted : records_in m after ≡ records_in n before ++ ds

-- the notes have these records more, at most k, in the same numbers
pub record Adds (k : ℕ) (old : Notes) (ds : List Difference) (new : Notes) : Type 0 where
  pub same : new.numbers.ghost_name ≡ old.numbers.ghost_name
  pub long : length new.numbers.now ≡ length old.numbers.now
  pub few : new.count ≤ old.count + k
  pub noted : Noted old.count old.numbers.now ds new.count new.numbers.now

-- room for k records more
abbrev pub RoomFor : ℕ → Notes → Type 0
RoomFor k notes = 4 * (notes.count + k) ≤ length notes.numbers.now

-- ---- what is found of two stored jobs, whatever list is lent

-- as src/ has it: how many differences, or a refusal and its job
abbrev pub as_found : Result ℕ (ℕ × Refusal) → Compared
as_found (Ok n) = compared 0 done n
as_found (Err (job, refusal)) = compared job (verdict_of refusal) 0

-- a refusal, job 1's first, or the number of differences
abbrev pub answer_of : Limits → List ℕ → List ℕ → Compared
answer_of most old new =
    let v = read_for most old in
    let w = read_for most new in
    cond (is_done v) (cond (is_done w) (compared 0 done (length (differences (job_of old) (job_of new)))) (compared 2 w 0)) (compared 1 v 0)
