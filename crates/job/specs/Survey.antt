-- The survey: the check, and the figures that a pass, a run or the balancing starts from. Assumes nothing.
use Rattle.std.specs.Prelude.{ℕ, Bool, true, false, cond, Result, Ok, Err}
use Rattle.job.specs.declared.figures.Surveyed.{Surveyed}
use Rattle.rules.specs.declared.refusal.Refusal.{Refusal}
use Rattle.rules.specs.declared.Verdict.{Verdict}
use Rattle.rules.specs.Numbers.{verdict_of}
use Rattle.rules.specs.Job.{Job, Limits, recipes}
use Rattle.rules.specs.Split.{cut, unread_files, unread_recipes, weight, tolerance, size_a}
use Rattle.rules.specs.Check.{done, is_done, check}
use Rattle.rules.specs.Balance.{balance_check}

-- W, the tolerance, |A|, the cut, and the numbers of unread files and of recipes that hold one
pub record Survey : Type 0 where
  pub verdict : Verdict
  pub weight : ℕ
  pub tolerance : ℕ
  pub size : ℕ
  pub cut : ℕ
  pub unread : ℕ
  pub holding : ℕ

-- 1 to 8 and 10, and then the 9 of the balancing or that of a pass
abbrev pub check_for : Bool → Limits → Job → Bool → Verdict
check_for balancing most job lent = cond balancing (balance_check most job lent) (check most job lent)

-- all other numbers of a refused answer are 0
unfoldable pub survey_of : Bool → Limits → Job → Bool → Survey
survey_of balancing most job lent =
    let v = check_for balancing most job lent in
    elim (is_done v) [
      | true ↦ record {
        verdict = v;
        weight = weight job;
        tolerance = tolerance job;
        size = size_a job job.sides;
        cut = cut job.sides (recipes job);
        unread = unread_files job;
        holding = unread_recipes job;
      }
      | false ↦ record { verdict = v; weight = 0; tolerance = 0; size = 0; cut = 0; unread = 0; holding = 0 }
    ]

-- the verdict of an answer, whatever it hands out where it is done
abbrev pub verdict_in : {A : Type 0} → Result A Refusal → Verdict
verdict_in (Ok _) = done
verdict_in (Err r) = verdict_of r

-- the survey as src/ answers it, and its numbers
abbrev pub as_survey : Result Surveyed Refusal → Survey
as_survey (Ok s) = record {
  verdict = done;
  weight = s.weight;
  tolerance = s.tolerance;
  size = s.size;
  cut = s.cut;
  unread = s.unread;
  holding = s.holding;
}
as_survey (Err r) = record { verdict = verdict_of r; weight = 0; tolerance = 0; size = 0; cut = 0; unread = 0; holding = 0 }
