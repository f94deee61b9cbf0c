-- What the inner steps of a report and of a trace promise one another; the promise of the report itself cites nothing here but how much room is
-- enough. Assumes nothing.
use Rattle.std.specs.Prelude.{◌≡◌, ◌≢◌, ℕ, ◌≤◌, Bool, not, cond, ◌&&◌, List, [], length, get_or, ltb, eqb, Result, Ok, Err}
use Rattle.rules.specs.declared.Verdict.{Verdict}
use Rattle.rules.specs.declared.refusal.Refusal.{Refusal}
use Rattle.rules.specs.Numbers.{verdict_of}
use Rattle.rules.specs.Check.{done, refuse_if, refuse_at, ◌or_else◌}
use Rattle.rules.specs.Report.{line}

-- the verdict of what answers something or a refusal
abbrev pub verdict_on : {A : Type 0} → Result A Refusal → Verdict
verdict_on (Ok _) = done
verdict_on (Err r) = verdict_of r

-- the verdict on a split in two parts: before its text is counted, and after
unfoldable pub lengths_verdict : ℕ → List ℕ → List ℕ → List ℕ → Verdict
lengths_verdict most sizes sides marks =
    refuse_if (ltb most (length sizes)) 2 0
    or_else refuse_if (not (eqb (length sides) (length sizes) && eqb (length marks) (length sizes))) 3 0

unfoldable pub room_verdict : List ℕ → Bool → Verdict
room_verdict sides lent = refuse_if (not lent) 3 0 or_else refuse_at 6 (λ f. ltb 1 (get_or sides f 0)) (length sides)

-- what the first lets through: not too many files, and a side and a mark for each
pub record EachFile (most : ℕ) (sizes sides marks : List ℕ) : Type 0 where
  pub few : length sizes ≤ most
  pub sided : length sides ≡ length sizes
  pub marked : length marks ≡ length sizes

-- room of n bytes holds every text, so that it is never refused
abbrev pub Enough : ℕ → Verdict → List ℕ → List ℕ → List ℕ → List ℕ → Type 0
Enough n v sizes sides marks room = length sides ≡ length sizes → length marks ≡ length sizes → n ≤ length room → v.number ≢ 3

abbrev pub settled_line : Bool → List ℕ
settled_line settled = line (cond settled "settled yes" "settled no") []
