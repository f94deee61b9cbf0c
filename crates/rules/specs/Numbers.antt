-- What each call answers, as documents 01 and 02 list it: its numbers, a number for no and its place among them. All other numbers of a refused answer are 0.
-- The calls themselves answer a `Result`, each case of which has its numbers in specs/Cases.antt; the promises use these. Assumes nothing.
use Rattle.std.specs.Prelude.{ℕ, Bool, Result, Ok, Err}
use Rattle.rules.specs.declared.refusal.Refusal.{Refusal}
use Rattle.rules.specs.declared.refusal.Refusal.TheVariants.{Empty, OverMost, WrongLength, BadBounds, BadPin, BadFile, BadRatio, NoneFree, Unbalanced, MayEmpty, BadTotal, BadCheck, BadLayout, NoEdition}
use Rattle.rules.specs.declared.Verdict.{Verdict}
use Rattle.rules.specs.declared.Header.{Header}

-- ---- the answers

-- the measure: the cut and |A| of a job as it stands, and the numbers of unread files and of recipes that hold one
pub record Measure : Type 0 where
  pub verdict : Verdict
  pub cut : ℕ
  pub size : ℕ
  pub unread : ℕ
  pub holding : ℕ

-- a pass: the cut before; the cut and |A| after; moves tried and kept, scans, visits; unread files and recipes that hold one
pub record Figures : Type 0 where
  pub verdict : Verdict
  pub before : ℕ
  pub cut : ℕ
  pub size : ℕ
  pub tried : ℕ
  pub kept : ℕ
  pub scans : ℕ
  pub visits : ℕ
  pub unread : ℕ
  pub holding : ℕ

-- a run: that of a pass, with the number of passes and settled besides
pub record RunFigures : Type 0 where
  pub figures : Figures
  pub passes : ℕ
  pub settled : Bool

-- reading: the header's figures
pub record ReadFigures : Type 0 where
  pub verdict : Verdict
  pub header : Header

-- making a report: how many bytes it has
pub record Printed : Type 0 where
  pub verdict : Verdict
  pub bytes : ℕ

-- a call that hands out: how many bytes go to standard output, and how many after them to standard error
pub record Handed : Type 0 where
  pub verdict : Verdict
  pub output : ℕ
  pub errors : ℕ

-- balancing: the moves made, and the cut and |A| after them; unread files and recipes that hold one
pub record BalanceFigures : Type 0 where
  pub verdict : Verdict
  pub moves : ℕ
  pub cut : ℕ
  pub size : ℕ
  pub unread : ℕ
  pub holding : ℕ

-- a comparison: the number of differences; or a refusal and the job that it is of, 1 or 2, or 0 where the lent list is too short, and then the number of records needed
pub record Compared : Type 0 where
  pub job : ℕ
  pub verdict : Verdict
  pub count : ℕ

-- ---- the number and the place of a refusal

abbrev pub verdict_of : Refusal → Verdict
verdict_of Empty = record { number = 1; place = 0 }
verdict_of OverMost = record { number = 2; place = 0 }
verdict_of WrongLength = record { number = 3; place = 0 }
verdict_of (BadBounds recipe) = record { number = 4; place = recipe }
verdict_of (BadPin position) = record { number = 5; place = position }
verdict_of (BadFile file) = record { number = 6; place = file }
verdict_of BadRatio = record { number = 7; place = 0 }
verdict_of NoneFree = record { number = 8; place = 0 }
verdict_of Unbalanced = record { number = 9; place = 0 }
verdict_of MayEmpty = record { number = 10; place = 0 }
verdict_of BadTotal = record { number = 20; place = 0 }
verdict_of (BadCheck block) = record { number = 21; place = block }
verdict_of (BadLayout block) = record { number = 22; place = block }
verdict_of NoEdition = record { number = 32; place = 0 }

-- an answer with these in place of its refusal
abbrev pub in_numbers : {A : Type 0} → Result A Refusal → Result A Verdict
in_numbers (Ok a) = Ok a
in_numbers (Err r) = Err (verdict_of r)
