-- The promise of each public call settles what it returns: any two results that meet it, of the same arguments, are equal.
-- The promises cited are those that the check reads from the contracts in src/. Assumes nothing.
use mathlib.Core.List.{List}
use mathlib.Core.Bool.{Bool}
use Prim.Native.Nat.{ℕ}
use Rattle.rules.proofs.Settling.{Settles, both}
use Rattle.rules.specs.declared.Verdict.{Verdict}
use Rattle.rules.specs.declared.refusal.Refusal.{Refusal}
use Rattle.rules.specs.declared.Measured.{Measured}
use Rattle.rules.proofs.CasesOne.{as_verdict-one, as_measure-one, case_of, case-refused, undone}
use Rattle.std.specs.Prelude.{◌≡◌, refl, Result, Ok, Err}
use denote.RattleType.{RattleType}
use denote.Param.Laws.{Laws}
use mir.Syntax.{Dict}
use Rattle.job.specs.declared.verdict.Numbered.{Ghosts}
use Rattle.job.specs.declared.Job.{Job}
use Rattle.job.specs.declared.figures.Surveyed.{Surveyed}
use Rattle.job.specs.Survey.{Survey, as_survey}
use Rattle.job.specs.declared.holds.Vaults.{Vaults}
use Rattle.job.proofs.Job.new.Kinds as new-kinds
use Rattle.job.proofs.Job.new.Reads as new
use Rattle.job.proofs.book.view.Kinds as view-kinds
use Rattle.job.proofs.book.view.Reads as view
use Rattle.job.proofs.check.Kinds as check-kinds
use Rattle.job.proofs.check.Reads as check
use Rattle.job.proofs.measure.Kinds as measure-kinds
use Rattle.job.proofs.measure.Reads as measure
use Rattle.job.proofs.survey.Kinds as survey-kinds
use Rattle.job.proofs.survey.Reads as survey
use Rattle.job.proofs.numbers.wide.Kinds as wide-kinds
use Rattle.job.proofs.numbers.wide.Reads as wide
use Rattle.job.proofs.numbers.entry_at.Kinds as entry-at-kinds
use Rattle.job.proofs.numbers.entry_at.Reads as entry_at
use Rattle.job.proofs.numbers.bit.Kinds as bit-kinds
use Rattle.job.proofs.numbers.bit.Reads as bit
use Rattle.job.proofs.figures.count_on.Kinds as count-on-kinds
use Rattle.job.proofs.figures.count_on.Reads as count-on
use Rattle.job.proofs.holds.tally.Kinds as tally-kinds
use Rattle.job.proofs.holds.tally.Reads as tally
use Rattle.job.proofs.book.recipe_count.Kinds as recipe-count-kinds
use Rattle.job.proofs.book.recipe_count.Reads as recipe-count
use Rattle.job.proofs.verdict.refuse_if.Kinds as refuse-if-kinds
use Rattle.job.proofs.verdict.refuse_if.Reads as refuse-if
use Rattle.job.proofs.verdict.or_else.Kinds as or-else-kinds
use Rattle.job.proofs.verdict.or_else.Reads as or-else
use Rattle.job.proofs.verdict.bad_k.Kinds as bad-k-kinds
use Rattle.job.proofs.verdict.bad_k.Reads as bad-k
use Rattle.job.proofs.verdict.check_counts.Kinds as check-counts-kinds
use Rattle.job.proofs.verdict.check_counts.Reads as check-counts
use Rattle.job.proofs.verdict.check_sound.Kinds as check-sound-kinds
use Rattle.job.proofs.verdict.check_sound.Reads as check_sound

-- the survey's numbers tell the whole answer: `as_survey` is one to one
abbrev survey_case : Survey → Result Surveyed Refusal
survey_case n = case_of n.verdict (record { weight = n.weight; tolerance = n.tolerance; size = n.size; cut = n.cut; unread = n.unread; holding = n.holding })

survey-back : (r : Result Surveyed Refusal) → survey_case (as_survey r) ≡ r
survey-back (Ok x) = refl
survey-back (Err r) = case-refused r _

pub as_survey-one : (r s : Result Surveyed Refusal) → as_survey r ≡ as_survey s → r ≡ s
as_survey-one = undone as_survey survey_case survey-back

pub check-settled : Settles 2 check-kinds.ps check-kinds.r (Result (Unit {0}) Refusal) (λ κs v _. v) check.Post
check-settled κs a x y e f p q = as_verdict-one x y (both p q)

pub measure-settled : Settles 2 measure-kinds.ps measure-kinds.r (Result Measured Refusal) (λ κs m _. m) measure.Post
measure-settled κs a x y e f p q = as_measure-one x y (both p q)

pub survey-settled : Settles 2 survey-kinds.ps survey-kinds.r (Result Surveyed Refusal) (λ κs s _. s) survey.Post
survey-settled κs a x y e f p q = as_survey-one x y (both p q)

-- the list that the part holds
pub view-settled : Settles 2 view-kinds.ps view-kinds.r (List ℕ) (λ κs s _. s.now) view.Post
view-settled κs a x y e f p q = both p q

pub new-settled : Settles 0 new-kinds.ps new-kinds.r Job (λ κs j _. j) new.Post
new-settled κs a x y e f p q = λ i. record { num = both p.0 q.0 i; den = both p.1 q.1 i; cap = both p.2 q.2 i; k = both p.3 q.3 i }

pub wide-settled : Settles 0 wide-kinds.ps wide-kinds.r ℕ (λ κs n _. n) wide.Post
wide-settled κs a x y e f p q = both p q

pub entry-at-settled : Settles 1 entry-at-kinds.ps entry-at-kinds.r ℕ (λ κs x _. x) entry_at.Post
entry-at-settled κs a x y e f p q = both p q

pub bit-settled : Settles 0 bit-kinds.ps bit-kinds.r ℕ (λ κs n _. n) bit.Post
bit-settled κs a x y e f p q = both p.0 q.0

pub count-on-settled : Settles 2 count-on-kinds.ps count-on-kinds.r ℕ (λ κs n _. n) count-on.Post
count-on-settled κs a x y e f p q = both p q

pub tally-settled : Settles 3 tally-kinds.ps tally-kinds.r Vaults (λ κs v _. v) tally.Post
tally-settled κs a x y e f p q = both p q

pub recipe-count-settled : Settles 1 recipe-count-kinds.ps recipe-count-kinds.r ℕ (λ κs n _. n) recipe-count.Post
recipe-count-settled κs a x y e f p q = both p q

-- of whatever has a number and a place
pub refuse-if-settled : (R : RattleType) (laws : Laws R) (numbers : Ghosts R.Denot) (d d' : Dict) → Settles 1 (refuse-if-kinds.ps R laws) (refuse-if-kinds.r R laws) (Result (Unit {0}) R.Denot) (λ κs v _. v) (refuse-if.Post R laws numbers d d')
refuse-if-settled R laws numbers d d' κs a x y e f p q = both p.0 q.0

pub or-else-settled : Settles 0 or-else-kinds.ps or-else-kinds.r Verdict (λ κs v _. v) or-else.Post
or-else-settled κs a x y e f p q = both p q

pub bad-k-settled : Settles 0 bad-k-kinds.ps bad-k-kinds.r Bool (λ κs b _. b) bad-k.Post
bad-k-settled κs a x y e f p q = both p q

pub check-counts-settled : Settles 0 check-counts-kinds.ps check-counts-kinds.r (Result (Unit {0}) Refusal) (λ κs v _. v) check-counts.Post
check-counts-settled κs a x y e f p q = as_verdict-one x y (both p q)

pub check-sound-settled : Settles 2 check-sound-kinds.ps check-sound-kinds.r (Result (Unit {0}) Refusal) (λ κs v _. v) check_sound.Post
check-sound-settled κs a x y e f p q = as_verdict-one x y (both p q)
