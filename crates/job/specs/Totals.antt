-- W, smax, |A|, the least and the most that it can be, and the numbers of free and of unread files, as one walk over the files adds them up. Assumes nothing.
use Rattle.std.specs.Prelude.{ℕ, ◌+◌, ◌*◌, ◌≤◌, max, ◌≡◌, Bool, not, cond, ◌&&◌, ◌||◌, eqb}
use Rattle.job.specs.declared.Job.{Job as Figures}
use Rattle.job.specs.declared.figures.Totals.{Totals}
use Rattle.job.specs.Parts.{whole_job}
use Rattle.rules.specs.Lists.{bit, total, count, largest, up_to}
use Rattle.rules.specs.Job.{Job, Limits, is_read, file_count}
use Rattle.rules.specs.Split.{on_side, size_of, is_free, weighs, large_enough, small_enough}
use Rattle.rules.specs.declared.Verdict.{Verdict}
use Rattle.rules.specs.Check.{refuse_if, ◌or_else◌, allows_empty, check_start, check_goal}
use Rattle.rules.specs.Balance.{none_balanced}

-- those of the first n files
unfoldable pub totals_of : Job → ℕ → Totals
totals_of job n = record {
  weight = total (weighs job) (up_to n);
  largest = largest (λ f. bit (is_free job f) * size_of job f) (up_to n);
  size = total (λ f. bit (on_side job.sides 0 f) * weighs job f) (up_to n);
  least = total (λ f. bit (not (is_free job f) && on_side job.sides 0 f) * weighs job f) (up_to n);
  most = total (λ f. bit (is_free job f || on_side job.sides 0 f) * weighs job f) (up_to n);
  free = count (is_free job) (up_to n);
  unread = count (λ f. not (is_read job f)) (up_to n);
}

-- what a file of this size and mark weighs
abbrev pub weight_of : ℕ → ℕ → ℕ
weight_of size mark = bit (not (eqb mark 2)) * size

-- one file more, of the given size, side and mark
abbrev pub with_file : Totals → ℕ → ℕ → ℕ → Totals
with_file t size side mark = record {
  weight = t.weight + weight_of size mark;
  largest = max t.largest (bit (eqb mark 0) * size);
  size = t.size + bit (eqb side 0) * weight_of size mark;
  least = t.least + bit (not (eqb mark 0) && eqb side 0) * weight_of size mark;
  most = t.most + bit (eqb mark 0 || eqb side 0) * weight_of size mark;
  free = t.free + bit (eqb mark 0);
  unread = t.unread + bit (eqb mark 2);
}

-- none of them is over b
pub record Within (t : Totals) (b : ℕ) : Type 0 where
  pub weight : t.weight ≤ b
  pub largest : t.largest ≤ b
  pub size : t.size ≤ b
  pub least : t.least ≤ b
  pub most : t.most ≤ b
  pub free : t.free ≤ b
  pub unread : t.unread ≤ b

-- t are the totals of n files, each of a two-byte size
pub record Added (job : Job) (n : ℕ) (t : Totals) : Type 0 where
  pub is : t ≡ totals_of job n
  pub within : Within t (n * 65535)

-- the job has these figures and totals t
pub record Has (job : Job) (figures : Figures) (t : Totals) : Type 0 where
  pub job_is : job ≡ whole_job figures job.sizes job.sides job.marks job.bounds job.pins
  pub totals : t ≡ totals_of job (file_count job)

-- the tolerance that these figures and totals make
abbrev pub tolerance_by : Figures → Totals → ℕ
tolerance_by figures t = figures.k * t.largest

-- the most that |A| can be is large enough, and the least small enough
abbrev pub reaches : Figures → Totals → ℕ → ℕ → Bool
reaches figures t least most =
    let m = tolerance_by figures t in
    large_enough figures.num figures.den t.weight m most && small_enough figures.num figures.den t.weight m least

-- the window that they make would allow a vault of size 0
abbrev pub may_empty_by : Figures → Totals → Bool
may_empty_by figures t = allows_empty figures.num figures.den t.weight (tolerance_by figures t)

-- the 9 of the balancing, or that of a pass
abbrev pub start_for : Bool → Job → Verdict
start_for balancing job = cond balancing (refuse_if (none_balanced job) 9 0) (check_start job)

-- v is what 9 gives of every job with these figures and totals t
abbrev pub GivesStart : Bool → Figures → Totals → Verdict → Type 0
GivesStart balancing figures t v = (job : Job) → Has job figures t → v ≡ start_for balancing job

-- v is what 7 to 10 give of it
abbrev pub GivesRest : Bool → Limits → Figures → Totals → Verdict → Type 0
GivesRest balancing most figures t v = (job : Job) → Has job figures t → v ≡ (check_goal most job or_else start_for balancing job)
