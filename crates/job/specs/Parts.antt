-- The job that a call is handed, and a job as a step sees it that is handed some of it only; the rest stands empty. Assumes nothing.
use Rattle.std.specs.Prelude.{ℕ, List, []}
use Rattle.rules.specs.Job.{Job, as_job}
use Rattle.job.specs.declared.Job.{Job as Figures}

-- the figures of a call and its five lists: every contract hands over a job by this, and no other names a figure
abbrev pub whole_job : Figures → List ℕ → List ℕ → List ℕ → List ℕ → List ℕ → Job
whole_job figures sizes sides marks bounds pins = as_job sizes sides marks bounds pins figures.num figures.den figures.cap figures.k

abbrev pub of_files : List ℕ → List ℕ → List ℕ → Job
of_files sizes sides marks = as_job sizes sides marks [] [] 0 0 0 0

abbrev pub of_recipes : List ℕ → List ℕ → Job
of_recipes bounds pins = as_job [] [] [] bounds pins 0 0 0 0

-- the marks alone, which say what is readable
abbrev pub of_marks : List ℕ → Job
of_marks marks = as_job [] [] marks [] [] 0 0 0 0

-- the recipes with the marks of their files
abbrev pub of_marked : List ℕ → List ℕ → List ℕ → Job
of_marked marks bounds pins = as_job [] [] marks bounds pins 0 0 0 0

-- the pins with the files that they name
abbrev pub of_pins : List ℕ → List ℕ → List ℕ → Job
of_pins sizes bounds pins = as_job sizes [] [] bounds pins 0 0 0 0

-- all five lists, without the figures
abbrev pub of_lists : List ℕ → List ℕ → List ℕ → List ℕ → List ℕ → Job
of_lists sizes sides marks bounds pins = as_job sizes sides marks bounds pins 0 0 0 0

-- the figures alone
abbrev pub of_figures : Figures → Job
of_figures figures = whole_job figures [] [] [] [] []
