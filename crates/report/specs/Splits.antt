-- A split that is told, as rules has it. Assumes nothing.
use Rattle.rules.specs.Job.{Job}
use Rattle.rules.specs.Report.{of_files}
use Rattle.report.specs.declared.split.Split.{Split}

-- the job whose files they are
abbrev pub told_job : Split → Job
told_job s = of_files s.files.sizes.now s.files.marks.now
