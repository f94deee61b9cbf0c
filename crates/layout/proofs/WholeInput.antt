-- No stored job is as long as the input that the programs take up. Assumes nothing.
use Rattle.std.proofs.Common.{ℕ, ◌<◌, arith}
use Rattle.rules.specs.Job.{Limits}
use Rattle.rules.specs.Theorems.{most_bytes}
use Rattle.layout.specs.declared.kinds.TheConstants.{INPUT_BYTES}
use Rattle.job.specs.Given.{the_limits}

-- the job's own limits and the input's bytes, as the code has them
abbrev pub most : Limits
most = the_limits

abbrev pub input_bytes : ℕ
input_bytes = INPUT_BYTES

pub input-whole : most_bytes most < input_bytes
input-whole = omega arith
