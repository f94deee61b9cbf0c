-- The answers of the choice as src/ has them, each an `Option`, and what the other definitions have in place of none. Assumes nothing.
use Rattle.std.specs.Prelude.{ℕ, pos, Option, Some, None}
use Rattle.choice.specs.declared.edition1.Best.{Best}
use Rattle.choice.specs.Best.{best_is}

-- the best move of n files: none has the number of files for its file
abbrev pub as_best : ℕ → Option Best → Best
as_best n None = best_is n (pos 0) 0
as_best n (Some b) = b

-- the file chosen of n files
abbrev pub as_file : ℕ → Option ℕ → ℕ
as_file n None = n
as_file n (Some f) = f

-- the side to move from: 2 is none
abbrev pub as_side : Option ℕ → ℕ
as_side None = 2
as_side (Some side) = side
