-- A comparison told: its records are handed over as numbers, four to a record. Assumes nothing.
use Rattle.std.specs.Prelude.{◌≢◌, ℕ, ◌+◌, ◌*◌, ◌≤◌, Bool, not, cond, List, map, length, get_or, leb, ltb}
use Rattle.rules.specs.declared.Verdict.{Verdict}
use Rattle.rules.specs.declared.Difference.{Difference}
use Rattle.rules.specs.Numbers.{Compared}
use Rattle.rules.specs.Lists.{up_to}
use Rattle.rules.specs.Job.{Limits}
use Rattle.rules.specs.Check.{is_done, refuse_if, ◌or_else◌}
use Rattle.rules.specs.Report.{Printing, printing}
use Rattle.rules.specs.Compare.{difference, most_differences, difference_lines, refused_of}
use Rattle.report.specs.Bytes.{figure_bytes, difference_bytes}

-- record i of the numbers; a number that is not there reads as 0
abbrev pub record_at : List ℕ → ℕ → Difference
record_at numbers i = difference (get_or numbers (4 * i) 0) (get_or numbers (4 * i + 1) 0) (get_or numbers (4 * i + 2) 0) (get_or numbers (4 * i + 3) 0)

-- the first n records of the numbers
unfoldable pub records_in : ℕ → List ℕ → List Difference
records_in n numbers = map (record_at numbers) (up_to n)

-- each record's line, or the refusal
unfoldable pub comparison_text : Compared → List ℕ → List ℕ
comparison_text a numbers = cond (is_done a.verdict) (difference_lines (records_in a.count numbers)) (refused_of a.job a.verdict)

-- 2 where there are more records than two jobs can have, 3 where n numbers do not hold them
unfoldable pub records_verdict : Limits → ℕ → ℕ → Verdict
records_verdict most count n = refuse_if (ltb (most_differences most) count) 2 0 or_else refuse_if (not (leb (4 * count) n)) 3 0

-- then 3 where the lent room is too short for the text; the text of a refusal needs room alone
abbrev pub comparison_verdict : Limits → Compared → List ℕ → Bool → Verdict
comparison_verdict most a numbers roomy =
    cond (is_done a.verdict) (records_verdict most a.count (length numbers) or_else refuse_if (not roomy) 3 0) (refuse_if (not roomy) 3 0)

unfoldable pub comparison_telling : Limits → Compared → List ℕ → List ℕ → Printing
comparison_telling most a numbers room =
    let text = comparison_text a numbers in
    printing (comparison_verdict most a numbers (leb (length text) (length room))) text room

-- room of a line for each record, and of a refusal's besides, holds every text, so that it is never refused
abbrev pub EnoughLines : Verdict → Compared → List ℕ → List ℕ → Type 0
EnoughLines v a numbers room = 4 * a.count ≤ length numbers → figure_bytes + difference_bytes * a.count ≤ length room → v.number ≢ 3
