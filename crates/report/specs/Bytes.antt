-- The most bytes that a text takes. A number in it has a space before it and at most twenty digits. Assumes nothing.
use Rattle.std.specs.Prelude.{ℕ, ◌+◌, ◌*◌}

-- a gain of the gain list or of a move: a number with its sign
abbrev pub gain_bytes : ℕ
gain_bytes = 22

-- the line of a scan: its word, two numbers and the end of the line
abbrev pub scan_bytes : ℕ
scan_bytes = 47

-- more scans than a number of two bytes counts
abbrev pub all_scans : ℕ
all_scans = 65536

-- the line of a move: its word, two numbers, a gain and the end of the line
abbrev pub move_bytes : ℕ
move_bytes = 69

-- the line of a difference: four numbers and the end of the line
abbrev pub difference_bytes : ℕ
difference_bytes = 84

-- the first lines where some file could not be read: their words, two numbers and the ends of the lines
abbrev pub first_bytes : ℕ
first_bytes = 57

-- the lines of the figures, words and all, with the end of the gains' line and of the sides'; a refusal is shorter
abbrev pub figure_bytes : ℕ
figure_bytes = 256

-- a report: the lines of the figures with the first, and a letter for each file
abbrev pub report_bytes : ℕ → ℕ
report_bytes files = figure_bytes + files

-- a trace: the first lines, the lines of the figures, for each file a move's line, a gain and a letter, and for each scan its line, all rounded up
abbrev pub trace_bytes : ℕ → ℕ → ℕ
trace_bytes files scans = 512 + 128 * files + 64 * scans
