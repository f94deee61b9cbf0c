-- Document 02, order 1: the blocks of a job, the call that writes them, and the program `resettle`. The layout is that of specs/Stored.antt.
-- Assumes nothing.
use Rattle.std.specs.Prelude.{ℕ, ◌+◌, ◌-◌, ◌*◌, ◌/◌, ◌%◌, Bool, true, false, not, cond, List, [], ◌∷◌, ◌++◌, map, length, get_or, leb, ltb, eqb}
use Rattle.rules.specs.declared.Verdict.{Verdict}
use Rattle.rules.specs.declared.Header.{Header}
use Rattle.rules.specs.Numbers.{Handed}
use Rattle.rules.specs.Lists.{up_to, in_turn, padded, onto}
use Rattle.rules.specs.Job.{Job, Limits, file_count, recipe_count, pin_count, bound, pin}
use Rattle.rules.specs.Split.{size_of}
use Rattle.rules.specs.Check.{is_done, refuse_if, ◌or_else◌, Rows, ◌followed_by◌, row, first_given, bad_k, sound_rows}
use Rattle.rules.specs.Stored.{block_check, bounds_at, pins_at, block_count, kind_of, values_in, job_of, read_verdict}
use Rattle.rules.specs.Report.{refusal, all_room, all_run}

-- ---- a block

-- two bytes, low byte first
abbrev pub two_bytes : ℕ → List ℕ
two_bytes n = (n % 256) ∷ (n / 256) ∷ []

-- values, two bytes each
unfoldable pub value_bytes : List ℕ → List ℕ
value_bytes [] = []
value_bytes (v ∷ vs) = two_bytes v ++ value_bytes vs

-- bytes 0 and 1 the number, byte 2 the kind, byte 3 the count of values, then the values, unused ones zero up to byte 509
unfoldable pub contents : ℕ → ℕ → List ℕ → List ℕ
contents b kind vs = two_bytes b ++ (kind ∷ length vs ∷ padded 506 0 (value_bytes vs))

-- bytes 510 and 511 the check
unfoldable pub block_of : ℕ → ℕ → List ℕ → List ℕ
block_of b kind vs = contents b kind vs ++ two_bytes (block_check (contents b kind vs))

-- ---- the blocks of a job

-- the ratio and the cap as they are, good or bad; k, which must be good
abbrev pub header_for : Job → Header
header_for job = record {
  files = file_count job;
  recipes = recipe_count job;
  pins = pin_count job;
  num = job.num;
  den = job.den;
  cap = job.cap;
  k = job.k;
}

-- C, N, P, num, den, cap, and k, which is left out where it is 1
abbrev pub header_figures : Header → List ℕ
header_figures h = h.files ∷ h.recipes ∷ h.pins ∷ h.num ∷ h.den ∷ h.cap ∷ h.k ∷ []

-- of a file's two values the first is its size, the second side + 2·mark
abbrev pub file_value : Job → ℕ → ℕ → ℕ
file_value job f v = cond (eqb v 0) (size_of job f) (get_or job.sides f 0 + 2 * get_or job.marks f 0)

-- value v of block b: 126 files to a block, two values each, then 253 bounds to a block, then 253 pins to a block
unfoldable pub job_value : Job → ℕ → ℕ → ℕ
job_value job b v =
    let h = header_for job in
    cond (eqb b 0) (get_or (header_figures h) v 0)
    (cond (ltb b (bounds_at h)) (file_value job (126 * (b - 1) + v / 2) (v % 2))
    (cond (ltb b (pins_at h)) (bound job (253 * (b - bounds_at h) + v))
    (pin job (253 * (b - pins_at h) + v))))

-- the values of block b, as many as the header makes it have
abbrev pub job_values : Job → ℕ → List ℕ
job_values job b = map (job_value job b) (up_to (values_in (header_for job) b))

unfoldable pub job_block : Job → ℕ → List ℕ
job_block job b = block_of b (kind_of (header_for job) b) (job_values job b)

-- a job becomes the blocks of document 01, block after block
abbrev pub blocks_of : Job → List ℕ
blocks_of job = in_turn (job_block job) (block_count (header_for job))

-- ---- the call that writes: it is lent the job and an output list of bytes

-- what it answers, and what the output list then holds
pub record Writing : Type 0 where
  pub verdict : Verdict
  pub out : List ℕ

-- of the answer and the output list of a call, for contracts
abbrev pub writing_of : Verdict → List ℕ → Writing
writing_of v out = record { verdict = v; out = out }

-- 1 to 6, and then 7 for k alone (order 6)
abbrev pub written_rows : Limits → Job → Bool → Rows
written_rows most job lent = sound_rows most job lent followed_by row 7 (bad_k job.k) 0

unfoldable pub check_written : Limits → Job → Bool → Verdict
check_written most job lent = first_given (written_rows most job lent)

-- an output list not exactly as long as the blocks is refused as 3
abbrev pub write_verdict : Limits → Job → List ℕ → Verdict
write_verdict most job out = check_written most job (eqb (length out) (512 * block_count (header_for job)))

-- refused, no byte of it changes; 7 is never given for the ratio, 8 to 10 never
unfoldable pub writing : Limits → Job → List ℕ → Writing
writing most job out =
    let v = write_verdict most job out in
    elim (is_done v) [ true ↦ writing_of v (blocks_of job) | false ↦ writing_of v out ]

-- ---- a program that hands a stored job on with other sides

-- all else as it was
abbrev pub with_sides : Job → List ℕ → Job
with_sides job sides = record {
  sizes = job.sizes;
  sides = sides;
  marks = job.marks;
  bounds = job.bounds;
  pins = job.pins;
  num = job.num;
  den = job.den;
  cap = job.cap;
  k = job.k;
}

-- the bytes for standard output, and those for standard error
pub record HandedOut : Type 0 where
  pub output : List ℕ
  pub errors : List ℕ

-- v is reading's refusal or that of the call: refused, nothing goes to standard output and its line to standard error; else the job, and what is told of it
abbrev pub hands_out : Verdict → Job → List ℕ → HandedOut
hands_out v job told = cond (is_done v) (record { output = blocks_of job; errors = told }) (record { output = []; errors = refusal v })

-- the program `resettle`: it reads a stored job from standard input, runs it, and writes it with the sides after the run
unfoldable pub resettles : ℕ → Limits → List ℕ → HandedOut
resettles edition most input =
    let e = all_run edition most (job_of input) in
    let v = read_verdict most input (all_room most) or_else e.answer.figures.verdict in
    hands_out v (with_sides (job_of input) e.sides) []

-- ---- a call that hands out: it is lent one room, in which the bytes for standard output stand first and those for standard error after them

-- how many bytes there are for each, and what the room then holds
pub record Handing : Type 0 where
  pub answer : Handed
  pub room : List ℕ

-- of the answer and the room of a call, for contracts
abbrev pub handing_of : Handed → List ℕ → Handing
handing_of a room = record { answer = a; room = room }

unfoldable pub handing : Verdict → HandedOut → List ℕ → Handing
handing v h room =
    elim (is_done v) [
      | true ↦ handing_of (record { verdict = v; output = length h.output; errors = length h.errors }) (onto (h.output ++ h.errors) room)
      | false ↦ handing_of (record { verdict = v; output = 0; errors = 0 }) room
    ]

-- room too short for both together is refused as 3
abbrev pub hand_into : HandedOut → List ℕ → Handing
hand_into h room = handing (refuse_if (not (leb (length (h.output ++ h.errors)) (length room))) 3 0) h room
