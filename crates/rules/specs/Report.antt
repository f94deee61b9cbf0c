-- Document 01: what the program prints, as bytes. Assumes nothing.
use Rattle.std.specs.Prelude.{ℕ, zero, suc, ◌+◌, ◌*◌, ◌/◌, ◌%◌, Bool, true, false, not, cond, ◌&&◌, List, [], ◌∷◌, ◌++◌, map, length, get_or, replicate, leb, ltb, eqb, ℤ, pos}
use Prim.Native.Char.{code}
use Prim.Native.String.{String, [] as nil, ◌∷◌ as cons}
use Rattle.rules.specs.declared.Verdict.{Verdict}
use Rattle.rules.specs.Numbers.{RunFigures}
use Rattle.rules.specs.Numbers.{Printed}
use Rattle.rules.specs.Lists.{up_to, onto}
use Rattle.rules.specs.Job.{Job, as_job, is_read, Limits, file_count, Lent, scratch_numbers}
use Rattle.rules.specs.Split.{side_of, size_on}
use Rattle.rules.specs.Check.{is_done, refuse_if, refuse_at, ◌or_else◌}
use Rattle.rules.specs.Run.{Ended, run_ends}
use Rattle.rules.specs.Stored.{Room, job_of, read_verdict}

-- a text as bytes
unfoldable pub text : String → List ℕ
text nil = []
text (cons c s) = code c ∷ text s

-- n in decimal; k is at least the number of its digits
unfoldable pub digits_in : ℕ → ℕ → List ℕ
digits_in zero n = []
digits_in (suc k) n = elim (ltb n 10) [ true ↦ (48 + n) ∷ [] | false ↦ digits_in k (n / 10) ++ ((48 + n % 10) ∷ []) ]

abbrev pub digits : ℕ → List ℕ
digits n = digits_in (suc n) n

-- each number after one space
unfoldable pub spaced : List ℕ → List ℕ
spaced [] = []
spaced (n ∷ ns) = 32 ∷ (digits n ++ spaced ns)

-- a line: a word, and numbers
unfoldable pub line : String → List ℕ → List ℕ
line word ns = text word ++ spaced ns ++ (10 ∷ [])

-- one line: `refused`, number and place, separated by one space
unfoldable pub refusal : Verdict → List ℕ
refusal v = line "refused" (v.number ∷ v.place ∷ [])

-- the sizes of A and B
unfoldable pub size_line : Job → ℕ → List ℕ → List ℕ
size_line job a sides = line "size" (a ∷ size_on job 1 sides ∷ [])

abbrev pub letter : ℕ → ℕ
letter side = cond (eqb side 0) 65 66

-- the first lines: `done`, or `partial` and how many files could not be read and how many recipes hold one (document 02, order 5)
unfoldable pub first_lines : ℕ → ℕ → List ℕ
first_lines files recipes = cond (eqb files 0) (line "done" []) (line "partial" [] ++ line "unread" (files ∷ recipes ∷ []))

-- file f's letter; of one that could not be read it is `?`
abbrev pub letter_of : Job → List ℕ → ℕ → ℕ
letter_of job sides f = cond (is_read job f) (letter (side_of sides f)) 63

-- one letter for each file
unfoldable pub sides_line : Job → List ℕ → List ℕ
sides_line job sides = text "sides " ++ map (letter_of job sides) (up_to (length sides)) ++ (10 ∷ [])

-- cut before and after, then the sizes of A and B after, the other figures as sums over the run, and one letter for each file
unfoldable pub figure_lines : Job → RunFigures → List ℕ → List ℕ
figure_lines job r sides =
    first_lines r.figures.unread r.figures.holding
    ++ line "cut" (r.figures.before ∷ r.figures.cut ∷ [])
    ++ size_line job r.figures.size sides
    ++ line "passes" (r.passes ∷ [])
    ++ line (cond r.settled "settled yes" "settled no") []
    ++ line "kept" (r.figures.kept ∷ [])
    ++ line "visits" (r.figures.visits ∷ [])
    ++ sides_line job sides

-- what is told of an answer with this verdict: its lines, or its refusal
abbrev pub tells : Verdict → List ℕ → List ℕ
tells v lines = elim (is_done v) [ true ↦ lines | false ↦ refusal v ]

-- the report of a run's answer, refused or not
unfoldable pub report : Job → RunFigures → List ℕ → List ℕ
report job r sides = tells r.figures.verdict (figure_lines job r sides)

-- ---- the call that makes a report's bytes: it knows no more of the job than its sizes and marks, and is lent room for the bytes

abbrev pub of_files : List ℕ → List ℕ → Job
of_files sizes marks = as_job sizes [] marks [] [] 0 0 0 0

-- the numbers are a job's: C over its most; sides or marks not C long, or the lent room too short for the text; a side over 1
abbrev pub split_verdict : Limits → List ℕ → List ℕ → List ℕ → Bool → Verdict
split_verdict most sizes marks sides lent =
    refuse_if (ltb most.files (length sizes)) 2 0
    or_else refuse_if (not (eqb (length sides) (length sizes) && eqb (length marks) (length sizes) && lent)) 3 0
    or_else refuse_at 6 (λ f. ltb 1 (get_or sides f 0)) (length sides)

-- `held` says that the other lists hold what is told; the text of a refusal needs room alone, since it tells of no split
abbrev pub print_verdict : Limits → List ℕ → List ℕ → List ℕ → Verdict → Bool → Bool → Verdict
print_verdict most sizes marks sides answered held roomy =
    cond (is_done answered) (split_verdict most sizes marks sides (held && roomy)) (refuse_if (not roomy) 3 0)

-- how many bytes there are, and what the room then holds
pub record Printing : Type 0 where
  pub answer : Printed
  pub room : List ℕ

abbrev pub printed : Printed → List ℕ → Printing
printed a room = record { answer = a; room = room }

unfoldable pub printing : Verdict → List ℕ → List ℕ → Printing
printing v bytes room =
    elim (is_done v) [
      | true ↦ record { answer = record { verdict = v; bytes = length bytes }; room = onto bytes room }
      | false ↦ record { answer = record { verdict = v; bytes = 0 }; room = room }
    ]

-- the bytes alone: room too short for them is refused as 3
abbrev pub into_room : List ℕ → List ℕ → Printing
into_room bytes room = printing (refuse_if (not (leb (length bytes) (length room))) 3 0) bytes room

-- the bytes that tell of an answer and its split
abbrev pub telling : Limits → List ℕ → List ℕ → List ℕ → Verdict → Bool → List ℕ → List ℕ → Printing
telling most sizes marks sides answered held bytes room = printing (print_verdict most sizes marks sides answered held (leb (length bytes) (length room))) bytes room

unfoldable pub reporting : Limits → List ℕ → List ℕ → RunFigures → List ℕ → List ℕ → Printing
reporting most sizes marks r sides room = telling most sizes marks sides r.figures.verdict true (report (of_files sizes marks) r sides) room

-- ---- the program: it reads a stored job from standard input and runs it

-- it has room for every job that the limits let through
abbrev pub all_room : Limits → Room
all_room most = record {
  sizes = replicate most.files 0;
  sides = replicate most.files 0;
  marks = replicate most.files 0;
  bounds = replicate (most.recipes + 1) 0;
  pins = replicate most.pins 0;
}

-- the gain list is a part of its own; the scratch is long enough for every edition
abbrev pub own_lent : Limits → List ℤ → Lent
own_lent most gains = record {
  gains = gains;
  tried = replicate most.files 0;
  gained = replicate most.files (pos 0);
  cuts = replicate most.files 0;
  ends = replicate most.files 0;
  recipes = replicate (4 * most.recipes) 0;
  kinds = replicate (4 * most.recipes) 0;
  scratch = replicate (scratch_numbers 2 most.pins most.files most.recipes) 0;
}

abbrev pub all_lent : Limits → Job → Lent
all_lent most job = own_lent most (replicate (file_count job) (pos 0))

-- the run of a job by an edition, lent these lists
abbrev pub all_run : ℕ → Limits → Job → Ended RunFigures
all_run edition most job = run_ends edition most job (all_lent most job)

-- reading gives its refusal or a job, and the run of the job gives its answer, 7 to 10 among them; the night program stays with edition 1
unfoldable pub prints : ℕ → Limits → List ℕ → List ℕ
prints edition most input =
    let v = read_verdict most input (all_room most) in
    let job = job_of input in
    let e = all_run edition most job in
    elim (is_done v) [ true ↦ report job e.answer e.sides | false ↦ refusal v ]
