-- The theorems of specs/Balancing.antt: the moves, 9 exactly if impossible, the call and the program. Assumes nothing.
use mathlib.Core.Path.{◌≡◌, refl, sym, ap, ◌∙◌}
use mathlib.Core.Logic.{◌≢◌}
use Prim.Native.Nat.{ℕ, ◌≤◌, ◌<◌}
use mathlib.Core.Bool.{Bool, true, false, not}
use mathlib.Core.List.{List, []}
use mathlib.Core.Option.{Option, none, some}
use native.Mathlib.Decide.{ℕ_discrete}
use native.Mathlib.Omega.{arith}
use lib.Dec.{eqb, leb}
use lib.ListN.{length, get_or, take}
use lib.Seq.{take-length}
use borrow.Author.Tests.{eqb-false, leb-true, le-leb, le-ltb, eq-eqb, ne_eqb}
use Rattle.rules.specs.declared.Verdict.{Verdict}
use Rattle.rules.specs.Numbers.{BalanceFigures}
use Rattle.rules.specs.Lists.{listed}
use Rattle.rules.specs.Job.{Job, Limits, file_count, recipe_count, pin_count, files, recipes, scratch_for}
use Rattle.rules.specs.Split.{side_of, cut, gain, is_free, weight, smax, size_on, size_a, balanced}
use Rattle.rules.specs.Check.{done, refuse_if, ◌or_else◌, ◌followed_by◌, row, over_most, goal_rows, check_start, check_sound, check_goal, check, check_edition}
use Rattle.rules.specs.Move.{steps_by, State, start, moved, after, Frees, greater, moves_by}
use Rattle.rules.specs.Stored.{job_of, read_verdict}
use Rattle.rules.specs.Report.{refusal, size_line, of_files, into_room, all_room, all_lent}
use Rattle.rules.specs.Writing.{header_for, blocks_of, check_written, with_sides, HandedOut, hands_out}
use Rattle.rules.specs.Balance.{heavy, free_on, greatest_on, balance_choice, balance_moves, balance_sides, none_balanced, before_start_rows, check_before_start, balance_rows, balance_check, balance_verdict, Balancing, balancing_of, balance_figures, no_balance_figures, balancing, balance_lines, balance_report, balance_reporting, balances}
use Rattle.rules.specs.Theorems.{Sound, Sides, state_at}
use Rattle.rules.specs.Balancing.{balanced_to, Assignment, BalanceHolds, BalanceRows, BalanceRefuses, BalanceAnswers, balances_verdict, BalanceProgram}
use Rattle.rules.proofs.Tests.{clash, contra'}
use Rattle.rules.proofs.Verdicts.{chain-stop, zero_of, passes-both, or_assoc, never-chain, not-refused, Plain}
use Rattle.rules.proofs.Count.{count-le}
use Rattle.rules.proofs.Fits.{long-enough}
use Rattle.rules.proofs.Entries.{listed-holds}
use Rattle.rules.proofs.First.{first-none}
use Rattle.rules.proofs.SoundJob.{ratio-pass, goal-pass, sound}
use Rattle.rules.proofs.MovesEnd.{StateLong, moves-stop, moves_each, moves-keep, moves-same, moves-free, moves-end, locked-stays}
use Rattle.rules.proofs.Proved.{moves-hold, scans-hold, given-sides, lent-sound, check-writes}
use Rattle.rules.proofs.Checking.{check-holds}
use Rattle.rules.proofs.OtherSides.{sound-again}
use Rattle.rules.proofs.Refusals.{lacks, within, first-given, plain_rows, never-given, few-given, check-chain, lent-chain}
use Rattle.rules.proofs.Reading.{read-holds}
use Rattle.rules.proofs.CutOff.{cut-same}
use Rattle.rules.proofs.Reports.{telling-refusal, telling-made}
use Rattle.rules.proofs.Lending.{lends-enough}
use Rattle.rules.proofs.RoundTrip.{blocks-hold}
use Rattle.rules.proofs.Writes.{handed-refused, handed-done}
use Rattle.rules.proofs.Balance.{Toward, Made, made, toward-next, halves, greatest-one, choice-stop, choice-go, locked_choice, locked-same, locked-picks, none-balanced, left-balanced}

-- the side to move from; any, where there is none
abbrev side_in : Option ℕ → ℕ
side_in none = 0
side_in (some u) = u

-- ---- the moves, of a sound job with a k over 0

module _ (most : Limits) (job : Job) (s : Sound most job) (wide : 1 ≤ job.k) where
  abbrev begin : State
  begin = start job job.sides

  abbrev way : ℕ
  way = side_in (heavy job (size_a job job.sides))

  begin-long : StateLong (file_count job) begin
  begin-long = record { sides = s.sides_long; locks = s.marks_long }

  toward-begin : Toward job way begin
  toward-begin = record {
    long = begin-long;
    binary = s.binary;
    unlocked = λ f h e. refl;
    unmoved = λ f e. e;
    way = λ v e. sym (ap side_in e);
  }

  pub toward-at : (i : ℕ) → Toward job way (after begin (take i (balance_moves job)))
  unfolding balance_moves
  toward-at i = moves-keep (balance_choice job) moved (Toward job way) (toward-next job way wide) (file_count job) begin toward-begin i

  pub toward-end : Toward job way (after begin (balance_moves job))
  toward-end = rw (take-length (balance_moves job)) at (toward-at (length (balance_moves job)))

  -- the moves are those of the choice by the locks
  pub by-locks : balance_moves job ≡ moves_by (locked_choice job) moved (file_count job) begin
  unfolding balance_moves
  by-locks = moves-same (balance_choice job) moved (Toward job way) (toward-next job way wide) (locked_choice job) (locked-same job way) (file_count job) begin toward-begin

  balance-free : Frees begin (balance_moves job)
  balance-free = rw by-locks (moves-free (locked-picks job) (file_count job) begin begin-long)

  balance-end : balance_choice job (after begin (balance_moves job)) ≡ none
  balance-end =
      locked-same job way (after begin (balance_moves job)) toward-end
      ∙ ap (λ (ms : List ℕ). locked_choice job (after begin ms)) by-locks
      ∙ moves-end (locked-picks job) (file_count job) begin begin-long (omega (arith, count-le (λ l. eqb l 0) job.marks, s.marks_long))

  pub made_at : (i : ℕ) → i < length (balance_moves job) → Made job way (after begin (take i (balance_moves job))) (get_or (balance_moves job) i 0)
  unfolding balance_moves
  made_at i h =
      made job way (after begin (take i (moves_by (balance_choice job) moved (file_count job) begin))) (get_or (moves_by (balance_choice job) moved (file_count job) begin) i 0)
      (toward-at i) (moves_each (balance_choice job) moved (file_count job) begin i h)

  balance-empty : (u f : ℕ) → heavy job (size_a job (balance_sides job)) ≡ some u → f < file_count job → free_on job (balance_sides job) u f ≡ false
  unfolding greatest_on
  balance-empty u f e h =
      first-none (free_on job (balance_sides job) u) (greater (gain (balance_sides job) (recipes job))) (file_count job)
      (sym (choice-go job (after begin (balance_moves job)) u e) ∙ balance-end) f h

  balance-stays : (f : ℕ) → is_free job f ≡ false → side_of (balance_sides job) f ≡ side_of job.sides f
  balance-stays f e = let n : get_or job.marks f 0 ≢ 0 = eqb-false (get_or job.marks f 0) 0 e in locked-stays f (omega arith) balance-free

  assigned : Assignment job (balance_sides job)
  assigned = record {
    long = toward-end.long.sides ∙ sym s.sides_long;
    stays = λ f h e. balance-stays f e;
    binary = λ f h e. toward-end.binary f;
  }

  none-moved : heavy job (size_a job job.sides) ≡ none → balance_moves job ≡ []
  unfolding balance_moves
  none-moved e = moves-stop (balance_choice job) moved (file_count job) begin (choice-stop job begin e)

  pub balance-holds : BalanceHolds job
  balance-holds =
      let one : (u i : ℕ) → heavy job (size_a job job.sides) ≡ some u → i < length (balance_moves job) → Made job u (state_at job job.sides (balance_moves job) i) (get_or (balance_moves job) i 0)
      = λ u i e h. rw (ap side_in e) at (made_at i h) in
      record {
        frees = balance-free;
        moves = moves-hold most job s job.sides (balance_moves job) (given-sides most job s) balance-free;
        scans = scans-hold most job s job.sides (balance_moves job) (given-sides most job s) balance-free;
        from = λ u i e h. let t = rw (ap side_in e) at (toward-at i) in t.unmoved (get_or (balance_moves job) i 0) (one u i e h).greatest.there;
        while = λ u i e h. (one u i e h).heavy;
        each = λ u i e h. (one u i e h).greatest;
        only = λ u i f e h g. greatest-one job (balanced_to job i) u f (get_or (balance_moves job) i 0) g (one u i e h).greatest;
        ended = balance-end;
        empty = balance-empty;
        still = λ b.
            let z = none-moved ((halves job (size_a job job.sides)).even b) in
            (z, ap (λ (ms : List ℕ). (after begin ms).sides) z ∙ (unfold steps_by in refl));
        sides = record { long = toward-end.long.sides; binary = toward-end.binary };
        stays = balance-stays;
        balances = λ b. left-balanced job (balance_sides job) b assigned balance-empty;
      }

-- ---- the table of its check

pub balance-rows : (most : Limits) (job : Job) (lent : Bool) → BalanceRows most job lent
unfolding balance_check lacks
balance-rows most job lent = first-given (balance_rows most job lent) refl

-- ---- 9 exactly if impossible

module _ (most : Limits) (job : Job) (lent : Bool) where
  before-numbers : ((check_before_start most job lent).number ≤ 10) × ((check_before_start most job lent).number ≢ 9)
  unfolding check_before_start within lacks
  before-numbers = (few-given 10 (before_start_rows most job lent) refl, never-given 9 (before_start_rows most job lent) refl (omega arith))

  pub before-chain : check_before_start most job lent ≡ (check_sound most job lent or_else check_goal most job)
  unfolding check_before_start check_sound check_goal
  before-chain = refl

  pub balance-chain : balance_check most job lent ≡ (check_before_start most job lent or_else refuse_if (none_balanced job) 9 0)
  unfolding balance_check check_before_start
  balance-chain = refl

  pub before-parts : (check_before_start most job lent).number ≡ 0 → ((check_sound most job lent).number ≡ 0) × ((check_goal most job).number ≡ 0)
  before-parts z = passes-both (check_sound most job lent) (check_goal most job) (zero_of before-chain z)

  before-sound : (check_before_start most job lent).number ≡ 0 → Sound most job
  before-sound z = sound most job lent (before-parts z).0

  before-wide : (check_before_start most job lent).number ≡ 0 → 1 ≤ job.k
  before-wide z = (ratio-pass most job (goal-pass most job (before-parts z).1).0).1.0

  -- after 1 to 8 and 10 it is the 9 of its own
  then-start : (check_before_start most job lent).number ≡ 0 → balance_check most job lent ≡ refuse_if (none_balanced job) 9 0
  then-start z = rw (balance-chain, eq-eqb (check_before_start most job lent).number 0 z) refl

  stops-before : (check_before_start most job lent).number ≢ 0 → balance_check most job lent ≡ check_before_start most job lent
  stops-before z = rw (balance-chain, ne_eqb (check_before_start most job lent).number 0 z) refl

  impossible : (check_before_start most job lent).number ≡ 0 → ((sides : List ℕ) → Assignment job sides → balanced job (size_a job sides) ≡ false) → none_balanced job ≡ true
  impossible z f =
      let s = before-sound z in
      let w = before-wide z in
      contra' (none_balanced job) (λ b. clash (sym ((balance-holds most job s w).balances b) ∙ f (balance_sides job) (assigned most job s w)))

  pub start-passed : (balance_check most job lent).number ≡ 0 → ((check_before_start most job lent).number ≡ 0) × (none_balanced job ≡ false)
  start-passed z =
      let q = passes-both (check_before_start most job lent) (refuse_if (none_balanced job) 9 0) (zero_of balance-chain z) in
      (q.0, not-refused (none_balanced job) 8 0 q.1)

  given-impossible : (balance_check most job lent).number ≡ 9 → none_balanced job ≡ true
  given-impossible z = elim (ℕ_discrete (check_before_start most job lent).number 0) [
    | yes e ↦ contra' (none_balanced job) (λ b. omega (arith, sym z ∙ ap (λ (v : Verdict). v.number) (then-start e ∙ ap (λ (t : Bool). refuse_if t 9 0) b)))
    | no n ↦ absurd (before-numbers.1 (sym (ap (λ (v : Verdict). v.number) (stops-before n)) ∙ z))
  ]

  pub balance-refuses : BalanceRefuses most job lent
  balance-refuses = record {
    given = λ z sides w. none-balanced job sides (given-impossible z) w;
    exactly = λ z f. then-start z ∙ ap (λ (t : Bool). refuse_if t 9 0) (impossible z f);
    possible = λ z.
        let q = start-passed z in
        let s = before-sound q.0 in
        let w = before-wide q.0 in
        (assigned most job s w, (balance-holds most job s w).balances q.1);
    before = check-chain most job lent ∙ sym (or_assoc (check_sound most job lent) (check_goal most job) (check_start job)) ∙ ap (λ (v : Verdict). v or_else check_start job) (sym before-chain);
    numbers = before-numbers;
    first = stops-before;
  }

-- ---- the job with other sides

module _ (most : Limits) (job : Job) (s : Sound most job) (sides : List ℕ) (w : Sides job sides) where
  resided-sound : check_sound most (with_sides job sides) true ≡ done
  resided-sound = (check-holds most (with_sides job sides) true).sound_passes (sound-again job sides s w) refl

  -- of the later checks only 9 looks at the sides
  resided-passes : check_goal most job ≡ done → balanced job (size_a job sides) ≡ true → check most (with_sides job sides) true ≡ done
  unfolding check_goal check_start balanced weight smax size_on files
  resided-passes e b = rw (check-chain most (with_sides job sides) true, resided-sound) (rw (e, b) refl)

-- ---- the call

module _ (most : Limits) (job : Job) (scratch : List ℕ) where
  abbrev lent : Bool
  lent = leb (scratch_for 1 job) (length scratch)

  plain-balance : Plain (balance_verdict most job scratch)
  unfolding balance_check lacks
  plain-balance = plain_rows (balance_rows most job lent) refl

  -- of a job that is let through
  module _ (z : (balance_verdict most job scratch).number ≡ 0) where
    through : Sound most job
    through = before-sound most job lent (start-passed most job lent z).0

    wide : 1 ≤ job.k
    wide = before-wide most job lent (start-passed most job lent z).0

    long-scratch : scratch_for 1 job ≤ length scratch
    long-scratch =
        leb-true (scratch_for 1 job) (length scratch) (lent-sound most job lent (before-parts most job lent (start-passed most job lent z).0).0)

    goal-passes : check_goal most job ≡ done
    unfolding check_goal lacks
    goal-passes = plain_rows (goal_rows most job) refl (before-parts most job lent (start-passed most job lent z).0).1

    made-equal : balancing most job scratch ≡ balancing_of (balance_figures job done) (balance_sides job) (listed (scratch_for 1 job) 0 [] scratch)
    unfolding balancing
    made-equal =
        rw (eq-eqb (balance_verdict most job scratch).number 0 z, balancing)
        (ap (λ (v : Verdict). balancing_of (balance_figures job v) (balance_sides job) (listed (scratch_for 1 job) 0 [] scratch)) (plain-balance z))

    sides-are : (balancing most job scratch).sides ≡ balance_sides job
    sides-are = ap (λ (b : Balancing). b.sides) made-equal

    left-even : balanced job (size_a job (balance_sides job)) ≡ true
    left-even = ((balance-refuses most job lent).possible z).1

    left-checked : check most (with_sides job (balance_sides job)) true ≡ done
    left-checked = resided-passes most job through (balance_sides job) (balance-holds most job through wide).sides goal-passes left-even

  refused-equal : (balance_verdict most job scratch).number ≢ 0
      → balancing most job scratch ≡ balancing_of (no_balance_figures (balance_verdict most job scratch)) job.sides scratch
  unfolding balancing
  refused-equal n = rw (ne_eqb (balance_verdict most job scratch).number 0 n, balancing) refl

  pub balance-answers : BalanceAnswers most job scratch
  unfolding balance_figures
  balance-answers = record {
    place = plain-balance;
    fitting = long-scratch;
    refused = refused-equal;
    made = made-equal;
    cut = λ z. ap (λ (b : Balancing). b.answer.cut) (made-equal z) ∙ ap (λ (x : List ℕ). cut x (recipes job)) (sym (sides-are z));
    size = λ z. ap (λ (b : Balancing). b.answer.size) (made-equal z) ∙ ap (size_a job) (sym (sides-are z));
    zeros = λ z.
        rw (ap (λ (b : Balancing). b.scratch) (made-equal z)) (listed-holds (scratch_for 1 job) 0 [] scratch (omega arith) (long-scratch z));
    even = λ z. rw (sides-are z) (left-even z);
    passes = λ z. rw (sides-are z) (left-checked z);
    runs = λ z edition l known e. rw (lent-chain edition most _ l, e, sides-are z) (unfold check_edition in rw known (left-checked z));
  }

-- ---- what is told of a balancing: the sizes are all that the call knows of the job, and only the room can be too short

pub balance-refusal : (most : Limits) (sizes marks : List ℕ) (a : BalanceFigures) (sides room : List ℕ) → a.verdict.number ≢ 0
    → balance_reporting most sizes marks a sides room ≡ into_room (refusal a.verdict) room
unfolding balance_reporting balance_report
balance-refusal most sizes marks a sides room h = telling-refusal most sizes marks sides a.verdict true (balance_lines (of_files sizes marks) a sides) room h

pub balance-told : (most : Limits) (job : Job) (scratch room : List ℕ) → (balance_verdict most job scratch).number ≡ 0
    → let e = balancing most job scratch in balance_reporting most job.sizes job.marks e.answer e.sides room ≡ into_room (balance_lines job e.answer e.sides) room
unfolding balance_reporting balance_report balance_figures balance_lines size_line size_on files
balance-told most job scratch room z =
    let s : Sound most job = through most job scratch z in
    let bytes = balance_lines (of_files job.sizes job.marks) (balance_figures job done) (balance_sides job) in
    rw (made-equal most job scratch z) (telling-made most job (balance_sides job) done true bytes room refl s.few_files s.marks_long (balance-holds most job s (wide most job scratch z)).sides refl)

-- ---- the program

pub answer-verdict : (most : Limits) (job : Job) (scratch : List ℕ) → (balancing most job scratch).answer.verdict ≡ balance_verdict most job scratch
unfolding balance_figures
answer-verdict most job scratch = elim (ℕ_discrete (balance_verdict most job scratch).number 0) [
  | yes z ↦ ap (λ (b : Balancing). b.answer.verdict) (made-equal most job scratch z) ∙ sym (plain-balance most job scratch z)
  | no n ↦ ap (λ (b : Balancing). b.answer.verdict) (refused-equal most job scratch n)
]

-- a sound job passes 2
sound-few : (most : Limits) (job : Job) → Sound most job → over_most most (file_count job) (recipe_count job) (pin_count job) ≡ false
sound-few most job s =
    rw (le-ltb most.files (file_count job) s.few_files, le-ltb most.recipes (recipe_count job) s.few_recipes, le-ltb most.pins (pin_count job) s.few_pins) refl

module _ (most : Limits) (input : List ℕ) where
  abbrev read : Job
  read = job_of input

  abbrev own : List ℕ
  own = (all_lent most read).scratch

  balances-is : balances most input ≡ hands_out (balances_verdict most input) (with_sides read (balancing most read own).sides) (balance_lines read (balancing most read own).answer (balancing most read own).sides)
  unfolding balances
  balances-is =
      ap (λ (v : Verdict). hands_out (read_verdict most input (all_room most) or_else v) (with_sides read (balancing most read own).sides) (balance_lines read (balancing most read own).answer (balancing most read own).sides))
      (answer-verdict most read own)

  handed-none : (balances_verdict most input).number ≢ 0 → balances most input ≡ record { output = []; errors = refusal (balances_verdict most input) }
  handed-none n = balances-is ∙ handed-refused (balances_verdict most input) _ _ n

  -- what reading refuses is all that is told
  pub balances-no : (read_verdict most input (all_room most)).number ≢ 0 → balances most input ≡ record { output = []; errors = refusal (read_verdict most input (all_room most)) }
  balances-no n =
      let e : read_verdict most input (all_room most) ≡ balances_verdict most input = chain-stop (balance_verdict most read own) refl n in
      handed-none (λ z. n (ap (λ (v : Verdict). v.number) e ∙ z)) ∙ ap (λ (v : Verdict). record { output = []; errors = refusal v }) (sym e)

  module _ (z : (balances_verdict most input).number ≡ 0) where
    both-done : ((read_verdict most input (all_room most)).number ≡ 0) × ((balance_verdict most read own).number ≡ 0)
    both-done = passes-both (read_verdict most input (all_room most)) (balance_verdict most read own) z

    handed : balances most input ≡ record { output = blocks_of (with_sides read (balance_sides read)); errors = balance_lines read (balance_figures read done) (balance_sides read) }
    handed =
        balances-is
        ∙ handed-done (balances_verdict most input) (with_sides read (balancing most read own).sides) (balance_lines read (balancing most read own).answer (balancing most read own).sides) z
        ∙ ap (λ (b : Balancing). record { output = blocks_of (with_sides read b.sides); errors = balance_lines read b.answer b.sides }) (made-equal most read own both-done.1)

    output-is : (balances most input).output ≡ blocks_of (with_sides read (balance_sides read))
    output-is = ap (λ (h : HandedOut). h.output) handed

    read-sound : Sound most read
    read-sound = (read-holds most input (all_room most)).sound both-done.0

    even-writes : (check_written most (with_sides read (balance_sides read)) true).number ≡ 0
    even-writes = check-writes most (with_sides read (balance_sides read)) true (ap (λ (v : Verdict). v.number) (left-checked most read own both-done.1))

    even-read : read_verdict most (blocks_of (with_sides read (balance_sides read))) (all_room most) ≡ done
    even-read =
        let job : Job = with_sides read (balance_sides read) in
        (blocks-hold most job even-writes).verdict (all_room most) ∙ ap (λ (b : Bool). refuse_if (not b) 3 0) ((lends-enough most input).room (header_for job) (sound-few most read read-sound))

    even-same : job_of (blocks_of (with_sides read (balance_sides read))) ≡ with_sides read (balance_sides read)
    even-same = (blocks-hold most (with_sides read (balance_sides read)) even-writes).same

  -- the scratch that it lends is long enough for a job that was read
  never-short : (read_verdict most input (all_room most)).number ≡ 0 → (balance_verdict most read own).number ≢ 3
  unfolding lacks
  never-short z =
      let s : Sound most read = (read-holds most input (all_room most)).sound z in
      let lends : leb (scratch_for 1 read) (length own) ≡ true
      = le-leb (scratch_for 1 read) (length own) (long-enough 1 read (all_lent most read) ((lends-enough most input).lent 1 read (sound-few most read s))).scratch in
      rw (balance-chain most read (leb (scratch_for 1 read) (length own)), before-chain most read (leb (scratch_for 1 read) (length own)), (check-holds most read (leb (scratch_for 1 read) (length own))).sound_passes s lends)
      (unfold check_goal in never-given 3 (goal_rows most read followed_by row 9 (none_balanced read) 0) refl (omega arith))

pub program-holds : (most : Limits) (input : List ℕ) → BalanceProgram most input
program-holds most input = record {
  refused = handed-none most input;
  made = handed most input;
  reads = λ z. rw (output-is most input z) (even-read most input z);
  same = λ z. ap job_of (output-is most input z) ∙ even-same most input z;
  passes = λ z.
      rw (output-is most input z, even-same most input z) (left-checked most (job_of input) (all_lent most (job_of input)).scratch (both-done most input z).1);
  enough =
      never-chain 3 (read_verdict most input (all_room most)) (balance_verdict most (job_of input) (all_lent most (job_of input)).scratch) (lends-enough most input).read
      (never-short most input);
  longer = λ k. cut-same most k input (balances most) (λ v. record { output = []; errors = refusal v }) (balances-no most);
}
