-- Wider limits: what the old ones do not refuse as 2 is read and planned as before, and what is larger they refuse as 2. Assumes nothing.
use mathlib.Core.Path.{◌≡◌, refl, sym, ap, ap₂, ◌∙◌}
use mathlib.Core.Logic.{◌≢◌}
use Prim.Native.Nat.{ℕ, zero, suc, ◌+◌, ◌-◌, ◌*◌, ◌≤◌}
use mathlib.Core.Bool.{Bool, true, false, not, cond}
use mathlib.Core.List.{List, [], ◌∷◌, ◌++◌}
use native.Mathlib.Decide.{ℕ_discrete, dec_lt}
use native.Mathlib.Omega.{arith}
use lib.Dec.{eqb, leb}
use lib.IntN.{pos}
use lib.ListN.{length, get_or, replicate, length-replicate, get_or-replicate, get_or-eq_default}
use borrow.Author.Tests.{le-ltb, le-leb, eq-eqb}
use Rattle.rules.specs.declared.Verdict.{Verdict}
use Rattle.rules.specs.declared.Header.{Header}
use Rattle.rules.specs.Numbers.{Figures}
use Rattle.rules.specs.Numbers.{RunFigures}
use Rattle.rules.specs.Numbers.{BalanceFigures}
use Rattle.rules.specs.Lists.{onto, listed}
use Rattle.rules.specs.Job.{Job, Limits, file_count, recipe_count, pin_count, Lent, recipes, fits, scratch_for}
use Rattle.rules.specs.Split.{cut, size_a, unread_files, unread_recipes}
use Rattle.rules.specs.Check.{done, is_done, refuse_if, ◌or_else◌, Rows, ◌followed_by◌, row, goal_rows, content_rows, empty, over_most, bad_k, check_counts, check_lists, check_contents, check_sound, check_goal, check_rest, check, check_edition, check_lent, measure}
use Rattle.rules.specs.Stored.{header_of, block_count, block_rows, further_rows, block_verdict, blocks_verdict, under_one, wrong_total, roomy, job_of, Room, layout_verdict, read_verdict, written, no_header, reading}
use Rattle.rules.specs.Pass.{Pass, leaves}
use Rattle.rules.specs.Run.{Ended, first_pass, run_by, last_pass, figures_of, run_figures_of, no_figures, no_run_figures, left_by, unchanged, pass_ends, run_ends}
use Rattle.rules.specs.Report.{refusal, report, all_room, all_lent, all_run, prints}
use Rattle.rules.specs.Trace.{Listing, listing, scans_before, scan_lines, move_lines, moves_lines, pass_lines, trace, traces}
use Rattle.rules.specs.Writing.{blocks_of, header_for, check_written, write_verdict, writing, writing_of, with_sides, hands_out, resettles}
use Rattle.rules.specs.Balance.{none_balanced, balance_verdict, balance_check, Balancing, balancing, balancing_of, balance_figures, no_balance_figures, balance_sides, all_balancing, balances, balance_lines}
use Rattle.rules.specs.Compare.{differences, read_for, compared, comparing_of, comparing_jobs, comparing, difference_lines, refused_of, compares}
use Rattle.rules.specs.Theorems.{Sound, most_bytes}
use Rattle.rules.specs.MoreFiles.{Raised, CallsSame, ReadSame, PlannedSame, larger, BeforeTwo, two, LargerRefused, LongestHolds, BlocksWorked}
use Rattle.rules.proofs.Verdicts.{chain_same, first-not, then-not, goes_on, ends_there, passes-both, not-refused}
use Rattle.rules.proofs.Refusals.{lacks, never-given, plain_rows, further-lacks, rest-chain, lent-chain, layout-chain, read-chain}
use Rattle.rules.proofs.SoundJob.{few-of, counts-pass}
use Rattle.rules.proofs.Lending.{lends-enough, lent-enough}
use Rattle.rules.proofs.Reading.{read-holds}
use Rattle.rules.proofs.Proved.{answers}
use Rattle.rules.proofs.Checking.{check-holds}
use Rattle.rules.proofs.CutOff.{blocks-grow, prints-no, traces-no, resettles-no}
use Rattle.rules.proofs.Balancing.{balance-answers, balances-no}
use Rattle.rules.proofs.Reports.{trace-refused}
use Rattle.rules.proofs.Fits.{long-enough}
use Rattle.rules.proofs.RoundTrip.{blocks-length, read_length}
use Rattle.rules.proofs.Tests.{contra'}
use Rattle.rules.proofs.Entries.{onto-in, onto-stays}

-- ---- a trace shows no more of its lists than they hold

-- beyond its entries a list of one number reads as that number
blank {ℓ} : {A : Type ℓ} (z : A) (m i : ℕ) → get_or (replicate m z) i z ≡ z
blank z m i = elim (dec_lt i m) [
  | yes h ↦ get_or-replicate m i z z h
  | no n ↦ get_or-eq_default (replicate m z) z {n = i} (rw (length-replicate m z) (omega arith))
]

-- so what is written over such a list reads the same, however long that is
onto-blank {ℓ} : {A : Type ℓ} (z : A) (xs : List A) (m i : ℕ) → get_or (onto xs (replicate m z)) i z ≡ get_or xs i z
onto-blank z xs m i = elim (dec_lt i (length xs)) [
  | yes h ↦ onto-in z xs (replicate m z) i h
  | no n ↦ onto-stays z xs (replicate m z) i (omega arith) ∙ blank z m i ∙ sym (get_or-eq_default xs z {n = i} (omega arith))
]

-- listings that read the same, entry by entry
record Alike (l m : Listing) : Type 0 where
  pub gains : l.gains ≡ m.gains
  pub tried : (i : ℕ) → get_or l.tried i 0 ≡ get_or m.tried i 0
  pub gained : (i : ℕ) → get_or l.gained i (pos 0) ≡ get_or m.gained i (pos 0)
  pub cuts : (i : ℕ) → get_or l.cuts i 0 ≡ get_or m.cuts i 0
  pub ends : (i : ℕ) → get_or l.ends i 0 ≡ get_or m.ends i 0
  pub recipes : (i : ℕ) → get_or l.recipes i 0 ≡ get_or m.recipes i 0
  pub kinds : (i : ℕ) → get_or l.kinds i 0 ≡ get_or m.kinds i 0

module _ (l m : Listing) (alike : Alike l m) where
  scans-alike : (a n : ℕ) → scan_lines l a n ≡ scan_lines m a n
  unfolding scan_lines
  scans-alike a zero = refl
  scans-alike a (suc n) = rw (scans-alike a n, alike.recipes (a + n), alike.kinds (a + n)) refl

  before-alike : (i : ℕ) → scans_before l i ≡ scans_before m i
  before-alike zero = refl
  before-alike (suc i) = alike.ends i

  move-alike : (i : ℕ) → move_lines l i ≡ move_lines m i
  unfolding move_lines
  move-alike i =
      rw (alike.tried i, alike.gained i, alike.cuts i, alike.ends i, before-alike i, scans-alike (scans_before m i) (get_or m.ends i 0 - scans_before m i)) refl

  moves-alike : (n : ℕ) → moves_lines l n ≡ moves_lines m n
  unfolding moves_lines
  moves-alike zero = refl
  moves-alike (suc n) = ap₂ (λ (x y : List ℕ). x ++ y) (moves-alike n) (move-alike n)

  trace-alike : (job : Job) (f : Figures) (sides : List ℕ) → trace job f sides l ≡ trace job f sides m
  unfolding trace pass_lines
  trace-alike job f sides = rw (moves-alike f.tried, alike.gains) refl

-- what the programs lend is all of one number, so that what a pass leaves there reads the same by any limits
left-alike : (edition : ℕ) (most other : Limits) (job : Job) (p : Pass) → Alike (listing (leaves edition job (all_lent most job) p)) (listing (leaves edition job (all_lent other job) p))
unfolding leaves
left-alike edition most other job p =
    let same : (xs : List ℕ) (m n i : ℕ) → get_or (onto xs (replicate m 0)) i 0 ≡ get_or (onto xs (replicate n 0)) i 0
    = λ xs m n i. onto-blank 0 xs m i ∙ sym (onto-blank 0 xs n i) in
    record {
      gains = refl;
      tried = λ i. same _ most.files other.files i;
      gained = λ i. onto-blank (pos 0) _ most.files i ∙ sym (onto-blank (pos 0) _ other.files i);
      cuts = λ i. same _ most.files other.files i;
      ends = λ i. same _ most.files other.files i;
      recipes = λ i. same _ (4 * most.recipes) (4 * other.recipes) i;
      kinds = λ i. same _ (4 * most.recipes) (4 * other.recipes) i;
    }

-- ---- of two limits of which one is wider

module _ (old new : Limits) (raised : Raised old new) where
  over_none : (c n p : ℕ) → over_most old c n p ≡ false → over_most new c n p ≡ false
  over_none c n p h =
      let few = few-of old c n p h in
      rw (le-ltb new.files c (omega (arith, few.0, raised.files)), le-ltb new.recipes n (omega (arith, few.1, raised.recipes)), le-ltb new.pins p (omega (arith, few.2, raised.pins))) refl

  counts_same : (c n p : ℕ) → (check_counts old c n p).number ≢ 2 → check_counts new c n p ≡ check_counts old c n p
  unfolding check_counts
  counts_same c n p t = chain_same none (refuse_if (over_most new c n p) 2 0) (refuse_if (over_most old c n p) 2 0) (λ z. go (over_most old c n p) refl (then-not 2 none _ z t))
    where
      none : Verdict
      none = refuse_if (empty c n) 1 0

      go : (b : Bool) → over_most old c n p ≡ b → (refuse_if b 2 0).number ≢ 2 → refuse_if (over_most new c n p) 2 0 ≡ refuse_if b 2 0
      go true e m = absurd (m refl)
      go false e m = ap (λ (b : Bool). refuse_if b 2 0) (over_none c n p e)

  module _ (job : Job) where
    abbrev counts : Limits → Verdict
    counts most = check_counts most (file_count job) (recipe_count job) (pin_count job)

    sound-same : (lent : Bool) → (check_sound old job lent).number ≢ 2 → check_sound new job lent ≡ check_sound old job lent
    unfolding check_sound check_counts check_lists check_contents
    sound-same lent t =
        ap (λ (v : Verdict). (v or_else check_lists job lent) or_else check_contents job)
        (counts_same (file_count job) (recipe_count job) (pin_count job)
        (first-not 2 (counts old) (check_lists job lent) (omega arith) (first-not 2 (counts old or_else check_lists job lent) (check_contents job) (omega arith) t)))

    measure-same : (check_sound old job true).number ≢ 2 → measure new job ≡ measure old job
    unfolding measure
    measure-same t =
        ap (λ (v : Verdict). elim (is_done v) [
          | true ↦ record { verdict = v; cut = cut job.sides (recipes job); size = size_a job job.sides; unread = unread_files job; holding = unread_recipes job }
          | false ↦ record { verdict = v; cut = 0; size = 0; unread = 0; holding = 0 }
        ]) (sound-same true t)

    writing-same : (out : List ℕ) → (write_verdict old job out).number ≢ 2 → writing new job out ≡ writing old job out
    unfolding writing check_written check_sound
    writing-same out t =
        let lent : Bool = eqb (length out) (512 * block_count (header_for job)) in
        let last : Verdict = refuse_if (bad_k job.k) 7 0 in
        let same : check_written new job lent ≡ check_written old job lent
        = ap (λ (v : Verdict). v or_else last) (sound-same lent (first-not 2 (check_sound old job lent) last (omega arith) t)) in
        ap (λ (v : Verdict). elim (is_done v) [ true ↦ writing_of v (blocks_of job) | false ↦ writing_of v out ]) same

    -- with the same most for den
    module _ (den : old.den ≡ new.den) where
      rest-same : check_rest new job ≡ check_rest old job
      unfolding check_rest
      rest-same = rw den refl

      check-same : (lent : Bool) → (check old job lent).number ≢ 2 → check new job lent ≡ check old job lent
      check-same lent t =
          let s : Verdict = check_sound old job lent in
          rest-chain new job lent
          ∙ ap₂ (λ (v w : Verdict). v or_else w) (sound-same lent (first-not 2 s (check_rest old job) (omega arith) (rw (← rest-chain old job lent) t))) rest-same
          ∙ sym (rest-chain old job lent)

      lent_same : (edition : ℕ) (l : Lent) → (check_lent edition old job l).number ≢ 2 → check_lent edition new job l ≡ check_lent edition old job l
      lent_same edition l t =
          let e : Verdict = check_edition edition in
          let lent : Bool = fits edition job l in
          lent-chain edition new job l
          ∙ chain_same e (check new job lent) (check old job lent) (λ z. check-same lent (then-not 2 e (check old job lent) z (rw (← lent-chain edition old job l) t)))
          ∙ sym (lent-chain edition old job l)

      balance-check-same : (lent : Bool) → (balance_check old job lent).number ≢ 2 → balance_check new job lent ≡ balance_check old job lent
      unfolding balance_check check_sound check_goal
      balance-check-same lent t =
          let s : Verdict = check_sound old job lent in
          let nine : Verdict = refuse_if (none_balanced job) 9 0 in
          let sound = sound-same lent (first-not 2 s (check_goal old job) (omega arith) (first-not 2 (s or_else check_goal old job) nine (omega arith) t)) in
          let goal : check_goal new job ≡ check_goal old job = rw den refl in
          ap₂ (λ (v w : Verdict). (v or_else w) or_else nine) sound goal

      -- a sound job is past 2
      balance-not-two : Sound old job → (balance_check old job true).number ≢ 2
      unfolding lacks balance_check check_sound
      balance-not-two s = rw ((check-holds old job true).sound_passes s refl) (never-given 2 (goal_rows old job followed_by row 9 (none_balanced job) 0) refl (omega arith))

      balance-same : (scratch : List ℕ) → (balance_verdict old job scratch).number ≢ 2 → balancing new job scratch ≡ balancing old job scratch
      unfolding balancing
      balance-same scratch t =
          ap (λ (v : Verdict). elim (is_done v) [
            | true ↦ balancing_of (balance_figures job v) (balance_sides job) (listed (scratch_for 1 job) 0 [] scratch)
            | false ↦ balancing_of (no_balance_figures v) job.sides scratch
          ]) (balance-check-same (leb (scratch_for 1 job) (length scratch)) t)

      pub calls_same : CallsSame old new job
      unfolding pass_ends run_ends
      calls_same = record {
        check = check-same;
        measure = measure-same;
        pass = λ edition l t.
            let p : Pass = first_pass edition job in
            ap (λ (v : Verdict). elim (is_done v) [ true ↦ left_by edition job l (figures_of v p (p ∷ [])) p | false ↦ unchanged job l (no_figures v) ]) (lent_same edition l t);
        run = λ edition l t.
            ap (λ (v : Verdict). elim (is_done v) [
              | true ↦ left_by edition job l (run_figures_of v (first_pass edition job) (run_by edition job)) (last_pass edition job)
              | false ↦ unchanged job l (no_run_figures v)
            ]) (lent_same edition l t);
        balancing = balance-same;
        writing = writing-same;
      }

  -- ---- reading

  module _ (input : List ℕ) where
    abbrev head : Header
    head = header_of input

    abbrev total-on : Verdict
    total-on = refuse_if (wrong_total head input) 20 0 or_else blocks_verdict head input 1 (block_count head - 1)

    abbrev after-counts : Room → Verdict
    after-counts room = refuse_if (not (roomy head room)) 3 0 or_else total-on

    abbrev head-counts : Limits → Verdict
    head-counts most = check_counts most head.files head.recipes head.pins

    -- lent what is alike where 2 is not given
    layout-alike : (room mine : Room) → (larger old input ≡ false → roomy head room ≡ roomy head mine) → (layout_verdict old input mine).number ≢ 2
        → layout_verdict new input room ≡ layout_verdict old input mine
    layout-alike room mine like t =
        let short : Verdict = refuse_if (under_one input) 20 0 in
        let zeroth : Verdict = block_verdict head input 0 in
        let wide : Verdict = refuse_if (bad_k head.k) 22 0 in
        let n : Verdict = head-counts new or_else after-counts room in
        let o : Verdict = head-counts old or_else after-counts mine in
        let counted : o.number ≢ 2 → n ≡ o
        = λ q.
        let same = counts_same head.files head.recipes head.pins (first-not 2 (head-counts old) (after-counts mine) (omega arith) q) in
        ap (λ (v : Verdict). v or_else after-counts room) same
        ∙ chain_same (head-counts old) (after-counts room) (after-counts mine)
        (λ z. ap (λ (b : Bool). refuse_if (not b) 3 0 or_else total-on) (like (counts-pass old head.files head.recipes head.pins z).1)) in
        layout-chain new input room
        ∙ chain_same short (zeroth or_else wide or_else n) (zeroth or_else wide or_else o)
        (λ a. chain_same zeroth (wide or_else n) (wide or_else o)
        (λ b. chain_same wide n o
        (λ c. counted (then-not 2 wide o c (then-not 2 zeroth (wide or_else o) b (then-not 2 short (zeroth or_else wide or_else o) a (rw (← layout-chain old input mine) t)))))))
        ∙ sym (layout-chain old input mine)

    read_alike : (room mine : Room) → (larger old input ≡ false → roomy head room ≡ roomy head mine) → (read_verdict old input mine).number ≢ 2
        → read_verdict new input room ≡ read_verdict old input mine
    read_alike room mine like t =
        let last : Verdict = check_contents (job_of input) in
        read-chain new input room
        ∙ ap (λ (v : Verdict). v or_else last) (layout-alike room mine like (first-not 2 (layout_verdict old input mine) last (omega arith) (rw (← read-chain old input mine) t)))
        ∙ sym (read-chain old input mine)

    pub for-same : (read_for old input).number ≢ 2 → read_for new input ≡ read_for old input
    for-same =
        read_alike (all_room new) (all_room old)
        (λ few. (lends-enough new input).room head (over_none head.files head.recipes head.pins few) ∙ sym ((lends-enough old input).room head few))

  pub read_same : (input : List ℕ) → ReadSame old new input
  unfolding reading comparing compares
  read_same input = record {
    reading = λ room t.
        ap (λ (v : Verdict). elim (is_done v) [
          | true ↦ record { answer = record { verdict = v; header = header_of input }; room = written (job_of input) room }
          | false ↦ record { answer = record { verdict = v; header = no_header }; room = room }
        ]) (read_alike input room room (λ _. refl) t);
    read = for-same input;
    comparing = λ other room t s.
        ap₂ (λ (v w : Verdict). cond (is_done v) (cond (is_done w) (comparing_jobs (job_of input) (job_of other) room) (comparing_of (compared 2 w 0) room)) (comparing_of (compared 1 v 0) room))
        (for-same input t) (for-same other s);
    compares = λ other t s.
        ap₂ (λ (v w : Verdict). cond (is_done v) (cond (is_done w) (difference_lines (differences (job_of input) (job_of other))) (refused_of 2 w)) (refused_of 1 v))
        (for-same input t) (for-same other s);
  }

  -- ---- planning, with the same most for den

  module _ (den : old.den ≡ new.den) (input : List ℕ) where
    abbrev job : Job
    job = job_of input

    -- what a program tells of an input: its refusal, or what is the same of a job that is read
    planned : {A : Type 0} (tell : Limits → A) (line : Verdict → A) → ((most : Limits) → (read_for most input).number ≢ 0 → tell most ≡ line (read_for most input))
        → ((read_for old input).number ≡ 0 → tell new ≡ tell old) → (read_for old input).number ≢ 2 → tell new ≡ tell old
    planned tell line told made t = elim (ℕ_discrete (read_for old input).number 0) [
      | yes z ↦ made z
      | no n ↦
          let same = for-same input t in
          told new (λ z. n (sym (ap (λ (v : Verdict). v.number) same) ∙ z)) ∙ ap line same ∙ sym (told old n)
    ]

    module _ (edition : ℕ) (z : (read_for old input).number ≡ 0) where
      -- the new limits read it too
      z-new : (read_for new input).number ≡ 0
      z-new = ap (λ (v : Verdict). v.number) (for-same input (λ e. omega (arith, z, e))) ∙ z

      sound-old : Sound old job
      sound-old = (read-holds old input (all_room old)).sound z

      sound-new : Sound new job
      sound-new = (read-holds new input (all_room new)).sound z-new

      abbrev verdict : Limits → Verdict
      verdict most = check_lent edition most job (all_lent most job)

      -- what is lent fits, and 1 to 6 are past
      checked : (most : Limits) → Sound most job → check most job true ≡ check_rest most job → verdict most ≡ (check_edition edition or_else check_rest most job)
      checked most s adds = rw (lent-chain edition most job (all_lent most job), lent-enough most edition job s.few_files s.few_recipes s.few_pins, adds) refl

      verdict-same : verdict new ≡ verdict old
      verdict-same =
          checked new sound-new ((read-holds new input (all_room new)).adds z-new)
          ∙ ap (λ (w : Verdict). check_edition edition or_else w) (rest-same job den)
          ∙ sym (checked old sound-old ((read-holds old input (all_room old)).adds z))

      -- a run answers the same and leaves the same sides
      run-alike : ((all_run edition new job).answer ≡ (all_run edition old job).answer) × ((all_run edition new job).sides ≡ (all_run edition old job).sides)
      run-alike =
          let a = answers edition new job (all_lent new job) in
          let b = answers edition old job (all_lent old job) in
          elim (ℕ_discrete (verdict old).number 0) [
            | yes q ↦
                let p : (verdict new).number ≡ 0 = ap (λ (v : Verdict). v.number) verdict-same ∙ q in (
                  ap (λ (e : Ended RunFigures). e.answer) (a.run_done p) ∙ sym (ap (λ (e : Ended RunFigures). e.answer) (b.run_done q)),
                  ap (λ (e : Ended RunFigures). e.sides) (a.run_done p) ∙ sym (ap (λ (e : Ended RunFigures). e.sides) (b.run_done q)),
                )
            | no q ↦
                let p : (verdict new).number ≢ 0 = λ e. q (sym (ap (λ (v : Verdict). v.number) verdict-same) ∙ e) in (
                  ap (λ (e : Ended RunFigures). e.answer) (a.run_refused p) ∙ ap no_run_figures verdict-same ∙ sym (ap (λ (e : Ended RunFigures). e.answer) (b.run_refused q)),
                  ap (λ (e : Ended RunFigures). e.sides) (a.run_refused p) ∙ sym (ap (λ (e : Ended RunFigures). e.sides) (b.run_refused q)),
                )
          ]

      prints-same : prints edition new input ≡ prints edition old input
      unfolding prints
      prints-same =
          rw (eq-eqb (read_verdict new input (all_room new)).number 0 z-new, eq-eqb (read_verdict old input (all_room old)).number 0 z, prints)
          (ap₂ (λ (r : RunFigures) (s : List ℕ). report job r s) run-alike.0 run-alike.1)

      resettles-same : resettles edition new input ≡ resettles edition old input
      unfolding resettles
      resettles-same =
          let same : read_for new input ≡ read_for old input = for-same input (λ e. omega (arith, z, e)) in
          ap₂ (λ (r : RunFigures) (s : List ℕ). hands_out (read_for new input or_else r.figures.verdict) (with_sides job s) []) run-alike.0 run-alike.1
          ∙ ap (λ (v : Verdict). hands_out (v or_else (all_run edition old job).answer.figures.verdict) (with_sides job (all_run edition old job).sides) []) same

      traces-same : traces edition new input ≡ traces edition old input
      unfolding traces
      traces-same =
          let tell : Limits → List ℕ = λ most. let e = pass_ends edition most job (all_lent most job) in trace job e.answer e.sides (listing e.lent) in
          let a = answers edition new job (all_lent new job) in
          let b = answers edition old job (all_lent old job) in
          let p : Pass = first_pass edition job in
          let shown : Ended Figures → List ℕ = λ e. trace job e.answer e.sides (listing e.lent) in
          let made : (verdict old).number ≡ 0 → tell new ≡ tell old
          = λ q.
          ap shown (a.pass_done (ap (λ (v : Verdict). v.number) verdict-same ∙ q))
          ∙ trace-alike _ _ (left-alike edition new old job p) job (figures_of done p (p ∷ [])) p.sides_after
          ∙ sym (ap shown (b.pass_done q)) in
          let refused : (verdict old).number ≢ 0 → tell new ≡ tell old
          = λ q.
          ap shown (a.pass_refused (λ e. q (sym (ap (λ (v : Verdict). v.number) verdict-same) ∙ e)))
          ∙ ap (λ (v : Verdict). trace job (no_figures v) job.sides (listing (all_lent new job))) verdict-same
          ∙ trace-refused job (no_figures (verdict old)) job.sides (listing (all_lent new job)) q
          ∙ sym (trace-refused job (no_figures (verdict old)) job.sides (listing (all_lent old job)) q)
          ∙ sym (ap shown (b.pass_refused q)) in
          rw (eq-eqb (read_verdict new input (all_room new)).number 0 z-new, eq-eqb (read_verdict old input (all_room old)).number 0 z, traces)
          (elim (ℕ_discrete (verdict old).number 0) [ yes q ↦ made q | no q ↦ refused q ])

    module _ (z : (read_for old input).number ≡ 0) where
      abbrev own : Limits → List ℕ
      own most = (all_lent most job).scratch

      balance-alike : ((all_balancing new job).answer ≡ (all_balancing old job).answer) × ((all_balancing new job).sides ≡ (all_balancing old job).sides)
      balance-alike =
          let a = balance-answers new job (own new) in
          let b = balance-answers old job (own old) in
          let same : balance_verdict new job (own new) ≡ balance_verdict old job (own old) = balance-verdict-same in
          elim (ℕ_discrete (balance_verdict old job (own old)).number 0) [
            | yes q ↦
                let p : (balance_verdict new job (own new)).number ≡ 0 = ap (λ (v : Verdict). v.number) same ∙ q in (
                  ap (λ (e : Balancing). e.answer) (a.made p) ∙ sym (ap (λ (e : Balancing). e.answer) (b.made q)),
                  ap (λ (e : Balancing). e.sides) (a.made p) ∙ sym (ap (λ (e : Balancing). e.sides) (b.made q)),
                )
            | no q ↦
                let p : (balance_verdict new job (own new)).number ≢ 0 = λ e. q (sym (ap (λ (v : Verdict). v.number) same) ∙ e) in (
                  ap (λ (e : Balancing). e.answer) (a.refused p) ∙ ap no_balance_figures same ∙ sym (ap (λ (e : Balancing). e.answer) (b.refused q)),
                  ap (λ (e : Balancing). e.sides) (a.refused p) ∙ sym (ap (λ (e : Balancing). e.sides) (b.refused q)),
                )
          ]
        where
          long : (most : Limits) → Sound most job → leb (scratch_for 1 job) (length (own most)) ≡ true
          long most s =
              le-leb (scratch_for 1 job) (length (own most)) (long-enough 1 job (all_lent most job) (lent-enough most 1 job s.few_files s.few_recipes s.few_pins)).scratch

          balance-verdict-same : balance_verdict new job (own new) ≡ balance_verdict old job (own old)
          balance-verdict-same =
              rw (long new (sound-new 1 z), long old (sound-old 1 z)) (balance-check-same job den true (balance-not-two job den (sound-old 1 z)))

      balances-same : balances new input ≡ balances old input
      unfolding balances
      balances-same =
          let same : read_for new input ≡ read_for old input = for-same input (λ e. omega (arith, z, e)) in
          ap₂ (λ (a : BalanceFigures) (s : List ℕ). hands_out (read_for new input or_else a.verdict) (with_sides job s) (balance_lines job a s)) balance-alike.0 balance-alike.1
          ∙ ap (λ (v : Verdict). let e = all_balancing old job in hands_out (v or_else e.answer.verdict) (with_sides job e.sides) (balance_lines job e.answer e.sides)) same

    pub planned-same : PlannedSame old new input
    planned-same = record {
      prints = λ edition. planned (λ most. prints edition most input) refusal (λ most. prints-no edition most input) (prints-same edition);
      traces = λ edition. planned (λ most. traces edition most input) refusal (λ most. traces-no edition most input) (traces-same edition);
      resettles = λ edition. planned (λ most. resettles edition most input) (λ v. record { output = []; errors = refusal v }) (λ most. resettles-no edition most input) (resettles-same edition);
      balances = planned (λ most. balances most input) (λ v. record { output = []; errors = refusal v }) (λ most. balances-no most input) balances-same;
    }

-- ---- a larger job

module _ (input : List ℕ) where
  abbrev told : Header
  told = header_of input

  -- what stands before 2 in reading, each for itself
  abbrev short : Verdict
  short = refuse_if (under_one input) 20 0

  abbrev zeroth : Verdict
  zeroth = block_verdict told input 0

  abbrev wide : Verdict
  wide = refuse_if (bad_k told.k) 22 0

  abbrev none : Verdict
  none = refuse_if (empty told.files told.recipes) 1 0

  before-two : short.number ≡ 0 → zeroth.number ≡ 0 → wide.number ≡ 0 → none.number ≡ 0 → BeforeTwo input
  unfolding block_verdict lacks
  before-two a b c d = record {
    long = not-refused (under_one input) 19 0 a;
    opened = plain_rows (block_rows told input 0) refl b;
    wide = not-refused (bad_k told.k) 21 0 c;
    some = not-refused (empty told.files told.recipes) 0 0 d;
  }

  module _ (most : Limits) (room : Room) where
    abbrev rest : Verdict
    rest = refuse_if (not (roomy told room)) 3 0 or_else refuse_if (wrong_total told input) 20 0 or_else blocks_verdict told input 1 (block_count told - 1)

    abbrev over : Verdict
    over = refuse_if (larger most input) 2 0

    two-given : BeforeTwo input → larger most input ≡ true → read_verdict most input room ≡ two
    unfolding check_counts
    two-given b h = rw (read-chain most input room, layout-chain most input room, b.long, b.opened, b.wide, b.some, h) refl

    two-only : (read_verdict most input room).number ≡ 2 → BeforeTwo input × (larger most input ≡ true)
    unfolding lacks block_verdict blocks_verdict check_counts check_contents
    two-only e =
        let contents : (check_contents (job_of input)).number ≢ 2 = never-given 2 (content_rows (job_of input)) refl (omega arith) in
        let laid = ends_there 2 (layout_verdict most input room) (check_contents (job_of input)) contents (rw (← read-chain most input room) e) in
        let a = goes_on 2 short (zeroth or_else wide or_else check_counts most told.files told.recipes told.pins or_else rest) (never-given 2 (row 20 (under_one input) 0) refl (omega arith)) (rw (← layout-chain most input room) laid) in
        let b = goes_on 2 zeroth _ (never-given 2 (block_rows told input 0) refl (omega arith)) a.1 in
        let c = goes_on 2 wide _ (never-given 2 (row 22 (bad_k told.k) 0) refl (omega arith)) b.1 in
        let later : Rows = row 3 (not (roomy told room)) 0 followed_by row 20 (wrong_total told input) 0 followed_by further_rows told input 1 (block_count told - 1) in
        let d = ends_there 2 (none or_else over) rest (never-given 2 later (further-lacks 2 (omega arith) (omega arith) told input 1 (block_count told - 1)) (omega arith)) c.1 in
        let f = goes_on 2 none over (never-given 2 (row 1 (empty told.files told.recipes) 0) refl (omega arith)) d in
        (before-two a.0 b.0 c.0 f.0, contra' (larger most input) (λ h. omega (arith, f.1, ap (λ (t : Bool). (refuse_if t 2 0).number) h)))

    -- a job that is read is past all of it
    read-before : (read_verdict most input room).number ≡ 0 → BeforeTwo input
    unfolding check_counts
    read-before z =
        let laid = passes-both (layout_verdict most input room) (check_contents (job_of input)) (rw (← read-chain most input room) z) in
        let a = passes-both short (zeroth or_else wide or_else check_counts most told.files told.recipes told.pins or_else rest) (rw (← layout-chain most input room) laid.0) in
        let b = passes-both zeroth _ a.1 in
        let c = passes-both wide _ b.1 in
        let d = passes-both (none or_else over) rest c.1 in
        before-two a.0 b.0 c.0 (passes-both none over d.0).0

    -- and no longer than the largest
    read_short : (read_verdict most input room).number ≡ 0 → length input ≤ most_bytes most
    read_short z =
        let s = (read-holds most input room).sound z in
        let job : Job = job_of input in
        omega (
          arith,
          read_length most input room z,
          (blocks-grow (file_count job) most.files s.few_files).0,
          (blocks-grow (recipe_count job + 1) (most.recipes + 1) (omega (arith, s.few_recipes))).1,
          (blocks-grow (pin_count job) most.pins s.few_pins).1,
        )

pub larger-refused : (most : Limits) (input : List ℕ) → LargerRefused most input
larger-refused most input = record {
  given = λ room b h. two-given input most room b h;
  only = λ room e. two-only input most room e;
  older = λ new room mine z h. two-given input most mine (read-before input new room z) h;
  printed = λ new edition z h.
      let e : read_for most input ≡ two = two-given input most (all_room most) (read-before input new (all_room new) z) h in
      prints-no edition most input (λ q. omega (arith, q, ap (λ (v : Verdict). v.number) e)) ∙ ap refusal e;
}

-- ---- how long a stored job can be

pub longest-holds : (most : Limits) (input : List ℕ) (job : Job) → LongestHolds most input job
longest-holds most input job = record {
  read = λ room z. read_short input most room z;
  met = λ files recipes pins. blocks-length job ∙ rw (files, recipes, pins) refl;
}

pub blocks-worked : BlocksWorked
blocks-worked = record { was = refl; is = refl }
