-- What the programs lend is enough for every job that the limits let through. Assumes nothing.
use mathlib.Core.Path.{◌≡◌, refl, ap}
use mathlib.Core.Logic.{◌≢◌}
use Prim.Native.Nat.{ℕ, ◌+◌, ◌-◌, ◌*◌, ◌≤◌}
use mathlib.Core.Bool.{true, false, not}
use mathlib.Core.List.{List, [], ◌∷◌}
use native.Mathlib.Omega.{arith}
use lib.Dec.{eqb, leb}
use lib.IntN.{pos}
use lib.ListN.{length, replicate, length-replicate}
use borrow.Author.Tests.{le-leb, eq-eqb}
use Rattle.rules.specs.declared.Verdict.{Verdict}
use Rattle.rules.specs.declared.Header.{Header}
use Rattle.rules.specs.Numbers.{Figures}
use Rattle.rules.specs.Numbers.{RunFigures}
use Rattle.rules.specs.Job.{Job, Limits, file_count, recipe_count, pin_count, scratch_for, scratch_numbers, fits}
use Rattle.rules.specs.Check.{done, Rows, ◌followed_by◌, row, first_given, count_rows, content_rows, rest_rows, bad_k, over_most, check_counts, check_rest, check, is_edition, edition_rows, check_edition, check_lent}
use Rattle.rules.specs.Stored.{header_of, block_count, block_rows, further_rows, job_of, roomy, under_one, wrong_total, layout_rows, read_verdict}
use Rattle.rules.specs.Pass.{leaves}
use Rattle.rules.specs.Run.{first_pass, run_by, last_pass, figures_of, run_figures_of, Ended}
use Rattle.rules.specs.Report.{report, all_room, all_lent, prints}
use Rattle.rules.specs.Trace.{listing, trace, traces}
use Rattle.rules.specs.Theorems.{LendsEnough}
use Rattle.rules.proofs.Tests.{and_both}
use Rattle.rules.proofs.Verdicts.{never-chain}
use Rattle.rules.proofs.Refusals.{lacks, never-given, further-lacks, lent-chain}
use Rattle.rules.proofs.SoundJob.{few-of, counts-pass}
use Rattle.rules.proofs.Reading.{read-holds}
use Rattle.rules.proofs.Fits.{numbers-most}
use Rattle.rules.proofs.Proved.{answers}

-- by an edition, the report of the run of a job that is let through, and the trace of its first pass
abbrev pub run_text : ℕ → Job → List ℕ
run_text edition job = report job (run_figures_of done (first_pass edition job) (run_by edition job)) (last_pass edition job).sides_after

abbrev pub pass_text : ℕ → Limits → Job → List ℕ
pass_text edition most job = let p = first_pass edition job in trace job (figures_of done p (p ∷ [])) p.sides_after (listing (leaves edition job (all_lent most job) p))

-- a lent list of n entries has room for m
has_room {ℓ} : {A : Type ℓ} (m n : ℕ) (z : A) → m ≤ n → leb m (length (replicate n z)) ≡ true
has_room m n z h = le-leb m (length (replicate n z)) (rw (length-replicate n z) h)

module _ (most : Limits) where
  pub room-enough : (h : Header) → h.files ≤ most.files → h.recipes ≤ most.recipes → h.pins ≤ most.pins → roomy h (all_room most) ≡ true
  room-enough h few-files few-recipes few-pins =
      let files : leb h.files (length (all_room most).sizes) ≡ true = has_room h.files most.files 0 few-files in
      and_both (and_both (and_both (and_both files files) files) (has_room (h.recipes + 1) (most.recipes + 1) 0 (omega arith))) (has_room h.pins most.pins 0 few-pins)

  room_after : (h : Header) → over_most most h.files h.recipes h.pins ≡ false → roomy h (all_room most) ≡ true
  room_after h ok = let r = few-of most h.files h.recipes h.pins ok in room-enough h r.0 r.1 r.2

  pub lent-enough : (edition : ℕ) (job : Job) → file_count job ≤ most.files → recipe_count job ≤ most.recipes → pin_count job ≤ most.pins → fits edition job (all_lent most job) ≡ true
  lent-enough edition job few-files few-recipes few-pins =
      let c : ℕ = file_count job in
      let n : ℕ = recipe_count job in
      let gains : eqb (length (replicate c (pos 0))) c ≡ true = eq-eqb (length (replicate c (pos 0))) c (length-replicate c (pos 0)) in
      let files : leb c (length (all_lent most job).tried) ≡ true = has_room c most.files 0 few-files in
      let gained : leb c (length (all_lent most job).gained) ≡ true = has_room c most.files (pos 0) few-files in
      let scans : leb (4 * n) (length (all_lent most job).kinds) ≡ true = has_room (4 * n) (4 * most.recipes) 0 (omega arith) in
      and_both (and_both (and_both (and_both (and_both (and_both (and_both gains files) gained) files) files) scans) scans)
      (has_room (scratch_for edition job) (scratch_numbers 2 most.pins most.files most.recipes) 0 (omega (arith, numbers-most edition (pin_count job) c n)))

  -- 3 is no other row's number, and its own is given only after 2, where there is room
  module _ (input : List ℕ) where
    read-never : (read_verdict most input (all_room most)).number ≢ 3
    unfolding lacks read_verdict
    read-never =
        let h : Header = header_of input in
        let short : Rows = row 20 (under_one input) 0 in
        let wide : Rows = row 22 (bad_k h.k) 0 in
        let counts : Rows = count_rows most h.files h.recipes h.pins in
        let later : Rows = row 20 (wrong_total h input) 0 followed_by further_rows h input 1 (block_count h - 1) in
        let left : (first_given later).number ≢ 3
        = never-given 3 later (further-lacks 3 (omega arith) (omega arith) h input 1 (block_count h - 1)) (omega arith) in
        let after : (first_given counts).number ≡ 0 → (first_given (row 3 (not (roomy h (all_room most))) 0 followed_by later)).number ≢ 3
        = λ z. rw (room_after h (unfold check_counts in (counts-pass most h.files h.recipes h.pins z).1)) left in
        never-chain 3 (first_given (layout_rows most input (all_room most))) (first_given (content_rows (job_of input)))
        (never-chain 3 (first_given short) _ (never-given 3 short refl (omega arith))
        (λ _. never-chain 3 (first_given (block_rows h input 0)) _ (never-given 3 (block_rows h input 0) refl (omega arith))
        (λ _. never-chain 3 (first_given wide) _ (never-given 3 wide refl (omega arith))
        (λ _. never-chain 3 (first_given counts) _ (never-given 3 counts refl (omega arith)) after))))
        (λ _. never-given 3 (content_rows (job_of input)) refl (omega arith))

    pub lends-enough : LendsEnough most input
    lends-enough = record {
      room = room_after;
      lent = λ edition job ok. let r = few-of most (file_count job) (recipe_count job) (pin_count job) ok in lent-enough edition job r.0 r.1 r.2;
      read = read-never;
      made = λ edition ok.
          let r = read-holds most input (all_room most) in
          let s = r.sound ok in
          rw (lent-chain edition most (job_of input) (all_lent most (job_of input)), lent-enough edition (job_of input) s.few_files s.few_recipes s.few_pins, r.adds ok)
          (unfold check_edition check_rest lacks in never-given 3 (edition_rows edition followed_by rest_rows most (job_of input)) refl (omega arith));
    }

    -- what the programs print by an edition of a job that is read and accepted
    module _ (edition : ℕ) (known : is_edition edition ≡ true) (read : read_verdict most input (all_room most) ≡ done) (ok : check most (job_of input) true ≡ done) where
      fitting : check_lent edition most (job_of input) (all_lent most (job_of input)) ≡ done
      unfolding check_edition
      fitting =
          let s = (read-holds most input (all_room most)).sound (ap (λ (v : Verdict). v.number) read) in
          rw (lent-chain edition most (job_of input) (all_lent most (job_of input)), known, lent-enough edition (job_of input) s.few_files s.few_recipes s.few_pins) ok

      pub prints-run : prints edition most input ≡ run_text edition (job_of input)
      unfolding prints
      prints-run =
          let job : Job = job_of input in
          let e = (answers edition most job (all_lent most job)).run_done (ap (λ (v : Verdict). v.number) fitting) in
          rw (eq-eqb (read_verdict most input (all_room most)).number 0 (ap (λ (v : Verdict). v.number) read), prints)
          (ap (λ (x : Ended RunFigures). report job x.answer x.sides) e)

      pub traces-pass : traces edition most input ≡ pass_text edition most (job_of input)
      unfolding traces
      traces-pass =
          let job : Job = job_of input in
          let e = (answers edition most job (all_lent most job)).pass_done (ap (λ (v : Verdict). v.number) fitting) in
          rw (eq-eqb (read_verdict most input (all_room most)).number 0 (ap (λ (v : Verdict). v.number) read), traces)
          (ap (λ (x : Ended Figures). trace job x.answer x.sides (listing x.lent)) e)

-- reading looks at the limits for 2 and 3 alone: where 2 is not given by two limits, their programs read alike
pub read_same : (most other : Limits) (input : List ℕ) → let h = header_of input in
    over_most most h.files h.recipes h.pins ≡ false → over_most other h.files h.recipes h.pins ≡ false
    → read_verdict most input (all_room most) ≡ read_verdict other input (all_room other)
unfolding read_verdict
read_same most other input a b =
    let h : Header = header_of input in
    rw (a, b, room_after most h a, room_after other h b) refl
