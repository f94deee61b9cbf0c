-- Order 8: what 10 says of the window and who never gives it, that no vault is emptied, and the jobs of specs/Emptied.antt worked by hand. Assumes nothing.
use mathlib.Core.Path.{◌≡◌, refl, sym, ap, ◌∙◌}
use mathlib.Core.Logic.{◌≢◌}
use Prim.Native.Nat.{ℕ, ◌+◌, ◌*◌, ◌≤◌, ◌<◌}
use mathlib.Core.Bool.{Bool, true, false, cond, ◌&&◌, ◌||◌}
use mathlib.Core.List.{List}
use native.Mathlib.Decide.{ℕ_discrete}
use native.Mathlib.Nat.{zero-add, mul-zero, mul-le-mul_right}
use native.Mathlib.Omega.{arith}
use lib.Dec.{leb}
use lib.ListN.{length}
use borrow.Author.Tests.{leb-true, leb-false, le-leb, le-ltb, eq-eqb}
use Rattle.rules.specs.declared.Verdict.{Verdict}
use Rattle.rules.specs.Numbers.{Figures}
use Rattle.rules.specs.Numbers.{RunFigures}
use Rattle.rules.specs.declared.Difference.{Difference}
use Rattle.rules.specs.Lists.{total, count, those, largest, up_to, lowest, padded, onto}
use Rattle.rules.specs.Job.{Job, Limits, limits_of, view_of, files, views, read_in, recipes, Lent, scratch_for, fits}
use Rattle.rules.specs.Split.{count_on, is_cut, cut, unread_files, unread_recipes, weight, smax, tolerance, size_on, size_a, balanced}
use Rattle.rules.specs.Check.{done, is_done, refuse_if, may_empty, bad_pin, check_sound, check, check_job, check_lent, measure, check_edition}
use Rattle.rules.specs.Move.{start}
use Rattle.rules.specs.Pass.{keeps, pass_of}
use Rattle.rules.specs.Fronts.{tries_by}
use Rattle.rules.specs.Run.{no_figures, no_run_figures, Ended, pass_ends}
use Rattle.rules.specs.Stored.{weigh, block_check, header_of, laid_out, further_rows, job_of, Room, read_verdict}
use Rattle.rules.specs.Report.{text, digits_in, spaced, line, refusal, report, all_room, all_lent, all_run, prints}
use Rattle.rules.specs.Trace.{listing, trace, traces}
use Rattle.rules.specs.Writing.{value_bytes, contents}
use Rattle.rules.specs.Balance.{too_large, too_small, balance_sides, least_a, most_a, none_balanced, balance_check, Balancing}
use Rattle.rules.specs.Compare.{differences, comparing_of, compared, read_for, comparing_jobs, comparing}
use Rattle.rules.specs.Theorems.{Sound, Sides, state_at, Lawful, LawfulTry}
use Rattle.rules.specs.Emptied.{WindowAllows, NeverWindow, BothHold, NoneEmptied, CallsLeave, pair, pair_bytes, EmptiedWorked}
use Rattle.rules.proofs.Tests.{or_no, and_yes}
use Rattle.rules.proofs.Verdicts.{measure-verdict}
use Rattle.rules.proofs.SoundJob.{ratio-pass, goal-pass, sound}
use Rattle.rules.proofs.Sizes.{sizes-add}
use Rattle.rules.proofs.Refusals.{never-read, lent-chain}
use Rattle.rules.proofs.Proved.{accepted, pass-holds-by, given-sides, run-holds-by, lent-passes, answers}
use Rattle.rules.proofs.FrontsProved.{editions-hold}
use Rattle.rules.proofs.Lending.{lent-enough, read_same}
use Rattle.rules.proofs.Writes.{few-numbers, write-holds}
use Rattle.rules.proofs.Balancing.{balance-holds, before-parts, start-passed, balance-answers}

-- ---- what 10 says of the window

pub window-allows : (job : Job) → job.num ≤ job.den → WindowAllows job
unfolding balanced
window-allows job h =
    let d : ℕ = job.den in
    let n : ℕ = job.num * weight job in
    let m : ℕ = d * tolerance job in
    let w : ℕ = d * weight job in
    let more : n ≤ w + m = omega (arith, mul-le-mul_right {m = job.num} {n = d} (weight job) h) in
    rw (mul-zero d, zero-add m, le-leb 0 (n + m) (omega arith), le-leb n (w + m) more) (go (leb n m) (leb w (n + m)))
  where
    go : (x y : Bool) → (x || y) ≡ ((x && true) || (true && y))
    go true y = refl
    go false true = refl
    go false false = refl

-- ---- who never gives it

pub never-window : (most : Limits) → NeverWindow most
never-window most = record {
  measure = λ job e. omega (arith, few-numbers most job true, sym (ap (λ (v : Verdict). v.number) (measure-verdict most job)) ∙ e);
  read = read;
  write = λ job out e. omega (arith, (write-holds most job out).numbers, e);
  compare = λ old new room. unfold comparing comparing_jobs in
      let found = differences (job_of old) (job_of new) in
      go (read_for most old) (read_for most new) (length found) room (onto found room) (read old (all_room most)) (read new (all_room most)) (is_done (read_for most old)) (is_done (read_for most new)) (leb (length found) (length room));
}
  where
    read : (bytes : List ℕ) (room : Room) → (read_verdict most bytes room).number ≢ 10
    read bytes room = never-read most bytes room 10 (omega arith) (omega arith) (omega arith) (omega arith)

    go : (v w : Verdict) (n : ℕ) (room made : List Difference) → v.number ≢ 10 → w.number ≢ 10 → (a b c : Bool)
        → (cond a (cond b (cond c (comparing_of (compared 0 done n) made) (comparing_of (compared 0 (refuse_if true 30 0) n) room)) (comparing_of (compared 2 w 0) room)) (comparing_of (compared 1 v 0) room)).answer.verdict.number ≢ 10
    go v w n room made p q true true true = omega arith
    go v w n room made p q true true false = omega arith
    go v w n room made p q true false c = q
    go v w n room made p q false b c = p

-- ---- no vault is emptied

module _ (job : Job) (filled : may_empty job ≡ false) where
  -- in the window and not 10: 0 < den·|A| < den·W
  both_hold : (sides : List ℕ) → size_on job 0 sides + size_on job 1 sides ≡ weight job → balanced job (size_a job sides) ≡ true → BothHold job sides
  unfolding balanced
  both_hold sides whole even =
      let a : ℕ = size_a job sides in
      let n : ℕ = job.num * weight job in
      let m : ℕ = job.den * tolerance job in
      let w : ℕ = job.den * weight job in
      let halves = or_no (leb n m) (leb w (n + m)) filled in
      let over : m < n = leb-false n m halves.0 in
      let under : n + m < w = leb-false w (n + m) halves.1 in
      let window = and_yes (leb n (job.den * a + m)) (leb (job.den * a) (n + m)) even in
      let large : n ≤ job.den * a + m = leb-true n (job.den * a + m) window.0 in
      let little : job.den * a ≤ n + m = leb-true (job.den * a) (n + m) window.1 in
      let some : a ≢ 0 = λ e. omega (arith, over, large, ap (λ (x : ℕ). job.den * x) e, mul-zero job.den) in
      let short : a ≢ weight job = λ e. omega (arith, under, little, ap (λ (x : ℕ). job.den * x) e) in
      record {
        in_a = omega (arith, some);
        in_b = elim (ℕ_discrete (size_on job 1 sides) 0) [
          | yes e ↦ absurd (short (omega (arith, whole, e)))
          | no z ↦ omega (arith, z)
        ];
      }

  module _ (most : Limits) (s : Sound most job) (wide : 1 ≤ job.k) where
    within-pass : (sides ms : List ℕ) → Sides job sides → Lawful job sides ms → balanced job (size_a job sides) ≡ true → (k : ℕ) → BothHold job (state_at job sides ms k).sides
    within-pass sides ms w l b k =
        let p = pass-holds-by most job s sides ms w l in
        both_hold (state_at job sides ms k).sides (p.moves.sizes k) (p.balance b k)

    pub none-emptied : NoneEmptied job
    none-emptied = record {
      split = λ sides bin b. both_hold sides (sizes-add job sides bin) b;
      met = within-pass;
      returned = λ sides ms w l b. unfold pass_of in within-pass sides ms w l b (keeps (recipes job) (start job sides) ms);
      within = λ try l b i k h.
          let r = run-holds-by most job s try l in
          both_hold _ ((r.held i).moves.sizes k) (r.balance b i k h);
      ran = λ try l b.
          let r = run-holds-by most job s try l in
          both_hold _ (sizes-add job _ r.next.binary) (ap (balanced job) (sym r.size) ∙ r.returns b);
      balancing = λ b. let h = balance-holds most job s wide in both_hold (balance_sides job) (sizes-add job (balance_sides job) h.sides.binary) (h.balances b);
    }

-- ---- after a call that is not refused

-- what the check lets through
check-empties : (most : Limits) (job : Job) (lent : Bool) → (check most job lent).number ≡ 0 → NoneEmptied job × (balanced job (size_a job job.sides) ≡ true)
check-empties most job lent ok =
    let a = accepted most job lent ok in
    (none-emptied job a.filled most a.sound a.wide.0, a.balanced)

-- what the balancing's lets through
balance-empties : (most : Limits) (job : Job) (lent : Bool) → (balance_check most job lent).number ≡ 0 → NoneEmptied job × BothHold job (balance_sides job)
balance-empties most job lent ok =
    let a = start-passed most job lent ok in
    let b = before-parts most job lent a.0 in
    let c = goal-pass most job b.1 in
    let none = none-emptied job c.2 most (sound most job lent b.0) (ratio-pass most job c.0).1.0 in
    (none, none.balancing a.1)

pub calls-leave : (edition : ℕ) (most : Limits) (job : Job) (l : Lent) → CallsLeave edition most job l
calls-leave edition most job l = record {
  start = λ z. let n = through z in n.0.split job.sides (given z).binary n.1;
  pass = λ z.
      let n = through z in
      rw (ap (λ (e : Ended Figures). e.sides) ((answers edition most job l).pass_done z))
      (n.0.returned job.sides (tries_by edition job job.sides) (given z) (lawful z job.sides (given z)) n.1);
  run = λ z. let n = through z in rw (ap (λ (e : Ended RunFigures). e.sides) ((answers edition most job l).run_done z)) (n.0.ran (tries_by edition job) (lawful z) n.1);
  balancing = λ scratch z.
      rw (ap (λ (b : Balancing). b.sides) ((balance-answers most job scratch).made z)) (balance-empties most job (leb (scratch_for 1 job) (length scratch)) z).1;
  met = λ z. (through z).0;
  met_balancing = λ scratch z. (balance-empties most job (leb (scratch_for 1 job) (length scratch)) z).0;
}
  where
    through : (check_lent edition most job l).number ≡ 0 → NoneEmptied job × (balanced job (size_a job job.sides) ≡ true)
    through z = check-empties most job (fits edition job l) (lent-passes edition most job l z).1

    sound-of : (check_lent edition most job l).number ≡ 0 → Sound most job
    sound-of z = (accepted most job (fits edition job l) (lent-passes edition most job l z).1).sound

    lawful : (check_lent edition most job l).number ≡ 0 → LawfulTry job (tries_by edition job)
    lawful z = (editions-hold most job (sound-of z)).lawful edition

    given : (check_lent edition most job l).number ≡ 0 → Sides job job.sides
    given z = given-sides most job (sound-of z)

-- ---- m5 and the edges

pair-stored : job_of pair_bytes ≡ pair
unfolding up_to padded contents value_bytes job_of header_of
pair-stored = refl

module _ (most : Limits) (f : 2 ≤ most.files) (r : 1 ≤ most.recipes) (p : 2 ≤ most.pins) (d : 2 ≤ most.den) where
  pair_read : read_verdict most pair_bytes (all_room most) ≡ done
  unfolding up_to lowest padded contents value_bytes weigh block_check header_of laid_out further_rows job_of read_verdict bad_pin
  pair_read = read_same most (limits_of 2 1 2 2) pair_bytes (rw (le-ltb most.files 2 f, le-ltb most.recipes 1 r, le-ltb most.pins 2 p) refl) refl

  pair-checked : check_job most pair ≡ record { number = 10; place = 0 }
  unfolding total count largest up_to lowest files weight smax bad_pin check
  pair-checked = rw (le-ltb most.files 2 f, le-ltb most.recipes 1 r, le-ltb most.pins 2 p, le-ltb most.den 2 d) refl

  pair-balanced : balance_check most pair true ≡ record { number = 10; place = 0 }
  unfolding total count largest up_to lowest files weight smax bad_pin balance_check
  pair-balanced = rw (le-ltb most.files 2 f, le-ltb most.recipes 1 r, le-ltb most.pins 2 p, le-ltb most.den 2 d) refl

  -- whatever the program lends is long enough
  pair-lent : check_lent 1 most pair (all_lent most pair) ≡ record { number = 10; place = 0 }
  unfolding check_edition
  pair-lent = rw (lent-chain 1 most pair (all_lent most pair), lent-enough most 1 pair f r p) pair-checked

  pair-refused : (check_lent 1 most pair (all_lent most pair)).number ≢ 0
  pair-refused z = omega (arith, sym (ap (λ (v : Verdict). v.number) pair-lent) ∙ z)

  pair-prints : prints 1 most pair_bytes ≡ text "refused 10 0\n"
  unfolding prints report text digits_in spaced line refusal
  pair-prints =
      rw (eq-eqb (read_verdict most pair_bytes (all_room most)).number 0 (ap (λ (v : Verdict). v.number) pair_read), prints)
      (ap (λ (j : Job). report j (all_run 1 most j).answer (all_run 1 most j).sides) pair-stored
      ∙ ap (λ (e : Ended RunFigures). report pair e.answer e.sides) ((answers 1 most pair (all_lent most pair)).run_refused pair-refused)
      ∙ ap (λ (v : Verdict). report pair (no_run_figures v) pair.sides) pair-lent)

  pair-traces : traces 1 most pair_bytes ≡ text "refused 10 0\n"
  unfolding traces trace text digits_in spaced line refusal
  pair-traces =
      rw (eq-eqb (read_verdict most pair_bytes (all_room most)).number 0 (ap (λ (v : Verdict). v.number) pair_read), traces)
      (ap (λ (j : Job). let e = pass_ends 1 most j (all_lent most j) in trace j e.answer e.sides (listing e.lent)) pair-stored
      ∙ ap (λ (e : Ended Figures). trace pair e.answer e.sides (listing e.lent)) ((answers 1 most pair (all_lent most pair)).pass_refused pair-refused)
      ∙ ap (λ (v : Verdict). trace pair (no_figures v) pair.sides (listing (all_lent most pair))) pair-lent)

pub worked : EmptiedWorked
unfolding total count those largest up_to lowest view_of files views read_in recipes count_on is_cut cut unread_files unread_recipes weight smax size_on balanced bad_pin check check_sound measure too_large too_small least_a most_a none_balanced balance_check
worked = record {
  m5·check = pair-checked;
  m5·balance = pair-balanced;
  m5·stored = pair-stored;
  m5·prints = pair-prints;
  m5·traces = pair-traces;
  m5·measure = (refl, refl);
  hit_a = refl;
  missed_a = refl;
  hit_b = refl;
  missed_b = refl;
  before_start = refl;
  unbalanced = refl;
  after_free = refl;
}
