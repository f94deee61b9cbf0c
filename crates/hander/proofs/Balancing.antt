-- What the balancing of a job leaves, and what the program then hands out of it. Assumes nothing.
use mathlib.Core.Path.{◌≡◌, refl, sym, ap, ◌∙◌}
use mathlib.Core.Logic.{◌≢◌}
use Prim.Native.Nat.{ℕ, ◌*◌}
use mathlib.Core.Bool.{true}
use mathlib.Core.List.{List}
use borrow.Author.Tests.{eq-eqb}
use Rattle.rules.specs.declared.Verdict.{Verdict}
use Rattle.rules.specs.Numbers.{BalanceFigures}
use Rattle.rules.specs.Job.{Job, Limits, files}
use Rattle.rules.specs.Check.{check}
use Rattle.rules.specs.Split.{size_on}
use Rattle.rules.specs.Stored.{block_count, job_of, read_verdict}
use Rattle.rules.specs.Report.{size_line, into_room, all_room, all_lent}
use Rattle.rules.specs.Writing.{header_for, blocks_of, with_sides}
use Rattle.rules.specs.Balance.{balance_verdict, Balancing, balancing_of, balancing, balance_lines, balance_reporting, all_balancing, balances}
use Rattle.rules.proofs.Proved.{accepted, check-writes}
use Rattle.rules.proofs.Writes.{handed-refused, handed-done}
use Rattle.rules.proofs.Balancing.{balance-told, balance-answers, answer-verdict, balances-no}
use Rattle.std.specs.Prelude.{Ok, Err}
use Rattle.rules.specs.declared.refusal.Refusal.{Refusal}
use Rattle.rules.specs.Numbers.{verdict_of}
use Rattle.rules.proofs.Exits.{not-done}
use Rattle.stored.specs.declared.taken.TakenUp.{TakenUp}
use Rattle.stored.specs.Room.{taking_up, lists_of, as_taken}
use Rattle.stored.specs.Steps.{job_taken}
use Rattle.stored.proofs.JobTaken.{refused-read, zero_read, job_read}
use Rattle.hander.specs.Handing.{refused_out, balanced_out, answer_out, balancing_out, Made}

-- the lines know no more of the job's sides than those they are told
lines-sides : (job : Job) (a : BalanceFigures) (sides : List ℕ) → balance_lines (with_sides job sides) a sides ≡ balance_lines job a sides
unfolding balance_lines size_line size_on files
lines-sides job a sides = refl

module _ (most : Limits) (job : Job) (a : BalanceFigures) (sides own scratch : List ℕ) (e : balancing_of a sides scratch ≡ balancing most job own) (q : own ≡ (all_lent most job).scratch) where
  made : balancing_of a sides scratch ≡ all_balancing most job
  made = e ∙ ap (balancing most job) q

  pub refused-out : a.verdict.number ≢ 0 → refused_out a.verdict ≡ balancing_out most job
  refused-out n = sym (handed-refused a.verdict (with_sides job sides) (balance_lines job a sides) n) ∙ ap (answer_out job) made

  pub made-out : a.verdict.number ≡ 0 → balanced_out a (with_sides job sides) ≡ balancing_out most job
  made-out z =
      ap (λ (l : List ℕ). record { output = blocks_of (with_sides job sides); errors = l }) (lines-sides job a sides)
      ∙ sym (handed-done a.verdict (with_sides job sides) (balance_lines job a sides) z)
      ∙ ap (answer_out job) made

  module _ (z : a.verdict.number ≡ 0) where
    let_through : (balance_verdict most job own).number ≡ 0
    let_through = sym (ap (λ (v : Verdict). v.number) (ap (λ (b : Balancing). b.answer.verdict) e ∙ answer-verdict most job own)) ∙ z

    accepts : (check most (with_sides job sides) true).number ≡ 0
    accepts = ap (λ (b : Balancing). (check most (with_sides job b.sides) true).number) e ∙ ap (λ (v : Verdict). v.number) ((balance-answers most job own).passes let_through)

    told : (room : List ℕ) → balance_reporting most job.sizes job.marks a sides room ≡ into_room (balance_lines (with_sides job sides) a sides) room
    told room =
        ap (λ (b : Balancing). balance_reporting most job.sizes job.marks b.answer b.sides room) e
        ∙ balance-told most job own room let_through
        ∙ ap (λ (b : Balancing). into_room (balance_lines job b.answer b.sides) room) (sym e)
        ∙ ap (λ (l : List ℕ). into_room l room) (sym (lines-sides job a sides))

    pub after-made : (n : ℕ) → n ≡ 512 * block_count (header_for job) → Made most a (with_sides job sides) n
    after-made n l = record {
      told = told;
      passes = check-writes most (with_sides job sides) true accepts;
      blocks = l;
      sides_long = (accepted most (with_sides job sides) true accepts).sound.sides_long;
      marks_long = (accepted most (with_sides job sides) true accepts).sound.marks_long;
    }

-- ---- of an input

balances-read : (most : Limits) (bytes : List ℕ) → (read_verdict most bytes (all_room most)).number ≡ 0 → balances most bytes ≡ balancing_out most (job_of bytes)
unfolding balances
balances-read most bytes z = rw (eq-eqb (read_verdict most bytes (all_room most)).number 0 z, balances) refl

module _ (most : Limits) (bytes : List ℕ) where
  pub balance-refused : (r : Refusal) → as_taken (Err r) ≡ (taking_up most bytes).answer → refused_out (verdict_of r) ≡ balances most bytes
  balance-refused r e =
      let v = refused-read most bytes r e in
      ap refused_out v ∙ sym (balances-no most bytes (λ z. not-done r (ap (λ (x : Verdict). x.number) v ∙ z)))

  pub balance-read : (t : TakenUp) → as_taken (Ok t) ≡ (taking_up most bytes).answer → lists_of t ≡ (taking_up most bytes).room → balancing_out most (job_taken t) ≡ balances most bytes
  balance-read t e f = ap (balancing_out most) (job_read most bytes t e f) ∙ sym (balances-read most bytes (zero_read most bytes t e f))
