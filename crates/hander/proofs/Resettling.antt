-- What a job's run leaves, and what is then handed out of it. Assumes nothing.
use mathlib.Core.Path.{◌≡◌, refl, sym, ap, ◌∙◌}
use mathlib.Core.Logic.{◌≢◌}
use Prim.Native.Nat.{ℕ}
use mathlib.Core.Bool.{Bool, true}
use mathlib.Core.List.{List, []}
use native.Mathlib.Decide.{ℕ_discrete}
use borrow.Author.Tests.{eq-eqb}
use Rattle.rules.specs.declared.Verdict.{Verdict}
use Rattle.rules.specs.Numbers.{RunFigures}
use Rattle.rules.specs.Job.{Job, Limits, Lent}
use Rattle.rules.specs.Check.{check, check_lent}
use Rattle.rules.specs.Run.{Ended, ended_of, last_pass, run_ends}
use Rattle.rules.specs.Stored.{job_of, read_verdict}
use Rattle.rules.specs.Report.{all_room, all_lent, all_run}
use Rattle.rules.specs.Writing.{check_written, with_sides, resettles}
use Rattle.rules.specs.RoundTrip.{resettled}
use Rattle.rules.proofs.Proved.{check-writes, lent-passes, answers}
use Rattle.rules.proofs.CutOff.{resettles-no}
use Rattle.rules.proofs.Resettling.{resettled-holds}
use Rattle.rules.proofs.Writes.{handed-refused, handed-done}
use Rattle.std.specs.Prelude.{Ok, Err}
use Rattle.rules.specs.declared.refusal.Refusal.{Refusal}
use Rattle.rules.specs.Numbers.{verdict_of}
use Rattle.rules.proofs.Exits.{not-done}
use Rattle.stored.specs.declared.taken.TakenUp.{TakenUp}
use Rattle.stored.specs.Room.{taking_up, lists_of, as_taken}
use Rattle.stored.specs.Steps.{job_taken}
use Rattle.stored.proofs.JobTaken.{refused-read, zero_read, job_read}
use Rattle.hander.specs.Handing.{refused_out, made_out, end_out, run_out}

module _ (edition : ℕ) (most : Limits) (job : Job) (r : RunFigures) (sides : List ℕ) (own lent : Lent) (e : ended_of r sides lent ≡ run_ends edition most job own) (q : own ≡ all_lent most job) where
  ran : ended_of r sides lent ≡ all_run edition most job
  ran = e ∙ ap (run_ends edition most job) q

  pub run-refused : r.figures.verdict.number ≢ 0 → refused_out r.figures.verdict ≡ run_out edition most job
  run-refused n = sym (handed-refused r.figures.verdict (with_sides job sides) [] n) ∙ ap (end_out job) ran

  pub run-made : r.figures.verdict.number ≡ 0 → made_out (with_sides job sides) [] ≡ run_out edition most job
  run-made z = sym (handed-done r.figures.verdict (with_sides job sides) [] z) ∙ ap (end_out job) ran

  -- the job with its new sides can be written
  next-passes : (check_lent edition most job (all_lent most job)).number ≡ 0 → (check_written most (resettled edition job) true).number ≡ 0
  next-passes ok =
      let l : Lent = all_lent most job in
      let plain : (check most job true).number ≡ 0 = ap (λ (b : Bool). (check most job b).number) (sym ((answers edition most job l).fitting ok).1) ∙ (lent-passes edition most job l ok).1 in
      check-writes most (resettled edition job) true (ap (λ (v : Verdict). v.number) (resettled-holds edition most job plain).accepted)

  pub run-writes : r.figures.verdict.number ≡ 0 → (check_written most (with_sides job sides) true).number ≡ 0
  run-writes z =
      let l : Lent = all_lent most job in
      elim (ℕ_discrete (check_lent edition most job l).number 0) [
        | yes ok ↦
            let same : sides ≡ (last_pass edition job).sides_after = ap (λ (x : Ended RunFigures). x.sides) (ran ∙ (answers edition most job l).run_done ok) in
            ap (λ (s : List ℕ). (check_written most (with_sides job s) true).number) same ∙ next-passes ok
        | no n ↦ absurd (n (sym (ap (λ (x : Ended RunFigures). x.answer.figures.verdict.number) (ran ∙ (answers edition most job l).run_refused n)) ∙ z))
      ]

-- ---- of an input

resettles-read : (edition : ℕ) (most : Limits) (bytes : List ℕ) → (read_verdict most bytes (all_room most)).number ≡ 0 → resettles edition most bytes ≡ run_out edition most (job_of bytes)
unfolding resettles
resettles-read edition most bytes z = rw (eq-eqb (read_verdict most bytes (all_room most)).number 0 z, resettles) refl

module _ (edition : ℕ) (most : Limits) (bytes : List ℕ) where
  pub resettle-refused : (r : Refusal) → as_taken (Err r) ≡ (taking_up most bytes).answer → refused_out (verdict_of r) ≡ resettles edition most bytes
  resettle-refused r e =
      let v = refused-read most bytes r e in
      ap refused_out v ∙ sym (resettles-no edition most bytes (λ z. not-done r (ap (λ (x : Verdict). x.number) v ∙ z)))

  pub resettle-read : (t : TakenUp) → as_taken (Ok t) ≡ (taking_up most bytes).answer → lists_of t ≡ (taking_up most bytes).room → run_out edition most (job_taken t) ≡ resettles edition most bytes
  resettle-read t e f = ap (run_out edition most) (job_read most bytes t e f) ∙ sym (resettles-read edition most bytes (zero_read most bytes t e f))
