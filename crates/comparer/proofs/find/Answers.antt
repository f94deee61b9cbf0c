use Rattle.std.proofs.Common.{ℕ, rules}
use Rattle.rules.specs.declared.refusal.Refusal.{Refusal}
use Rattle.job.specs.Given.{the_limits}
use Rattle.comparer.proofs.Found.{Took, took_up, first-exit, second-exit, both-found, both-noted}
use Rattle.comparer.proofs.find.Goals as goal

abbrev of : ℕ → Refusal → ℕ × Refusal
of job e = (job, e)

pub returns-in_err-first-clause-answer : goal.returns-in_err-first-clause-answer
returns-in_err-first-clause-answer c = first-exit _ _ _ _ _ _ _ (search rules) c.in_err-first.was c.from_residual.ensures.1 c.take_up.ensures.read_value

pub returns-in_err-second-clause-answer : goal.returns-in_err-second-clause-answer
returns-in_err-second-clause-answer c =
    let t = c.take_up.ensures in
    let first : Took the_limits c.args.old.now c.in_ok-first.first =
    took_up the_limits _ (of 1) _ c.map_err.result _ (search rules) c.in_ok-first.was t.read_value t.result_value in
    second-exit _ _ _ first _ _ _ _ (search rules) c.in_err-second.was c.from_residual-in_err-second.ensures.1 c.take_up-2.ensures.read_value

pub returns : goal.returns
returns c =
    let t = c.take_up.ensures in
    let u = c.take_up-2.ensures in
    let first : Took the_limits c.args.old.now c.in_ok-first.first =
    took_up the_limits _ (of 1) _ c.map_err.result _ (search rules) c.in_ok-first.was t.read_value t.result_value in
    let second : Took the_limits c.args.new.now c.in_ok-second.second =
    took_up the_limits _ (of 2) _ c.map_err-2.result _ (search rules) c.in_ok-second.was u.read_value u.result_value in
    let noted = c.note_jobs.ensures.noted in
    record { answer = both-found _ _ _ first second noted; records = both-noted _ _ _ first second noted; few = c.note_jobs.ensures.few }
