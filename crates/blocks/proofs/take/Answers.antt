-- What `take_from` says of a read that fails, but for which bytes came.
use Rattle.std.proofs.Common.{◌≡◌, ℕ, ◌≤◌, List, drop}
use Rattle.std.proofs.lemmas.Result.{on_err_weaker}
use Rattle.blocks.proofs.take.Goals as goal

fewer : (most : ℕ) (old new : List ℕ) (C : ℕ → Type 0) → (n : ℕ) × (n ≤ most) × (drop n new ≡ drop n old) × C n → (n : ℕ) × (n ≤ most) × (drop n new ≡ drop n old)
fewer most old new C (n, h, e, more) = (n, h, e)

pub returns-clause-failed : goal.returns-clause-failed
returns-clause-failed g c = on_err_weaker _ (fewer _ _ _ _) c.take_from.ensures.failed
