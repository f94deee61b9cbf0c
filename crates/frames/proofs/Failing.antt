-- The room after a call that failed. Assumes nothing.
use Rattle.std.proofs.Common.{◌≡◌, ℕ, ◌<◌, List, drop, Result, Ok, Err, OnErr}

pub changed_first : {T E : Type 0} (r : Result T E) (old new : List ℕ) (n most : ℕ) → n < most → drop n new ≡ drop n old → OnErr r ((m : ℕ) × (m < most) × (drop m new ≡ drop m old))
changed_first (Ok x) old new n most h e = tt
changed_first (Err x) old new n most h e = (n, h, e)
