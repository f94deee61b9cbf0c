use mathlib.Core.Path.{◌≡◌, refl, ◌∙◌}
use Prim.Native.Nat.{ℕ, ◌+◌, ◌-◌, ◌<◌}
use mathlib.Core.List.{List, []}
use native.Mathlib.Decide.{dec_lt}
use native.Mathlib.Omega.{arith}
use denote.Bor.{Bor}
use lib.ListN.{length, get_or}
use Rattle.std.specs.Prelude.{Option, Some, None}
use Rattle.std.specs.Option.{unwrap_or}
use Rattle.std.specs.Slice.{IsGetRangeResult}
use Rattle.std.proofs.Common.{inl, inr}
use Rattle.rules.specs.Job.{view_of}
use Rattle.rules.proofs.Views.{none-past, none-order, none-beyond, is-part}
use Rattle.job.proofs.book.view.Goals as goal

-- a part of the pins, or none where its bounds are out of order or beyond them
part-or : (bs ps : List ℕ) (j a b : ℕ) (r : Option (Bor (List ℕ))) (d : Bor (List ℕ)) → d.now ≡ [] → j < length bs - 1 → a ≡ get_or bs j 0 → b ≡ get_or bs (j + 1) 0
    → IsGetRangeResult ps a b r → (unwrap_or r d).now ≡ view_of bs ps j
part-or bs ps j a b (Some x) d z h p q r = r.0.2 ∙ is-part bs ps j a b h p q r.0.0 r.0.1
part-or bs ps j a b None d z h p q r =
    z ∙ elim (dec_lt b a) [
      | yes l ↦ none-order bs ps j a b h p q l
      | no l ↦ none-beyond bs ps j a b h p q (omega arith) (elim r.0 [ inl k ↦ absurd (omega arith) | inr k ↦ k ])
    ]

pub returns-then-recipe_count-j : goal.returns-then-recipe_count-j
returns-then-recipe_count-j c = none-past _ _ _ (omega arith)

pub returns : goal.returns
returns c = rw c.unwrap_or.ensures (part-or _ _ _ _ _ _ _ refl (omega arith) refl refl c.get.ensures.lookup)
