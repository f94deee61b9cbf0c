use Rattle.std.proofs.Common.{◌≡◌, ℕ, ◌^◌, ◌/◌, ◌%◌, ◌∷◌, [], refl, ap, ◌∙◌, arith}
use Rattle.std.proofs.lemmas.Slice.{put_mid-paste}
use Rattle.rules.specs.Writing.{two_bytes}
use Rattle.writer.proofs.block.put_word.Goals as goal

pub returns : goal.returns
returns c =
    let x : ℕ = c.args.x in
    let high : x / 256 ^ 1 % 256 ≡ x / 256 = omega arith in
    put_mid-paste _ _ _ _ (two_bytes x) 2 (c.copy_from_slice.ensures.after ∙ c.to_le_bytes.ensures ∙ ap (λ (y : ℕ). (x % 256) ∷ y ∷ []) high) (omega arith) refl
