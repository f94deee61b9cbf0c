-- The numbers of the kinds as the code tells them, and the verdict on the blocks one after the other. Assumes nothing.
use Rattle.std.proofs.Common.{◌≡◌, ℕ, suc, ◌+◌, ◌-◌, ◌<◌, ◌≤◌, List, eqb, refl, arith}
use denote.Enum.Declared.{tag_of}
use denote.Enum.Bare.{sameb}
use Rattle.rules.specs.declared.Header.{Header as Figures}
use Rattle.rules.specs.Check.{done, ◌or_else◌}
use Rattle.rules.specs.Stored.{block_verdict, further_rows, blocks_verdict}
use Rattle.layout.specs.contracts.kinds.Kind.{the_type}
use Rattle.layout.specs.declared.kinds.Kind.{Kind}
use Rattle.layout.specs.declared.kinds.Kind.TheVariants.{Header, Files, Bounds, Pins}
use Rattle.layout.specs.Kinds.{kind_number}

pub byte-kind : (k : Kind) → tag_of the_type k + 1 ≡ kind_number k
byte-kind Header = refl
byte-kind Files = refl
byte-kind Bounds = refl
byte-kind Pins = refl

pub files-kind : (k : Kind) → sameb the_type k Files ≡ eqb (kind_number k) 2
files-kind Header = refl
files-kind Files = refl
files-kind Bounds = refl
files-kind Pins = refl

-- ---- the blocks past the header, one after the other

-- block b, then those after it up to block e
pub block-first : (h : Figures) (bytes : List ℕ) {b e : ℕ} → b < e
    → blocks_verdict h bytes b (e - b) ≡ (block_verdict h bytes b or_else blocks_verdict h bytes (b + 1) (e - (b + 1)))
unfolding blocks_verdict block_verdict further_rows
block-first h bytes {b} {e} l =
    let n : e - b ≡ suc (e - (b + 1)) = omega arith in
    let s : b + 1 ≡ suc b = omega arith in
    rw (n, s)

pub blocks-past : (h : Figures) (bytes : List ℕ) {b e : ℕ} → e ≤ b → blocks_verdict h bytes b (e - b) ≡ done
unfolding blocks_verdict further_rows
blocks-past h bytes {b} {e} l = let n : e - b ≡ 0 = omega arith in rw n
