-- The promise of each public call settles what it returns: any two results that meet it, of the same arguments, are equal.
-- The promises cited are those that the check reads from the contracts in src/. Assumes nothing.
use Rattle.std.proofs.Common.{◌≡◌, ℕ, cond, eqb, refl}
use Rattle.layout.specs.declared.kinds.Kind.{Kind}
use Rattle.layout.specs.declared.kinds.Kind.TheVariants.{Header, Files, Bounds, Pins}
use Rattle.layout.specs.Kinds.{kind_number}
use Rattle.rules.proofs.CasesOne.{undone}
use Rattle.rules.proofs.Settling.{Settles, both}
use Rattle.layout.proofs.block.check_of.Kinds as check-of-kinds
use Rattle.layout.proofs.block.check_of.Reads as check-of
use Rattle.layout.proofs.block.word_at.Kinds as word-at-kinds
use Rattle.layout.proofs.block.word_at.Reads as word_at
use Rattle.layout.proofs.block.value_in.Kinds as value-in-kinds
use Rattle.layout.proofs.block.value_in.Reads as value_in
use Rattle.layout.proofs.kinds.input_bytes.Kinds as input-bytes-kinds
use Rattle.layout.proofs.kinds.input_bytes.Reads as input-bytes
use Rattle.layout.proofs.kinds.bounds_at.Kinds as bounds-at-kinds
use Rattle.layout.proofs.kinds.bounds_at.Reads as bounds-at
use Rattle.layout.proofs.kinds.pins_at.Kinds as pins-at-kinds
use Rattle.layout.proofs.kinds.pins_at.Reads as pins-at
use Rattle.layout.proofs.kinds.block_count.Kinds as block-count-kinds
use Rattle.layout.proofs.kinds.block_count.Reads as block-count
use Rattle.layout.proofs.kinds.kind_of.Kinds as kind-of-kinds
use Rattle.layout.proofs.kinds.kind_of.Reads as kind-of
use Rattle.layout.proofs.kinds.held_in.Kinds as held-in-kinds
use Rattle.layout.proofs.kinds.held_in.Reads as held_in
use Rattle.layout.proofs.kinds.header_values.Kinds as header-values-kinds
use Rattle.layout.proofs.kinds.header_values.Reads as header-values
use Rattle.layout.proofs.kinds.values_in.Kinds as values-in-kinds
use Rattle.layout.proofs.kinds.values_in.Reads as values-in

pub check-of-settled : Settles 1 check-of-kinds.ps check-of-kinds.r ℕ (λ κs x _. x) check-of.Post
check-of-settled κs a x y e f p q = both p q

pub word-at-settled : Settles 1 word-at-kinds.ps word-at-kinds.r ℕ (λ κs x _. x) word_at.Post
word-at-settled κs a x y e f p q = both p q

pub value-in-settled : Settles 1 value-in-kinds.ps value-in-kinds.r ℕ (λ κs x _. x) value_in.Post
value-in-settled κs a x y e f p q = both p q

pub input-bytes-settled : Settles 0 input-bytes-kinds.ps input-bytes-kinds.r ℕ (λ κs x _. x) input-bytes.Post
input-bytes-settled κs a x y e f p q = both p.0 q.0

pub bounds-at-settled : Settles 0 bounds-at-kinds.ps bounds-at-kinds.r ℕ (λ κs x _. x) bounds-at.Post
bounds-at-settled κs a x y e f p q = both p q

pub pins-at-settled : Settles 0 pins-at-kinds.ps pins-at-kinds.r ℕ (λ κs x _. x) pins-at.Post
pins-at-settled κs a x y e f p q = both p q

pub block-count-settled : Settles 0 block-count-kinds.ps block-count-kinds.r ℕ (λ κs x _. x) block-count.Post
block-count-settled κs a x y e f p q = both p q

-- the number of a kind tells the kind
abbrev kind_of_number : ℕ → Kind
kind_of_number n = cond (eqb n 1) Header (cond (eqb n 2) Files (cond (eqb n 3) Bounds Pins))

kind-back : (k : Kind) → kind_of_number (kind_number k) ≡ k
kind-back Header = refl
kind-back Files = refl
kind-back Bounds = refl
kind-back Pins = refl

pub kind-of-settled : Settles 0 kind-of-kinds.ps kind-of-kinds.r Kind (λ κs x _. x) kind-of.Post
kind-of-settled κs a x y e f p q = undone kind_number kind_of_number kind-back x y (both p q)

pub held-in-settled : Settles 0 held-in-kinds.ps held-in-kinds.r ℕ (λ κs x _. x) held_in.Post
held-in-settled κs a x y e f p q = both p q

pub header-values-settled : Settles 0 header-values-kinds.ps header-values-kinds.r ℕ (λ κs x _. x) header-values.Post
header-values-settled κs a x y e f p q = both p q

pub values-in-settled : Settles 0 values-in-kinds.ps values-in-kinds.r ℕ (λ κs x _. x) values-in.Post
values-in-settled κs a x y e f p q = both p q
