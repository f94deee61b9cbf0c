use Rattle.std.proofs.Common.{◌≡◌, List, [], ℕ, suc, ◌+◌, ◌-◌, get_or, take, drop, length-take, arith, refl}
use Rattle.std.proofs.Math.ListN.{drop_of_length-le}
use Rattle.std.proofs.Math.Seq.{get_or-take}
use Rattle.rules.specs.Lists.{total}
use Rattle.rules.specs.Stored.{weigh, block_check}
use Rattle.rules.proofs.Blocks.{total-running, weigh-running}
use Rattle.layout.proofs.block.check_of.Goals as goal

-- the checked bytes from i on
abbrev rest : List ℕ → ℕ → List ℕ
rest block i = drop i (take 510 block)

nothing : (block : List ℕ) → rest block 510 ≡ []
nothing block = drop_of_length-le (take 510 block) {i = 510} (omega (arith, length-take 510 block))

pub loop-i-init : goal.loop-i-init
unfolding weigh total
loop-i-init c = rw (nothing c.args.block.now) record { tail = refl; sum = refl; tail_fits = omega arith; sum_fits = omega arith }

pub loop-i-preserved : goal.loop-i-preserved
loop-i-preserved c =
    let l = c.loop-i in
    let block = c.args.block.now in
    let j : ℕ = l.i - 1 in
    let next : suc j ≡ l.i = omega arith in
    let byte : get_or (take 510 block) j 0 ≡ get_or block j 0 = get_or-take 510 block j 0 (omega arith) in
    let t : total (λ b. b) (rest block j) ≡ get_or block j 0 + total (λ b. b) (rest block l.i) = rw (total-running (take 510 block) j, byte, next) refl in
    let w : weigh 0 (rest block j) ≡ total (λ b. b) (rest block j) + weigh 0 (rest block l.i) = rw (weigh-running (take 510 block) j, next) refl in
    record { tail = omega arith; sum = omega arith; tail_fits = omega arith; sum_fits = omega arith }

pub returns : goal.returns
unfolding block_check
returns c =
    let none : c.loop-i.i ≡ 0 = omega arith in
    rw (c.loop-i.invariant.sum, none) refl
