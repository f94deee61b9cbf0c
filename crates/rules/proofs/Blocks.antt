-- A block's check by running sums, and the verdict on blocks block by block, as a loop goes. Assumes nothing.
use mathlib.Core.Path.{◌≡◌, refl, sym}
use Prim.Native.Nat.{ℕ, zero, suc, ◌+◌, ◌-◌, ◌<◌, ◌≤◌}
use native.Mathlib.Decide.{ℕ_discrete}
use native.Mathlib.Nat.{suc-mul}
use native.Mathlib.Omega.{arith}
use mathlib.Core.List.{List, [], ◌∷◌}
use lib.ListN.{get_or, drop}
use lib.Seq.{drop-nil}
use Rattle.rules.specs.declared.Header.{Header}
use Rattle.rules.specs.Lists.{total}
use Rattle.rules.specs.Check.{done, ◌or_else◌}
use Rattle.rules.specs.Stored.{weigh, block_verdict, further_rows, blocks_verdict}
use Rattle.rules.proofs.Verdicts.{or_assoc, passes-both, both-pass}

-- counted from one place later, each byte weighs one more of itself
weigh-on : (bs : List ℕ) (i : ℕ) → weigh (suc i) bs ≡ total (λ b. b) bs + weigh i bs
unfolding weigh total
weigh-on [] i = refl
weigh-on (b ∷ bs) i = rw (weigh-on bs (suc i), suc-mul (suc i) b) (omega arith)

-- the running sum from the last byte back to byte j; past the end a byte counts as 0, so this holds at any j
pub total-running : (bs : List ℕ) (j : ℕ) → total (λ b. b) (drop j bs) ≡ get_or bs j 0 + total (λ b. b) (drop (suc j) bs)
unfolding total
total-running [] j = rw (drop-nil {A = ℕ} j)
total-running (b ∷ bs) zero = refl
total-running (b ∷ bs) (suc j) = total-running bs j

-- the weighted sum is the sum of the running sums: back to byte j it grows by the running sum there
pub weigh-running : (bs : List ℕ) (j : ℕ) → weigh 0 (drop j bs) ≡ total (λ b. b) (drop j bs) + weigh 0 (drop (suc j) bs)
unfolding weigh total
weigh-running [] j = rw (drop-nil {A = ℕ} j)
weigh-running (b ∷ bs) zero = rw (weigh-on bs 0) (omega arith)
weigh-running (b ∷ bs) (suc j) = weigh-running bs j

-- of the n blocks from b on, those from the kth on
module _ (h : Header) (bytes : List ℕ) (b n k : ℕ) where
  pub blocks_more : k < n → blocks_verdict h bytes (b + k) (n - k) ≡ (block_verdict h bytes (b + k) or_else blocks_verdict h bytes (b + (k + 1)) (n - (k + 1)))
  unfolding blocks_verdict block_verdict further_rows
  blocks_more l =
      let e : n - k ≡ suc (n - (k + 1)) = omega arith in
      let f : b + (k + 1) ≡ suc (b + k) = omega arith in
      rw (e, f)

  pub blocks_end : n ≤ k → blocks_verdict h bytes (b + k) (n - k) ≡ done
  unfolding blocks_verdict block_verdict further_rows
  blocks_end l =
      let e : n - k ≡ 0 = omega arith in
      rw e

-- the m blocks from b on, then the n blocks after them
pub blocks-split : (h : Header) (bytes : List ℕ) (b m n : ℕ) → blocks_verdict h bytes b (m + n) ≡ (blocks_verdict h bytes b m or_else blocks_verdict h bytes (b + m) n)
unfolding blocks_verdict block_verdict further_rows
blocks-split h bytes b zero n =
    let e : 0 + n ≡ n = omega arith in
    let f : b + 0 ≡ b = omega arith in
    rw (e, f)
blocks-split h bytes b (suc m) n =
    let e : suc m + n ≡ suc (m + n) = omega arith in
    let f : b + suc m ≡ suc b + m = omega arith in
    rw (e, f, blocks-split h bytes (suc b) m n) (sym (or_assoc (block_verdict h bytes b) (blocks_verdict h bytes (suc b) m) (blocks_verdict h bytes (suc b + m) n)))

-- ---- the blocks from b on, n of them

pub blocks-pass : (h : Header) (bytes : List ℕ) (b n : ℕ) → ((i : ℕ) → b ≤ i → i < b + n → (block_verdict h bytes i).number ≡ 0) → (blocks_verdict h bytes b n).number ≡ 0
unfolding blocks_verdict block_verdict further_rows
blocks-pass h bytes b zero each = refl
blocks-pass h bytes b (suc n) each =
    both-pass (block_verdict h bytes b) (blocks_verdict h bytes (suc b) n) (each b (omega arith) (omega arith)) (blocks-pass h bytes (suc b) n (λ i k l. each i (omega arith) (omega arith)))

pub blocks-each : (h : Header) (bytes : List ℕ) (b n : ℕ) → (blocks_verdict h bytes b n).number ≡ 0 → (i : ℕ) → b ≤ i → i < b + n → (block_verdict h bytes i).number ≡ 0
unfolding blocks_verdict block_verdict further_rows
blocks-each h bytes b zero ok i k l = absurd (omega arith)
blocks-each h bytes b (suc n) ok i k l =
    let r = passes-both (block_verdict h bytes b) (blocks_verdict h bytes (suc b) n) ok in
    elim (ℕ_discrete i b) [
      | yes e ↦ rw e r.0
      | no z ↦ blocks-each h bytes (suc b) n r.1 i (omega arith) (omega arith)
    ]
