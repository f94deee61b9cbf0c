-- A loop that adds the files up. Assumes nothing.
use mathlib.Core.Path.{◌≡◌, sym, ap, ◌∙◌}
use Prim.Native.Nat.{ℕ, suc, ◌+◌, ◌*◌, ◌≤◌, ◌<◌}
use mathlib.Core.Bool.{Bool, not, ◌&&◌, ◌||◌}
use native.Mathlib.Omega.{arith}
use native.Mathlib.Nat.{max-le}
use native.Mathlib.Numerals.{add-one}
use lib.Dec.{eqb}
use lib.ListN.{get_or}
use Rattle.rules.specs.Lists.{bit, total, count, largest, up_to}
use Rattle.rules.specs.Job.{Job, is_read}
use Rattle.rules.specs.Split.{side_of, on_side, size_of, is_free, weighs}
use Rattle.rules.proofs.Count.{bit-most, total-up_to, largest-up_to}
use Rattle.rules.proofs.Readable.{not-not}
use Rattle.job.specs.declared.figures.Totals.{Totals}
use Rattle.job.specs.Totals.{totals_of, with_file, Within, Added}

same-totals : (t u : Totals) → t.weight ≡ u.weight → t.largest ≡ u.largest → t.size ≡ u.size → t.least ≡ u.least → t.most ≡ u.most → t.free ≡ u.free → t.unread ≡ u.unread → t ≡ u
same-totals t u p q r l m s n = λ i. record { weight = p i; largest = q i; size = r i; least = l i; most = m i; free = s i; unread = n i }

-- the walk over n files has come to i, with t
pub record Walked (job : Job) (n i : ℕ) (t : Totals) : Type 0 where
  pub stop : i ≤ n
  pub added : Added job i t

pub walked_none : (job : Job) (n : ℕ) {t : Totals}
    → (t.weight ≡ 0) × ((t.largest ≡ 0) × ((t.size ≡ 0) × ((t.least ≡ 0) × ((t.most ≡ 0) × ((t.free ≡ 0) × (t.unread ≡ 0)))))) → Walked job n 0 t
walked_none job n {t} (w, (l, (s, (a, (b, (f, u)))))) = record {
  stop = omega arith;
  added = record {
    is = unfold totals_of total count largest up_to in same-totals t (totals_of job 0) w l s a b f u;
    within = record { weight = omega arith; largest = omega arith; size = omega arith; least = omega arith; most = omega arith; free = omega arith; unread = omega arith };
  };
}

module _ {job : Job} {n i : ℕ} {t : Totals} (w : Walked job n i t) where
  pub walked_more : (r : Totals) → i < n → size_of job i ≤ 65535 → r ≡ with_file t (size_of job i) (side_of job.sides i) (get_or job.marks i 0) → Walked job n (i + 1) r
  unfolding totals_of count
  walked_more r h l e =
      let file : Totals → Totals = λ y. with_file y (size_of job i) (side_of job.sides i) (get_or job.marks i 0) in
      let in-a : ℕ → ℕ = λ f. bit (on_side job.sides 0 f) * weighs job f in
      let held-in-a : ℕ → ℕ = λ f. bit (not (is_free job f) && on_side job.sides 0 f) * weighs job f in
      let free-or-in-a : ℕ → ℕ = λ f. bit (is_free job f || on_side job.sides 0 f) * weighs job f in
      let if-free : ℕ → ℕ = λ f. bit (is_free job f) * size_of job f in
      let was = w.added.within in
      let light = bit-most (is_read job i) (size_of job i) in
      record {
        stop = omega arith;
        added = record {
          is =
              e ∙ ap file w.added.is
              ∙ same-totals (file (totals_of job i)) (totals_of job (suc i))
              (sym (total-up_to (weighs job) i)) (sym (largest-up_to if-free i)) (sym (total-up_to in-a i))
              (sym (total-up_to held-in-a i)) (sym (total-up_to free-or-in-a i)) (sym (total-up_to (λ f. bit (is_free job f)) i))
              (sym (total-up_to (λ f. bit (not (is_read job f))) i ∙ ap (λ (b : Bool). total (λ f. bit (not (is_read job f))) (up_to i) + bit b) (not-not (eqb (get_or job.marks i 0) 2))))
              ∙ ap (totals_of job) (sym (add-one i));
          within = record {
            weight = omega (arith, ap (λ (y : Totals). y.weight) e, was.weight, light);
            largest = rw (ap (λ (y : Totals). y.largest) e) (max-le (omega (arith, was.largest)) (omega (arith, bit-most (is_free job i) (size_of job i))));
            size = omega (arith, ap (λ (y : Totals). y.size) e, was.size, bit-most (eqb (side_of job.sides i) 0) (weighs job i), light);
            least = omega (arith, ap (λ (y : Totals). y.least) e, was.least, bit-most (not (eqb (get_or job.marks i 0) 0) && eqb (side_of job.sides i) 0) (weighs job i), light);
            most = omega (arith, ap (λ (y : Totals). y.most) e, was.most, bit-most (eqb (get_or job.marks i 0) 0 || eqb (side_of job.sides i) 0) (weighs job i), light);
            free = omega (arith, ap (λ (y : Totals). y.free) e, was.free, bit-most (eqb (get_or job.marks i 0) 0) 1);
            unread = omega (arith, ap (λ (y : Totals). y.unread) e, was.unread, bit-most (eqb (get_or job.marks i 0) 2) 1);
          };
        };
      }

  pub walked_end : n ≤ i → Added job n t
  walked_end h = let e : i ≡ n = omega (arith, w.stop) in rw (← e) w.added

-- totals within a bound are within a larger one
pub within_more : {t : Totals} {a b : ℕ} → a ≤ b → Within t a → Within t b
within_more h w = record { weight = omega arith; largest = omega arith; size = omega arith; least = omega arith; most = omega arith; free = omega arith; unread = omega arith }
