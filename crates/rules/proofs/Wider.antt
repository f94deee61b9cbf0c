-- Order 6: what a header's six or seven values mean, k = 1, and the job of specs/Wider.antt worked by hand. Assumes nothing.
use mathlib.Core.Path.{◌≡◌, refl, sym, ap, ◌∙◌}
use mathlib.Core.Logic.{◌≢◌, ◌⊎◌, inl, inr, ⊎_elim}
use Prim.Native.Nat.{ℕ, ◌*◌, ◌≤◌, ◌<◌}
use mathlib.Core.Bool.{Bool, true, false}
use mathlib.Core.List.{List}
use native.Mathlib.Decide.{ℕ_discrete}
use native.Mathlib.Nat.{one-mul}
use native.Mathlib.Omega.{arith}
use borrow.Author.Tests.{eq-eqb, ne_eqb, lt-ltb}
use Rattle.rules.specs.Lists.{total, count, largest, up_to, lowest}
use Rattle.rules.specs.Job.{Job, Limits, files}
use Rattle.rules.specs.Split.{weight, smax, size_on, balanced}
use Rattle.rules.specs.Check.{refuse_if, bad_k, bad_pin, check_contents, check}
use Rattle.rules.specs.Stored.{block_at, value, header_of, header_values, bad_check, bad_layout, under_one, block_verdict, Room, layout_verdict, read_verdict, job_of}
use Rattle.rules.specs.Wider.{count_read, HeaderCounts, OneAsBefore, WiderWorked}
use Rattle.rules.proofs.Verdicts.{passes-both, not-refused}
use Rattle.rules.proofs.Tests.{not-no, contra'}
use Rattle.rules.proofs.SoundJob.{good-k}
use Rattle.rules.proofs.Words.{laid_out_lem}

pub worked : WiderWorked
unfolding total count largest up_to lowest files weight smax size_on balanced bad_pin check
worked = record { one = refl; two = refl; three = refl; checked = refl }

pub one-as-before : (job : Job) → OneAsBefore job
one-as-before job = record {
  tolerance = λ e. ap (λ (n : ℕ). n * smax job) e ∙ one-mul (smax job);
  values = λ e. rw (eq-eqb job.k 1 e) refl;
}

-- ---- the header

module _ (most : Limits) (bytes : List ℕ) (room : Room) where
  abbrev k : ℕ
  k = (header_of bytes).k

  k-is-one : count_read bytes ≢ 7 → k ≡ 1
  unfolding header_of
  k-is-one n = rw (ne_eqb (count_read bytes) 7 n) refl

  k-is-seventh : count_read bytes ≡ 7 → k ≡ value bytes 0 6
  unfolding header_of
  k-is-seventh e = rw (eq-eqb (count_read bytes) 7 e) refl

  -- what is laid out has the count that its k asks for
  right-count : bad_layout (header_of bytes) (block_at bytes 0) 0 ≡ false → count_read bytes ≡ header_values k
  right-count e = (laid_out_lem (block_at bytes 0) 0 1 (header_values k) (not-no _ e)).count

  not-one : header_values k ≡ 7 → k ≢ 1
  not-one e z = omega (arith, e, ap header_values z)

  -- once block 0 is there with its check
  module _ (long : under_one bytes ≡ false) (right : bad_check (block_at bytes 0) ≡ false) where
    by_layout : bad_layout (header_of bytes) (block_at bytes 0) 0 ≡ true → read_verdict most bytes room ≡ record { number = 22; place = 0 }
    unfolding read_verdict layout_verdict block_verdict
    by_layout e = rw (long, right, e) refl

    by-k : bad_k k ≡ true → read_verdict most bytes room ≡ record { number = 22; place = 0 }
    by-k e = go (bad_layout (header_of bytes) (block_at bytes 0) 0) refl
      where
        passed : bad_layout (header_of bytes) (block_at bytes 0) 0 ≡ false → read_verdict most bytes room ≡ record { number = 22; place = 0 }
        passed z = unfold read_verdict layout_verdict block_verdict in rw (long, right, z, e) refl

        go : (b : Bool) → bad_layout (header_of bytes) (block_at bytes 0) 0 ≡ b → read_verdict most bytes room ≡ record { number = 22; place = 0 }
        go true z = by_layout z
        go false z = passed z

    wrong-count : count_read bytes ≢ header_values k → read_verdict most bytes room ≡ record { number = 22; place = 0 }
    wrong-count n = by_layout (contra' (bad_layout (header_of bytes) (block_at bytes 0) 0) (λ e. n (right-count e)))

    wrong-seventh : count_read bytes ≡ 7 → (value bytes 0 6 ≤ 1) ⊎ (5 ≤ value bytes 0 6) → read_verdict most bytes room ≡ record { number = 22; place = 0 }
    wrong-seventh e w = elim (ℕ_discrete k 1) [
      | yes z ↦ wrong-count (λ c. omega (arith, e, c, ap header_values z))
      | no n ↦ by-k (⊎_elim
          (λ l. let z : k ≡ 0 = omega (arith, k-is-seventh e, l, n) in rw z refl)
          (λ l. let o : 4 < k = omega (arith, k-is-seventh e, l) in rw (ne_eqb k 0 (λ z. omega arith), lt-ltb 4 k o) refl)
          w)
    ]

  counted : (read_verdict most bytes room).number ≡ 0 → (count_read bytes ≡ header_values k) × ((1 ≤ k) × (k ≤ 4))
  unfolding read_verdict layout_verdict block_verdict check_contents
  counted ok =
      let a = passes-both (layout_verdict most bytes room) (check_contents (job_of bytes)) ok in
      let b = passes-both (refuse_if (under_one bytes) 20 0) _ a.0 in
      let c = passes-both (block_verdict (header_of bytes) bytes 0) _ b.1 in
      let d = passes-both (refuse_if (bad_k k) 22 0) _ c.1 in
      let laid = (passes-both (refuse_if (bad_check (block_at bytes 0)) 21 0) (refuse_if (bad_layout (header_of bytes) (block_at bytes 0) 0) 22 0) c.0).1 in
      (right-count (not-refused (bad_layout (header_of bytes) (block_at bytes 0) 0) 21 0 laid), good-k k 21 d.0)

  pub header-counts : HeaderCounts most bytes room
  header-counts = record {
    six = λ e. k-is-one (λ z. omega (arith, e, z));
    seven = k-is-seventh;
    read = λ ok. let c = counted ok in elim (ℕ_discrete (count_read bytes) 7) [
      | yes e ↦
          let n : k ≢ 1 = not-one (sym c.0 ∙ e) in
          inr (e, omega (arith, k-is-seventh e, c.1.0, n), omega (arith, k-is-seventh e, c.1.1))
      | no n ↦ inl (c.0 ∙ ap header_values (k-is-one n))
    ];
    other_count = λ long right n m. wrong-count long right (λ c. n (c ∙ ap header_values (k-is-one m)));
    other_k = wrong-seventh;
  }
