-- Of lists that show a state, the vectors and the choice are those of the definitions. Assumes nothing.
use mathlib.Core.Path.{◌≡◌, refl, sym, ap, ap₂, ◌∙◌}
use Prim.Native.Nat.{ℕ, suc, ◌+◌, ◌-◌, ◌*◌, ◌≤◌, ◌<◌}
use mathlib.Core.Bool.{Bool, true}
use mathlib.Core.List.{List, [], ◌∷◌}
use native.Mathlib.Decide.{dec_lt}
use native.Mathlib.Omega.{arith}
use lib.Dec.{leb, eqb}
use lib.IntN.{ℤ, pos}
use lib.ListN.{length, get_or, take, get_or-eq_default}
use borrow.Author.Tests.{le-leb, eq-eqb, eqb-true}
use Rattle.rules.specs.Lists.{bit, total, count, diff}
use Rattle.rules.specs.Job.{Job, file_count, recipes, view_of}
use Rattle.rules.specs.Split.{other, side_of, count_on, recipes_of, gain}
use Rattle.rules.specs.Move.{State, lock_of, locked_on, legal, dist_after, first_below}
use Rattle.rules.specs.Levels.{Binding, binding_of, binding, adds, takes, binds_by, level, vector, above, better_by, choose_vector}
use Rattle.rules.specs.Theorems.{Binary}
use Rattle.rules.proofs.Count.{total-same}
use Rattle.rules.proofs.Tests.{and_yes, and_both}
use Rattle.rules.proofs.First.{first-same}
use Rattle.rules.proofs.Views.{is-part}
use Rattle.rules.proofs.Levels.{binding-by, level-one}
use Rattle.tables.specs.Zones.{cells_at, starts_at, counts_at, side_at, part, start_in, end_in, Cells, Counts}
use Rattle.tables.proofs.Parts.{part-entry, part_length}
use Rattle.tables.proofs.Starting.{held-count}
use Rattle.choice.specs.declared.window.Window.{Window}
use Rattle.choice.specs.Choosing.{dist_in, legal_in}
use Rattle.choice.specs.Best.{best_of}
use Rattle.choice.proofs.Fitting.{lengths-fit}
use Rattle.levels.specs.Vectors.{counts_for, own_at, there_at, level_by, vector_in, above_in, chosen_vector, vector_choice}
use Rattle.levels.proofs.Walked.{part-beyond, part-part}
use Rattle.levels.proofs.FilesPassed.{is-choice}

-- ---- a file's recipes

-- the cells as the view of them has them
view-cells : {rs : List (List ℕ)} {c p : ℕ} {z : List ℕ} → Cells rs c p z → counts_at c p ≤ length z → (f : ℕ) → f < c
    → view_of (part (starts_at c p) (suc c) z) (part (cells_at c) p z) f ≡ recipes_of rs f
view-cells {rs} {c} {p} {z} cells long f h =
    let s = start_in c p z f in
    let e = end_in c p z f in
    let at : e ≡ get_or (part (starts_at c p) (suc c) z) (f + 1) 0 = ap (λ (i : ℕ). get_or z i 0) next ∙ sym (part-entry (starts_at c p) (suc c) z (f + 1) (omega arith)) in
    sym (is-part (part (starts_at c p) (suc c) z) (part (cells_at c) p z) f s e (rw starts-long (omega arith)) (sym (part-entry (starts_at c p) (suc c) z f (omega arith))) at
    (cells.order f h) (rw cells-long (cells.inside f h)))
    ∙ part-part s (e - s) c p z (omega (arith, cells.order f h, cells.inside f h))
    ∙ cells.hold f h
  where
    next : starts_at c p + f + 1 ≡ starts_at c p + (f + 1)
    next = omega arith

    starts-long : length (part (starts_at c p) (suc c) z) ≡ suc c
    starts-long = part_length (starts_at c p) (suc c) z (omega arith)

    cells-long : length (part (cells_at c) p z) ≡ p
    cells-long = part_length (cells_at c) p z (omega arith)

-- ---- a recipe's number

module _ {rs : List (List ℕ)} {st : State} {at n : ℕ} {z : List ℕ} (counts : Counts rs st at n z) (number : length rs ≡ n) where
  binding-at : (u j : ℕ) → u ≤ 1 → binding_of (get_or (part (side_at at n u) n z) j 0) (get_or (part (side_at at n u + 2 * n) n z) j 0) ≡ binding st u (get_or rs j [])
  binding-at u j h = ap₂ binding_of (on (dec_lt j n)) (locked (dec_lt j n)) ∙ sym (binding-by st u (get_or rs j []))
    where
      none : n ≤ j → get_or rs j [] ≡ []
      none q = get_or-eq_default rs [] (omega (arith, number))

      on : Dec (j < n) → get_or (part (side_at at n u) n z) j 0 ≡ count_on st.sides u (get_or rs j [])
      on (yes q) = part-entry (side_at at n u) n z j q ∙ (counts.each j q).on u h
      on (no q) =
          let k : n ≤ j = omega arith in
          part-beyond (side_at at n u) n z j k ∙ rw (none k) (unfold count_on count total in refl)

      locked : Dec (j < n) → get_or (part (side_at at n u + 2 * n) n z) j 0 ≡ locked_on st u (get_or rs j [])
      locked (yes q) =
          let k : side_at at n u + 2 * n + j ≡ side_at at n u + j + 2 * n = omega arith in
          part-entry (side_at at n u + 2 * n) n z j q ∙ ap (λ (i : ℕ). get_or z i 0) k ∙ (counts.each j q).locked u h
      locked (no q) =
          let k : n ≤ j = omega arith in
          part-beyond (side_at at n u + 2 * n) n z j k ∙ rw (none k) (unfold locked_on count total in refl)

-- ---- levels, by the numbers of a file's recipes

level-numbers : (job : Job) (st : State) (f i : ℕ) (own there : ℕ → Binding)
    → ((j : ℕ) → own j ≡ binding st (side_of st.sides f) (get_or (recipes job) j [])) → ((j : ℕ) → there j ≡ binding st (other (side_of st.sides f)) (get_or (recipes job) j []))
    → diff (count (λ j. adds i (own j) (there j)) (recipes_of (recipes job) f)) (count (λ j. takes i (own j) (there j)) (recipes_of (recipes job) f)) ≡ level job st i f
unfolding level
level-numbers job st f i own there p q = ap₂ diff (by (adds i)) (by (takes i))
  where
    by : (test : Binding → Binding → Bool) → count (λ j. test (own j) (there j)) (recipes_of (recipes job) f) ≡ count (binds_by test st f) (recipes job)
    by test =
        unfold count in total-same _ _ (λ j. ap₂ (λ a b. bit (test a b)) (p j) (q j)) (recipes_of (recipes job) f)
        ∙ sym (held-count (λ r. test (binding st (side_of st.sides f) r) (binding st (other (side_of st.sides f)) r)) f (recipes job))

-- ---- of a job, in a state that the lists show

module _ (job : Job) (st : State) (c n p : ℕ) (z : List ℕ) (gains : List ℤ) (binary : Binary st.sides)
    (cells : Cells (recipes job) c p z) (counts : Counts (recipes job) st (counts_at c p) n z) (number : length (recipes job) ≡ n) (long : counts_at c p + 4 * n ≤ length z) where
  -- the vector of a free file whose gain is listed
  pub vector-shown : (f : ℕ) → f < c → lock_of st f ≡ 0 → get_or gains f (pos 0) ≡ gain st.sides (recipes job) f → vector_in c n p st.sides gains z f ≡ vector job st f
  unfolding vector_in vector
  vector-shown f h free listed =
      let first : get_or gains f (pos 0) ≡ level job st 1 f = listed ∙ sym (level-one job st binary f free) in
      let second = counted 2 in
      let third = counted 3 in
      λ x. first x ∷ second x ∷ third x ∷ []
    where
      u : ℕ
      u = side_of st.sides f

      counted : (i : ℕ) → level_by (counts_for (counts_at c p) n z u) i (view_of (part (starts_at c p) (suc c) z) (part (cells_at c) p z) f) ≡ level job st i f
      counted i =
          ap (level_by (counts_for (counts_at c p) n z u) i) (view-cells cells (omega arith) f h)
          ∙ unfold level_by in level-numbers job st f i (own_at (counts_for (counts_at c p) n z u)) (there_at (counts_for (counts_at c p) n z u))
          (λ j. binding-at counts number u j (binary f)) (λ j. binding-at counts number (1 - u) j (omega arith))

  -- the choice, where the window tells of the same balance and the lists are as long as there are files
  module _ (w : Window) (size : ℕ) (locks : take c z ≡ st.locks) (files : c ≡ file_count job)
      (listed : (f : ℕ) → f < c → lock_of st f ≡ 0 → get_or gains f (pos 0) ≡ gain st.sides (recipes job) f)
      (lawful : (f : ℕ) → f < c → legal_in w size job.sizes st.sides st.locks f ≡ legal job st f)
      (far : (f : ℕ) → f < c → lock_of st f ≡ 0 → dist_in w size job.sizes st.sides f ≡ dist_after job st f) where
    abbrev ok : ℕ → Bool
    ok = legal_in w size job.sizes st.sides st.locks

    abbrev dist : ℕ → ℕ
    dist = dist_in w size job.sizes st.sides

    -- a file whose move is legal is free
    ok-free : (f : ℕ) → ok f ≡ true → lock_of st f ≡ 0
    ok-free f e = eqb-true (lock_of st f) 0 (and_yes (eqb (lock_of st f) 0) (leb (dist f) w.span) e).0

    chosen-shown : chosen_vector c n p w size job.sizes st.sides gains z c ≡ choose_vector job st
    unfolding chosen_vector choose_vector
    chosen-shown =
        rw locks
        (first-same ok (legal job st) (better_by (above_in c n p st.sides gains z) dist) (better_by (above job st) (dist_after job st)) c lawful
        (λ f g h k a b.
        let x = ok-free f a in
        let y = ok-free g b in
        rw (vector-shown f h x (listed f h x), vector-shown g k y (listed g k y), far f h x, far g k y) refl))
        ∙ ap (first_below (legal job st) (better_by (above job st) (dist_after job st))) files

    pub choice-shown : length job.sizes ≡ c → length st.sides ≡ c → length gains ≡ c
        → vector_choice c n p w size job.sizes st.sides gains z ≡ best_of (λ f. get_or gains f (pos 0)) dist c (choose_vector job st)
    choice-shown a b d =
        is-choice c n p w size job.sizes st.sides gains z {t = true}
        (and_both (and_both (and_both (eq-eqb (length job.sizes) c a) (eq-eqb (length st.sides) c b)) (lengths-fit d (omega arith))) (le-leb (counts_at c p + 4 * n) (length z) long))
        ∙ ap (best_of (λ f. get_or gains f (pos 0)) dist c) chosen-shown
