-- The check, the reader and the balancing answer by their rows: the first that is given. Assumes nothing.
use mathlib.Core.Path.{◌≡◌, refl, sym, ap, ap₂, ◌∙◌}
use mathlib.Core.Logic.{◌≢◌}
use Prim.Native.Nat.{ℕ, zero, suc, ◌-◌, ◌≤◌, ◌<◌}
use mathlib.Core.Bool.{Bool, true, false, not, cond, ◌&&◌}
use mathlib.Core.List.{List, [], ◌∷◌, ◌++◌}
use native.Mathlib.Omega.{arith}
use lib.Dec.{leb, eqb}
use borrow.Author.Tests.{leb-true, eqb-false, ne_eqb}
use Rattle.rules.specs.declared.Verdict.{Verdict}
use Rattle.rules.specs.declared.Header.{Header}
use Rattle.rules.specs.Job.{Job, Limits, Lent, fits}
use Rattle.rules.specs.Check.{done, refuse_if, ◌or_else◌, Row, Rows, none, one, ◌followed_by◌, first_given, bad_k, sound_rows, all_rows, check_counts, check_ratio, check_free, check_window, check_start, check_contents, check_sound, check_goal, check_rest, check, check_edition, check_lent}
use Rattle.rules.specs.Stored.{header_of, block_count, block_verdict, further_rows, blocks_verdict, job_of, Room, roomy, under_one, wrong_total, layout_verdict, read_rows, read_verdict}
use Rattle.rules.specs.Theorems.{in_order, said_by, row_of, FirstRow, FirstGiven}
use Rattle.rules.proofs.Tests.{clash, and_yes}
use Rattle.rules.proofs.Verdicts.{or_assoc, never-chain, Plain, plain-chain}

-- ---- rows in a list

abbrev asked : Row → Verdict
asked r = refuse_if r.given r.number r.place

unfoldable answer_of : List Row → Verdict
answer_of [] = done
answer_of (r ∷ rows) = asked r or_else answer_of rows

answer-append : (xs ys : List Row) → answer_of (xs ++ ys) ≡ (answer_of xs or_else answer_of ys)
unfolding answer_of
answer-append [] ys = refl
answer-append (r ∷ xs) ys = ap (λ (v : Verdict). asked r or_else v) (answer-append xs ys) ∙ sym (or_assoc (asked r) (answer_of xs) (answer_of ys))

-- no row has number k, in a list and as they stand
unfoldable lacks-listed : ℕ → List Row → Bool
lacks-listed k [] = true
lacks-listed k (r ∷ rows) = not (eqb r.number k) && lacks-listed k rows

unfoldable pub lacks : ℕ → Rows → Bool
lacks k none = true
lacks k (one r) = not (eqb r.number k)
lacks k (xs followed_by ys) = lacks k xs && lacks k ys

lacks_both : (k : ℕ) (xs ys : Rows) → lacks k (xs followed_by ys) ≡ true → (lacks k xs ≡ true) × (lacks k ys ≡ true)
unfolding lacks
lacks_both k xs ys h = and_yes (lacks k xs) (lacks k ys) h

apart : (k : ℕ) (r : Row) → lacks k (one r) ≡ true → r.number ≢ k
unfolding lacks
apart k r h = go (eqb r.number k) refl h
  where
    go : (b : Bool) → eqb r.number k ≡ b → not b ≡ true → r.number ≢ k
    go true e n = clash (sym n)
    go false e n = eqb-false r.number k e

lacks-first : (k : ℕ) (r : Row) (rows : List Row) → lacks-listed k (r ∷ rows) ≡ true → (r.number ≢ k) × (lacks-listed k rows ≡ true)
unfolding lacks-listed
lacks-first k r rows h = let q = and_yes (not (eqb r.number k)) (lacks-listed k rows) h in (apart k r (unfold lacks in q.0), q.1)

lacks-append : (k : ℕ) (xs ys : List Row) → lacks-listed k xs ≡ true → lacks-listed k ys ≡ true → lacks-listed k (xs ++ ys) ≡ true
unfolding lacks-listed
lacks-append k [] ys h g = g
lacks-append k (r ∷ xs) ys h g = let q = and_yes (not (eqb r.number k)) (lacks-listed k xs) h in rw q.0 (lacks-append k xs ys q.1 g)

lacks-in-order : (k : ℕ) (rows : Rows) → lacks k rows ≡ true → lacks-listed k (in_order rows) ≡ true
unfolding lacks in_order lacks-listed
lacks-in-order k none h = refl
lacks-in-order k (one r) h = rw h refl
lacks-in-order k (xs followed_by ys) h =
    let q = lacks_both k xs ys h in lacks-append k (in_order xs) (in_order ys) (lacks-in-order k xs q.0) (lacks-in-order k ys q.1)

-- a row given goes first, one not given is passed over
row-stop : (r : Row) (w : Verdict) → r.given ≡ true → r.number ≢ 0 → (asked r or_else w) ≡ said_by r
row-stop r w e n = rw (e, ne_eqb r.number 0 n) refl

row-go : (r : Row) (w : Verdict) → r.given ≡ false → (asked r or_else w) ≡ w
row-go r w e = rw e refl

-- ---- one law for all numbers for no

first-answers : (rows : List Row) → lacks-listed 0 rows ≡ true → (i : ℕ) → FirstRow rows i → answer_of rows ≡ said_by (row_of rows i)
unfolding answer_of
first-answers [] h i f = absurd (omega (arith, f.below))
first-answers (r ∷ rows) h zero f = row-stop r (answer_of rows) f.given (lacks-first 0 r rows h).0
first-answers (r ∷ rows) h (suc i) f =
    row-go r (answer_of rows) (f.earlier 0 (omega arith))
    ∙ first-answers rows (lacks-first 0 r rows h).1 i
    (record { below = omega (arith, f.below); given = f.given; earlier = λ j l. f.earlier (suc j) (omega arith) })

answers-first : (rows : List Row) → lacks-listed 0 rows ≡ true → (answer_of rows).number ≢ 0 → (i : ℕ) × FirstRow rows i
unfolding answer_of
answers-first [] h n = absurd (n refl)
answers-first (r ∷ rows) h n = go r.given refl (answers-first rows (lacks-first 0 r rows h).1)
  where
    go : (b : Bool) → r.given ≡ b → ((answer_of rows).number ≢ 0 → (i : ℕ) × FirstRow rows i) → (i : ℕ) × FirstRow (r ∷ rows) i
    go true e ih = (zero, record { below = omega arith; given = e; earlier = λ j l. absurd (omega arith) })
    go false e ih =
        let q = ih (rw (row-go r (answer_of rows) e) at n) in (
          suc q.0,
          record { below = omega (arith, q.1.below); given = q.1.given; earlier = earlier q.0 q.1.earlier },
        )
      where
        earlier : (i : ℕ) → ((j : ℕ) → j < i → (row_of rows j).given ≡ false) → (j : ℕ) → j < suc i → (row_of (r ∷ rows) j).given ≡ false
        earlier i f zero l = e
        earlier i f (suc j) l = f j (omega arith)

none-listed : (rows : List Row) → lacks-listed 0 rows ≡ true → (answer_of rows).number ≡ 0 → (i : ℕ) → (row_of rows i).given ≡ false
unfolding answer_of
none-listed [] h z i = refl
none-listed (r ∷ rows) h z i = go r.given refl (none-listed rows (lacks-first 0 r rows h).1) i
  where
    go : (b : Bool) → r.given ≡ b → ((answer_of rows).number ≡ 0 → (i : ℕ) → (row_of rows i).given ≡ false) → (i : ℕ) → (row_of (r ∷ rows) i).given ≡ false
    go true e ih i = absurd ((lacks-first 0 r rows h).0 (sym (ap (λ (v : Verdict). v.number) (row-stop r (answer_of rows) e (lacks-first 0 r rows h).0)) ∙ z))
    go false e ih zero = e
    go false e ih (suc i) = ih (rw (row-go r (answer_of rows) e) at z) i

all-passed : (rows : List Row) → ((i : ℕ) → (row_of rows i).given ≡ false) → answer_of rows ≡ done
unfolding answer_of
all-passed [] h = refl
all-passed (r ∷ rows) h = row-go r (answer_of rows) (h 0) ∙ all-passed rows (λ i. h (suc i))

-- the rows answer as their list does
answers-listed : (rows : Rows) → lacks 0 rows ≡ true → first_given rows ≡ answer_of (in_order rows)
unfolding in_order answer_of
answers-listed none h = refl
answers-listed (one r) h = go r.given refl
  where
    go : (b : Bool) → r.given ≡ b → asked r ≡ (asked r or_else done)
    go true e = rw (e, ne_eqb r.number 0 (apart 0 r h)) refl
    go false e = rw e refl
answers-listed (xs followed_by ys) h =
    let q = lacks_both 0 xs ys h in
    ap₂ (λ (v w : Verdict). v or_else w) (answers-listed xs q.0) (answers-listed ys q.1) ∙ sym (answer-append (in_order xs) (in_order ys))

pub first-given : (rows : Rows) → lacks 0 rows ≡ true → FirstGiven (in_order rows) (first_given rows)
first-given rows l =
    let e : first_given rows ≡ answer_of (in_order rows) = answers-listed rows l in
    let h : lacks-listed 0 (in_order rows) ≡ true = lacks-in-order 0 rows l in
    record {
      given = λ i f. e ∙ first-answers (in_order rows) h i f;
      only = λ n z q.
          let t = answers-first (in_order rows) h (λ o. z (sym q ∙ ap (λ (v : Verdict). v.number) e ∙ o)) in
          let a = e ∙ first-answers (in_order rows) h t.0 t.1 in
          (t.0, t.1, sym (ap (λ (v : Verdict). v.number) a) ∙ q, a);
      none = λ z. none-listed (in_order rows) h (sym (ap (λ (v : Verdict). v.number) e) ∙ z);
      passed = λ f. e ∙ all-passed (in_order rows) f;
    }

-- rows without number 0 let through with place 0
pub plain_rows : (rows : Rows) → lacks 0 rows ≡ true → Plain (first_given rows)
plain_rows none h z = refl
plain_rows (one r) h z = go r.given refl
  where
    go : (b : Bool) → r.given ≡ b → asked r ≡ done
    go true e = absurd (apart 0 r h (sym (ap (λ (b : Bool). (refuse_if b r.number r.place).number) e) ∙ z))
    go false e = rw e refl
plain_rows (xs followed_by ys) h z = plain-chain (first_given xs) (first_given ys) (plain_rows ys (lacks_both 0 xs ys h).1) z

-- a number that no row has is never given
pub never-given : (k : ℕ) (rows : Rows) → lacks k rows ≡ true → k ≢ 0 → (first_given rows).number ≢ k
never-given k none h z = λ e. z (sym e)
never-given k (one r) h z = go r.given refl
  where
    go : (b : Bool) → r.given ≡ b → (asked r).number ≢ k
    go true e = rw e (apart k r h)
    go false e = rw e (λ q. z (sym q))
never-given k (xs followed_by ys) h z =
    let q = lacks_both k xs ys h in never-chain k (first_given xs) (first_given ys) (never-given k xs q.0 z) (λ _. never-given k ys q.1 z)

-- no row's number is over m, so none that is given is
unfoldable pub within : ℕ → Rows → Bool
within m none = true
within m (one r) = leb r.number m
within m (xs followed_by ys) = within m xs && within m ys

pub few-given : (m : ℕ) (rows : Rows) → within m rows ≡ true → (first_given rows).number ≤ m
unfolding within
few-given m none h = omega arith
few-given m (one r) h = go r.given refl
  where
    go : (b : Bool) → r.given ≡ b → (asked r).number ≤ m
    go true e = rw e (leb-true r.number m h)
    go false e = rw e (omega arith)
few-given m (xs followed_by ys) h =
    let q = and_yes (within m xs) (within m ys) h in go (eqb (first_given xs).number 0) (few-given m xs q.0) (few-given m ys q.1)
  where
    go : (b : Bool) → (first_given xs).number ≤ m → (first_given ys).number ≤ m → (cond b (first_given ys) (first_given xs)).number ≤ m
    go true x y = y
    go false x y = x

-- ---- the check

-- as chains of its pieces
pub check-chain : (most : Limits) (job : Job) (lent : Bool) → check most job lent ≡ (check_sound most job lent or_else check_goal most job or_else check_start job)
unfolding check check_sound check_goal check_start
check-chain most job lent = refl

pub rest-chain : (most : Limits) (job : Job) (lent : Bool) → check most job lent ≡ (check_sound most job lent or_else check_rest most job)
unfolding check check_sound check_rest
rest-chain most job lent = refl

-- 32 before it
pub lent-chain : (edition : ℕ) (most : Limits) (job : Job) (l : Lent) → check_lent edition most job l ≡ (check_edition edition or_else check most job (fits edition job l))
unfolding check_lent check_edition check
lent-chain edition most job l = refl

pub goal-chain : (most : Limits) (job : Job) → check_goal most job ≡ (check_ratio most job or_else check_free job or_else check_window job)
unfolding check_goal check_ratio check_free check_window
goal-chain most job = refl

pub check-rows : (most : Limits) (job : Job) (lent : Bool) → FirstGiven (in_order (all_rows most job lent)) (check most job lent)
unfolding lacks check
check-rows most job lent = first-given (all_rows most job lent) refl

pub sound-rows : (most : Limits) (job : Job) (lent : Bool) → FirstGiven (in_order (sound_rows most job lent)) (check_sound most job lent)
unfolding lacks check_sound
sound-rows most job lent = first-given (sound_rows most job lent) refl

-- ---- the reader

pub further-lacks : (k : ℕ) → 21 ≢ k → 22 ≢ k → (h : Header) (bytes : List ℕ) (b n : ℕ) → lacks k (further_rows h bytes b n) ≡ true
unfolding lacks further_rows
further-lacks k p q h bytes b zero = refl
further-lacks k p q h bytes b (suc n) = rw (ne_eqb 21 k p, ne_eqb 22 k q) (further-lacks k p q h bytes (suc b) n)

module _ (most : Limits) (bytes : List ℕ) (room : Room) where
  -- as a chain: the header, the further blocks, and then 4 to 6
  pub layout-chain : layout_verdict most bytes room ≡
      (refuse_if (under_one bytes) 20 0
      or_else block_verdict (header_of bytes) bytes 0
      or_else refuse_if (bad_k (header_of bytes).k) 22 0
      or_else check_counts most (header_of bytes).files (header_of bytes).recipes (header_of bytes).pins
      or_else refuse_if (not (roomy (header_of bytes) room)) 3 0
      or_else refuse_if (wrong_total (header_of bytes) bytes) 20 0
      or_else blocks_verdict (header_of bytes) bytes 1 (block_count (header_of bytes) - 1))
  unfolding layout_verdict block_verdict blocks_verdict check_counts
  layout-chain = refl

  pub read-chain : read_verdict most bytes room ≡ (layout_verdict most bytes room or_else check_contents (job_of bytes))
  unfolding read_verdict layout_verdict check_contents
  read-chain = refl

  abbrev further : ℕ
  further = block_count (header_of bytes) - 1

  -- reading gives 1 to 6 and 20 to 22, and no other number
  pub never-read : (k : ℕ) → 6 < k → 20 ≢ k → 21 ≢ k → 22 ≢ k → (read_verdict most bytes room).number ≢ k
  unfolding lacks read_verdict
  never-read k l p q r =
      never-given k (read_rows most bytes room)
      (rw (ne_eqb 1 k (λ e. omega arith), ne_eqb 2 k (λ e. omega arith), ne_eqb 3 k (λ e. omega arith), ne_eqb 4 k (λ e. omega arith), ne_eqb 5 k (λ e. omega arith), ne_eqb 6 k (λ e. omega arith), ne_eqb 20 k p, ne_eqb 21 k q, ne_eqb 22 k r, further-lacks k q r (header_of bytes) bytes 1 further) refl)
      (λ e. omega arith)

  pub read-rows : FirstGiven (in_order (read_rows most bytes room)) (read_verdict most bytes room)
  unfolding lacks read_verdict
  read-rows = first-given (read_rows most bytes room) (rw (further-lacks 0 (omega arith) (omega arith) (header_of bytes) bytes 1 further) refl)
