-- An unread file is never free, so that scans may walk whole recipes. Assumes nothing.
use mathlib.Core.Path.{◌≡◌, refl, sym, ap, ap₂, ◌∙◌}
use mathlib.Core.Logic.{◌≢◌}
use Prim.Native.Nat.{ℕ, zero, suc, ◌+◌, ◌≤◌}
use native.Mathlib.Nat.{add-zero, zero-add, suc-add, add-suc}
use native.Mathlib.Omega.{arith}
use mathlib.Core.Bool.{Bool, true, false, cond, ◌&&◌}
use mathlib.Core.List.{List, [], ◌∷◌, ◌++◌, map}
use lib.Dec.{leb, eqb}
use lib.IntN.{ℤ}
use lib.ListN.{length, get_or, set}
use borrow.Author.Tests.{eqb-true, ne_eqb}
use Rattle.rules.specs.Lists.{total, count, those}
use Rattle.rules.specs.Job.{Job, views, is_read, read_in, recipes}
use Rattle.rules.specs.Split.{on_side, other, times, holds, size_of, weighs}
use Rattle.rules.specs.Move.{steps_by, State, start, lock_of, free, moved, after, Scan, kinds_in, kinds_of, scans_from, scans_of, reaches, touches, scan_all, Change, change_of, changes_in, changes_by, changed}
use Rattle.rules.proofs.Tests.{clash, not-no}
use Rattle.rules.proofs.Readable.{those-short}
use Rattle.rules.proofs.Changes.{scans-change}

pub read_short : (job : Job) (r : List ℕ) → length (read_in job r) ≤ length r
unfolding read_in
read_short job r = go (leb 2 (length (those (is_read job) r)))
  where
    go : (b : Bool) → length (cond b (those (is_read job) r) []) ≤ length r
    go true = those-short (is_read job) r
    go false = omega arith

-- a recipe that still holds a file has all its readable files
read_held : (job : Job) (f : ℕ) (r : List ℕ) → holds (read_in job r) f ≡ true → read_in job r ≡ those (is_read job) r
unfolding read_in
read_held job f r = go (leb 2 (length (those (is_read job) r)))
  where
    go : (b : Bool) → holds (cond b (those (is_read job) r) []) f ≡ true → cond b (those (is_read job) r) [] ≡ those (is_read job) r
    go true h = refl
    go false h = clash (sym (unfold times count total in h))

-- ---- locks

lock-lasts : (locks : List ℕ) (f x : ℕ) → 1 ≤ get_or locks x 0 → 1 ≤ get_or (set locks f 1) x 0
lock-lasts [] f x h = h
lock-lasts (y ∷ l) zero zero h = omega arith
lock-lasts (y ∷ l) zero (suc x) h = h
lock-lasts (y ∷ l) (suc f) zero h = h
lock-lasts (y ∷ l) (suc f) (suc x) h = lock-lasts l f x h

-- a locked file stays locked
lock-kept : (st : State) (ms : List ℕ) (x : ℕ) → 1 ≤ lock_of st x → 1 ≤ lock_of (after st ms) x
unfolding steps_by moved
lock-kept st [] x h = h
lock-kept st (m ∷ ms) x h = lock-kept (moved st m) ms x (lock-lasts st.locks m x h)

module _ (job : Job) (sides ms : List ℕ) (x : ℕ) where
  -- an unread file is never free
  pub unread-locked : is_read job x ≡ false → free (after (start job sides) ms) x ≡ false
  unread-locked e =
      let m : get_or job.marks x 0 ≡ 2 = eqb-true (get_or job.marks x 0) 2 (not-no (eqb (get_or job.marks x 0) 2) e) in
      let l = lock-kept (start job sides) ms x (omega arith) in
      ne_eqb (lock_of (after (start job sides) ms) x) 0 (λ z. omega arith)

  -- so a free file weighs its size
  pub free-weighs : lock_of (after (start job sides) ms) x ≡ 0 → weighs job x ≡ size_of job x
  free-weighs e =
      let m : get_or job.marks x 0 ≢ 2 = λ z. omega (arith, lock-kept (start job sides) ms x (omega arith)) in
      rw (ne_eqb (get_or job.marks x 0) 2 m) (omega arith)

-- ---- scans

-- a scan changes nothing of a file that is not free
touched-those : (st : State) (t k : ℕ) (p : ℕ → Bool) → ((x : ℕ) → p x ≡ false → free st x ≡ false) → (r : List ℕ)
    → those (touches st t k) r ≡ those (touches st t k) (those p r)
unfolding those
touched-those st t k p h [] = refl
touched-those st t k p h (x ∷ r) = go (p x) refl (touched-those st t k p h r)
  where
    put : Bool → List ℕ → List ℕ
    put b l = cond (b && reaches (on_side st.sides t x) (on_side st.sides (other t) x) k) (x ∷ l) l

    go : (b : Bool) → p x ≡ b → those (touches st t k) r ≡ those (touches st t k) (those p r)
        → put (free st x) (those (touches st t k) r) ≡ those (touches st t k) (cond b (x ∷ those p r) (those p r))
    go true e ih = ap (put (free st x)) ih
    go false e ih = ap (λ (b : Bool). put b (those (touches st t k) r)) (h x e) ∙ ih

-- recipes rs and ws of which scans make the same changes, where they hold f
module _ (rs ws : List (List ℕ)) (now : State) (t : ℕ) (st : State) (f : ℕ)
    (same : (j : ℕ) → holds (get_or rs j []) f ≡ true → (k : ℕ) → changes_in now t k (get_or ws j []) ≡ changes_in now t k (get_or rs j [])) where
  recipe-same : (j : ℕ) → holds (get_or rs j []) f ≡ true → (ks : List ℕ) (cs : List Scan) → changes_by ws now t cs ≡ changes_by rs now t cs
      → changes_by ws now t (map (λ k. record { recipe = j; kind = k }) ks ++ cs) ≡ changes_by rs now t (map (λ k. record { recipe = j; kind = k }) ks ++ cs)
  unfolding changes_by
  recipe-same j h [] cs ih = ih
  recipe-same j h (k ∷ ks) cs ih = ap₂ (λ (x y : List Change). x ++ y) (same j h k) (recipe-same j h ks cs ih)

  scans-from : (rest : List (List ℕ)) (j : ℕ) → ((i : ℕ) → get_or rs (j + i) [] ≡ get_or rest i [])
      → changes_by ws now t (scans_from st f j rest) ≡ changes_by rs now t (scans_from st f j rest)
  unfolding scans_from kinds_of
  scans-from [] j e = unfold changes_by in refl
  scans-from (r ∷ rest) j e =
      go (holds r f) (ap (λ q. holds q f) this) (scans-from rest (suc j) (λ i. ap (λ k. get_or rs k []) (suc-add j i ∙ sym (add-suc j i)) ∙ e (suc i)))
    where
      this : get_or rs j [] ≡ r
      this = ap (λ k. get_or rs k []) (sym (add-zero j)) ∙ e 0

      go : (b : Bool) → holds (get_or rs j []) f ≡ b → changes_by ws now t (scans_from st f (suc j) rest) ≡ changes_by rs now t (scans_from st f (suc j) rest)
          → changes_by ws now t (map (λ k. record { recipe = j; kind = k }) (cond b (kinds_in st f r) []) ++ scans_from st f (suc j) rest)
          ≡ changes_by rs now t (map (λ k. record { recipe = j; kind = k }) (cond b (kinds_in st f r) []) ++ scans_from st f (suc j) rest)
      go true h ih = recipe-same j h (kinds_in st f r) (scans_from st f (suc j) rest) ih
      go false h ih = ih

-- so a scan may walk the whole of a recipe
scan-whole : (job : Job) (st : State) → ((x : ℕ) → is_read job x ≡ false → free st x ≡ false) → (f : ℕ) (r : List ℕ) → holds (read_in job r) f ≡ true
    → (t k : ℕ) → changes_in st t k r ≡ changes_in st t k (read_in job r)
unfolding changes_in
scan-whole job st h f r e t k =
    ap (map (change_of k)) (touched-those st t k (is_read job) h r ∙ ap (those (touches st t k)) (sym (read_held job f r e)))

read_at : (job : Job) (vs : List (List ℕ)) (j : ℕ) → get_or (map (read_in job) vs) j [] ≡ read_in job (get_or vs j [])
read_at job [] j = unfold read_in those in refl
read_at job (r ∷ vs) zero = refl
read_at job (r ∷ vs) (suc j) = read_at job vs j

-- so may all scans of a move: pin by pin they change the same, in the same order
pub changes-whole : (job : Job) (st now : State) → ((x : ℕ) → is_read job x ≡ false → free now x ≡ false) → (t f : ℕ)
    → changes_by (views job) now t (scans_of (recipes job) st f) ≡ changes_by (recipes job) now t (scans_of (recipes job) st f)
unfolding recipes
changes-whole job st now h t f =
    scans-from (map (read_in job) (views job)) (views job) now t st f
    (λ j e k.
    let r : get_or (map (read_in job) (views job)) j [] ≡ read_in job (get_or (views job) j []) = read_at job (views job) j in
    scan-whole job now h f (get_or (views job) j []) (ap (λ (q : List ℕ). holds q f) (sym r) ∙ e) t k
    ∙ ap (changes_in now t k) (sym r))
    (map (read_in job) (views job)) 0 (λ i. ap (λ k. get_or (map (read_in job) (views job)) k []) (zero-add i))

pub scans-whole : (job : Job) (st now : State) → ((x : ℕ) → is_read job x ≡ false → free now x ≡ false) → (t f : ℕ) (g : List ℤ)
    → scan_all (views job) now t (scans_of (recipes job) st f) g ≡ scan_all (recipes job) now t (scans_of (recipes job) st f) g
scans-whole job st now h t f g =
    (scans-change (views job) now t).all (scans_of (recipes job) st f) g
    ∙ ap (steps_by changed g) (changes-whole job st now h t f)
    ∙ sym ((scans-change (recipes job) now t).all (scans_of (recipes job) st f) g)
