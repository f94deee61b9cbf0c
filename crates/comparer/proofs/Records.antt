-- The records of a list of numbers: how many, one more behind, and what stays and what is made where one is put. Assumes nothing.
use mathlib.Core.Path.{◌≡◌, refl, sym, ap, ap₂, ◌∙◌}
use Prim.Native.Nat.{ℕ, zero, suc, ◌+◌, ◌*◌, ◌≤◌, ◌<◌}
use mathlib.Core.List.{List, [], ◌∷◌, ◌++◌}
use native.Mathlib.Numerals.{add-one}
use native.Mathlib.Omega.{arith}
use lib.ListN.{length, get_or, set, take, length-append, length-drop, get_or-append}
use lib.Seq.{get_or-set_other, length-take-le, get_or-take, get_or-append-add}
use borrow.Rule.Slice.PartMut.{put_mid}
use Rattle.rules.specs.declared.Difference.{Difference}
use Rattle.rules.specs.Lists.{up_to}
use Rattle.rules.specs.Compare.{difference}
use Rattle.rules.proofs.Count.{length-tabled, tabled-more}
use Rattle.report.specs.Comparison.{record_at, records_in}

pub records-none : (numbers : List ℕ) → records_in 0 numbers ≡ []
unfolding records_in up_to
records-none numbers = refl

pub records-length : (n : ℕ) (numbers : List ℕ) → length (records_in n numbers) ≡ n
unfolding records_in
records-length n numbers = length-tabled (record_at numbers) n

-- one record more, for a count that the code steps by + 1, and for suc
pub records-more : (n : ℕ) (numbers : List ℕ) → records_in (n + 1) numbers ≡ records_in n numbers ++ (record_at numbers n ∷ [])
unfolding records_in
records-more n numbers = tabled-more (record_at numbers) n

pub records-suc : (n : ℕ) (numbers : List ℕ) → records_in (suc n) numbers ≡ records_in n numbers ++ (record_at numbers n ∷ [])
records-suc n numbers = rw (add-one n) at (records-more n numbers)

-- the first n records are told by the records below n
pub records-same : (n : ℕ) (before after : List ℕ) → ((i : ℕ) → i < n → record_at after i ≡ record_at before i) → records_in n after ≡ records_in n before
records-same zero before after same = rw (records-none after, records-none before) refl
records-same (suc n) before after same =
    rw (records-suc n after, records-suc n before)
    (ap₂ (λ (ds : List Difference) (d : Difference). ds ++ (d ∷ [])) (records-same n before after (λ i h. same i (omega arith))) (same n (omega arith)))

-- a number that is set from 4·n on leaves the first n records
pub records-stay : (n : ℕ) (numbers : List ℕ) (place v : ℕ) → 4 * n ≤ place → records_in n (set numbers place v) ≡ records_in n numbers
records-stay n numbers place v h = records-same n numbers (set numbers place v) (λ i l k. difference (stays (4 * i) (omega arith) k) (stays (4 * i + 1) (omega arith) k) (stays (4 * i + 2) (omega arith) k) (stays (4 * i + 3) (omega arith) k))
  where
    stays : (i : ℕ) → i < 4 * n → get_or (set numbers place v) i 0 ≡ get_or numbers i 0
    stays i l = get_or-set_other numbers place i v 0 (λ e. omega arith)

-- ---- the four numbers of a record, put at its place

module _ (n : ℕ) (d : Difference) (numbers : List ℕ) (room : 4 * (n + 1) ≤ length numbers) where
  abbrev four : List ℕ
  four = d.what ∷ d.number ∷ d.old ∷ d.new ∷ []

  abbrev after : List ℕ
  after = put_mid (4 * n) 4 numbers four

  long : length (take (4 * n) numbers) ≡ 4 * n
  long = length-take-le (4 * n) numbers (omega arith)

  pub put-length : length after ≡ length numbers
  put-length = simp (length-append, length-drop, long) (omega arith)

  earlier : (i : ℕ) → i < 4 * n → get_or after i 0 ≡ get_or numbers i 0
  earlier i h = get_or-append (take (4 * n) numbers) _ 0 i (omega (arith, long)) ∙ get_or-take (4 * n) numbers i 0 h

  placed : (i j : ℕ) → i ≡ 4 * n + j → j < 4 → get_or after i 0 ≡ get_or four j 0
  placed i j e h =
      ap (λ (k : ℕ). get_or after k 0) (e ∙ ap (λ (k : ℕ). k + j) (sym long))
      ∙ get_or-append-add (take (4 * n) numbers) _ j 0
      ∙ get_or-append four _ 0 j h

  pub record-stay : records_in n after ≡ records_in n numbers
  record-stay =
      let stays : (i j : ℕ) → i < n → j < 4 → get_or after (4 * i + j) 0 ≡ get_or numbers (4 * i + j) 0 = λ i j h l. earlier (4 * i + j) (omega arith) in
      records-same n numbers after
      (λ i h k. difference (earlier (4 * i) (omega arith) k) (stays i 1 h (omega arith) k) (stays i 2 h (omega arith) k) (stays i 3 h (omega arith) k))

  pub record-made : record_at after n ≡ d
  record-made = λ k.
      difference (placed (4 * n) 0 (omega arith) (omega arith) k) (placed (4 * n + 1) 1 refl (omega arith) k) (placed (4 * n + 2) 2 refl (omega arith) k)
      (placed (4 * n + 3) 3 refl (omega arith) k)
