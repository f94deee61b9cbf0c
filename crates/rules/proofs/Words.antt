-- A block and its words: what stands in the block of a number, a kind and values, and that these and a right check make it. Assumes nothing.
use mathlib.Core.Path.{◌≡◌, refl, sym, ap, ap₂, ◌∙◌}
use Prim.Native.Nat.{ℕ, zero, suc, ◌+◌, ◌-◌, ◌*◌, ◌/◌, ◌%◌, ◌≤◌, ◌<◌}
use mathlib.Core.Bool.{Bool, true, false, not, ◌&&◌}
use mathlib.Core.List.{List, [], ◌∷◌, ◌++◌}
use native.Mathlib.Decide.{ℕ_discrete, dec_lt}
use native.Mathlib.Omega.{arith}
use lib.Dec.{leb, ltb, eqb}
use lib.ListN.{length, get_or, take, drop, replicate, length-append, length-take, length-drop, length-replicate, get_or-replicate, take-append-drop, get_or-append, get_or-eq_default}
use lib.Seq.{ext_get_or, get_or-take, get_or-drop, get_or-append-add, take_at, take_all}
use borrow.Author.Tests.{eqb-true, eq-eqb, ne_eqb, le-ltb, le-leb, lt-leb, not-true}
use Rattle.rules.specs.Lists.{AllBelow, some_below, padded}
use Rattle.rules.specs.Stored.{weigh, block_check, word, value_in, laid_out}
use Rattle.rules.specs.Writing.{two_bytes, value_bytes, contents, block_of}
use Rattle.rules.proofs.Tests.{and_yes, and_no, and_both, and-false, not-no}
use Rattle.rules.proofs.Searches.{none_below, some-none}
use Rattle.rules.proofs.Entries.{padded-length, padded-in, padded-past}
use Rattle.rules.proofs.InTurn.{below-append}

-- ---- words

-- bytes are what their words are
pub same-words : (n : ℕ) (xs ys : List ℕ) → length xs ≡ 2 * n → length ys ≡ 2 * n → AllBelow 256 xs → AllBelow 256 ys
    → ((i : ℕ) → i < n → word xs (2 * i) ≡ word ys (2 * i)) → xs ≡ ys
same-words n xs ys lx ly bx by e =
    ext_get_or 0 xs ys (lx ∙ sym ly)
    (λ i h.
    let k : ℕ = i / 2 in
    let at = e k (omega arith) in
    let x0 = bx (2 * k) (omega arith) in
    let x1 = bx (suc (2 * k)) (omega arith) in
    let y0 = by (2 * k) (omega arith) in
    let y1 = by (suc (2 * k)) (omega arith) in
    elim (ℕ_discrete (i % 2) 0) [
      | yes z ↦ let q : i ≡ 2 * k = omega arith in rw q (omega arith)
      | no z ↦ let q : i ≡ suc (2 * k) = omega arith in rw q (omega arith)
    ])

word_in : (xs ys : List ℕ) (i : ℕ) → suc i < length xs → word (xs ++ ys) i ≡ word xs i
word_in xs ys i h = ap₂ (λ (a b : ℕ). a + 256 * b) (get_or-append xs ys 0 i (omega arith)) (get_or-append xs ys 0 (suc i) h)

word-past : (xs ys : List ℕ) (n i : ℕ) → length xs ≡ n → word (xs ++ ys) (n + i) ≡ word ys i
word-past xs ys n i e =
    let p : suc (n + i) ≡ length xs + suc i = omega arith in
    ap₂ (λ (a b : ℕ). a + 256 * b)
    (ap (λ (k : ℕ). get_or (xs ++ ys) (k + i) 0) (sym e) ∙ get_or-append-add xs ys i 0)
    (ap (λ (k : ℕ). get_or (xs ++ ys) k 0) p ∙ get_or-append-add xs ys (suc i) 0)

word_two : (n : ℕ) (ys : List ℕ) → word (two_bytes n ++ ys) 0 ≡ n
word_two n ys = omega arith

two-below : (n : ℕ) → n < 65536 → AllBelow 256 (two_bytes n)
two-below n h zero l = omega arith
two-below n h (suc zero) l = omega arith
two-below n h (suc (suc i)) l = absurd (omega arith)

-- ---- values

pub values_length : (vs : List ℕ) → length (value_bytes vs) ≡ 2 * length vs
unfolding value_bytes
values_length [] = refl
values_length (v ∷ vs) = omega (arith, values_length vs)

-- one value more
pub values-more : (vs : List ℕ) (v : ℕ) → value_bytes (vs ++ (v ∷ [])) ≡ value_bytes vs ++ two_bytes v
unfolding value_bytes
values-more [] v = refl
values-more (x ∷ vs) v = ap (λ (t : List ℕ). two_bytes x ++ t) (values-more vs v)

values-word : (vs : List ℕ) (v : ℕ) → v < length vs → word (value_bytes vs) (2 * v) ≡ get_or vs v 0
unfolding value_bytes
values-word [] v h = absurd (omega arith)
values-word (x ∷ vs) zero h = word_two x (value_bytes vs)
values-word (x ∷ vs) (suc v) h =
    let e : 2 * suc v ≡ 2 + 2 * v = omega arith in
    ap (λ (k : ℕ). word (two_bytes x ++ value_bytes vs) k) e ∙ word-past (two_bytes x) (value_bytes vs) 2 (2 * v) refl ∙ values-word vs v (omega arith)

values-below : (vs : List ℕ) → AllBelow 65536 vs → AllBelow 256 (value_bytes vs)
unfolding value_bytes
values-below [] p = λ i h. absurd (omega arith)
values-below (v ∷ vs) p = below-append 256 (two_bytes v) (value_bytes vs) (two-below v (p 0 (omega arith))) (values-below vs (λ i h. p (suc i) (omega arith)))

-- unused ones are zero
padded-word : (vs : List ℕ) → length vs ≤ 253 → (v : ℕ) → v < 253 → word (padded 506 0 (value_bytes vs)) (2 * v) ≡ get_or vs v 0
padded-word vs few v h =
    let long = values_length vs in
    let fits : length (value_bytes vs) ≤ 506 = omega arith in
    elim (dec_lt v (length vs)) [
      | yes l ↦
          ap₂ (λ (x y : ℕ). x + 256 * y) (padded-in 506 0 (value_bytes vs) fits 0 (2 * v) (omega arith)) (padded-in 506 0 (value_bytes vs) fits 0 (suc (2 * v)) (omega arith))
          ∙ values-word vs v l
      | no l ↦
          ap₂ (λ (x y : ℕ). x + 256 * y) (padded-past 506 0 (value_bytes vs) fits 0 (2 * v) (omega arith) (omega arith)) (padded-past 506 0 (value_bytes vs) fits 0 (suc (2 * v)) (omega arith) (omega arith))
          ∙ sym (get_or-eq_default vs 0 {n = v} (omega arith))
    ]

-- ---- the block of a number, a kind and values

below-replicate : (n m : ℕ) → 0 < m → AllBelow m (replicate n 0)
below-replicate n m h i l = rw (get_or-replicate {A = ℕ} n i 0 0 (rw (← length-replicate {A = ℕ} n 0) l)) h

module _ (b kind : ℕ) (vs : List ℕ) (few : length vs ≤ 253) where
  pub contents-length : length (contents b kind vs) ≡ 510
  unfolding contents
  contents-length = omega (arith, padded-length 506 0 (value_bytes vs) (omega (arith, values_length vs)))

  contents-value : (v : ℕ) → v < 253 → value_in (contents b kind vs) v ≡ get_or vs v 0
  unfolding contents
  contents-value v h =
      word-past (two_bytes b ++ (kind ∷ length vs ∷ [])) (padded 506 0 (value_bytes vs)) 4 (2 * v) refl
      ∙ padded-word vs few v h

  pub block-length : length (block_of b kind vs) ≡ 512
  unfolding block_of
  block-length = omega (arith, contents-length, length-append (contents b kind vs) (two_bytes (block_check (contents b kind vs))))

  -- its first 510 bytes are its contents
  block-first : take 510 (block_of b kind vs) ≡ contents b kind vs
  unfolding block_of
  block-first = take_at (contents b kind vs) (two_bytes (block_check (contents b kind vs))) 510 contents-length

  pub check-same : (block : List ℕ) → take 510 block ≡ contents b kind vs → block_check (contents b kind vs) ≡ block_check block
  unfolding block_check
  check-same block e = ap (λ (l : List ℕ). (21845 + weigh 0 l) % 65536) (take_all 510 (contents b kind vs) (omega (arith, contents-length)) ∙ sym e)

  pub block-check : word (block_of b kind vs) 510 ≡ block_check (block_of b kind vs)
  unfolding block_of
  block-check =
      word-past (contents b kind vs) (two_bytes (block_check (contents b kind vs))) 510 0 contents-length
      ∙ word_two (block_check (contents b kind vs)) []
      ∙ check-same (block_of b kind vs) block-first

  pub block-number : word (block_of b kind vs) 0 ≡ b
  unfolding block_of contents
  block-number = word_two b []

  pub block-kind : get_or (block_of b kind vs) 2 0 ≡ kind
  unfolding block_of contents
  block-kind = refl

  pub block-count : get_or (block_of b kind vs) 3 0 ≡ length vs
  unfolding block_of contents
  block-count = refl

  -- value v; unused ones are zero
  pub block-value : (v : ℕ) → v < 253 → value_in (block_of b kind vs) v ≡ get_or vs v 0
  unfolding block_of
  block-value v h = word_in (contents b kind vs) (two_bytes (block_check (contents b kind vs))) (4 + 2 * v) (omega (arith, contents-length)) ∙ contents-value v h

  module _ (number : b < 65536) (byte : kind < 256) (small : AllBelow 65536 vs) where
    contents-below : AllBelow 256 (contents b kind vs)
    unfolding contents
    contents-below =
        below-append 256 (two_bytes b) (kind ∷ length vs ∷ padded 506 0 (value_bytes vs)) (two-below b number)
        (below-append 256 (kind ∷ length vs ∷ []) (padded 506 0 (value_bytes vs)) head
        (unfold padded in below-append 256 (value_bytes vs) (replicate (506 - length (value_bytes vs)) 0) (values-below vs small) (below-replicate (506 - length (value_bytes vs)) 256 (omega arith))))
      where
        head : AllBelow 256 (kind ∷ length vs ∷ [])
        head zero l = byte
        head (suc zero) l = omega arith
        head (suc (suc i)) l = absurd (omega arith)

    pub block-below : AllBelow 256 (block_of b kind vs)
    unfolding block_of
    block-below = below-append 256 (contents b kind vs) (two_bytes (block_check (contents b kind vs))) contents-below (two-below (block_check (contents b kind vs)) (unfold block_check in omega arith))

  -- it is laid out, where a file's second value is not over 5
  pub block-laid : (kind ≡ 2 → (f : ℕ) → 2 * f < length vs → get_or vs (2 * f + 1) 0 ≤ 5) → laid_out (block_of b kind vs) b kind (length vs) ≡ true
  unfolding laid_out
  block-laid thirds =
      let block : List ℕ = block_of b kind vs in
      let n : ℕ = length vs in
      let left : ℕ → Bool = λ v. leb n v && not (eqb (value_in block v) 0) in
      let over : ℕ → Bool = λ f. ltb (2 * f) n && ltb 5 (value_in block (2 * f + 1)) in
      let unused : some_below left 253 ≡ false = some-none left 253 (λ v h. elim (dec_lt v n) [
        | yes l ↦ ap (λ (t : Bool). t && not (eqb (value_in block v) 0)) (lt-leb n v l)
        | no l ↦
            ap (λ (t : Bool). leb n v && not t) (eq-eqb (value_in block v) 0 (block-value v h ∙ get_or-eq_default vs 0 {n = v} (omega arith)))
            ∙ and-false (leb n v)
      ]) in
      let seconds : (eqb kind 2 && some_below over 126) ≡ false = elim (ℕ_discrete kind 2) [
        | yes k ↦
            ap (λ (t : Bool). eqb kind 2 && t) (some-none over 126 (λ f h. elim (dec_lt (2 * f) n) [
              | yes l ↦
                  ap (λ (t : Bool). ltb (2 * f) n && t) (le-ltb 5 (value_in block (2 * f + 1)) (omega (arith, block-value (2 * f + 1) (omega arith), thirds k f l)))
                  ∙ and-false (ltb (2 * f) n)
              | no l ↦ ap (λ (t : Bool). t && ltb 5 (value_in block (2 * f + 1))) (le-ltb (2 * f) n (omega arith))
            ]))
            ∙ and-false (eqb kind 2)
        | no k ↦ ap (λ (t : Bool). t && some_below over 126) (ne_eqb kind 2 k)
      ] in
      and_both
      (and_both
      (and_both (and_both (eq-eqb (word block 0) b block-number) (eq-eqb (get_or block 2 0) kind block-kind)) (eq-eqb (get_or block 3 0) n block-count))
      (ap not unused))
      (ap not seconds)

-- ---- a block with this number, kind and values and a right check is that block

pub record Carries (block : List ℕ) (b k : ℕ) (vs : List ℕ) : Type 0 where
  pub long : length block ≡ 512
  pub number : word block 0 ≡ b
  pub kind : get_or block 2 0 ≡ k
  pub count : get_or block 3 0 ≡ length vs
  pub few : length vs ≤ 253
  pub values : (v : ℕ) → v < 253 → value_in block v ≡ get_or vs v 0

module _ {block : List ℕ} {b kind : ℕ} {vs : List ℕ} (bytes : AllBelow 256 block) (c : Carries block b kind vs) where
  word_small : (i : ℕ) → suc i < 512 → word block i < 65536
  word_small i h = omega (arith, bytes i (omega arith), bytes (suc i) (omega arith))

  values-small : AllBelow 65536 vs
  values-small i h = rw (← c.values i (omega (arith, c.few))) (word_small (4 + 2 * i) (omega (arith, c.few)))

  contents-words : (i : ℕ) → i < 255 → word (contents b kind vs) (2 * i) ≡ word block (2 * i)
  contents-words zero h = unfold contents in word_two b [] ∙ sym c.number
  contents-words (suc zero) h = unfold contents in ap₂ (λ (x y : ℕ). x + 256 * y) (sym c.kind) (sym c.count)
  contents-words (suc (suc v)) h =
      let e : 2 * suc (suc v) ≡ 4 + 2 * v = omega arith in
      rw e (contents-value b kind vs c.few v (omega arith) ∙ sym (c.values v (omega arith)))

  first-same : contents b kind vs ≡ take 510 block
  first-same =
      same-words 255 (contents b kind vs) (take 510 block) (contents-length b kind vs c.few) (length-take 510 block ∙ omega arith)
      (contents-below b kind vs c.few (omega (arith, c.number, word_small 0 (omega arith))) (omega (arith, c.kind, bytes 2 (omega arith))) values-small)
      (λ i h. rw (get_or-take 510 block i 0 (omega (arith, length-take 510 block))) (bytes i (omega (arith, length-take 510 block))))
      (λ i h. contents-words i h ∙ sym (ap₂ (λ (x y : ℕ). x + 256 * y) (get_or-take 510 block (2 * i) 0 (omega arith)) (get_or-take 510 block (suc (2 * i)) 0 (omega arith))))

  pub block-is : word block 510 ≡ block_check block → block_of b kind vs ≡ block
  unfolding block_of
  block-is right =
      let sum : ℕ = block_check (contents b kind vs) in
      let tail : two_bytes sum ≡ drop 510 block
      = same-words 1 (two_bytes sum) (drop 510 block) refl (length-drop 510 block ∙ omega arith) (two-below sum (unfold block_check in omega arith))
      (λ i h. rw (get_or-drop 510 block i 0) (bytes (510 + i) (omega (arith, length-drop 510 block))))
      (λ i h.
      let z : i ≡ 0 = omega arith in
      rw z (word_two sum [] ∙ check-same b kind vs c.few block (sym first-same) ∙ sym right ∙ sym (ap₂ (λ (x y : ℕ). x + 256 * y) (get_or-drop 510 block 0 0) (get_or-drop 510 block 1 0)))) in
      ap₂ (λ (x y : List ℕ). x ++ y) first-same tail ∙ take-append-drop 510 block

-- ---- what a block that is laid out has

pub record LaidOut (block : List ℕ) (b k n : ℕ) : Type 0 where
  pub number : word block 0 ≡ b
  pub kind : get_or block 2 0 ≡ k
  pub count : get_or block 3 0 ≡ n
  pub unused : (v : ℕ) → n ≤ v → v < 253 → value_in block v ≡ 0

pub laid_out_lem : (block : List ℕ) (b kind n : ℕ) → laid_out block b kind n ≡ true → LaidOut block b kind n
unfolding laid_out
laid_out_lem block b kind n e =
    let t4 = and_yes _ (not (eqb kind 2 && some_below (λ f. ltb (2 * f) n && ltb 5 (value_in block (2 * f + 1))) 126)) e in
    let left : ℕ → Bool = λ v. leb n v && not (eqb (value_in block v) 0) in
    let t3 = and_yes _ (not (some_below left 253)) t4.0 in
    let t2 = and_yes _ (eqb (get_or block 3 0) n) t3.0 in
    let t1 = and_yes (eqb (word block 0) b) (eqb (get_or block 2 0) kind) t2.0 in
    record {
      number = eqb-true (word block 0) b t1.0;
      kind = eqb-true (get_or block 2 0) kind t1.1;
      count = eqb-true (get_or block 3 0) n t2.1;
      unused = λ v h l.
          let off : left v ≡ false = none_below left 253 (not-true (some_below left 253) t3.1) v l in
          eqb-true (value_in block v) 0 (not-no (eqb (value_in block v) 0) (and_no (leb n v) (not (eqb (value_in block v) 0)) off (le-leb n v h)));
    }
