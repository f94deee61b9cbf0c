-- Document 01, "The stored job": blocks of 512 bytes, their check and layout, and reading. Assumes nothing.
use Rattle.std.specs.Prelude.{ℕ, zero, suc, ◌+◌, ◌-◌, ◌*◌, ◌/◌, ◌%◌, min, Bool, true, false, not, cond, ◌&&◌, List, [], ◌∷◌, map, length, get_or, take, drop, leb, ltb, eqb}
use Rattle.rules.specs.declared.Verdict.{Verdict}
use Rattle.rules.specs.declared.Header.{Header}
use Rattle.rules.specs.Numbers.{ReadFigures}
use Rattle.rules.specs.Lists.{up_to, some_below, onto}
use Rattle.rules.specs.Job.{Job, Limits}
use Rattle.rules.specs.Check.{is_done, Rows, none, ◌followed_by◌, row, first_given, count_rows, bad_k, content_rows}

-- ---- the check of a block

-- the sum of (i + 1) times byte i, where the first byte of the list is byte i
unfoldable pub weigh : ℕ → List ℕ → ℕ
weigh i [] = 0
weigh i (b ∷ bs) = suc i * b + weigh (suc i) bs

-- 21,845 plus the sum over the first 510, modulo 65,536
unfoldable pub block_check : List ℕ → ℕ
block_check block = (21845 + weigh 0 (take 510 block)) % 65536

-- ---- values

-- two bytes, low byte first
abbrev pub word : List ℕ → ℕ → ℕ
word bytes i = get_or bytes i 0 + 256 * get_or bytes (suc i) 0

abbrev pub block_at : List ℕ → ℕ → List ℕ
block_at bytes b = take 512 (drop (512 * b) bytes)

-- bytes 4 to 509 are up to 253 values
abbrev pub value_in : List ℕ → ℕ → ℕ
value_in block v = word block (4 + 2 * v)

-- value v of block b
abbrev pub value : List ℕ → ℕ → ℕ → ℕ
value bytes b v = value_in (block_at bytes b) v

-- six values: C, N, P, num, den, cap; a seventh is k, and six values mean k = 1 (document 02, order 6)
unfoldable pub header_of : List ℕ → Header
header_of bytes = record {
  files = value bytes 0 0;
  recipes = value bytes 0 1;
  pins = value bytes 0 2;
  num = value bytes 0 3;
  den = value bytes 0 4;
  cap = value bytes 0 5;
  k = cond (eqb (get_or (block_at bytes 0) 3 0) 7) (value bytes 0 6) 1;
}

-- ---- which blocks there are: kinds in order; only the last block of a kind may be short, and a kind with no values has none

-- how many blocks hold x things, m to a block
abbrev pub blocks_for : ℕ → ℕ → ℕ
blocks_for m x = (x + (m - 1)) / m

-- 126 files to a block, from block 1 on; then 253 bounds to a block; then 253 pins to a block
abbrev pub bounds_at : Header → ℕ
bounds_at h = 1 + blocks_for 126 h.files

abbrev pub pins_at : Header → ℕ
pins_at h = bounds_at h + blocks_for 253 (h.recipes + 1)

abbrev pub block_count : Header → ℕ
block_count h = pins_at h + blocks_for 253 h.pins

-- 1 header, 2 files, 3 bounds, 4 pins
abbrev pub kind_of : Header → ℕ → ℕ
kind_of h b = cond (eqb b 0) 1 (cond (ltb b (bounds_at h)) 2 (cond (ltb b (pins_at h)) 3 4))

-- the things in block k of a kind that has x of them, m to a block
abbrev pub held_in : ℕ → ℕ → ℕ → ℕ
held_in m x k = min m (x - m * k)

-- the header has six values where k is 1, and seven else
abbrev pub header_values : ℕ → ℕ
header_values k = cond (eqb k 1) 6 7

-- the count of values that block b must have: a file has two
abbrev pub values_in : Header → ℕ → ℕ
values_in h b =
    cond (eqb b 0) (header_values h.k)
    (cond (ltb b (bounds_at h)) (2 * held_in 126 h.files (b - 1))
    (cond (ltb b (pins_at h)) (held_in 253 (h.recipes + 1) (b - bounds_at h))
    (held_in 253 h.pins (b - pins_at h))))

-- ---- 21: a block's check is wrong; 22: its head or contents break the layout

-- a file's second value, side + 2·mark, over 5
abbrev pub over_second : ℕ → Bool
over_second v = ltb 5 v

-- bytes 0 and 1 the number, byte 2 the kind, byte 3 the count n, unused values zero, a file's second value not over 5
unfoldable pub laid_out : List ℕ → ℕ → ℕ → ℕ → Bool
laid_out block b kind n =
    eqb (word block 0) b && eqb (get_or block 2 0) kind && eqb (get_or block 3 0) n
    && not (some_below (λ v. leb n v && not (eqb (value_in block v) 0)) 253)
    && not (eqb kind 2 && some_below (λ f. ltb (2 * f) n && over_second (value_in block (2 * f + 1))) 126)

-- bytes 510 and 511 are not the check
abbrev pub bad_check : List ℕ → Bool
bad_check block = not (eqb (word block 510) (block_check block))

-- not block b as the header makes it
abbrev pub bad_layout : Header → List ℕ → ℕ → Bool
bad_layout h block b = not (laid_out block b (kind_of h b) (values_in h b))

abbrev pub block_rows : Header → List ℕ → ℕ → Rows
block_rows h bytes b = row 21 (bad_check (block_at bytes b)) b followed_by row 22 (bad_layout h (block_at bytes b) b) b

unfoldable pub block_verdict : Header → List ℕ → ℕ → Verdict
block_verdict h bytes b = first_given (block_rows h bytes b)

-- of the n blocks from b on
unfoldable pub further_rows : Header → List ℕ → ℕ → ℕ → Rows
further_rows h bytes b zero = none
further_rows h bytes b (suc n) = block_rows h bytes b followed_by further_rows h bytes (suc b) n

unfoldable pub blocks_verdict : Header → List ℕ → ℕ → ℕ → Verdict
blocks_verdict h bytes b n = first_given (further_rows h bytes b n)

-- ---- the job that is stored

-- a file's second value is side + 2·mark
unfoldable pub job_of : List ℕ → Job
job_of bytes =
    let h = header_of bytes in
    let size_at : ℕ → ℕ = λ i. value bytes (1 + i / 126) (2 * (i % 126)) in
    let second_at : ℕ → ℕ = λ i. value bytes (1 + i / 126) (2 * (i % 126) + 1) in
    record {
      sizes = map size_at (up_to h.files);
      sides = map (λ i. second_at i % 2) (up_to h.files);
      marks = map (λ i. second_at i / 2) (up_to h.files);
      bounds = map (λ i. value bytes (bounds_at h + i / 253) (i % 253)) (up_to (h.recipes + 1));
      pins = map (λ i. value bytes (pins_at h + i / 253) (i % 253)) (up_to h.pins);
      num = h.num;
      den = h.den;
      cap = h.cap;
      k = h.k;
    }

-- ---- reading

-- the five lists lent to the reader
pub record Room : Type 0 where
  pub sizes : List ℕ
  pub sides : List ℕ
  pub marks : List ℕ
  pub bounds : List ℕ
  pub pins : List ℕ

-- at least C sizes, C sides, C marks, N + 1 bounds and P pins
abbrev pub roomy : Header → Room → Bool
roomy h r =
    leb h.files (length r.sizes) && leb h.files (length r.sides) && leb h.files (length r.marks)
    && leb (h.recipes + 1) (length r.bounds) && leb h.pins (length r.pins)

-- ---- 20: stored job shorter or longer than it must be; and the order of reading

abbrev pub under_one : List ℕ → Bool
under_one bytes = ltb (length bytes) 512

-- total length not as the header makes it
abbrev pub wrong_total : Header → List ℕ → Bool
wrong_total h bytes = not (eqb (length bytes) (512 * block_count h))

-- under 512 bytes 20; block 0 check 21, layout 22, a seventh value that is no k 22; 1 and 2 from the header; 3 for a lent list too short;
-- total length not as the header makes it 20; each further block, 21 then 22
abbrev pub layout_rows : Limits → List ℕ → Room → Rows
layout_rows most bytes room =
    let h = header_of bytes in
    row 20 (under_one bytes) 0
    followed_by block_rows h bytes 0
    followed_by row 22 (bad_k h.k) 0
    followed_by count_rows most h.files h.recipes h.pins
    followed_by row 3 (not (roomy h room)) 0
    followed_by row 20 (wrong_total h bytes) 0
    followed_by further_rows h bytes 1 (block_count h - 1)

unfoldable pub layout_verdict : Limits → List ℕ → Room → Verdict
layout_verdict most bytes room = first_given (layout_rows most bytes room)

-- then 4 to 6: reading stops after check 6; the run of the job adds 7 to 10
abbrev pub read_rows : Limits → List ℕ → Room → Rows
read_rows most bytes room = layout_rows most bytes room followed_by content_rows (job_of bytes)

unfoldable pub read_verdict : Limits → List ℕ → Room → Verdict
read_verdict most bytes room = first_given (read_rows most bytes room)

-- what the reader answers and what its lists then hold: it writes the job's entries and no entry beyond
pub record Reading : Type 0 where
  pub answer : ReadFigures
  pub room : Room

abbrev pub written : Job → Room → Room
written job room = record {
  sizes = onto job.sizes room.sizes;
  sides = onto job.sides room.sides;
  marks = onto job.marks room.marks;
  bounds = onto job.bounds room.bounds;
  pins = onto job.pins room.pins;
}

abbrev pub no_header : Header
no_header = record { files = 0; recipes = 0; pins = 0; num = 0; den = 0; cap = 0; k = 0 }

unfoldable pub reading : Limits → List ℕ → Room → Reading
reading most bytes room =
    let v = read_verdict most bytes room in
    elim (is_done v) [
      | true ↦ record { answer = record { verdict = v; header = header_of bytes }; room = written (job_of bytes) room }
      | false ↦ record { answer = record { verdict = v; header = no_header }; room = room }
    ]
