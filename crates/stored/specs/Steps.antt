-- What the reader's inner steps promise one another; the promise of reading itself cites nothing here. Assumes nothing.
use Rattle.std.specs.Prelude.{◌≡◌, ℕ, ◌+◌, ◌-◌, ◌*◌, min, ◌%◌, ◌/◌, ◌<◌, ◌≤◌, Bool, not, cond, ◌&&◌, List, length, get_or, take, leb, ltb, eqb}
use Rattle.rules.specs.declared.Verdict.{Verdict}
use Rattle.rules.specs.declared.Header.{Header}
use Rattle.job.specs.declared.Job.{Job as Figures}
use Rattle.rules.specs.Job.{Job, Limits, as_job}
use Rattle.rules.specs.Check.{refuse_if, ◌or_else◌, bad_k, check_counts}
use Rattle.rules.specs.Stored.{Room, word, value_in, value, header_of, block_check, over_second, laid_out, bounds_at, pins_at, block_count, block_verdict, roomy}
use Rattle.stored.specs.declared.taken.TakenUp.{TakenUp}
use Rattle.stored.specs.Room.{lists_of}

-- value v is beyond the n that the block has, and is not zero
abbrev pub left_over : List ℕ → ℕ → ℕ → Bool
left_over block n v = leb n v && not (eqb (value_in block v) 0)

-- the second value of file f of a block of n values is over 5
abbrev pub bad_second : List ℕ → ℕ → ℕ → Bool
bad_second block n f = ltb (2 * f) n && over_second (value_in block (2 * f + 1))

-- the check of a block, then its layout
abbrev pub block_numbers : List ℕ → ℕ → ℕ → ℕ → Verdict
block_numbers block b kind n =
    refuse_if (not (eqb (word block 510) (block_check block))) 21 b
    or_else refuse_if (not (laid_out block b kind n)) 22 b

-- k of the header's block: its seventh value, and 1 where it has six
abbrev pub k_in : List ℕ → ℕ
k_in block = cond (eqb (get_or block 3 0) 7) (value_in block 6) 1

-- the six or seven values of the header's block
abbrev pub header_in : List ℕ → Header
header_in block = record {
  files = value_in block 0;
  recipes = value_in block 1;
  pins = value_in block 2;
  num = value_in block 3;
  den = value_in block 4;
  cap = value_in block 5;
  k = k_in block;
}

-- the n entries from a on are those of f, the others are as they were
pub record Put (f : ℕ → ℕ) (a n : ℕ) (old new : List ℕ) : Type 0 where
  pub long : length new ≡ length old
  pub put : (v : ℕ) → v < n → get_or new (a + v) 0 ≡ f v
  pub before : (i : ℕ) → i < a → get_or new i 0 ≡ get_or old i 0
  pub after : (i : ℕ) → a + n ≤ i → get_or new i 0 ≡ get_or old i 0

-- the first n entries are those of g, the others are as they were
pub record Taken (g : ℕ → ℕ) (n : ℕ) (old new : List ℕ) : Type 0 where
  pub long : length new ≡ length old
  pub taken : (i : ℕ) → i < n → get_or new i 0 ≡ g i
  pub after : (i : ℕ) → n ≤ i → get_or new i 0 ≡ get_or old i 0

-- entry i of a kind whose blocks start at block b, 253 values to a block
abbrev pub stored_value : List ℕ → ℕ → ℕ → ℕ
stored_value bytes b i = value bytes (b + i / 253) (i % 253)

-- the size, the side and the mark of file i
abbrev pub stored_size : List ℕ → ℕ → ℕ
stored_size bytes i = value bytes (1 + i / 126) (2 * (i % 126))

abbrev pub stored_side : List ℕ → ℕ → ℕ
stored_side bytes i = value bytes (1 + i / 126) (2 * (i % 126) + 1) % 2

abbrev pub stored_mark : List ℕ → ℕ → ℕ
stored_mark bytes i = value bytes (1 + i / 126) (2 * (i % 126) + 1) / 2

-- of a room that was old, the blocks before block b are taken: files first, then bounds, then pins
pub record TakenTo (bytes : List ℕ) (h : Header) (b : ℕ) (old new : Room) : Type 0 where
  pub sizes : Taken (stored_size bytes) (min (126 * (b - 1)) h.files) old.sizes new.sizes
  pub sides : Taken (stored_side bytes) (min (126 * (b - 1)) h.files) old.sides new.sides
  pub marks : Taken (stored_mark bytes) (min (126 * (b - 1)) h.files) old.marks new.marks
  pub bounds : Taken (stored_value bytes (bounds_at h)) (min (253 * (b - bounds_at h)) (h.recipes + 1)) old.bounds new.bounds
  pub pins : Taken (stored_value bytes (pins_at h)) (min (253 * (b - pins_at h)) h.pins) old.pins new.pins

-- block b is taken too
abbrev pub TakesBlock : List ℕ → Header → ℕ → Room → Room → Type 0
TakesBlock bytes h b old new = (first : Room) → TakenTo bytes h b first old → TakenTo bytes h (b + 1) first new

-- 22 for k, then 1 to 3, in the order of layout_verdict
abbrev pub figures_verdict : Limits → Header → Room → Verdict
figures_verdict most h room =
    refuse_if (bad_k h.k) 22 0
    or_else check_counts most h.files h.recipes h.pins
    or_else refuse_if (not (roomy h room)) 3 0

-- block 0, in the order of layout_verdict
abbrev pub header_verdict : List ℕ → Verdict
header_verdict bytes = refuse_if (ltb (length bytes) 512) 20 0 or_else block_verdict (header_of bytes) bytes 0

-- block 0 and what follows from its header, in the order of layout_verdict
unfoldable pub opening_verdict : Limits → List ℕ → Room → Verdict
opening_verdict most bytes room =
    let h = header_of bytes in
    refuse_if (ltb (length bytes) 512) 20 0
    or_else block_verdict h bytes 0
    or_else figures_verdict most h room
    or_else refuse_if (not (eqb (length bytes) (512 * block_count h))) 20 0

-- the figures are within the limits
pub record Allowed (most : Limits) (h : Header) : Type 0 where
  pub some-files : 0 < h.files
  pub some-recipes : 0 < h.recipes
  pub few-files : h.files ≤ most.files
  pub few-recipes : h.recipes ≤ most.recipes
  pub few-pins : h.pins ≤ most.pins

-- the lists have an entry for each of the c files, n recipes and p pins
pub record Ample (c n p : ℕ) (r : Room) : Type 0 where
  pub sizes : c ≤ length r.sizes
  pub sides : c ≤ length r.sides
  pub marks : c ≤ length r.marks
  pub bounds : n + 1 ≤ length r.bounds
  pub pins : p ≤ length r.pins

-- the figures that a stored job's header has
abbrev pub figures_in : Header → Figures
figures_in h = record { num = h.num; den = h.den; cap = h.cap; k = h.k }

-- the job of the first entries
abbrev pub first_of : Header → Room → Job
first_of h r =
    as_job (take h.files r.sizes) (take h.files r.sides) (take h.files r.marks) (take (h.recipes + 1) r.bounds) (take h.pins r.pins)
    h.num h.den h.cap h.k

-- the job that was taken up, and that there is one, within the limits
abbrev pub job_taken : TakenUp → Job
job_taken t = first_of t.header (lists_of t)

pub record Held (most : Limits) (t : TakenUp) : Type 0 where
  pub enough : Ample t.header.files t.header.recipes t.header.pins (lists_of t)
  pub few_files : t.header.files ≤ most.files
  pub few_recipes : t.header.recipes ≤ most.recipes
  pub few_pins : t.header.pins ≤ most.pins
