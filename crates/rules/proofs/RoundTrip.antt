-- Reading what was written gives the same job, and what is read is written back byte for byte. Assumes nothing.
use mathlib.Core.Path.{◌≡◌, refl, sym, ap, ap₂, ◌∙◌}
use Prim.Native.Nat.{ℕ, zero, suc, ◌+◌, ◌-◌, ◌*◌, ◌/◌, ◌%◌, ◌≤◌, ◌<◌, min}
use mathlib.Core.Bool.{Bool, true, false, not, cond}
use mathlib.Core.List.{List, map}
use native.Mathlib.Decide.{ℕ_discrete, dec_lt}
use native.Mathlib.Nat.{add-zero}
use native.Mathlib.Omega.{arith}
use lib.Dec.{ltb, eqb}
use lib.ListN.{length, get_or, drop, length-take, length-drop, get_or-eq_default}
use lib.Seq.{ext_get_or}
use borrow.Author.Tests.{eqb-true, eq-eqb, ne_eqb, lt-ltb, le-ltb}
use Rattle.rules.specs.declared.Header.{Header}
use Rattle.rules.specs.declared.Verdict.{Verdict}
use Rattle.rules.specs.Lists.{up_to, in_turn, AllBelow}
use Rattle.rules.specs.Job.{Job, Limits, TwoByte, file_count, recipe_count, pin_count, bound, pin}
use Rattle.rules.specs.Split.{size_of}
use Rattle.rules.specs.Check.{done, refuse_if, ◌or_else◌, bad_k, check_counts, check_lists, check_lengths, check_contents, check_sound}
use Rattle.rules.specs.Stored.{block_check, word, block_at, value_in, value, header_of, bounds_at, pins_at, block_count, kind_of, header_values, values_in, laid_out, block_verdict, blocks_verdict, job_of, Room, roomy, layout_verdict, read_verdict, written, reading}
use Rattle.rules.specs.Writing.{block_of, header_for, header_figures, file_value, job_value, job_values, job_block, blocks_of, check_written}
use Rattle.rules.specs.Theorems.{Sound}
use Rattle.rules.specs.RoundTrip.{BlocksHold, BackHolds}
use Rattle.rules.proofs.Tests.{not-no}
use Rattle.rules.proofs.Verdicts.{chain-go, passes-both, both-pass, refuse-go, not-refused}
use Rattle.rules.proofs.Count.{get_d-tabled, length-tabled}
use Rattle.rules.proofs.Entries.{below-any}
use Rattle.rules.proofs.SoundJob.{good-k, fine-k, sound}
use Rattle.rules.proofs.Blocks.{blocks-pass, blocks-each}
use Rattle.rules.proofs.Refusals.{layout-chain, read-chain}
use Rattle.rules.proofs.Reading.{read-files, read-recipes, read-pins, part_small, value-small, read-writes, read-holds}
use Rattle.rules.proofs.Proved.{plain-contents}
use Rattle.rules.proofs.InTurn.{in_turn-length, in_turn-part, in_turn-is, in_turn-below}
use Rattle.rules.proofs.Words.{block-length, block-check, block-value, block-below, block-laid, block-is, laid_out_lem}

-- a list is given by its entries
tabled-is : (g : ℕ → ℕ) (n : ℕ) (xs : List ℕ) → length xs ≡ n → ((i : ℕ) → i < n → g i ≡ get_or xs i 0) → map g (up_to n) ≡ xs
tabled-is g n xs e same =
    ext_get_or 0 (map g (up_to n)) xs (length-tabled g n ∙ sym e)
    (λ i h. let l : i < n = omega (arith, length-tabled g n) in get_d-tabled g n i 0 l ∙ same i l)

-- ---- kinds in order

module _ (h : Header) (b : ℕ) where
  -- what kind_of, values_in and job_value choose by
  abbrev by_kind {ℓ} : {A : Type ℓ} → A → A → A → A → A
  by_kind x y z w = cond (eqb b 0) x (cond (ltb b (bounds_at h)) y (cond (ltb b (pins_at h)) z w))

  in-header {ℓ} : {A : Type ℓ} (x y z w : A) → b ≡ 0 → by_kind x y z w ≡ x
  in-header x y z w e = rw (eq-eqb b 0 e) refl

  in-files {ℓ} : {A : Type ℓ} (x y z w : A) → 1 ≤ b → b < bounds_at h → by_kind x y z w ≡ y
  in-files x y z w some l = rw (ne_eqb b 0 (λ e. omega arith), lt-ltb b (bounds_at h) l) refl

  in_bounds {ℓ} : {A : Type ℓ} (x y z w : A) → bounds_at h ≤ b → b < pins_at h → by_kind x y z w ≡ z
  in_bounds x y z w k l = rw (ne_eqb b 0 (λ e. omega arith), le-ltb b (bounds_at h) k, lt-ltb b (pins_at h) l) refl

  in-pins {ℓ} : {A : Type ℓ} (x y z w : A) → pins_at h ≤ b → by_kind x y z w ≡ w
  in-pins x y z w k = rw (ne_eqb b 0 (λ e. omega arith), le-ltb b (bounds_at h) (omega arith), le-ltb b (pins_at h) k) refl

  -- a block is of one kind
  by-kinds {ℓ} : {P : Type ℓ} → (b ≡ 0 → P) → (1 ≤ b → b < bounds_at h → P) → (bounds_at h ≤ b → b < pins_at h → P) → (pins_at h ≤ b → P) → P
  by-kinds one two three four = elim (ℕ_discrete b 0) [
    | yes e ↦ one e
    | no z ↦ elim (dec_lt b (bounds_at h)) [
      | yes l ↦ two (omega arith) l
      | no k ↦ elim (dec_lt b (pins_at h)) [
        | yes l ↦ three (omega arith) l
        | no m ↦ four (omega arith)
      ]
    ]
  ]

  pub kind-small : kind_of h b < 256
  kind-small = go (eqb b 0) (ltb b (bounds_at h)) (ltb b (pins_at h))
    where
      go : (x y z : Bool) → cond x 1 (cond y 2 (cond z 3 4)) < 256
      go true y z = omega arith
      go false true z = omega arith
      go false false true = omega arith
      go false false false = omega arith

  pub few-values : values_in h b ≤ 253
  few-values = go (eqb h.k 1) (eqb b 0) (ltb b (bounds_at h)) (ltb b (pins_at h)) (h.files - 126 * (b - 1)) (h.recipes + 1 - 253 * (b - bounds_at h)) (h.pins - 253 * (b - pins_at h))
    where
      go : (s x y z : Bool) (k l m : ℕ) → cond x (cond s 6 7) (cond y (2 * min 126 k) (cond z (min 253 l) (min 253 m))) ≤ 253
      go true true y z k l m = omega arith
      go false true y z k l m = omega arith
      go s false true z k l m = omega arith
      go s false false true k l m = omega arith
      go s false false false k l m = omega arith

  -- how many values it has
  pub files-held : 1 ≤ b → b < bounds_at h → values_in h b ≡ 2 * min 126 (h.files - 126 * (b - 1))
  files-held some l = in-files _ _ _ _ some l

  pub bounds-held : bounds_at h ≤ b → b < pins_at h → values_in h b ≡ min 253 (h.recipes + 1 - 253 * (b - bounds_at h))
  bounds-held k l = in_bounds _ _ _ _ k l

  pub pins-held : pins_at h ≤ b → values_in h b ≡ min 253 (h.pins - 253 * (b - pins_at h))
  pins-held k = in-pins _ _ _ _ k

-- a header has six values, or seven
pub six-or-seven : (k : ℕ) → (6 ≤ header_values k) × (header_values k ≤ 7)
six-or-seven k = go (eqb k 1)
  where
    go : (b : Bool) → (6 ≤ cond b 6 7) × (cond b 6 7 ≤ 7)
    go true = (omega arith, omega arith)
    go false = (omega arith, omega arith)

-- ---- the blocks of a job

module _ (job : Job) where
  abbrev head : Header
  head = header_for job

  -- which values they are
  pub figure-at : (v : ℕ) → job_value job 0 v ≡ get_or (header_figures head) v 0
  unfolding job_value
  figure-at v = refl

  pub file-at : (b v : ℕ) → 1 ≤ b → b < bounds_at head → job_value job b v ≡ file_value job (126 * (b - 1) + v / 2) (v % 2)
  unfolding job_value
  file-at b v some l = in-files head b _ _ _ _ some l

  pub bound_at : (b v : ℕ) → bounds_at head ≤ b → b < pins_at head → job_value job b v ≡ bound job (253 * (b - bounds_at head) + v)
  unfolding job_value
  bound_at b v k l = in_bounds head b _ _ _ _ k l

  pub pin_at : (b v : ℕ) → pins_at head ≤ b → job_value job b v ≡ pin job (253 * (b - pins_at head) + v)
  unfolding job_value
  pin_at b v k = in-pins head b _ _ _ _ k

  values-few : (b : ℕ) → length (job_values job b) ≤ 253
  values-few b = omega (arith, length-tabled (job_value job b) (values_in head b), few-values head b)

  pub job-block-length : (b : ℕ) → length (job_block job b) ≡ 512
  unfolding job_block
  job-block-length b = block-length b (kind_of head b) (job_values job b) (values-few b)

  pub blocks-length : length (blocks_of job) ≡ 512 * block_count head
  blocks-length = in_turn-length 512 (job_block job) job-block-length (block_count head)

  -- block b of the blocks
  block-at : (b : ℕ) → b < block_count head → block_at (blocks_of job) b ≡ job_block job b
  block-at b h = in_turn-part 512 (job_block job) job-block-length (block_count head) b h

  -- value v of block b is the job's
  stored-value : (b v : ℕ) → b < block_count head → v < values_in head b → value (blocks_of job) b v ≡ job_value job b v
  unfolding job_block
  stored-value b v h l =
      ap (λ (block : List ℕ). value_in block v) (block-at b h)
      ∙ block-value b (kind_of head b) (job_values job b) (values-few b) v (omega (arith, few-values head b))
      ∙ get_d-tabled (job_value job b) (values_in head b) v 0 l

  -- ---- read back, value by value

  stored-figure : (v : ℕ) → v < header_values job.k → value (blocks_of job) 0 v ≡ get_or (header_figures head) v 0
  stored-figure v h = stored-value 0 v (omega arith) h ∙ figure-at v

  stored-six : (v : ℕ) → v < 6 → value (blocks_of job) 0 v ≡ get_or (header_figures head) v 0
  stored-six v h = stored-figure v (omega (arith, (six-or-seven job.k).0))

  -- the count of values of block 0
  stored-count : get_or (block_at (blocks_of job) 0) 3 0 ≡ header_values job.k
  unfolding job_block
  stored-count =
      ap (λ (block : List ℕ). get_or block 3 0) (block-at 0 (omega arith))
      ∙ (laid_out_lem (block_of 0 1 (job_values job 0)) 0 1 (length (job_values job 0)) (block-laid 0 1 (job_values job 0) (values-few 0) (λ e. absurd (omega (arith, e))))).count
      ∙ length-tabled (job_value job 0) (header_values job.k)

  -- k, which is 1 where it is left out
  stored-k : cond (eqb (get_or (block_at (blocks_of job) 0) 3 0) 7) (value (blocks_of job) 0 6) 1 ≡ job.k
  stored-k = elim (ℕ_discrete job.k 1) [
    | yes e ↦
        let six : header_values job.k ≡ 6 = rw (eq-eqb job.k 1 e) refl in
        rw (stored-count ∙ six) (sym e)
    | no n ↦
        let seven : header_values job.k ≡ 7 = rw (ne_eqb job.k 1 n) refl in
        rw (stored-count ∙ seven) (stored-figure 6 (omega arith))
  ]

  stored-file : (i v : ℕ) → i < file_count job → v < 2 → value (blocks_of job) (1 + i / 126) (2 * (i % 126) + v) ≡ file_value job i v
  stored-file i v h l =
      let b : ℕ = 1 + i / 126 in
      let w : ℕ = 2 * (i % 126) + v in
      let k : b < bounds_at head = omega arith in
      let f : 126 * (b - 1) + w / 2 ≡ i = omega arith in
      let t : w % 2 ≡ v = omega arith in
      stored-value b w (omega arith) (rw (files-held head b (omega arith) k) (omega arith)) ∙ file-at b w (omega arith) k ∙ ap₂ (λ (x y : ℕ). file_value job x y) f t

  stored-bound : (i : ℕ) → i < recipe_count job + 1 → value (blocks_of job) (bounds_at head + i / 253) (i % 253) ≡ bound job i
  stored-bound i h =
      let b : ℕ = bounds_at head + i / 253 in
      let k : b < pins_at head = omega arith in
      let f : 253 * (b - bounds_at head) + i % 253 ≡ i = omega arith in
      stored-value b (i % 253) (omega arith) (rw (bounds-held head b (omega arith) k) (omega arith)) ∙ bound_at b (i % 253) (omega arith) k ∙ ap (bound job) f

  stored-pin : (i : ℕ) → i < pin_count job → value (blocks_of job) (pins_at head + i / 253) (i % 253) ≡ pin job i
  stored-pin i h =
      let b : ℕ = pins_at head + i / 253 in
      let f : 253 * (b - pins_at head) + i % 253 ≡ i = omega arith in
      stored-value b (i % 253) (omega arith) (rw (pins-held head b (omega arith)) (omega arith)) ∙ pin_at b (i % 253) (omega arith) ∙ ap (pin job) f

  pub stored-header : header_of (blocks_of job) ≡ head
  unfolding header_of
  stored-header = λ i. record {
    files = stored-six 0 (omega arith) i;
    recipes = stored-six 1 (omega arith) i;
    pins = stored-six 2 (omega arith) i;
    num = stored-six 3 (omega arith) i;
    den = stored-six 4 (omega arith) i;
    cap = stored-six 5 (omega arith) i;
    k = stored-k i;
  }

-- ---- a job that passes 1 to 6 is read back

module _ (most : Limits) (job : Job) (s : Sound most job) where
  some-bounds : length job.bounds ≡ recipe_count job + 1
  some-bounds = omega (arith, s.some_recipe)

  -- the job that is stored, with the header's figures apart from the bytes
  abbrev stored_by : Header → Job
  stored_by h =
      let at : ℕ → ℕ → ℕ = value (blocks_of job) in
      record {
        sizes = map (λ i. at (1 + i / 126) (2 * (i % 126))) (up_to h.files);
        sides = map (λ i. at (1 + i / 126) (2 * (i % 126) + 1) % 2) (up_to h.files);
        marks = map (λ i. at (1 + i / 126) (2 * (i % 126) + 1) / 2) (up_to h.files);
        bounds = map (λ i. at (bounds_at h + i / 253) (i % 253)) (up_to (h.recipes + 1));
        pins = map (λ i. at (pins_at h + i / 253) (i % 253)) (up_to h.pins);
        num = h.num;
        den = h.den;
        cap = h.cap;
        k = h.k;
      }

  stored-size : (i : ℕ) → i < file_count job → value (blocks_of job) (1 + i / 126) (2 * (i % 126)) ≡ size_of job i
  stored-size i l = ap (λ (v : ℕ). value (blocks_of job) (1 + i / 126) v) (sym (add-zero (2 * (i % 126)))) ∙ stored-file job i 0 l (omega arith)

  stored-side : (i : ℕ) → i < file_count job → value (blocks_of job) (1 + i / 126) (2 * (i % 126) + 1) % 2 ≡ get_or job.sides i 0
  stored-side i l = omega (arith, stored-file job i 1 l (omega arith), s.binary i)

  stored-mark : (i : ℕ) → i < file_count job → value (blocks_of job) (1 + i / 126) (2 * (i % 126) + 1) / 2 ≡ get_or job.marks i 0
  stored-mark i l = omega (arith, stored-file job i 1 l (omega arith), s.binary i)

  pub stored-job : job_of (blocks_of job) ≡ job
  unfolding job_of
  stored-job = ap stored_by (stored-header job) ∙ (λ t. record {
    sizes = tabled-is _ (file_count job) job.sizes refl stored-size t;
    sides = tabled-is _ (file_count job) job.sides s.sides_long stored-side t;
    marks = tabled-is _ (file_count job) job.marks s.marks_long stored-mark t;
    bounds = tabled-is _ (recipe_count job + 1) job.bounds some-bounds (stored-bound job) t;
    pins = tabled-is _ (pin_count job) job.pins refl (stored-pin job) t;
    num = job.num;
    den = job.den;
    cap = job.cap;
    k = job.k;
  })

  -- ---- its blocks pass

  -- a file's second value is not over 5
  seconds-small : (b f : ℕ) → kind_of (header_for job) b ≡ 2 → 2 * f < length (job_values job b) → get_or (job_values job b) (2 * f + 1) 0 ≤ 5
  seconds-small b f k l =
      let h : Header = header_for job in
      let n : length (job_values job b) ≡ values_in h b = length-tabled (job_value job b) (values_in h b) in
      by-kinds h b
      (λ e. absurd (omega (arith, k, in-header h b {A = ℕ} 1 2 3 4 e)))
      (λ some m.
      let g : ℕ = 126 * (b - 1) + (2 * f + 1) / 2 in
      let held = files-held h b some m in
      let odd : (2 * f + 1) % 2 ≡ 1 = omega arith in
      rw (get_d-tabled (job_value job b) (values_in h b) (2 * f + 1) 0 (omega arith), file-at job b (2 * f + 1) some m, odd) (omega (arith, s.binary g, s.marks g)))
      (λ m r. absurd (omega (arith, k, in_bounds h b {A = ℕ} 1 2 3 4 m r)))
      (λ m. absurd (omega (arith, k, in-pins h b {A = ℕ} 1 2 3 4 m)))

  block-passes : (b : ℕ) → b < block_count (header_for job) → (block_verdict (header_for job) (blocks_of job) b).number ≡ 0
  unfolding block_verdict job_block
  block-passes b l =
      let h : Header = header_for job in
      let kind : ℕ = kind_of h b in
      let vs : List ℕ = job_values job b in
      let block : List ℕ = block_of b kind vs in
      let right : eqb (word block 510) (block_check block) ≡ true = eq-eqb (word block 510) (block_check block) (block-check b kind vs (values-few job b)) in
      let laid : laid_out block b kind (values_in h b) ≡ true
      = rw (length-tabled (job_value job b) (values_in h b)) at (block-laid b kind vs (values-few job b) (λ k f m. seconds-small b f k m)) in
      rw (block-at job b l)
      (both-pass (refuse_if (not (eqb (word block 510) (block_check block))) 21 b) (refuse_if (not (laid_out block b kind (values_in h b))) 22 b)
      (ap (λ (t : Bool). (refuse_if (not t) 21 b).number) right) (ap (λ (t : Bool). (refuse_if (not t) 22 b).number) laid))

-- ---- reading them

module _ (most : Limits) (job : Job) (ok : (check_written most job true).number ≡ 0) where
  parts : ((check_sound most job true).number ≡ 0) × ((refuse_if (bad_k job.k) 7 0).number ≡ 0)
  unfolding check_written check_sound
  parts = passes-both (check_sound most job true) (refuse_if (bad_k job.k) 7 0) ok

  abbrev fine : Sound most job
  fine = sound most job true parts.0

  wide : bad_k job.k ≡ false
  wide = fine-k job.k (good-k job.k 6 parts.1)

  -- 1, 2 and 4 to 6, of the header's figures and of the job
  parts-pass : ((check_counts most (file_count job) (recipe_count job) (pin_count job)).number ≡ 0) × ((check_contents job).number ≡ 0)
  unfolding check_sound check_lengths check_counts check_lists check_contents
  parts-pass =
      let a = passes-both (check_lengths most job true) (check_contents job) parts.0 in
      ((passes-both (check_counts most (file_count job) (recipe_count job) (pin_count job)) (check_lists job true) a.0).0, a.1)

  -- the length and the further blocks
  abbrev further : Verdict
  further =
      let bytes = blocks_of job in
      refuse_if (not (eqb (length bytes) (512 * block_count (header_for job)))) 20 0 or_else blocks_verdict (header_for job) bytes 1 (block_count (header_for job) - 1)

  further-passes : further.number ≡ 0
  further-passes =
      let h : Header = header_for job in
      let bytes : List ℕ = blocks_of job in
      both-pass (refuse_if (not (eqb (length bytes) (512 * block_count h))) 20 0) (blocks_verdict h bytes 1 (block_count h - 1))
      (ap (λ (t : Bool). (refuse_if (not t) 20 0).number) (eq-eqb (length bytes) (512 * block_count h) (blocks-length job)))
      (blocks-pass h bytes 1 (block_count h - 1) (λ b k l. block-passes most job fine b (omega arith)))

  -- all before the room is looked at passes
  layout_is : (room : Room) → layout_verdict most (blocks_of job) room ≡ (refuse_if (not (roomy (header_for job) room)) 3 0 or_else further)
  layout_is room =
      let enough : ltb (length (blocks_of job)) 512 ≡ false = le-ltb (length (blocks_of job)) 512 (omega (arith, blocks-length job)) in
      layout-chain most (blocks_of job) room ∙ rw (stored-header job)
      (sym (refuse-go 20 0 enough (chain-go refl (block-passes most job fine 0 (omega arith)) (refuse-go 22 0 wide (chain-go refl parts-pass.0 refl)))))

  blocks-verdict : (room : Room) → read_verdict most (blocks_of job) room ≡ refuse_if (not (roomy (header_for job) room)) 3 0
  blocks-verdict room =
      read-chain most (blocks_of job) room ∙ ap₂ (λ (v w : Verdict). v or_else w) (layout_is room) (ap check_contents (stored-job most job fine)) ∙ go (roomy (header_for job) room)
    where
      go : (b : Bool) → ((refuse_if (not b) 3 0 or_else further) or_else check_contents job) ≡ refuse_if (not b) 3 0
      go true = sym (chain-go refl further-passes (sym (plain-contents job parts-pass.1)))
      go false = refl

  pub blocks-read : (room : Room) → roomy (header_for job) room ≡ true
      → reading most (blocks_of job) room ≡ record { answer = record { verdict = done; header = header_for job }; room = written job room }
  blocks-read room enough =
      let z : read_verdict most (blocks_of job) room ≡ done = blocks-verdict room ∙ ap (λ (b : Bool). refuse_if (not b) 3 0) enough in
      (read-holds most (blocks_of job) room).reads (ap (λ (v : Verdict). v.number) z)
      ∙ (λ t. record { answer = record { verdict = z t; header = stored-header job t }; room = written (stored-job most job fine t) room })

-- ---- each byte is one

module _ (most : Limits) (job : Job) (s : Sound most job) (small : TwoByte job) (few : file_count job < 65536) where
  -- the last bound is P, and each recipe has two pins
  pins-few : pin_count job < 65536
  pins-few = omega (arith, s.last, small.bounds (recipe_count job) (omega (arith, s.some_recipe)))

  twice : (j : ℕ) → j ≤ recipe_count job → 2 * j ≤ bound job j
  twice zero h = omega arith
  twice (suc j) h = omega (arith, twice j (omega arith), s.two j h)

  recipes-few : recipe_count job < 65536
  recipes-few = omega (arith, twice (recipe_count job) (omega arith), s.last, pins-few)

  figures-small : (v : ℕ) → v < 7 → get_or (header_figures (header_for job)) v 0 < 65536
  figures-small zero h = few
  figures-small (suc zero) h = recipes-few
  figures-small (suc (suc zero)) h = pins-few
  figures-small (suc (suc (suc zero))) h = small.num
  figures-small (suc (suc (suc (suc zero)))) h = small.den
  figures-small (suc (suc (suc (suc (suc zero))))) h = small.cap
  figures-small (suc (suc (suc (suc (suc (suc zero)))))) h = small.k
  figures-small (suc (suc (suc (suc (suc (suc (suc v))))))) h = absurd (omega arith)

  file-small : (f v : ℕ) → file_value job f v < 65536
  file-small f v = go (eqb v 0)
    where
      go : (b : Bool) → cond b (size_of job f) (get_or job.sides f 0 + 2 * get_or job.marks f 0) < 65536
      go true = below-any 65536 job.sizes (omega arith) small.sizes f
      go false = omega (arith, s.binary f, s.marks f)

  job-value-small : (b v : ℕ) → v < values_in (header_for job) b → job_value job b v < 65536
  job-value-small b v l =
      let h : Header = header_for job in
      by-kinds h b
      (λ e. rw (e, figure-at job v) (figures-small v (omega (arith, (six-or-seven job.k).1, rw e at l))))
      (λ some m. rw (file-at job b v some m) (file-small (126 * (b - 1) + v / 2) (v % 2)))
      (λ m r. rw (bound_at job b v m r) (below-any 65536 job.bounds (omega arith) small.bounds (253 * (b - bounds_at h) + v)))
      (λ m. rw (pin_at job b v m) (below-any 65536 job.pins (omega arith) small.pins (253 * (b - pins_at h) + v)))

  job-blocks-bytes : AllBelow 256 (blocks_of job)
  job-blocks-bytes =
      let h : Header = header_for job in
      in_turn-below 256 (job_block job) (block_count h)
      (λ b l.
      let number : b < 65536 = omega (arith, pins-few, recipes-few) in
      let values : AllBelow 65536 (job_values job b)
      = λ v k.
      let m : v < values_in h b = omega (arith, length-tabled (job_value job b) (values_in h b)) in
      rw (get_d-tabled (job_value job b) (values_in h b) v 0 m) (job-value-small b v m) in
      bytes_of b number values)
    where
      bytes_of : (b : ℕ) → b < 65536 → AllBelow 65536 (job_values job b) → AllBelow 256 (job_block job b)
      bytes_of b n p = unfold job_block in block-below b (kind_of (header_for job) b) (job_values job b) (values-few job b) n (kind-small (header_for job) b) p

pub blocks-hold : (most : Limits) (job : Job) → (check_written most job true).number ≡ 0 → BlocksHold most job
blocks-hold most job ok =
    let s : Sound most job = fine most job ok in
    record {
      long = blocks-length job;
      bytes = job-blocks-bytes most job s;
      header = stored-header job;
      same = stored-job most job s;
      verdict = blocks-verdict most job ok;
      reads = blocks-read most job ok;
    }

-- ---- what is read is written back

-- the header of the job that is read is the header read
pub read-header : (bytes : List ℕ) → header_for (job_of bytes) ≡ header_of bytes
read-header bytes =
    λ t. record {
      files = read-files bytes t;
      recipes = read-recipes bytes t;
      pins = read-pins bytes t;
      num = own.0 t;
      den = own.1 t;
      cap = own.2 t;
      k = own.3 t;
    }
  where
    own : ((job_of bytes).num ≡ (header_of bytes).num) × ((job_of bytes).den ≡ (header_of bytes).den) × ((job_of bytes).cap ≡ (header_of bytes).cap) × ((job_of bytes).k ≡ (header_of bytes).k)
    own = unfold job_of in (refl, refl, refl, refl)

-- C is two bytes
pub read-few : (bytes : List ℕ) → AllBelow 256 bytes → file_count (job_of bytes) < 65536
unfolding header_of
read-few bytes small = rw (read-files bytes) (value-small bytes small 0 0)

-- an accepted file: as long as its header makes it, and each block passes
module _ (most : Limits) (bytes : List ℕ) (room : Room) (ok : (read_verdict most bytes room).number ≡ 0) where
  read-blocks : (length bytes ≡ 512 * block_count (header_of bytes)) × ((b : ℕ) → b < block_count (header_of bytes) → (block_verdict (header_of bytes) bytes b).number ≡ 0)
  unfolding read_verdict layout_verdict block_verdict blocks_verdict check_counts check_contents
  read-blocks =
      let h : Header = header_of bytes in
      let a = passes-both (layout_verdict most bytes room) (check_contents (job_of bytes)) ok in
      let b = passes-both (refuse_if (ltb (length bytes) 512) 20 0) _ a.0 in
      let c = passes-both (block_verdict h bytes 0) _ b.1 in
      let w = passes-both (refuse_if (bad_k h.k) 22 0) _ c.1 in
      let d = passes-both (check_counts most h.files h.recipes h.pins) _ w.1 in
      let f = passes-both (refuse_if (not (roomy h room)) 3 0) _ d.1 in
      let g = passes-both (refuse_if (not (eqb (length bytes) (512 * block_count h))) 20 0) (blocks_verdict h bytes 1 (block_count h - 1)) f.1 in (
        eqb-true (length bytes) (512 * block_count h) (not-no _ (not-refused (not (eqb (length bytes) (512 * block_count h))) 19 0 g.0)),
        (λ i l. elim (ℕ_discrete i 0) [
          | yes z ↦ rw z c.0
          | no z ↦ blocks-each h bytes 1 (block_count h - 1) g.1 i (omega arith) (omega arith)
        ]),
      )

  pub read_length : length bytes ≡ 512 * block_count (header_for (job_of bytes))
  read_length = read-blocks.0 ∙ ap (λ (h : Header). 512 * block_count h) (sym (read-header bytes))

  -- value by value
  module _ (i : ℕ) where
    size-read : i < (header_of bytes).files → size_of (job_of bytes) i ≡ value bytes (1 + i / 126) (2 * (i % 126))
    unfolding job_of
    size-read l = get_d-tabled _ (header_of bytes).files i 0 l

    second-read : i < (header_of bytes).files → get_or (job_of bytes).sides i 0 + 2 * get_or (job_of bytes).marks i 0 ≡ value bytes (1 + i / 126) (2 * (i % 126) + 1)
    unfolding job_of
    second-read l =
        let x : ℕ = value bytes (1 + i / 126) (2 * (i % 126) + 1) in
        let back : x % 2 + 2 * (x / 2) ≡ x = omega arith in
        ap₂ (λ (a b : ℕ). a + 2 * b) (get_d-tabled _ (header_of bytes).files i 0 l) (get_d-tabled _ (header_of bytes).files i 0 l) ∙ back

    bound-read : i < (header_of bytes).recipes + 1 → bound (job_of bytes) i ≡ value bytes (bounds_at (header_of bytes) + i / 253) (i % 253)
    unfolding job_of
    bound-read l = get_d-tabled _ ((header_of bytes).recipes + 1) i 0 l

    pin-read : i < (header_of bytes).pins → pin (job_of bytes) i ≡ value bytes (pins_at (header_of bytes) + i / 253) (i % 253)
    unfolding job_of
    pin-read l = get_d-tabled _ (header_of bytes).pins i 0 l

  -- a seventh value is k
  k-read : 6 < header_values (header_of bytes).k → (header_of bytes).k ≡ value bytes 0 6
  unfolding header_of
  k-read h = go (eqb (get_or (block_at bytes 0) 3 0) 7) h
    where
      go : (b : Bool) → 6 < cond (eqb (cond b (value bytes 0 6) 1) 1) 6 7 → cond b (value bytes 0 6) 1 ≡ value bytes 0 6
      go true l = refl
      go false l = absurd (omega arith)

  figures-read : (v : ℕ) → v < header_values (header_of bytes).k → get_or (header_figures (header_of bytes)) v 0 ≡ value bytes 0 v
  unfolding header_of
  figures-read zero h = refl
  figures-read (suc zero) h = refl
  figures-read (suc (suc zero)) h = refl
  figures-read (suc (suc (suc zero))) h = refl
  figures-read (suc (suc (suc (suc zero)))) h = refl
  figures-read (suc (suc (suc (suc (suc zero))))) h = refl
  figures-read (suc (suc (suc (suc (suc (suc zero)))))) h = k-read h
  figures-read (suc (suc (suc (suc (suc (suc (suc v))))))) h = absurd (omega (arith, (six-or-seven (header_of bytes).k).1))

  file-read : (b v f : ℕ) → f < (header_of bytes).files → 1 + f / 126 ≡ b → 2 * (f % 126) + v % 2 ≡ v → file_value (job_of bytes) f (v % 2) ≡ value bytes b v
  file-read b v f l p q = elim (ℕ_discrete (v % 2) 0) [
    | yes z ↦ let e : 2 * (f % 126) ≡ v = omega arith in rw z (size-read f l ∙ ap₂ (value bytes) p e)
    | no z ↦
        let o : v % 2 ≡ 1 = omega arith in
        let e : 2 * (f % 126) + 1 ≡ v = omega arith in
        rw o (second-read f l ∙ ap₂ (value bytes) p e)
  ]

  value_read : (b v : ℕ) → v < values_in (header_for (job_of bytes)) b → job_value (job_of bytes) b v ≡ value bytes b v
  value_read b v l =
      let job : Job = job_of bytes in
      let h : Header = header_for job in
      let c : h.files ≡ (header_of bytes).files = read-files bytes in
      let n : h.recipes ≡ (header_of bytes).recipes = read-recipes bytes in
      let p : h.pins ≡ (header_of bytes).pins = read-pins bytes in
      by-kinds h b
      (λ e. rw (e, figure-at job v) (ap (λ (k : Header). get_or (header_figures k) v 0) (read-header bytes) ∙ figures-read v (omega (arith, ap (λ (k : Header). header_values k.k) (read-header bytes), rw e at l))))
      (λ some m.
      let held = files-held h b some m in
      file-at job b v some m ∙ file-read b v (126 * (b - 1) + v / 2) (omega arith) (omega arith) (omega arith))
      (λ m r.
      let held = bounds-held h b m r in
      let i : ℕ = 253 * (b - bounds_at h) + v in
      let e : bounds_at (header_of bytes) + i / 253 ≡ b = omega arith in
      let f : i % 253 ≡ v = omega arith in
      bound_at job b v m r ∙ bound-read i (omega arith) ∙ ap₂ (value bytes) e f)
      (λ m.
      let held = pins-held h b m in
      let i : ℕ = 253 * (b - pins_at h) + v in
      let e : pins_at (header_of bytes) + i / 253 ≡ b = omega arith in
      let f : i % 253 ≡ v = omega arith in
      pin_at job b v m ∙ pin-read i (omega arith) ∙ ap₂ (value bytes) e f)

  -- block by block
  module _ (small : AllBelow 256 bytes) where
    block_read : (b : ℕ) → b < block_count (header_of bytes) → job_block (job_of bytes) b ≡ block_at bytes b
    unfolding job_block block_verdict
    block_read b l =
        let h : Header = header_of bytes in
        let block : List ℕ = block_at bytes b in
        let kind : ℕ = kind_of h b in
        let r = passes-both (refuse_if (not (eqb (word block 510) (block_check block))) 21 b) (refuse_if (not (laid_out block b kind (values_in h b))) 22 b) (read-blocks.1 b l) in
        let right = eqb-true (word block 510) (block_check block) (not-no _ (not-refused (not (eqb (word block 510) (block_check block))) 20 b r.0)) in
        let laid = laid_out_lem block b kind (values_in h b) (not-no _ (not-refused (not (laid_out block b kind (values_in h b))) 21 b r.1)) in
        let long : length block ≡ 512 = length-take 512 (drop (512 * b) bytes) ∙ omega (arith, length-drop (512 * b) bytes, read-blocks.0) in
        let vs : List ℕ = map (job_value (job_of bytes) b) (up_to (values_in h b)) in
        let n : length vs ≡ values_in h b = length-tabled (job_value (job_of bytes) b) (values_in h b) in
        let values : (v : ℕ) → v < 253 → value_in block v ≡ get_or vs v 0
        = λ v m. elim (dec_lt v (values_in h b)) [
          | yes k ↦ sym (get_d-tabled (job_value (job_of bytes) b) (values_in h b) v 0 k ∙ value_read b v (omega (arith, ap (λ (k : Header). values_in k b) (read-header bytes))))
          | no k ↦ laid.unused v (omega arith) m ∙ sym (get_or-eq_default vs 0 {n = v} (omega arith))
        ] in
        ap (λ (k : Header). block_of b (kind_of k b) (map (job_value (job_of bytes) b) (up_to (values_in k b)))) (read-header bytes)
        ∙ block-is (λ i k. part_small bytes small 512 (512 * b) i)
        (record { long = long; number = laid.number; kind = laid.kind; count = laid.count ∙ sym n; few = omega (arith, few-values h b); values = values })
        right

    pub read_back : blocks_of (job_of bytes) ≡ bytes
    read_back =
        ap (λ (k : Header). in_turn (job_block (job_of bytes)) (block_count k)) (read-header bytes)
        ∙ in_turn-is 512 (job_block (job_of bytes)) (block_count (header_of bytes)) bytes read-blocks.0 block_read

pub back-holds : (most : Limits) (bytes : List ℕ) (room : Room) → AllBelow 256 bytes → BackHolds most bytes room
back-holds most bytes room small = record {
  same = λ ok. read_back most bytes room ok small;
  one = λ others lent fine ok accepted e. sym (read_back most bytes room ok small) ∙ ap blocks_of e ∙ read_back most others lent accepted fine;
  only = λ ok. (
    job_of bytes,
    read-writes most bytes room ok,
    (read-holds most bytes room).small small,
    read-few bytes small,
    ap (λ (h : Header). roomy h room) (read-header bytes) ∙ (read-holds most bytes room).enough ok,
    sym (read_back most bytes room ok small),
  );
  each = λ job ok enough e. rw e (blocks-verdict most job ok room ∙ ap (λ (b : Bool). refuse_if (not b) 3 0) enough);
}
