-- Reading: what a stored job that is let through has, and what a refusal leaves. Assumes nothing.
use mathlib.Core.Path.{◌≡◌, refl, sym, ap, ◌∙◌}
use Prim.Native.Nat.{ℕ, suc, ◌+◌, ◌*◌, ◌/◌, ◌%◌, ◌≤◌, ◌<◌}
use mathlib.Core.Bool.{Bool, true, false, not, cond, ◌&&◌}
use mathlib.Core.List.{List, map}
use native.Mathlib.Decide.{ℕ_discrete, dec_lt}
use native.Mathlib.Omega.{arith}
use native.Mathlib.Nat.{div-le_self, mod-le}
use lib.Dec.{eqb, ltb}
use lib.ListN.{length, get_or, take, drop, length-take, get_or-eq_default}
use lib.Seq.{get_or-take, get_or-drop}
use borrow.Author.Tests.{eq-eqb, ne_eqb}
use Rattle.rules.specs.declared.Header.{Header}
use Rattle.rules.specs.Lists.{up_to, AllBelow}
use Rattle.rules.specs.Job.{Job, Limits, TwoByte, file_count, recipe_count, pin_count}
use Rattle.rules.specs.Check.{refuse_if, bad_k, check_counts, check_lists, check_lengths, check_contents, check_sound}
use Rattle.rules.specs.Stored.{block_at, value, header_of, bounds_at, pins_at, block_verdict, job_of, Room, roomy, layout_verdict, read_verdict, Reading, reading}
use Rattle.rules.specs.Writing.{check_written}
use Rattle.rules.specs.Theorems.{ReadHolds, Written}
use Rattle.rules.proofs.Verdicts.{passes-both, both-pass, not-refused, chain-go}
use Rattle.rules.proofs.Tests.{not-no}
use Rattle.rules.proofs.Count.{length-tabled, get_d-tabled}
use Rattle.rules.proofs.Entries.{below-any, onto-length, onto-in, onto-stays}
use Rattle.rules.proofs.SoundJob.{good-k, fine-k, sound}
use Rattle.rules.proofs.Refusals.{rest-chain, read-rows}

-- ---- its lists are as long as the header says

module _ (bytes : List ℕ) where
  pub read-files : file_count (job_of bytes) ≡ (header_of bytes).files
  unfolding job_of
  read-files = length-tabled _ (header_of bytes).files

  pub read-sides : length (job_of bytes).sides ≡ (header_of bytes).files
  unfolding job_of
  read-sides = length-tabled _ (header_of bytes).files

  pub read-marks : length (job_of bytes).marks ≡ (header_of bytes).files
  unfolding job_of
  read-marks = length-tabled _ (header_of bytes).files

  pub read-bounds : length (job_of bytes).bounds ≡ (header_of bytes).recipes + 1
  unfolding job_of
  read-bounds = length-tabled _ ((header_of bytes).recipes + 1)

  pub read-recipes : recipe_count (job_of bytes) ≡ (header_of bytes).recipes
  read-recipes = omega (arith, read-bounds)

  pub read-pins : pin_count (job_of bytes) ≡ (header_of bytes).pins
  unfolding job_of
  read-pins = length-tabled _ (header_of bytes).pins

-- ---- a job that is read passes 1 to 6

module _ (most : Limits) (bytes : List ℕ) (room : Room) (ok : (read_verdict most bytes room).number ≡ 0) where
  read-counts : ((check_counts most (header_of bytes).files (header_of bytes).recipes (header_of bytes).pins).number ≡ 0)
      × ((check_contents (job_of bytes)).number ≡ 0)
      × (roomy (header_of bytes) room ≡ true)
      × ((1 ≤ (header_of bytes).k) × ((header_of bytes).k ≤ 4))
  unfolding read_verdict layout_verdict block_verdict check_counts check_contents
  read-counts =
      let h : Header = header_of bytes in
      let a = passes-both (layout_verdict most bytes room) (check_contents (job_of bytes)) ok in
      let b = passes-both (refuse_if (ltb (length bytes) 512) 20 0) _ a.0 in
      let c = passes-both (block_verdict h bytes 0) _ b.1 in
      let w = passes-both (refuse_if (bad_k h.k) 22 0) _ c.1 in
      let d = passes-both (check_counts most h.files h.recipes h.pins) _ w.1 in
      let f = passes-both (refuse_if (not (roomy h room)) 3 0) _ d.1 in
      (d.0, a.1, not-no (roomy h room) (not-refused (not (roomy h room)) 2 0 f.0), good-k h.k 21 w.0)

  pub read-passes : (check_sound most (job_of bytes) true).number ≡ 0
  unfolding check_sound check_lengths check_counts check_lists check_contents
  read-passes =
      let job : Job = job_of bytes in
      let r = read-counts in
      let long : (not (eqb (length job.sides) (file_count job) && eqb (length job.marks) (file_count job) && true)) ≡ false
      = rw (eq-eqb (length job.sides) (file_count job) (read-sides bytes ∙ sym (read-files bytes)), eq-eqb (length job.marks) (file_count job) (read-marks bytes ∙ sym (read-files bytes))) refl in
      let counts : (check_counts most (file_count job) (recipe_count job) (pin_count job)).number ≡ 0 = rw (read-files bytes, read-recipes bytes, read-pins bytes) r.0 in
      let lists : (check_lists job true).number ≡ 0 = ap (λ (b : Bool). (refuse_if b 3 0).number) long in
      both-pass (check_lengths most job true) (check_contents job) (both-pass (check_counts most (file_count job) (recipe_count job) (pin_count job)) (check_lists job true) counts lists) r.1

  read_wide : (1 ≤ (job_of bytes).k) × ((job_of bytes).k ≤ 4)
  unfolding job_of
  read_wide = read-counts.3

  -- so it can be written
  pub read-writes : (check_written most (job_of bytes) true).number ≡ 0
  unfolding check_written check_sound
  read-writes =
      both-pass (check_sound most (job_of bytes) true) (refuse_if (bad_k (job_of bytes).k) 7 0) read-passes
      (ap (λ (b : Bool). (refuse_if b 7 0).number) (fine-k (job_of bytes).k read_wide))

-- ---- bytes make two-byte numbers

tabled-below : (h : ℕ → ℕ) (n m : ℕ) → ((i : ℕ) → h i < m) → AllBelow m (map h (up_to n))
tabled-below h n m below i l = rw (get_d-tabled h n i 0 (rw (← length-tabled h n) l)) (below i)

module _ (bytes : List ℕ) (small : AllBelow 256 bytes) where
  byte_small : (i : ℕ) → get_or bytes i 0 < 256
  byte_small = below-any 256 bytes (omega arith) small

  pub part_small : (n k i : ℕ) → get_or (take n (drop k bytes)) i 0 < 256
  part_small n k i = elim (dec_lt i n) [
    | yes h ↦ rw (get_or-take n (drop k bytes) i 0 h, get_or-drop k bytes i 0) (byte_small (k + i))
    | no z ↦ omega (arith, get_or-eq_default (take n (drop k bytes)) 0 {n = i} (omega (arith, length-take n (drop k bytes))))
  ]

  pub value-small : (b v : ℕ) → value bytes b v < 65536
  value-small b v = omega (arith, part_small 512 (512 * b) (4 + 2 * v), part_small 512 (512 * b) (suc (4 + 2 * v)))

  read_small : TwoByte (job_of bytes)
  unfolding job_of header_of
  read_small = record {
    sizes = tabled-below _ _ 65536 (λ i. value-small (1 + i / 126) (2 * (i % 126)));
    sides = tabled-below _ _ 65536 (λ i. omega (arith, mod-le (value bytes (1 + i / 126) (2 * (i % 126) + 1)) 2, value-small (1 + i / 126) (2 * (i % 126) + 1)));
    marks = tabled-below _ _ 65536 (λ i. omega (arith, div-le_self (value bytes (1 + i / 126) (2 * (i % 126) + 1)) 2, value-small (1 + i / 126) (2 * (i % 126) + 1)));
    bounds = tabled-below _ _ 65536 (λ i. value-small (bounds_at (header_of bytes) + i / 253) (i % 253));
    pins = tabled-below _ _ 65536 (λ i. value-small (pins_at (header_of bytes) + i / 253) (i % 253));
    num = value-small 0 3;
    den = value-small 0 4;
    cap = value-small 0 5;
    k = go (eqb (get_or (block_at bytes 0) 3 0) 7);
  }
    where
      go : (b : Bool) → cond b (value bytes 0 6) 1 < 65536
      go true = value-small 0 6
      go false = omega arith

pub read-holds : (most : Limits) (bytes : List ℕ) (room : Room) → ReadHolds most bytes room
unfolding reading
read-holds most bytes room = record {
  table = read-rows most bytes room;
  refused = λ n. rw (ne_eqb (read_verdict most bytes room).number 0 n, reading) refl;
  reads = λ e. rw (eq-eqb (read_verdict most bytes room).number 0 e, reading) refl;
  enough = λ e. (read-counts most bytes room e).2;
  files = read-files bytes;
  recipes = read-recipes bytes;
  pins = read-pins bytes;
  wide = read_wide most bytes room;
  sound = λ e. sound most (job_of bytes) true (read-passes most bytes room e);
  adds = λ e. rest-chain most (job_of bytes) true ∙ sym (chain-go refl (read-passes most bytes room e) refl);
  small = read_small bytes;
}

-- the verdict is given with the answer, refused or not
pub reading-verdict : (most : Limits) (bytes : List ℕ) (room : Room) → (reading most bytes room).answer.verdict ≡ read_verdict most bytes room
reading-verdict most bytes room = elim (ℕ_discrete (read_verdict most bytes room).number 0) [
  | yes z ↦ ap (λ (x : Reading). x.answer.verdict) ((read-holds most bytes room).reads z)
  | no n ↦ ap (λ (x : Reading). x.answer.verdict) ((read-holds most bytes room).refused n)
]

pub written-holds : (xs old : List ℕ) → Written xs old
written-holds xs old = record { long = onto-length 0 xs old; holds = onto-in 0 xs old; stays = onto-stays 0 xs old }
