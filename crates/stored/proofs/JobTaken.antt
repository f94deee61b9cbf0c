-- What a stored job that was taken up has: its verdict, and the job in the first entries of the lists. Assumes nothing.
use mathlib.Core.Path.{◌≡◌, sym, ap, ap₂, ◌∙◌}
use Prim.Native.Nat.{ℕ, ◌+◌, ◌*◌, ◌≤◌, ◌<◌}
use mathlib.Core.List.{List}
use native.Mathlib.Decide.{dec_lt}
use native.Mathlib.Omega.{arith}
use lib.ListN.{length, take, replicate}
use lib.IntN.{pos}
use Rattle.rules.specs.declared.Verdict.{Verdict}
use Rattle.rules.specs.Numbers.{ReadFigures}
use Rattle.rules.specs.declared.Header.{Header}
use Rattle.job.specs.declared.Job.{Job as Figures}
use Rattle.job.specs.Parts.{whole_job}
use Rattle.rules.specs.Job.{Job, Limits}
use Rattle.rules.specs.Stored.{Room, header_of, block_count, job_of, Reading, written, reading, read_verdict}
use Rattle.rules.specs.Report.{all_room, own_lent}
use Rattle.rules.specs.Writing.{header_for}
use Rattle.rules.specs.Theorems.{most_bytes}
use Rattle.rules.proofs.Entries.{onto-least, take-replicate}
use Rattle.rules.proofs.Reading.{read-files, read-sides, read-marks, read-bounds, read-pins, read-holds, reading-verdict}
use Rattle.rules.proofs.CutOff.{read_no}
use Rattle.rules.proofs.RoundTrip.{read_length}
use Rattle.stored.specs.declared.taken.TakenUp.{TakenUp}
use Rattle.std.specs.Prelude.{Ok, Err}
use Rattle.rules.specs.declared.refusal.Refusal.{Refusal}
use Rattle.rules.specs.Numbers.{verdict_of}
use Rattle.rules.specs.Check.{done}
use Rattle.stored.specs.Room.{lists_of, as_taken}
use Rattle.stored.specs.Steps.{figures_in, first_of, job_taken, Held}
use Rattle.stored.proofs.Readings.{first-written}

-- ---- the job in the first entries of the lists

pub figures-whole : (figures : Figures) (h : Header) → (figures.num ≡ h.num) × (figures.den ≡ h.den) × (figures.cap ≡ h.cap) × (figures.k ≡ h.k) → figures ≡ figures_in h
figures-whole figures h e = λ i. record { num = e.0 i; den = e.1 i; cap = e.2 i; k = e.3 i }

-- the figures of the header are those of the job
pub first-whole : (h : Header) (lists : Room) (figures : Figures) → figures ≡ figures_in h
    → whole_job figures (take h.files lists.sizes) (take h.files lists.sides) (take h.files lists.marks) (take (h.recipes + 1) lists.bounds) (take h.pins lists.pins)
    ≡ first_of h lists
first-whole h lists figures e =
    ap (λ (g : Figures). whole_job g (take h.files lists.sizes) (take h.files lists.sides) (take h.files lists.marks) (take (h.recipes + 1) lists.bounds) (take h.pins lists.pins)) e

-- lists of a program's own, the gain list cut to the files
pub own-lent : (most : Limits) (sizes : List ℕ) (n : ℕ) → length sizes ≡ n → n ≤ most.files
    → own_lent most (take n (replicate most.files (pos 0))) ≡ own_lent most (replicate (length sizes) (pos 0))
own-lent most sizes n e few = ap (own_lent most) (take-replicate n most.files (pos 0) few ∙ ap (λ (i : ℕ). replicate i (pos 0)) (sym e))

-- ---- what was read

-- the refusal of what is not taken up is that of reading
pub refused-read : (most : Limits) (bytes : List ℕ) (r : Refusal) → as_taken (Err r) ≡ (reading most bytes (all_room most)).answer
    → verdict_of r ≡ read_verdict most bytes (all_room most)
refused-read most bytes r e = ap (λ (x : ReadFigures). x.verdict) e ∙ reading-verdict most bytes (all_room most)

module _ (most : Limits) (bytes : List ℕ) (t : TakenUp) (e : as_taken (Ok t) ≡ (reading most bytes (all_room most)).answer)
    (f : lists_of t ≡ (reading most bytes (all_room most)).room) where
  -- reading refuses nothing of it
  pub done-read : done ≡ read_verdict most bytes (all_room most)
  done-read = ap (λ (x : ReadFigures). x.verdict) e ∙ reading-verdict most bytes (all_room most)

  pub zero_read : (read_verdict most bytes (all_room most)).number ≡ 0
  zero_read = ap (λ (v : Verdict). v.number) (sym done-read)

  read : reading most bytes (all_room most)
      ≡ record { answer = record { verdict = read_verdict most bytes (all_room most); header = header_of bytes }; room = written (job_of bytes) (all_room most) }
  read = (read-holds most bytes (all_room most)).reads zero_read

  header_read : t.header ≡ header_of bytes
  header_read = ap (λ (x : ReadFigures). x.header) e ∙ ap (λ (x : Reading). x.answer.header) read

  lists-read : lists_of t ≡ written (job_of bytes) (all_room most)
  lists-read = f ∙ ap (λ (x : Reading). x.room) read

  pub job_read : job_taken t ≡ job_of bytes
  job_read = ap₂ first_of header_read lists-read ∙ first-written bytes (all_room most)

  -- the input is as long as the job's blocks, and no longer than what the programs take up
  pub bytes_read : length bytes ≡ 512 * block_count (header_for (job_taken t))
  bytes_read = read_length most bytes (all_room most) zero_read ∙ ap (λ (j : Job). 512 * block_count (header_for j)) (sym job_read)

  pub within-read : (k : ℕ) → most_bytes most < k → length bytes ≤ k
  within-read k more = elim (dec_lt k (length bytes)) [
    | yes long ↦ absurd (read_no most k bytes more long (all_room most) zero_read)
    | no n ↦ omega arith
  ]

  -- the lists hold what the header says, within the limits
  pub held-read : Held most t
  held-read =
      let j = job_of bytes in
      let o = all_room most in
      let h = t.header in
      let files : h.files ≡ (header_of bytes).files = ap (λ (x : Header). x.files) header_read in
      let recipes : h.recipes ≡ (header_of bytes).recipes = ap (λ (x : Header). x.recipes) header_read in
      let pins : h.pins ≡ (header_of bytes).pins = ap (λ (x : Header). x.pins) header_read in
      let at : (g : Room → List ℕ) → length (g (lists_of t)) ≡ length (g (written j o)) = λ g. ap (λ (x : Room). length (g x)) lists-read in
      let s = (read-holds most bytes (all_room most)).sound zero_read in
      record {
        enough = record {
          sizes = omega (arith, files, at (λ x. x.sizes), onto-least j.sizes o.sizes, read-files bytes);
          sides = omega (arith, files, at (λ x. x.sides), onto-least j.sides o.sides, read-sides bytes);
          marks = omega (arith, files, at (λ x. x.marks), onto-least j.marks o.marks, read-marks bytes);
          bounds = omega (arith, recipes, at (λ x. x.bounds), onto-least j.bounds o.bounds, read-bounds bytes);
          pins = omega (arith, pins, at (λ x. x.pins), onto-least j.pins o.pins, read-pins bytes);
        };
        few_files = omega (arith, files, read-files bytes, s.few_files);
        few_recipes = omega (arith, recipes, read-bounds bytes, s.few_recipes);
        few_pins = omega (arith, pins, read-pins bytes, s.few_pins);
      }
