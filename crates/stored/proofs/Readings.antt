-- The stages of the verdict on a stored job, the job in the first entries of the lists, and the answers of a reading. Assumes nothing.
use Rattle.std.proofs.Common.{◌≡◌, ℕ, ◌+◌, ◌-◌, ◌*◌, ◌≤◌, true, not, List, length, take, min, length-take, length-take-le, eqb, ltb, refl, sym, ap, ap₂, ◌∙◌, arith}
use Rattle.rules.specs.declared.Verdict.{Verdict}
use Rattle.rules.specs.declared.refusal.Refusal.{Refusal}
use Rattle.rules.specs.Numbers.{verdict_of}
use Rattle.rules.specs.declared.Header.{Header}
use Rattle.rules.specs.Lists.{onto}
use Rattle.rules.specs.Job.{Job, Limits}
use Rattle.rules.specs.Check.{done, refuse_if, ◌or_else◌, bad_k, check_counts, check_contents, check_sound, bad_pin}
use Rattle.rules.specs.Stored.{Room, Reading, block_at, header_values, header_of, bounds_at, pins_at, block_count, roomy, job_of}
use Rattle.rules.specs.Stored.{block_verdict, blocks_verdict, read_verdict, written, no_header, reading}
use Rattle.rules.proofs.Tests.{and_yes, not-no}
use Rattle.rules.proofs.Verdicts.{or_assoc, or-three, passes-both, chain-stop, refuse-go, not-refused, sound-contents}
use Rattle.rules.proofs.Exits.{not-done, done-goes}
use Rattle.rules.proofs.SoundJob.{some_of, few-of, counts-pass}
use Rattle.rules.proofs.Refusals.{layout-chain, read-chain}
use Rattle.rules.proofs.Entries.{onto-take}
use Rattle.rules.proofs.Reading.{read-files, read-sides, read-marks, read-bounds, read-pins, read-holds}
use Rattle.rules.specs.Report.{all_room}
use Rattle.stored.specs.declared.taken.TakenUp.{TakenUp}
use Rattle.stored.specs.declared.header.Lengths.{Lengths}
use Rattle.stored.specs.Room.{room_long, lists_of, as_taken}
use Rattle.std.specs.Prelude.{Result, Ok, Err, IfOk}
use Rattle.std.proofs.lemmas.List.{length-replicate}
use Rattle.job.specs.Parts.{of_lists}
use Rattle.stored.specs.Steps.{TakenTo, block_numbers, k_in, header_in, header_verdict, figures_verdict, opening_verdict, Allowed, Ample, first_of, job_taken}
use Rattle.stored.proofs.Filled.{taken-all}
use borrow.Author.Tests.{eqb-true, leb-true, le-ltb}

-- ---- the stages of the verdict

module _ (most : Limits) (bytes : List ℕ) (room : Room) where
  abbrev blocks-past : Verdict
  blocks-past = blocks_verdict (header_of bytes) bytes 1 (block_count (header_of bytes) - 1)

  abbrev length-verdict : Verdict
  length-verdict = refuse_if (not (eqb (length bytes) (512 * block_count (header_of bytes)))) 20 0

  -- block 0 and its header, each further block, then 4 to 6
  pub by-stages : (opening_verdict most bytes room or_else blocks-past or_else check_contents (job_of bytes)) ≡ read_verdict most bytes room
  unfolding opening_verdict
  by-stages =
      let h : Header = header_of bytes in
      let a : Verdict = refuse_if (ltb (length bytes) 512) 20 0 in
      let b : Verdict = block_verdict h bytes 0 in
      let w : Verdict = refuse_if (bad_k h.k) 22 0 in
      let c : Verdict = check_counts most h.files h.recipes h.pins in
      let e : Verdict = refuse_if (not (roomy h room)) 3 0 in
      let f : Verdict = figures_verdict most h room in
      sym (or_assoc (opening_verdict most bytes room) blocks-past (check_contents (job_of bytes)))
      ∙ ap (λ (v : Verdict). v or_else check_contents (job_of bytes))
      (or-three a b (f or_else length-verdict) blocks-past
      ∙ ap (λ (v : Verdict). a or_else b or_else v)
      (or_assoc f length-verdict blocks-past
      ∙ or-three w c e (length-verdict or_else blocks-past))
      ∙ sym (layout-chain most bytes room))
      ∙ sym (read-chain most bytes room)

  pub opening-tells : (opening_verdict most bytes room).number ≡ 0 → (length bytes ≡ 512 * block_count (header_of bytes)) × Allowed most (header_of bytes)
  unfolding opening_verdict
  opening-tells z =
      let h : Header = header_of bytes in
      let a = passes-both (refuse_if (ltb (length bytes) 512) 20 0) _ z in
      let b = passes-both (block_verdict h bytes 0) _ a.1 in
      let c = passes-both (figures_verdict most h room) length-verdict b.1 in
      let w = passes-both (refuse_if (bad_k h.k) 22 0) _ c.0 in
      let d = counts-pass most h.files h.recipes h.pins (passes-both (check_counts most h.files h.recipes h.pins) _ w.1).0 in
      let some = some_of h.files h.recipes d.0 in
      let few = few-of most h.files h.recipes h.pins d.1 in (
        eqb-true (length bytes) (512 * block_count h) (not-no _ (not-refused _ 19 0 c.1)),
        record { some-files = some.0; some-recipes = some.1; few-files = few.0; few-recipes = few.1; few-pins = few.2 },
      )

pub figures-allowed : (most : Limits) (h : Header) (room : Room) → done ≡ figures_verdict most h room → Allowed most h
figures-allowed most h room e =
    let b = passes-both (refuse_if (bad_k h.k) 22 0) _ (ap (λ (v : Verdict). v.number) (sym e)) in
    let d = counts-pass most h.files h.recipes h.pins (passes-both (check_counts most h.files h.recipes h.pins) _ b.1).0 in
    let some = some_of h.files h.recipes d.0 in
    let few = few-of most h.files h.recipes h.pins d.1 in record { some-files = some.0; some-recipes = some.1; few-files = few.0; few-recipes = few.1; few-pins = few.2 }

-- the first entries of lists that are written into are the job
pub first-written : (bytes : List ℕ) (old : Room) → first_of (header_of bytes) (written (job_of bytes) old) ≡ job_of bytes
unfolding job_of
first-written bytes old =
    λ i. record {
      sizes = first (job_of bytes).sizes old.sizes (read-files bytes) i;
      sides = first (job_of bytes).sides old.sides (read-sides bytes) i;
      marks = first (job_of bytes).marks old.marks (read-marks bytes) i;
      bounds = first (job_of bytes).bounds old.bounds (read-bounds bytes) i;
      pins = first (job_of bytes).pins old.pins (read-pins bytes) i;
      num = (header_of bytes).num;
      den = (header_of bytes).den;
      cap = (header_of bytes).cap;
      k = (header_of bytes).k;
    }
  where
    first : (xs ys : List ℕ) {n : ℕ} → length xs ≡ n → take n (onto xs ys) ≡ xs
    first xs ys q = ap (λ (k : ℕ). take k (onto xs ys)) (sym q) ∙ onto-take xs ys

-- which of the stages refuses, or that none does
module _ (most : Limits) (bytes : List ℕ) (room : Room) where
  pub opening-refused : (r : Refusal) → verdict_of r ≡ opening_verdict most bytes room → verdict_of r ≡ read_verdict most bytes room
  opening-refused r e = chain-stop _ e (not-done r) ∙ by-stages most bytes room

  module _ (o : done ≡ opening_verdict most bytes room) {h : Header} (e : h ≡ header_of bytes) where
    pub blocks-refused : (r : Refusal) → verdict_of r ≡ blocks_verdict h bytes 1 (block_count h - 1) → verdict_of r ≡ read_verdict most bytes room
    blocks-refused r b = done-goes o (chain-stop _ (rw e at b) (not-done r)) ∙ by-stages most bytes room

    pub contents-told : done ≡ blocks_verdict h bytes 1 (block_count h - 1) → {lists : Room} (old : Room) → lists ≡ written (job_of bytes) old
        → {v : Verdict} → v ≡ check_contents (first_of h lists) → v ≡ read_verdict most bytes room
    contents-told b {lists} old w c =
        let job : first_of h lists ≡ job_of bytes = ap₂ first_of e w ∙ first-written bytes old in
        done-goes o (done-goes (rw e at b) (c ∙ ap check_contents job)) ∙ by-stages most bytes room

-- ---- block 0

-- the header is what the block holds
pub header-read : (bytes : List ℕ) {block : List ℕ} {h : Header} → block ≡ block_at bytes 0 → h ≡ header_in block → h ≡ header_of bytes
unfolding header_of
header-read bytes b q = q ∙ ap header_in b

-- it has as many values as its own k makes it have
pub header-told : (bytes : List ℕ) {block : List ℕ} {k n : ℕ} {v : Verdict} → 512 ≤ length bytes → block ≡ block_at bytes 0 → k ≡ k_in block → n ≡ header_values k
    → v ≡ block_numbers block 0 1 n → v ≡ header_verdict bytes
unfolding header_of block_verdict
header-told bytes {block} l b s m e =
    refuse-go 20 0 (le-ltb (length bytes) 512 l)
    (e ∙ ap (block_numbers block 0 1) (m ∙ ap header_values s) ∙ ap (λ (x : List ℕ). block_numbers x 0 1 (header_values (k_in x))) b)

module _ (most : Limits) (bytes : List ℕ) (room : Room) where
  after-header : {v : Verdict}
      → v ≡ (header_verdict bytes or_else figures_verdict most (header_of bytes) room or_else length-verdict most bytes room) → v ≡ opening_verdict most bytes room
  unfolding opening_verdict
  after-header e =
      e
      ∙ or_assoc (refuse_if (ltb (length bytes) 512) 20 0) (block_verdict (header_of bytes) bytes 0)
      (figures_verdict most (header_of bytes) room or_else length-verdict most bytes room)

  pub header-refused : (r : Refusal) → verdict_of r ≡ header_verdict bytes → verdict_of r ≡ opening_verdict most bytes room
  header-refused r e = after-header (chain-stop _ e (not-done r))

  module _ (z : done ≡ header_verdict bytes) {h : Header} (q : h ≡ header_of bytes) where
    pub figures-refused : (r : Refusal) → verdict_of r ≡ figures_verdict most h room → verdict_of r ≡ opening_verdict most bytes room
    figures-refused r e = after-header (done-goes z (chain-stop _ (rw q at e) (not-done r)))

    -- what the total length says is the last
    pub total-told : done ≡ figures_verdict most h room → {v : Verdict} {k : ℕ} → k ≡ block_count h
        → v ≡ refuse_if (not (eqb (length bytes) (512 * k))) 20 0 → v ≡ opening_verdict most bytes room
    total-told f c e = after-header (done-goes z (done-goes (rw q at f) (rw (c, q) at e)))

-- ---- the entries that are taken

-- past the last block the job is written over the first entries
pub all-written : (bytes : List ℕ) {h : Header} {b : ℕ} {old new : Room} → h ≡ header_of bytes → Ample h.files h.recipes h.pins old → block_count h ≤ b → TakenTo bytes h b old new
    → new ≡ written (job_of bytes) old
unfolding job_of
all-written bytes {h} {b} e r l t =
    let f : min (126 * (b - 1)) h.files ≡ h.files = omega arith in
    let n : min (253 * (b - bounds_at h)) (h.recipes + 1) ≡ h.recipes + 1 = omega arith in
    let p : min (253 * (b - pins_at h)) h.pins ≡ h.pins = omega arith in
    λ i. record {
      sizes = (rw e at (taken-all (rw f at t.sizes) r.sizes)) i;
      sides = (rw e at (taken-all (rw f at t.sides) r.sides)) i;
      marks = (rw e at (taken-all (rw f at t.marks) r.marks)) i;
      bounds = (rw e at (taken-all (rw n at t.bounds) r.bounds)) i;
      pins = (rw e at (taken-all (rw p at t.pins) r.pins)) i;
    }

-- ---- the reader's own lists, one entry for each that the limits allow

pub own_room : (most : Limits) → Ample most.files most.recipes most.pins (all_room most)
own_room most = record {
  sizes = omega (arith, length-replicate {A = ℕ} most.files 0);
  sides = omega (arith, length-replicate {A = ℕ} most.files 0);
  marks = omega (arith, length-replicate {A = ℕ} most.files 0);
  bounds = omega (arith, length-replicate {A = ℕ} (most.recipes + 1) 0);
  pins = omega (arith, length-replicate {A = ℕ} most.pins 0);
}

module _ {most : Limits} {h : Header} (c : Allowed most h) where
  pub room-enough : {r : Room} → Ample most.files most.recipes most.pins r → Ample h.files h.recipes h.pins r
  room-enough w = record {
    sizes = omega (arith, w.sizes, c.few-files);
    sides = omega (arith, w.sides, c.few-files);
    marks = omega (arith, w.marks, c.few-files);
    bounds = omega (arith, w.bounds, c.few-recipes);
    pins = omega (arith, w.pins, c.few-pins);
  }

-- ---- 4 to 6

-- they ask nothing of the figures
contents-of-lists : (job : Job) → check_contents (of_lists job.sizes job.sides job.marks job.bounds job.pins) ≡ check_contents job
unfolding check_contents bad_pin
contents-of-lists job = refl

-- a job within the limits passes 1 to 3
pub sound-taken : {most : Limits} {h : Header} (r : Room) → Allowed most h
    → h.files ≤ length r.sizes → h.files ≤ length r.sides → h.files ≤ length r.marks → h.recipes + 1 ≤ length r.bounds
    → {sizes sides marks bounds pins : List ℕ} → sizes ≡ take h.files r.sizes → sides ≡ take h.files r.sides → marks ≡ take h.files r.marks
    → bounds ≡ take (h.recipes + 1) r.bounds → pins ≡ take h.pins r.pins → check_sound most (of_lists sizes sides marks bounds pins) true ≡ check_contents (first_of h r)
sound-taken {most} {h} r c i j k l a b d e f =
    let sizes = length-take-le h.files r.sizes i in
    let sides = length-take-le h.files r.sides j in
    let marks = length-take-le h.files r.marks k in
    let bounds = length-take-le (h.recipes + 1) r.bounds l in
    let pins = length-take h.pins r.pins in
    rw (a, b, d, e, f)
    (sound-contents most (of_lists (take h.files r.sizes) (take h.files r.sides) (take h.files r.marks) (take (h.recipes + 1) r.bounds) (take h.pins r.pins))
    (omega (arith, sizes, c.some-files)) (omega (arith, bounds, c.some-recipes)) (omega (arith, sizes, c.few-files))
    (omega (arith, bounds, c.few-recipes)) (omega (arith, pins, c.few-pins))
    (sides ∙ sym sizes) (marks ∙ sym sizes)
    ∙ contents-of-lists (first_of h r))

-- ---- the answers

module _ (most : Limits) (bytes : List ℕ) (room : Room) where
  -- refused, the header is none and the lists stay
  refused-reading : (r : Refusal) → verdict_of r ≡ read_verdict most bytes room
      → reading most bytes room ≡ record { answer = record { verdict = verdict_of r; header = no_header }; room = room }
  refused-reading r e = rw e ((read-holds most bytes room).refused (λ z. not-done r (ap (λ (v : Verdict). v.number) e ∙ z)))

  -- else the job is written over the first entries
  done-reading : done ≡ read_verdict most bytes room
      → reading most bytes room ≡ record { answer = record { verdict = done; header = header_of bytes }; room = written (job_of bytes) room }
  done-reading e = rw e ((read-holds most bytes room).reads (ap (λ (v : Verdict). v.number) (sym e)))

-- read into lists that are never too short
pub taken-up : (most : Limits) (bytes : List ℕ) (x : Result TakenUp Refusal) → (as_taken x).verdict ≡ read_verdict most bytes (all_room most)
    → IfOk x (λ t. t.header ≡ header_of bytes) → IfOk x (λ t. lists_of t ≡ written (job_of bytes) (all_room most))
    → (as_taken x ≡ (reading most bytes (all_room most)).answer) × IfOk x (λ t. lists_of t ≡ (reading most bytes (all_room most)).room)
taken-up most bytes (Ok t) v h l = let e = done-reading most bytes (all_room most) v in rw (e, h) (refl, l)
taken-up most bytes (Err r) v h l = let e = refused-reading most bytes (all_room most) r v in rw e (refl, tt)

-- ---- the lent lists: a verdict looks only at their lengths

abbrev lengths_of : Room → Lengths
lengths_of r = record { sizes = length r.sizes; sides = length r.sides; marks = length r.marks; bounds = length r.bounds; pins = length r.pins }

by-length : (most : Limits) (bytes : List ℕ) (room : Room) → read_verdict most bytes (room_long (lengths_of room)) ≡ read_verdict most bytes room
unfolding read_verdict
by-length most bytes room = simp length-replicate

-- so the reading of lent lists follows from a verdict on lists as long
module _ (most : Limits) (bytes : List ℕ) (room : Room) where
  abbrev by-lengths : Verdict
  by-lengths = read_verdict most bytes (room_long (lengths_of room))

  pub refused-lent : (r : Refusal) → verdict_of r ≡ by-lengths
      → reading most bytes room ≡ record { answer = record { verdict = verdict_of r; header = no_header }; room = room }
  refused-lent r e = refused-reading most bytes room r (e ∙ by-length most bytes room)

  pub done-lent : done ≡ by-lengths → reading most bytes room ≡ record { answer = record { verdict = done; header = header_of bytes }; room = written (job_of bytes) room }
  done-lent e = done-reading most bytes room (e ∙ by-length most bytes room)

  -- every entry of the job has a place
  pub lent-enough : {h : Header} → done ≡ by-lengths → h ≡ header_of bytes → Ample h.files h.recipes h.pins room
  lent-enough e q =
      let h : Header = header_of bytes in
      let room5 = and_yes _ _ ((read-holds most bytes room).enough (ap (λ (v : Verdict). v.number) (sym (e ∙ by-length most bytes room)))) in
      let room4 = and_yes _ _ room5.0 in
      let room3 = and_yes _ _ room4.0 in
      let room2 = and_yes _ _ room3.0 in
      rw q (record {
        sizes = leb-true h.files (length room.sizes) room2.0;
        sides = leb-true h.files (length room.sides) room2.1;
        marks = leb-true h.files (length room.marks) room3.1;
        bounds = leb-true (h.recipes + 1) (length room.bounds) room4.1;
        pins = leb-true h.pins (length room.pins) room5.1;
      })

  -- the job that was taken up, handed over, is the stored one
  pub handed-over : (t : TakenUp) (own : Room) {new : Room} → done ≡ by-lengths → t.header ≡ header_of bytes → lists_of t ≡ written (job_of bytes) own
      → new ≡ written (job_taken t) room → new ≡ (reading most bytes room).room
  handed-over t own e h l q =
      let job : job_taken t ≡ job_of bytes = ap₂ first_of h l ∙ first-written bytes own in
      q ∙ ap (λ (j : Job). written j room) job ∙ sym (ap (λ (x : Reading). x.room) (done-lent e))
