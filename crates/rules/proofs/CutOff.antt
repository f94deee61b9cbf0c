-- An input longer than the largest job is refused for its length, whatever stands after its first bytes. Assumes nothing.
use mathlib.Core.Path.{◌≡◌, refl, sym, ap, ap₂, ◌∙◌}
use mathlib.Core.Logic.{◌≢◌}
use Prim.Native.Nat.{ℕ, ◌+◌, ◌-◌, ◌*◌, ◌≤◌, ◌<◌}
use mathlib.Core.Bool.{false, true, not, cond}
use mathlib.Core.List.{List, []}
use native.Mathlib.Decide.{dec_lt}
use native.Mathlib.Omega.{arith}
use lib.Dec.{ltb, eqb}
use lib.ListN.{length, get_or, take, length-take}
use lib.Seq.{take_all, take-take}
use borrow.Author.Tests.{le-ltb, ne_eqb}
use Rattle.rules.specs.declared.Verdict.{Verdict}
use Rattle.rules.specs.declared.Header.{Header}
use Rattle.rules.specs.Job.{Limits}
use Rattle.rules.specs.Check.{refuse_if, ◌or_else◌, bad_k, over_most, check_counts, check_contents}
use Rattle.rules.specs.Stored.{block_check, word, block_at, value_in, header_of, blocks_for, block_count, kind_of, values_in, laid_out, block_verdict, blocks_verdict, job_of, Room, roomy, layout_verdict, read_verdict}
use Rattle.rules.specs.Report.{refusal, all_room, all_run, prints}
use Rattle.rules.specs.Trace.{traces}
use Rattle.rules.specs.Writing.{resettles}
use Rattle.rules.specs.Theorems.{most_bytes, Longer}
use Rattle.rules.proofs.Verdicts.{chain-stop, chain_same, passes-both}
use Rattle.rules.proofs.SoundJob.{few-of, counts-pass}

-- blocks grow with what they hold
pub blocks-grow : (a b : ℕ) → a ≤ b → (blocks_for 126 a ≤ blocks_for 126 b) × (blocks_for 253 a ≤ blocks_for 253 b)
blocks-grow a b h = (omega arith, omega arith)

module _ (most : Limits) (k : ℕ) (input : List ℕ) (more : most_bytes most < k) (long : k < length input) where
  abbrev cut_off : List ℕ
  cut_off = take k input

  cut-length : length cut_off ≡ k
  cut-length = omega (arith, length-take k input)

  first_block : block_at cut_off 0 ≡ block_at input 0
  first_block = take-take 512 k input (omega arith)

  header-same : header_of cut_off ≡ header_of input
  unfolding header_of
  header-same = ap (λ (b : List ℕ). record {
    files = value_in b 0;
    recipes = value_in b 1;
    pins = value_in b 2;
    num = value_in b 3;
    den = value_in b 4;
    cap = value_in b 5;
    k = cond (eqb (get_or b 3 0) 7) (value_in b 6) 1;
  }) first_block

  zeroth-same : (h : Header) → block_verdict h cut_off 0 ≡ block_verdict h input 0
  unfolding block_verdict
  zeroth-same h = ap (λ (block : List ℕ). refuse_if (not (eqb (word block 510) (block_check block))) 21 0 or_else refuse_if (not (laid_out block 0 (kind_of h 0) (values_in h 0))) 22 0) first_block

  -- what the most lets through is shorter
  blocks-short : (h : Header) → over_most most h.files h.recipes h.pins ≡ false → 512 * block_count h < k
  blocks-short h z =
      let few = few-of most h.files h.recipes h.pins z in
      omega (
        arith,
        more,
        (blocks-grow h.files most.files few.0).0,
        (blocks-grow (h.recipes + 1) (most.recipes + 1) (omega (arith, few.1))).1,
        (blocks-grow h.pins most.pins few.2).1,
      )

  -- a longer input is not as the header makes it
  unlike : (h : Header) (bytes : List ℕ) (w : Verdict) → 512 * block_count h < length bytes → (refuse_if (not (eqb (length bytes) (512 * block_count h))) 20 0 or_else w) ≡ refuse_if true 20 0
  unlike h bytes w l = rw (ne_eqb (length bytes) (512 * block_count h) (λ e. omega (arith, e))) refl

  -- the order of layout_verdict, with the header's figures apart from the bytes
  abbrev layout-by : Header → List ℕ → Room → Verdict
  layout-by h bytes room =
      refuse_if (ltb (length bytes) 512) 20 0
      or_else block_verdict h bytes 0
      or_else refuse_if (bad_k h.k) 22 0
      or_else check_counts most h.files h.recipes h.pins
      or_else refuse_if (not (roomy h room)) 3 0
      or_else refuse_if (not (eqb (length bytes) (512 * block_count h))) 20 0
      or_else blocks_verdict h bytes 1 (block_count h - 1)

  enough : refuse_if (ltb (length cut_off) 512) 20 0 ≡ refuse_if (ltb (length input) 512) 20 0
  enough = rw (le-ltb (length cut_off) 512 (omega (arith, cut-length)), le-ltb (length input) 512 (omega arith)) refl

  links : (h : Header) (room : Room) → layout-by h cut_off room ≡ layout-by h input room
  links h room =
      let wide = refuse_if (bad_k h.k) 22 0 in
      let counts = check_counts most h.files h.recipes h.pins in
      let lent = refuse_if (not (roomy h room)) 3 0 in
      let last : List ℕ → Verdict = λ bytes. refuse_if (not (eqb (length bytes) (512 * block_count h))) 20 0 or_else blocks_verdict h bytes 1 (block_count h - 1) in
      let ends : counts.number ≡ 0 → last cut_off ≡ last input
      = λ z.
      let l = blocks-short h (counts-pass most h.files h.recipes h.pins z).1 in
      unlike h cut_off (blocks_verdict h cut_off 1 (block_count h - 1)) (omega (arith, l, cut-length)) ∙ sym (unlike h input (blocks_verdict h input 1 (block_count h - 1)) (omega (arith, l))) in
      let figures : (wide or_else counts or_else lent or_else last cut_off) ≡ (wide or_else counts or_else lent or_else last input)
      = chain_same wide (counts or_else lent or_else last cut_off) (counts or_else lent or_else last input)
      (λ _. chain_same counts (lent or_else last cut_off) (lent or_else last input) (λ z. chain_same lent (last cut_off) (last input) (λ _. ends z))) in
      ap₂ (λ (v w : Verdict). v or_else w) enough (ap₂ (λ (v w : Verdict). v or_else w) (zeroth-same h) figures)

  layout-same : (room : Room) → layout_verdict most cut_off room ≡ layout_verdict most input room
  unfolding layout_verdict block_verdict check_counts blocks_verdict
  layout-same room = ap (λ (h : Header). layout-by h cut_off room) header-same ∙ links (header_of input) room

  -- and it is refused
  layout-no : (room : Room) → (layout_verdict most input room).number ≢ 0
  unfolding layout_verdict block_verdict check_counts blocks_verdict
  layout-no room ok =
      let h : Header = header_of input in
      let b = passes-both (refuse_if (ltb (length input) 512) 20 0) _ ok in
      let c = passes-both (block_verdict h input 0) _ b.1 in
      let w = passes-both (refuse_if (bad_k h.k) 22 0) _ c.1 in
      let d = passes-both (check_counts most h.files h.recipes h.pins) _ w.1 in
      let f = passes-both (refuse_if (not (roomy h room)) 3 0) _ d.1 in
      let l = blocks-short h (counts-pass most h.files h.recipes h.pins d.0).1 in
      omega (arith, ap (λ (v : Verdict). v.number) (unlike h input (blocks_verdict h input 1 (block_count h - 1)) (omega (arith, l))), f.1)

  layout-refused : (bytes : List ℕ) (room : Room) → (layout_verdict most bytes room).number ≢ 0 → read_verdict most bytes room ≡ layout_verdict most bytes room
  unfolding read_verdict layout_verdict check_contents
  layout-refused bytes room n = sym (chain-stop (check_contents (job_of bytes)) refl n)

  read_same : (room : Room) → read_verdict most cut_off room ≡ read_verdict most input room
  read_same room =
      layout-refused cut_off room (λ z. layout-no room (sym (ap (λ (v : Verdict). v.number) (layout-same room)) ∙ z)) ∙ layout-same room ∙ sym (layout-refused input room (layout-no room))

  pub read_no : (room : Room) → (read_verdict most input room).number ≢ 0
  read_no room z = layout-no room (sym (ap (λ (v : Verdict). v.number) (layout-refused input room (layout-no room))) ∙ z)

-- a refusal is all that is printed of an input that is refused
pub prints-no : (edition : ℕ) (most : Limits) (bytes : List ℕ) → (read_verdict most bytes (all_room most)).number ≢ 0 → prints edition most bytes ≡ refusal (read_verdict most bytes (all_room most))
unfolding prints
prints-no edition most bytes n = rw (ne_eqb (read_verdict most bytes (all_room most)).number 0 n, prints) refl

pub traces-no : (edition : ℕ) (most : Limits) (bytes : List ℕ) → (read_verdict most bytes (all_room most)).number ≢ 0 → traces edition most bytes ≡ refusal (read_verdict most bytes (all_room most))
unfolding traces
traces-no edition most bytes n = rw (ne_eqb (read_verdict most bytes (all_room most)).number 0 n, traces) refl

pub resettles-no : (edition : ℕ) (most : Limits) (bytes : List ℕ) → (read_verdict most bytes (all_room most)).number ≢ 0
    → resettles edition most bytes ≡ record { output = []; errors = refusal (read_verdict most bytes (all_room most)) }
unfolding resettles
resettles-no edition most bytes n =
    let v : Verdict = read_verdict most bytes (all_room most) or_else (all_run edition most (job_of bytes)).answer.figures.verdict in
    let e : read_verdict most bytes (all_room most) ≡ v = chain-stop (all_run edition most (job_of bytes)).answer.figures.verdict refl n in
    rw (ne_eqb v.number 0 (λ z. n (ap (λ (w : Verdict). w.number) e ∙ z)), resettles) (ap (λ (w : Verdict). record { output = []; errors = refusal w }) (sym e))

-- what a program tells of a refused input, it tells of the input cut off
pub cut-same : {A : Type 0} (most : Limits) (k : ℕ) (input : List ℕ) (tell : List ℕ → A) (line : Verdict → A)
    → ((bytes : List ℕ) → (read_verdict most bytes (all_room most)).number ≢ 0 → tell bytes ≡ line (read_verdict most bytes (all_room most)))
    → most_bytes most < k → tell (take k input) ≡ tell input
cut-same most k input tell line told more = elim (dec_lt k (length input)) [
  | yes long ↦
      let same = read_same most k input more long (all_room most) in
      let n = read_no most k input more long (all_room most) in
      told (take k input) (λ z. n (sym (ap (λ (v : Verdict). v.number) same) ∙ z)) ∙ ap line same ∙ sym (told input n)
  | no n ↦ ap tell (take_all k input (omega arith))
]

pub longer-same : (most : Limits) (k : ℕ) (input : List ℕ) → Longer most k input
longer-same most k input = record {
  same = λ edition. cut-same most k input (prints edition most) refusal (prints-no edition most);
  traced = λ edition. cut-same most k input (traces edition most) refusal (traces-no edition most);
  handed = λ edition. cut-same most k input (resettles edition most) (λ v. record { output = []; errors = refusal v }) (resettles-no edition most);
}
