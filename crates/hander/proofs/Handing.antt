-- Bytes that are handed out, in the room, for the one stream and the other. Assumes nothing.
use mathlib.Core.Path.{◌≡◌, refl, sym, ap, ◌∙◌}
use mathlib.Core.Logic.{◌≢◌}
use Prim.Native.Nat.{ℕ, ◌+◌, ◌-◌, ◌*◌, ◌≤◌, ◌<◌}
use mathlib.Core.Bool.{Bool, true, false, not}
use mathlib.Core.List.{List, [], ◌++◌, append-nil, append_assoc}
use native.Mathlib.Omega.{arith}
use lib.ListN.{length, take, drop, length-append, length-drop, take-append-drop, drop_of_length-le}
use lib.Seq.{length-take-le, take_all, take_at, drop_at, drop-drop}
use lib.Dec.{leb}
use borrow.Rule.Slice.PartMut.{mid_of, put_mid}
use borrow.Author.Tests.{le-leb, lt-leb}
use Rattle.rules.specs.declared.Verdict.{Verdict}
use Rattle.rules.specs.Numbers.{BalanceFigures}
use Rattle.rules.specs.Numbers.{Printed}
use Rattle.rules.specs.Numbers.{Handed}
use Rattle.std.specs.Prelude.{IfOk, Result, Ok, Err}
use Rattle.rules.specs.declared.refusal.Refusal.{Refusal}
use Rattle.rules.specs.declared.HandedOut.{HandedOut as Answer}
use Rattle.rules.specs.Cases.{as_handed}
use Rattle.rules.proofs.CasesOne.{as_handed-one}
use Rattle.rules.specs.Lists.{onto}
use Rattle.rules.specs.Job.{Job, Limits}
use Rattle.rules.specs.Check.{done, refuse_if}
use Rattle.rules.specs.Stored.{block_count}
use Rattle.rules.specs.Report.{refusal, Printing, printed, printing, into_room}
use Rattle.rules.specs.Writing.{header_for, blocks_of, check_written, Writing, writing_of, writing, HandedOut, Handing, handing_of, handing, hand_into}
use Rattle.rules.specs.Balance.{balance_lines, balance_reporting}
use Rattle.rules.proofs.Entries.{onto-least}
use Rattle.rules.proofs.Reports.{into-number, into-short, into-whole}
use Rattle.rules.proofs.RoundTrip.{blocks-length}
use Rattle.rules.proofs.Writes.{write-holds}
use Rattle.report.specs.Lending.{BothLendable}
use Rattle.hander.specs.Handing.{refused_out, made_out, balanced_out, Made}

-- ---- a refusal's line, which is in the room

line-into : (v : Verdict) (room : List ℕ) → (let x = into_room (refusal v) room in handing_of (record { verdict = x.answer.verdict; output = 0; errors = x.answer.bytes }) x.room) ≡ hand_into (refused_out v) room
unfolding printing handing
line-into v room = go (leb (length (refusal v)) (length room))
  where
    go : (b : Bool) → (let x = printing (refuse_if (not b) 3 0) (refusal v) room in handing_of (record { verdict = x.answer.verdict; output = 0; errors = x.answer.bytes }) x.room) ≡ handing (refuse_if (not b) 3 0) (refused_out v) room
    go true = refl
    go false = refl

pub line-handed : (v : Verdict) (room room' : List ℕ) (a : Printed) → printed a room' ≡ into_room (refusal v) room
    → handing_of (record { verdict = a.verdict; output = 0; errors = a.bytes }) room' ≡ hand_into (refused_out v) room
line-handed v room room' a e = ap (λ (x : Printing). handing_of (record { verdict = x.answer.verdict; output = 0; errors = x.answer.bytes }) x.room) e ∙ line-into v room

-- what is handed out can be lent on
pub both-lendable : (h : HandedOut) (room room' : List ℕ) (a : Handed) → handing_of a room' ≡ hand_into h room → BothLendable a.output a.errors room'
unfolding handing
both-lendable h room room' a e = go (leb (length (h.output ++ h.errors)) (length room)) e
  where
    go : (b : Bool) → handing_of a room' ≡ handing (refuse_if (not b) 3 0) h room → BothLendable a.output a.errors room'
    go true q =
        let n : a.output ≡ length h.output = ap (λ (x : Handing). x.answer.output) q in
        let m : a.errors ≡ length h.errors = ap (λ (x : Handing). x.answer.errors) q in
        let l : length room' ≡ length (onto (h.output ++ h.errors) room) = ap (λ (x : Handing). length x.room) q in
        let k = onto-least (h.output ++ h.errors) room in
        let s = length-append h.output h.errors in
        (omega (arith, n, m, l, k, s), (omega (arith, n, m, l, k, s), sym (length-take-le a.output room' (omega (arith, n, m, l, k, s)))))
    go false q =
        let n : a.output ≡ 0 = ap (λ (x : Handing). x.answer.output) q in
        let m : a.errors ≡ 0 = ap (λ (x : Handing). x.answer.errors) q in
        (omega (arith, n, m), (omega (arith, n), sym (length-take-le a.output room' (omega (arith, n)))))

-- ---- two texts in one room

module _ (first last room : List ℕ) where
  abbrev both : HandedOut
  both = record { output = first; errors = last }

  both-short : length room < length first + length last → handing_of (record { verdict = record { number = 3; place = 0 }; output = 0; errors = 0 }) room ≡ hand_into both room
  unfolding handing
  both-short short = rw (lt-leb (length (first ++ last)) (length room) (omega (arith, length-append first last, short))) refl

  both-whole : length first + length last ≤ length room
      → handing_of (record { verdict = done; output = length first; errors = length last }) (first ++ onto last (drop (length first) room)) ≡ hand_into both room
  unfolding handing onto
  both-whole long =
      rw (le-leb (length (first ++ last)) (length room) (omega (arith, length-append first last, long)))
      (ap (handing_of (record { verdict = done; output = length first; errors = length last })) in-turn)
    where
      in-turn : first ++ (last ++ drop (length last) (drop (length first) room)) ≡ (first ++ last) ++ drop (length (first ++ last)) room
      in-turn = rw (drop-drop, length-append, append_assoc) refl

-- ---- the blocks of a job, n bytes

-- a part just as long as they are is written
pub blocks-written : (most : Limits) (job : Job) (part : List ℕ) → (check_written most job true).number ≡ 0 → length part ≡ 512 * block_count (header_for job)
    → writing most job part ≡ writing_of done (blocks_of job)
blocks-written most job part passes long = let w = write-holds most job part in w.writes (ap (λ (x : Verdict). x.number) (w.all long) ∙ passes)

module _ (job : Job) (room : List ℕ) (n : ℕ) (l : n ≡ 512 * block_count (header_for job)) where
  bytes-long : n ≡ length (blocks_of job)
  bytes-long = l ∙ sym (blocks-length job)

  pub blocks-short : length room < n → handing_of (record { verdict = record { number = 3; place = 0 }; output = 0; errors = 0 }) room ≡ hand_into (made_out job []) room
  blocks-short short = both-short (blocks_of job) [] room (omega (arith, short, bytes-long))

  -- written to the first n bytes of the room
  pub blocks-handed : (most : Limits) → (check_written most job true).number ≡ 0 → n ≤ length room → (v : Verdict) (part : List ℕ) → writing_of v part ≡ writing most job (take n room)
      → (handing_of (record { verdict = v; output = n; errors = 0 }) (part ++ drop n room) ≡ hand_into (made_out job []) room) × (v.number ≡ 0)
  unfolding onto
  blocks-handed most passes fits v part e =
      let all : writing_of v part ≡ writing_of done (blocks_of job) = e ∙ blocks-written most job (take n room) passes (length-take-le n room fits ∙ l) in (
        ap (λ (x : Writing). handing_of (record { verdict = x.verdict; output = n; errors = 0 }) (x.out ++ drop n room)) all
            ∙ ap (λ (k : ℕ). handing_of (record { verdict = done; output = k; errors = 0 }) (blocks_of job ++ drop k room)) bytes-long
            ∙ both-whole (blocks_of job) [] room (omega (arith, fits, bytes-long)),
        ap (λ (x : Writing). x.verdict.number) all,
      )

-- ---- the job of a balancing that was made

module _ (most : Limits) (answer : BalanceFigures) (job : Job) (n : ℕ) (w : Made most answer job n) (room : List ℕ) where
  abbrev lines : List ℕ
  lines = balance_lines job answer job.sides

  blocks-long : n ≡ length (blocks_of job)
  blocks-long = w.blocks ∙ sym (blocks-length job)

  pub no_blocks : length room < n → handing_of (record { verdict = record { number = 3; place = 0 }; output = 0; errors = 0 }) room ≡ hand_into (balanced_out answer job) room
  no_blocks short = both-short (blocks_of job) lines room (omega (arith, short, blocks-long))

  -- the room behind the first n bytes, and the whole with a part back in its place
  abbrev behind : List ℕ
  behind = mid_of n (length room - n) room

  abbrev back : List ℕ → List ℕ
  back part = put_mid n (length room - n) room part

  behind-is : behind ≡ drop n room
  behind-is = take_all (length room - n) (drop n room) (omega (arith, length-drop n room))

  back_is : (part : List ℕ) → back part ≡ take n room ++ part
  back_is part =
      ap (λ (l : List ℕ). take n room ++ (part ++ l)) (drop_of_length-le (drop n room) {i = length room - n} (omega (arith, length-drop n room)))
      ∙ ap (λ (l : List ℕ). take n room ++ l) (append-nil part)

  -- the lines are told there
  module _ (fits : n ≤ length room) (a : Printed) (part : List ℕ) (e : printed a part ≡ balance_reporting most job.sizes job.marks answer job.sides behind) where
    told : printed a part ≡ into_room lines (drop n room)
    told = e ∙ w.told behind ∙ ap (into_room lines) behind-is

    pub no_lines : a.verdict.number ≢ 0 → handing_of (record { verdict = a.verdict; output = 0; errors = 0 }) (back part) ≡ hand_into (balanced_out answer job) room
    no_lines h =
        let s = into-short lines (drop n room) part a told h in
        let same : back part ≡ room = back_is part ∙ ap (λ (p : List ℕ). take n room ++ p) s.1 ∙ take-append-drop n room in
        ap (λ (v : Verdict). handing_of (record { verdict = v; output = 0; errors = 0 }) (back part)) s.0
        ∙ ap (handing_of (record { verdict = record { number = 3; place = 0 }; output = 0; errors = 0 })) same
        ∙ both-short (blocks_of job) lines room (omega (arith, s.2, length-drop n room, blocks-long))

    -- which is never so where there is room for both
    pub lines-enough : (length job.sides ≡ length job.sizes → length job.marks ≡ length job.sizes → 256 ≤ length behind → a.verdict.number ≢ 3) → n + 256 ≤ length room → a.verdict.number ≡ 0
    lines-enough h long = into-number lines (drop n room) part a told (h w.sides_long w.marks_long (omega (arith, long, ap length behind-is, length-drop n room)))

    -- and the blocks before them
    pub all-handed : a.verdict.number ≡ 0 → (v : Verdict) (first : List ℕ) → writing_of v first ≡ writing most job (take n (back part))
        → (handing_of (record { verdict = v; output = n; errors = a.bytes }) (first ++ drop n (back part)) ≡ hand_into (balanced_out answer job) room) × (v.number ≡ 0)
    all-handed z v first q =
        let t = into-whole lines (drop n room) part a told z in
        let before : length (take n room) ≡ n = length-take-le n room fits in
        let long : length (take n (back part)) ≡ n = ap (λ (l : List ℕ). length (take n l)) (back_is part) ∙ ap length (take_at (take n room) part n before) ∙ before in
        let all : writing_of v first ≡ writing_of done (blocks_of job) = q ∙ blocks-written most job (take n (back part)) w.passes (long ∙ w.blocks) in
        let rest : drop n (back part) ≡ onto lines (drop n room) = ap (drop n) (back_is part) ∙ drop_at (take n room) part n before ∙ t.1 in (
          ap (λ (x : Writing). handing_of (record { verdict = x.verdict; output = n; errors = a.bytes }) (x.out ++ drop n (back part))) all
              ∙ ap (λ (r : List ℕ). handing_of (record { verdict = done; output = n; errors = a.bytes }) (blocks_of job ++ r)) rest
              ∙ ap (λ (k : ℕ). handing_of (record { verdict = done; output = n; errors = k }) (blocks_of job ++ onto lines (drop n room))) t.0
              ∙ ap (λ (k : ℕ). handing_of (record { verdict = done; output = k; errors = length lines }) (blocks_of job ++ onto lines (drop k room))) blocks-long
              ∙ both-whole (blocks_of job) lines room (omega (arith, t.2, length-drop n room, blocks-long, fits)),
          ap (λ (x : Writing). x.verdict.number) all,
        )

-- ---- the same of what a call of src/ answers

pub result-both-lendable : (h : HandedOut) (room room' : List ℕ) (r : Result Answer Refusal) → handing_of (as_handed r) room' ≡ hand_into h room → IfOk r (λ handed. BothLendable handed.output handed.errors room')
result-both-lendable h room room' (Ok a) e = both-lendable h room room' (as_handed (Ok a)) e
result-both-lendable h room room' (Err r) e = tt

-- what was handed out settles the answer and the room
pub handed-one : (r s : Result Answer Refusal) (room room' : List ℕ) → handing_of (as_handed r) room ≡ handing_of (as_handed s) room' → ◌≡◌ {A = Result Answer Refusal × List ℕ} (r, room) (s, room')
handed-one r s room room' e = λ i. (as_handed-one r s (ap (λ (h : Handing). h.answer) e) i, (e i).room)
