-- What is prepared is settled: two scratches prepared from one are the same, entry by entry. Assumes nothing.
use mathlib.Core.Path.{◌≡◌, sym, ap, ap₂, ◌∙◌}
use Prim.Native.Nat.{ℕ, ◌+◌, ◌-◌, ◌*◌, ◌≤◌, ◌<◌}
use mathlib.Core.Bool.{Bool}
use mathlib.Core.List.{List}
use native.Mathlib.Omega.{arith}
use native.Mathlib.Numerals.{add-one}
use native.Mathlib.Decide.{ℕ_discrete, dec_lt}
use lib.ListN.{length, get_or}
use lib.Seq.{get_or-drop, ext_get_or}
use lib.IntN.{ℤ}
use Rattle.rules.specs.Job.{Job, Limits}
use Rattle.rules.specs.Split.{recipes_of}
use Rattle.std.specs.Prelude.{Result}
use Rattle.rules.specs.declared.refusal.Refusal.{Refusal}
use Rattle.job.specs.declared.figures.Surveyed.{Surveyed}
use Rattle.job.specs.Survey.{Survey, as_survey}
use Rattle.job.proofs.Unique.{as_survey-one}
use Rattle.tables.specs.Zones.{cells_at, starts_at, counts_at, side_at, part, start_in, end_in}
use Rattle.tables.specs.Building.{read_of}
use Rattle.tables.specs.Filling.{start_of}
use Rattle.tables.specs.LayingOut.{Prepared, LaysOut}
use Rattle.tables.proofs.Parts.{part-entry, front-entry}
use Rattle.tables.proofs.Filling.{start-more, cell-of}

-- what holds below a, and at the next k, holds below their end
further : (P : ℕ → Type 0) (a k b : ℕ) → b ≤ a + k → ((i : ℕ) → i < a → P i) → ((j : ℕ) → j < k → P (a + j)) → (i : ℕ) → i < b → P i
further P a k b h below next i l = elim (dec_lt i a) [
  | yes p ↦ below i p
  | no n ↦
      let e : a + (i - a) ≡ i = omega arith in
      rw e at (next (i - a) (omega arith))
]

-- ---- one scratch

module _ {bounds pins sides marks z₀ z : List ℕ} {g : List ℤ} {n : ℕ} (d : Prepared bounds pins sides marks z₀ z g n) where
  abbrev rs : List (List ℕ)
  rs = read_of marks bounds pins

  abbrev mine : ℕ → List ℕ
  mine f = recipes_of rs f

  -- a cell of file f is the recipe of its place
  cell-is : (f i : ℕ) → f < length sides → start_of rs f ≤ i → i < start_of rs f + length (mine f)
      → get_or z (cells_at (length sides) + i) 0 ≡ get_or (mine f) (i - start_of rs f) 0
  cell-is f i h from to =
      let e : cells_at (length sides) + start_of rs f + (i - start_of rs f) ≡ cells_at (length sides) + i = omega arith in
      let next : starts_at (length sides) (length pins) + (f + 1) ≡ starts_at (length sides) (length pins) + f + 1 = omega arith in
      let last : end_in (length sides) (length pins) z f ≡ start_of rs (f + 1) = ap (λ (k : ℕ). get_or z k 0) (sym next) ∙ d.starts (f + 1) (omega arith) in
      let many : end_in (length sides) (length pins) z f - start_in (length sides) (length pins) z f ≡ length (mine f)
      = omega (arith, last, d.starts f (omega arith), start-more rs f, ap (start_of rs) (add-one f)) in
      ap (λ (k : ℕ). get_or z k 0) (sym e)
      ∙ sym (part-entry (cells_at (length sides) + start_of rs f) (length (mine f)) z (i - start_of rs f) (omega arith))
      ∙ ap (λ (l : List ℕ). get_or l (i - start_of rs f) 0)
      (ap₂ (λ (a k : ℕ). part (cells_at (length sides) + a) k z) (sym (d.starts f (omega arith))) (sym many) ∙ d.cells.hold f h)

-- ---- two

module _ {bounds pins sides marks z₀ z z' : List ℕ} {g g' : List ℤ} {n : ℕ}
    (d : Prepared bounds pins sides marks z₀ z g n) (d' : Prepared bounds pins sides marks z₀ z' g' n) where
  abbrev c : ℕ
  c = length sides

  abbrev p : ℕ
  p = length pins

  abbrev at : ℕ
  at = counts_at c p

  abbrev Same : ℕ → Type 0
  Same i = get_or z i 0 ≡ get_or z' i 0

  same-cells : (i : ℕ) → i < p → Same (cells_at c + i)
  same-cells i h = elim (dec_lt i (start_of (read_of marks bounds pins) c)) [
    | yes l ↦
        let r = cell-of (read_of marks bounds pins) c i l in
        cell-is d r.0 i r.1 r.2 r.3 ∙ sym (cell-is d' r.0 i r.1 r.2 r.3)
    | no n ↦ d.spare i (omega arith) h ∙ sym (d'.spare i (omega arith) h)
  ]

  same-before : (i : ℕ) → i < at → Same i
  same-before =
      further Same (starts_at c p) (c + 1) at (omega arith)
      (further Same (cells_at c) p (starts_at c p) (omega arith)
      (front-entry c z z' (d.locks ∙ sym d'.locks))
      same-cells)
      (λ f h. d.starts f (omega arith) ∙ sym (d'.starts f (omega arith)))

  same-counts : (i : ℕ) → i < at + 4 * n → Same i
  same-counts =
      further Same (at + n + 2 * n) n (at + 4 * n) (omega arith)
      (further Same (at + 2 * n) n (at + n + 2 * n) (omega arith)
      (further Same (at + n) n (at + 2 * n) (omega arith)
      (further Same at n (at + n) (omega arith) same-before (on 0 (omega arith)))
      (on 1 (omega arith)))
      (locked 0 (omega arith)))
      (locked 1 (omega arith))
    where
      on : (u : ℕ) → u ≤ 1 → (j : ℕ) → j < n → Same (side_at at n u + j)
      on u l j h = (d.counts.each j h).on u l ∙ sym ((d'.counts.each j h).on u l)

      locked : (u : ℕ) → u ≤ 1 → (j : ℕ) → j < n → Same (side_at at n u + 2 * n + j)
      locked u l j h =
          let e : side_at at n u + j + 2 * n ≡ side_at at n u + 2 * n + j = omega arith in
          rw e at ((d.counts.each j h).locked u l ∙ sym ((d'.counts.each j h).locked u l))

  same-beyond : (j : ℕ) → Same (at + 4 * n + j)
  same-beyond j =
      sym (get_or-drop (at + 4 * n) z j 0) ∙ ap (λ (l : List ℕ). get_or l j 0) (d.beyond ∙ sym d'.beyond) ∙ get_or-drop (at + 4 * n) z' j 0

  pub prepared-once : z ≡ z'
  prepared-once = ext_get_or 0 z z' (d.long ∙ sym d'.long) (further Same (at + 4 * n) (length z) (length z) (omega arith) same-counts (λ j h. same-beyond j))

-- ---- the answer, the gains and the scratch

module _ {balancing : Bool} {most : Limits} {job : Job} {word : Bool} {gains₀ : List ℤ} {z₀ : List ℕ} where
  pub numbers-once : {g g' : List ℤ} {z z' : List ℕ} {s s' : Survey} → LaysOut balancing most job word gains₀ z₀ g z s → LaysOut balancing most job word gains₀ z₀ g' z' s'
      → (s ≡ s') × (g ≡ g') × (z ≡ z')
  numbers-once {g} {g'} {z} {z'} {s} {s'} a b = elim (ℕ_discrete s.verdict.number 0) [
    | yes e ↦
        let d = a.laid e in
        let d' = b.laid (sym number ∙ e) in
        (same, d.starting ∙ sym d'.starting, prepared-once d d')
    | no n ↦
        let r = a.refused n in
        let r' = b.refused (λ e. n (number ∙ e)) in
        (same, r.0 ∙ sym r'.0, r.1 ∙ sym r'.1)
  ]
    where
      same : s ≡ s'
      same = a.answer ∙ sym b.answer

      number : s.verdict.number ≡ s'.verdict.number
      number = ap (λ (x : Survey). x.verdict.number) same

  pub laid-once : {g g' : List ℤ} {z z' : List ℕ} (r r' : Result Surveyed Refusal) → LaysOut balancing most job word gains₀ z₀ g z (as_survey r)
      → LaysOut balancing most job word gains₀ z₀ g' z' (as_survey r')
      → (r ≡ r') × (g ≡ g') × (z ≡ z')
  laid-once {g} {g'} {z} {z'} r r' a b =
      let t = numbers-once a b in
      (as_survey-one r r' t.0, t.1, t.2)
