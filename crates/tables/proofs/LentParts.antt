-- A part of a list lent and put back, and the zones of the scratch filled so one after the other. Assumes nothing.
use mathlib.Core.Path.{◌≡◌, refl, sym, ap, ap₂, ◌∙◌}
use Prim.Native.Nat.{ℕ, ◌+◌, ◌-◌, ◌*◌, ◌≤◌, ◌<◌}
use mathlib.Core.List.{List, ◌++◌}
use native.Mathlib.Omega.{arith}
use lib.ListN.{length, get_or, take, drop}
use lib.Seq.{length-take-le, take-take, take_at, drop_at, drop-drop, take_all, get_or-drop}
use borrow.Rule.Slice.PartMut.{put_mid, same_len_mid, take_put, drop_put}
use Rattle.rules.specs.Move.{State}
use Rattle.rules.specs.Split.{recipes_of}
use Rattle.tables.specs.declared.zones.Zones.{Zones}
use Rattle.tables.specs.Zones.{cells_at, starts_at, counts_at, side_at, zones_of, part, start_in, end_in, Cells, Counts}
use Rattle.tables.specs.Filling.{start_at, end_at, start_of, Filled}
use Rattle.tables.proofs.Parts.{part_length, part-entry, front-entry, front-part}
use Rattle.tables.proofs.Filling.{start-after, starts-are}
use Rattle.tables.proofs.Sides.{zones-are, side-within, side-from}

-- ---- `put_mid a (e - a) xs ys`: the entries of xs from a up to e were lent and came back as ys

module _ {A : Type 0} where
  module _ (a e : ℕ) (xs ys : List A) (h : a ≤ e) (fits : e ≤ length xs) (l : length ys ≡ e - a) where
    abbrev back : List A
    back = put_mid a (e - a) xs ys

    -- the place itself, what lies before it and what lies after
    pub put-here : take (e - a) (drop a back) ≡ ys
    put-here = rw (drop_at (take a xs) (ys ++ drop (e - a) (drop a xs)) a (length-take-le a xs (omega arith)), take_at ys (drop (e - a) (drop a xs)) (e - a) l)

    pub put-below : (m : ℕ) → m ≤ a → take m back ≡ take m xs
    put-below m k = sym (take-take m a back k) ∙ ap (take m) (take_put a (e - a) xs ys (omega arith)) ∙ take-take m a xs k

    pub put-beyond : (m : ℕ) → e ≤ m → drop m back ≡ drop m xs
    put-beyond m k =
        let s : e + (m - e) ≡ m = omega arith in
        ap (λ (j : ℕ). drop j back) (sym s)
        ∙ sym (drop-drop (m - e) e back)
        ∙ ap (drop (m - e)) (drop_put a e xs ys h fits l)
        ∙ drop-drop (m - e) e xs
        ∙ ap (λ (j : ℕ). drop j xs) s

-- ---- cells and counts, carried from their zone to the scratch

-- cells stand where the entries of their zone are the same
pub cells_same : {rs : List (List ℕ)} {c p : ℕ} {z z' : List ℕ} → ((i : ℕ) → cells_at c ≤ i → i < counts_at c p → get_or z' i 0 ≡ get_or z i 0)
    → ((a k : ℕ) → cells_at c ≤ a → a + k ≤ counts_at c p → part a k z' ≡ part a k z) → Cells rs c p z → Cells rs c p z'
cells_same {rs} {c} {p} {z} {z'} same parts d =
    let from : (f : ℕ) → f < c → start_in c p z' f ≡ start_in c p z f = λ f h. same (starts_at c p + f) (omega arith) (omega arith) in
    let to : (f : ℕ) → f < c → end_in c p z' f ≡ end_in c p z f = λ f h. same (starts_at c p + f + 1) (omega arith) (omega arith) in
    record {
      order = λ f h. rw (from f h, to f h) (d.order f h);
      inside = λ f h. rw (to f h) (d.inside f h);
      hold = λ f h.
          ap₂ (λ (a e : ℕ). part (cells_at c + a) (e - a) z') (from f h) (to f h)
          ∙ parts (cells_at c + start_in c p z f) (end_in c p z f - start_in c p z f) (omega arith) (omega (arith, d.order f h, d.inside f h))
          ∙ d.hold f h;
    }

-- the cells of a zone that is filled, in a list that has the zone where they begin
module _ {rs : List (List ℕ)} {c p : ℕ} (fits : start_of rs c ≤ p) (z : List ℕ) {y : List ℕ} (here : part (cells_at c) (p + c + 1) z ≡ y)
    (s : Filled rs (start_of rs) p c (recipes_of rs) y) where
  same : take (p + c + 1) (drop (cells_at c) z) ≡ take (p + c + 1) y
  same = here ∙ sym (take_all (p + c + 1) y (omega (arith, s.long)))

  entry : (i k : ℕ) → i < p + c + 1 → k ≡ cells_at c + i → get_or z k 0 ≡ get_or y i 0
  entry i k h e = ap (λ (j : ℕ). get_or z j 0) e ∙ sym (get_or-drop (cells_at c) z i 0) ∙ front-entry (p + c + 1) (drop (cells_at c) z) y same i h

  pub starts_from : (f : ℕ) → f ≤ c → start_in c p z f ≡ start_of rs f
  starts_from f h = entry (start_at p f) _ (omega arith) (omega arith) ∙ starts-are s f h

  ends-from : (f : ℕ) → f < c → end_in c p z f ≡ start_of rs f + length (recipes_of rs f)
  ends-from f h = entry (end_at p f) _ (omega arith) (omega arith) ∙ s.ends f h

  pub spare-from : (i : ℕ) → start_of rs c ≤ i → i < p → get_or z (cells_at c + i) 0 ≡ 0
  spare-from i a b = entry i _ (omega arith) refl ∙ s.spare i a b

  pub cells-from : Cells rs c p z
  cells-from =
      record {
        order = λ f h. omega (arith, starts_from f (omega arith), ends-from f h);
        inside = λ f h. omega (arith, ends-from f h, start-after rs f c h);
        hold = λ f h.
            let e : end_in c p z f - start_in c p z f ≡ length (recipes_of rs f) = omega (arith, starts_from f (omega arith), ends-from f h) in
            ap₂ (λ (a k : ℕ). part (cells_at c + a) k z) (starts_from f (omega arith)) e
            ∙ ap (take (length (recipes_of rs f))) (sym (drop-drop (start_of rs f) (cells_at c) z))
            ∙ front-part (p + c + 1) (drop (cells_at c) z) y same (start_of rs f) (length (recipes_of rs f)) (omega (arith, start-after rs f c h))
            ∙ s.hold (start-after rs) f h;
      }

-- the counts of a zone, in a list that has the zone at `at`
pub counts-from : {rs : List (List ℕ)} {st : State} {n : ℕ} {y : List ℕ} (at : ℕ) (z : List ℕ) → part at (4 * n) z ≡ y → Counts rs st 0 n y → Counts rs st at n z
counts-from {n} {y} at z here c =
    let entry : (i k : ℕ) → i < 4 * n → k ≡ at + i → get_or z k 0 ≡ get_or y i 0 = λ i k h e.
    ap (λ (j : ℕ). get_or z j 0) e ∙ sym (part-entry at (4 * n) z i h) ∙ ap (λ (l : List ℕ). get_or l i 0) here in
    record {
      each = λ j l.
          let o = c.each j l in
          record {
            on = λ u h. entry (side_at 0 n u + j) (side_at at n u + j) (omega (arith, side-within 0 n u)) (omega (arith, side-from at n u)) ∙ o.on u h;
            locked = λ u h. entry (side_at 0 n u + j + 2 * n) (side_at at n u + j + 2 * n) (omega (arith, side-within 0 n u)) (omega (arith, side-from at n u)) ∙ o.locked u h;
          };
    }

-- ---- the scratch z, its zones lent one after the other: z₁ the locks, z₂ the cells with their starts, z₃ the counts

-- where the code has the zones begin: a the cells, d the counts, and e their end
pub record Begins (c p n a d e : ℕ) : Type 0 where
  pub cells : a ≡ cells_at c
  pub counts : d ≡ counts_at c p
  pub end : e ≡ counts_at c p + 4 * n

abbrev one_zone : ℕ → List ℕ → List ℕ → List ℕ
one_zone a z z₁ = put_mid 0 (a - 0) z z₁

abbrev two_zones : ℕ → ℕ → List ℕ → List ℕ → List ℕ → List ℕ
two_zones a d z z₁ z₂ = put_mid a (d - a) (one_zone a z z₁) z₂

abbrev pub three_zones : ℕ → ℕ → ℕ → List ℕ → List ℕ → List ℕ → List ℕ → List ℕ
three_zones a d e z z₁ z₂ z₃ = put_mid d (e - d) (two_zones a d z z₁ z₂) z₃

-- each comes back as long as it was lent
pub record OneZone (c p n a d e : ℕ) (z z₁ : List ℕ) : Type 0 where
  pub begins : Begins c p n a d e
  pub fits : counts_at c p + 4 * n ≤ length z
  pub first : length z₁ ≡ length (part 0 (a - 0) z)

pub record TwoZones (c p n a d e : ℕ) (z z₁ z₂ : List ℕ) : Type 0 where
  pub before : OneZone c p n a d e z z₁
  pub second : length z₂ ≡ length (part a (d - a) (one_zone a z z₁))

pub record ThreeZones (c p n a d e : ℕ) (z z₁ z₂ z₃ : List ℕ) : Type 0 where
  pub before : TwoZones c p n a d e z z₁ z₂
  pub third : length z₃ ≡ length (part d (e - d) (two_zones a d z z₁ z₂))

-- the zone that is lent for the locks
pub locks-room : {c p n a d e : ℕ} (z : List ℕ) → Begins c p n a d e → counts_at c p + 4 * n ≤ length z → length (part 0 (a - 0) z) ≡ c
locks-room {a = a} z g fits = part_length 0 (a - 0) z (omega (arith, g.cells)) ∙ omega (arith, g.cells)

-- so they come back, where the code has the zones begin as it says
pub lend : {c p n : ℕ} {at : Zones} {k : ℕ} {z z₁ z₂ z₃ : List ℕ} → at ≡ zones_of c p → k ≡ n → counts_at c p + 4 * n ≤ length z
    → length z₁ ≡ length (part 0 (at.cells - 0) z)
    → length z₂ ≡ length (part at.cells (at.counts - at.cells) (one_zone at.cells z z₁))
    → length z₃ ≡ length (part at.counts (at.counts + 4 * k - at.counts) (two_zones at.cells at.counts z z₁ z₂))
    → ThreeZones c p n at.cells at.counts (at.counts + 4 * k) z z₁ z₂ z₃
lend {c} {p} e m fits a b d =
    let o = zones-are c p e in
    record {
      before = record { before = record { begins = record { cells = o.0; counts = o.2; end = omega (arith, o.2, m) }; fits = fits; first = a }; second = b };
      third = d;
    }

module _ {c p n a d e : ℕ} {z z₁ : List ℕ} (l : OneZone c p n a d e z z₁) where
  one-long : length (one_zone a z z₁) ≡ length z
  one-long = same_len_mid 0 (a - 0) z z₁ l.first

  first-in : a ≤ length z
  first-in = omega (arith, l.fits, l.begins)

  first-long : length z₁ ≡ a - 0
  first-long = l.first ∙ part_length 0 (a - 0) z (omega (arith, first-in))

  pub second-in : (a ≤ d) × (d ≤ length (one_zone a z z₁))
  second-in = omega (arith, l.fits, l.begins, one-long)

  second_fits : length (part a (d - a) (one_zone a z z₁)) ≡ d - a
  second_fits = part_length a (d - a) (one_zone a z z₁) (omega (arith, second-in))

  -- the zone that is lent for the cells
  pub cells-room : length (part a (d - a) (one_zone a z z₁)) ≡ p + c + 1
  cells-room = second_fits ∙ omega (arith, l.begins)

module _ {c p n a d e : ℕ} {z z₁ z₂ : List ℕ} (l : TwoZones c p n a d e z z₁ z₂) where
  two-long : length (two_zones a d z z₁ z₂) ≡ length z
  two-long = same_len_mid a (d - a) (one_zone a z z₁) z₂ l.second ∙ one-long l.before

  second-long : length z₂ ≡ d - a
  second-long = l.second ∙ second_fits l.before

  pub third-in : (d ≤ e) × (e ≤ length (two_zones a d z z₁ z₂))
  third-in = omega (arith, l.before.fits, l.before.begins, two-long)

  third-fits : length (part d (e - d) (two_zones a d z z₁ z₂)) ≡ e - d
  third-fits = part_length d (e - d) (two_zones a d z z₁ z₂) (omega (arith, third-in))

  -- the zone that is lent for the counts
  pub counts-room : length (part d (e - d) (two_zones a d z z₁ z₂)) ≡ 4 * n
  counts-room = third-fits ∙ omega (arith, l.before.begins)

module _ {c p n a d e : ℕ} {z z₁ z₂ z₃ : List ℕ} (l : ThreeZones c p n a d e z z₁ z₂ z₃) where
  abbrev g : Begins c p n a d e
  g = l.before.before.begins

  abbrev one : List ℕ
  one = one_zone a z z₁

  abbrev two : List ℕ
  two = two_zones a d z z₁ z₂

  abbrev all : List ℕ
  all = three_zones a d e z z₁ z₂ z₃

  -- what each lending leaves below and beyond its zone
  first-beyond : (m : ℕ) → a ≤ m → drop m one ≡ drop m z
  first-beyond = put-beyond 0 a z z₁ (omega arith) (first-in l.before.before) (first-long l.before.before)

  second_below : (m : ℕ) → m ≤ a → take m two ≡ take m one
  second_below = put-below a d one z₂ (second-in l.before.before).0 (second-in l.before.before).1 (second-long l.before)

  second-beyond : (m : ℕ) → d ≤ m → drop m two ≡ drop m one
  second-beyond = put-beyond a d one z₂ (second-in l.before.before).0 (second-in l.before.before).1 (second-long l.before)

  third-long : length z₃ ≡ e - d
  third-long = l.third ∙ third-fits l.before

  third-below : (m : ℕ) → m ≤ d → take m all ≡ take m two
  third-below = put-below d e two z₃ (third-in l.before).0 (third-in l.before).1 third-long

  pub zones-long : length all ≡ length z
  zones-long = same_len_mid d (e - d) two z₃ l.third ∙ two-long l.before

  pub zones-room : counts_at c p + 4 * n ≤ length all
  zones-room = omega (arith, l.before.before.fits, zones-long)

  pub zones-beyond : drop (counts_at c p + 4 * n) all ≡ drop (counts_at c p + 4 * n) z
  zones-beyond =
      let m = counts_at c p + 4 * n in
      put-beyond d e two z₃ (third-in l.before).0 (third-in l.before).1 third-long m (omega (arith, g))
      ∙ second-beyond m (omega (arith, g)) ∙ first-beyond m (omega (arith, g))

  -- the later zones leave the earlier ones
  pub zones-locks : take c all ≡ z₁
  zones-locks =
      let k : c ≡ a - 0 = omega (arith, g) in
      third-below c (omega (arith, g)) ∙ second_below c (omega (arith, g)) ∙ ap (λ (j : ℕ). take j one) k
      ∙ put-here 0 a z z₁ (omega arith) (first-in l.before.before) (first-long l.before.before)

  zones-middle : part (cells_at c) (p + c + 1) all ≡ z₂
  zones-middle =
      let k : p + c + 1 ≡ d - a = omega (arith, g) in
      front-part d all two (third-below d (omega arith)) (cells_at c) (p + c + 1) (omega (arith, g))
      ∙ ap₂ (λ (i j : ℕ). part i j two) (sym g.cells) k
      ∙ put-here a d one z₂ (second-in l.before.before).0 (second-in l.before.before).1 (second-long l.before)

  pub zones-counts : {rs : List (List ℕ)} {st : State} → Counts rs st 0 n z₃ → Counts rs st (counts_at c p) n all
  zones-counts =
      let k : 4 * n ≡ e - d = omega (arith, g) in
      counts-from (counts_at c p) all
      (ap₂ (λ (i j : ℕ). part i j all) (sym g.counts) k ∙ put-here d e two z₃ (third-in l.before).0 (third-in l.before).1 third-long)

-- the cells, where the middle zone is filled
module _ {rs : List (List ℕ)} {c p n a d e : ℕ} {z z₁ z₂ z₃ : List ℕ} (l : ThreeZones c p n a d e z z₁ z₂ z₃) (fits : start_of rs c ≤ p)
    (s : Filled rs (start_of rs) p c (recipes_of rs) z₂) where
  pub zones-starts : (f : ℕ) → f ≤ c → start_in c p (three_zones a d e z z₁ z₂ z₃) f ≡ start_of rs f
  zones-starts = starts_from fits (three_zones a d e z z₁ z₂ z₃) (zones-middle l) s

  pub zones-spare : (i : ℕ) → start_of rs c ≤ i → i < p → get_or (three_zones a d e z z₁ z₂ z₃) (cells_at c + i) 0 ≡ 0
  zones-spare = spare-from fits (three_zones a d e z z₁ z₂ z₃) (zones-middle l) s

  pub zones-cells : Cells rs c p (three_zones a d e z z₁ z₂ z₃)
  zones-cells = cells-from fits (three_zones a d e z z₁ z₂ z₃) (zones-middle l) s
