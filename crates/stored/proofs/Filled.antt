-- Lists as they are filled from blocks. Assumes nothing.
use Rattle.std.proofs.Common.{◌≡◌, ℕ, ◌+◌, ◌-◌, ◌*◌, ◌/◌, ◌%◌, ◌<◌, ◌≤◌, min, List, map, length, refl, sym, ap, ap₂, ◌∙◌, arith}
use Rattle.std.proofs.lemmas.Bool.Decides.{nat_tests}
use Rattle.std.proofs.Math.Nat.{add-zero, mul-one, mul-add, mul-add-div, div-eq_of_lt, mul-add-mod_self_left, mod-eq_of_lt}
use Rattle.std.proofs.Math.Seq.{ext_get_or}
use native.Mathlib.Decide.{ℕ_discrete, dec_lt}
use lib.ListN.{set, length-set}
use lib.Seq.{get_or-set_same, get_or-set_other}
use Rattle.rules.specs.declared.Header.{Header}
use Rattle.rules.specs.Lists.{up_to, onto}
use Rattle.rules.specs.Stored.{Room, block_at, value_in, held_in, bounds_at, pins_at, block_count, kind_of, values_in}
use Rattle.rules.proofs.Count.{get_d-tabled, length-tabled}
use Rattle.rules.proofs.Entries.{onto-length, onto-in, onto-stays}
use Rattle.stored.specs.Steps.{Put, Taken, TakenTo}

-- ---- one block's values

pub put-none : (f : ℕ → ℕ) (a : ℕ) (xs : List ℕ) → Put f a 0 xs xs
put-none f a xs = record { long = refl; put = λ v h. absurd (omega arith); before = λ i h. refl; after = λ i h. refl }

pub put-more : {f : ℕ → ℕ} {a n : ℕ} {old new : List ℕ} (x : ℕ) → Put f a n old new → a + n < length new → x ≡ f n → Put f a (n + 1) old (set new (a + n) x)
put-more {f} {a} {n} {old} {new} x p h e = record {
  long = length-set new (a + n) x ∙ p.long;
  put = λ v l. elim (ℕ_discrete v n) [
    | yes q ↦ rw q (get_or-set_same new (a + n) x 0 h ∙ e)
    | no z ↦ get_or-set_other new (a + n) (a + v) x 0 (λ q. z (omega arith)) ∙ p.put v (omega arith)
  ];
  before = λ i l. get_or-set_other new (a + n) i x 0 (λ q. omega arith) ∙ p.before i l;
  after = λ i l. get_or-set_other new (a + n) i x 0 (λ q. omega arith) ∙ p.after i (omega arith);
}

-- ---- the blocks of a kind

pub taken_none : (g : ℕ → ℕ) (xs : List ℕ) (n : ℕ) → n ≡ 0 → Taken g n xs xs
taken_none g xs n e = record { long = refl; taken = λ i h. absurd (omega arith); after = λ i h. refl }

-- n entries more, those of g from a on
pub taken_more : {f g : ℕ → ℕ} {a n m : ℕ} {old mid new : List ℕ} → Taken g a old mid → Put f a n mid new → m ≡ a + n → ((v : ℕ) → v < n → f v ≡ g (a + v)) → Taken g m old new
taken_more {f} {g} {a} {n} {m} {old} {mid} {new} t p h e = record {
  long = p.long ∙ t.long;
  taken = λ i l. elim (dec_lt i a) [
    | yes q ↦ p.before i q ∙ t.taken i q
    | no q ↦
        let v : ℕ = i - a in
        let w : a + v ≡ i = omega arith in
        rw (← w) (p.put v (omega arith) ∙ e v (omega arith))
  ];
  after = λ i l. p.after i (omega arith) ∙ t.after i (omega arith);
}

-- entry v of block k of a kind, m to a block
pub spread : (F : ℕ → ℕ → ℕ) (m k v : ℕ) → v < m → F k v ≡ F ((m * k + v) / m) ((m * k + v) % m)
spread F m k v h =
    let q : (m * k + v) / m ≡ k = mul-add-div (omega arith) k v ∙ ap (λ (i : ℕ). k + i) (div-eq_of_lt h) ∙ add-zero k in
    let r : (m * k + v) % m ≡ v = mul-add-mod_self_left m k v ∙ mod-eq_of_lt h in
    sym (ap₂ F q r)

-- block k is taken too
pub taken-block : {f g : ℕ → ℕ} {n : ℕ} {old mid new : List ℕ} (m k x : ℕ) → m * k ≤ x → n ≡ held_in m x k → Taken g (min (m * k) x) old mid → Put f (m * k) n mid new
    → ((v : ℕ) → v < m → f v ≡ g (m * k + v)) → Taken g (min (m * (k + 1)) x) old new
taken-block {f} {g} {n} m k x h e t p s =
    let q : m * (k + 1) ≡ m * k + m = mul-add m k 1 ∙ ap (λ (i : ℕ). m * k + i) (mul-one m) in
    let w : min (m * k) x ≡ m * k = omega arith in
    taken_more (rw w at t) p (rw q (omega arith)) (λ v l. s v (omega arith))

-- the entries taken are written over the first
pub taken-all : {g : ℕ → ℕ} {n : ℕ} {old new : List ℕ} → Taken g n old new → n ≤ length old → new ≡ onto (map g (up_to n)) old
taken-all {g} {n} {old} {new} t h =
    let xs : List ℕ = map g (up_to n) in
    let l : length xs ≡ n = length-tabled g n in
    ext_get_or 0 new (onto xs old) (t.long ∙ sym (onto-length 0 xs old (omega arith)))
    (λ i k. elim (dec_lt i n) [
      | yes q ↦ t.taken i q ∙ sym (onto-in 0 xs old i (omega arith) ∙ get_d-tabled g n i 0 q)
      | no q ↦ t.after i (omega arith) ∙ sym (onto-stays 0 xs old i (omega arith))
    ])

-- ---- the blocks past the header, kind after kind

-- where a block of each kind lies, and how many things it has
files-block : (h : Header) (b : ℕ) → kind_of h b ≡ 2 → (0 < b) × (b < bounds_at h) × (values_in h b ≡ 2 * held_in 126 h.files (b - 1))
files-block h b e = (grind (arith, nat_tests), grind (arith, nat_tests), grind (arith, nat_tests))

bounds-block : (h : Header) (b : ℕ) → kind_of h b ≡ 3 → (bounds_at h ≤ b) × (b < pins_at h) × (values_in h b ≡ held_in 253 (h.recipes + 1) (b - bounds_at h))
bounds-block h b e = (grind (arith, nat_tests), grind (arith, nat_tests), grind (arith, nat_tests))

pins-block : (h : Header) (b : ℕ) → kind_of h b ≡ 4 → (pins_at h ≤ b) × (values_in h b ≡ held_in 253 h.pins (b - pins_at h))
pins-block h b e = (grind (arith, nat_tests), grind (arith, nat_tests))

module _ {bytes : List ℕ} {h : Header} {b : ℕ} {first old : Room} (t : TakenTo bytes h b first old)
    {block : List ℕ} (e : block ≡ block_at bytes b) {n : ℕ} (m : n ≡ values_in h b) where
  -- entry v of block b of a kind whose blocks start at block a: what a value of the block is, it is of the stored job
  entries-of : (f : List ℕ → ℕ → ℕ) (l a v : ℕ) → a ≤ b → v < l → f block v ≡ f (block_at bytes (a + (l * (b - a) + v) / l)) ((l * (b - a) + v) % l)
  entries-of f l a v h k =
      let w : a + (b - a) ≡ b = omega arith in
      ap (λ (s : List ℕ). f s v) (e ∙ ap (block_at bytes) (sym w)) ∙ spread (λ q r. f (block_at bytes (a + q)) r) l (b - a) v k

  pub files-taken : kind_of h b ≡ 2 → {sizes sides marks : List ℕ}
      → Put (λ f. value_in block (2 * f)) (126 * (b - 1)) (n / 2) old.sizes sizes
      → Put (λ f. value_in block (2 * f + 1) % 2) (126 * (b - 1)) (n / 2) old.sides sides
      → Put (λ f. value_in block (2 * f + 1) / 2) (126 * (b - 1)) (n / 2) old.marks marks
      → TakenTo bytes h (b + 1) first (record { sizes = sizes; sides = sides; marks = marks; bounds = old.bounds; pins = old.pins })
  files-taken k p q r =
      let z = files-block h b k in
      let c : n / 2 ≡ held_in 126 h.files (b - 1) = omega (arith, z.2) in
      let w : b - 1 + 1 ≡ b + 1 - 1 = omega arith in
      let l : 126 * (b - 1) ≤ h.files = omega (arith, z.1) in
      let i : min (253 * (b - bounds_at h)) (h.recipes + 1) ≡ min (253 * (b + 1 - bounds_at h)) (h.recipes + 1) = omega (arith, z.1) in
      let j : min (253 * (b - pins_at h)) h.pins ≡ min (253 * (b + 1 - pins_at h)) h.pins = omega (arith, z.1) in
      record {
        sizes = rw (← w) (taken-block 126 (b - 1) h.files l c t.sizes p (λ v x. entries-of (λ s f. value_in s (2 * f)) 126 1 v z.0 x));
        sides = rw (← w) (taken-block 126 (b - 1) h.files l c t.sides q (λ v x. entries-of (λ s f. value_in s (2 * f + 1) % 2) 126 1 v z.0 x));
        marks = rw (← w) (taken-block 126 (b - 1) h.files l c t.marks r (λ v x. entries-of (λ s f. value_in s (2 * f + 1) / 2) 126 1 v z.0 x));
        bounds = rw i at t.bounds;
        pins = rw j at t.pins;
      }

  pub bounds-taken : kind_of h b ≡ 3 → {bounds : List ℕ} → Put (value_in block) (253 * (b - bounds_at h)) n old.bounds bounds
      → TakenTo bytes h (b + 1) first (record { sizes = old.sizes; sides = old.sides; marks = old.marks; bounds = bounds; pins = old.pins })
  bounds-taken k p =
      let z = bounds-block h b k in
      let w : b - bounds_at h + 1 ≡ b + 1 - bounds_at h = omega (arith, z.0) in
      let l : 253 * (b - bounds_at h) ≤ h.recipes + 1 = omega (arith, z.1) in
      let i : min (126 * (b - 1)) h.files ≡ min (126 * (b + 1 - 1)) h.files = omega (arith, z.0) in
      let j : min (253 * (b - pins_at h)) h.pins ≡ min (253 * (b + 1 - pins_at h)) h.pins = omega (arith, z.1) in
      record {
        sizes = rw i at t.sizes;
        sides = rw i at t.sides;
        marks = rw i at t.marks;
        bounds = rw (← w) (taken-block 253 (b - bounds_at h) (h.recipes + 1) l (m ∙ z.2) t.bounds p (λ v x. entries-of value_in 253 (bounds_at h) v z.0 x));
        pins = rw j at t.pins;
      }

  pub pins-taken : b < block_count h → kind_of h b ≡ 4 → {pins : List ℕ} → Put (value_in block) (253 * (b - pins_at h)) n old.pins pins
      → TakenTo bytes h (b + 1) first (record { sizes = old.sizes; sides = old.sides; marks = old.marks; bounds = old.bounds; pins = pins })
  pins-taken less k p =
      let z = pins-block h b k in
      let w : b - pins_at h + 1 ≡ b + 1 - pins_at h = omega (arith, z.0) in
      let l : 253 * (b - pins_at h) ≤ h.pins = omega arith in
      let i : min (126 * (b - 1)) h.files ≡ min (126 * (b + 1 - 1)) h.files = omega (arith, z.0) in
      let j : min (253 * (b - bounds_at h)) (h.recipes + 1) ≡ min (253 * (b + 1 - bounds_at h)) (h.recipes + 1) = omega (arith, z.0) in
      record {
        sizes = rw i at t.sizes;
        sides = rw i at t.sides;
        marks = rw i at t.marks;
        bounds = rw j at t.bounds;
        pins = rw (← w) (taken-block 253 (b - pins_at h) h.pins l (m ∙ z.1) t.pins p (λ v x. entries-of value_in 253 (pins_at h) v z.0 x));
      }
