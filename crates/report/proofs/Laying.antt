-- Text laid into a room piece by piece. Assumes nothing.
use mathlib.Core.Path.{◌≡◌, refl, sym, ap, ◌∙◌}
use Prim.Native.Nat.{ℕ, zero, suc, ◌+◌, ◌≤◌, ◌<◌}
use mathlib.Core.List.{List, [], ◌∷◌, ◌++◌, append-nil, append_assoc, map, map-id}
use native.Mathlib.Nat.{add-zero, zero-add}
use native.Mathlib.Numerals.{add-one}
use native.Mathlib.Omega.{arith}
use lib.ListN.{length, get_or, take, drop, set, length-append}
use lib.Seq.{sets, set_out, sets-eq, length-sets, take-suc, take_all}
use Rattle.rules.specs.Lists.{onto, up_to}
use Rattle.rules.proofs.Count.{length-up_to, get_d-up_to}
use Rattle.report.specs.declared.text.Text.{Text}
use Rattle.report.specs.Laying.{over, Laid, pieces}
use Rattle.report.specs.Writing.{Wrote}

over-more : (at : ℕ) (t u room : List ℕ) → over (at + length t) u (over at t room) ≡ over at (t ++ u) room
unfolding over
over-more at [] u room = ap (λ (k : ℕ). sets room k u) (add-zero at)
over-more at (a ∷ t) u room =
    let e : at + suc (length t) ≡ suc at + length t = omega arith in
    ap (λ (k : ℕ). sets (sets (set room at a) (suc at) t) k u) e ∙ over-more (suc at) t u (set room at a)

-- ---- one piece

pub laid_in : (at b : ℕ) (room : List ℕ) → Laid at (b ∷ []) room (at + 1) (set room at b)
unfolding over
laid_in at b room = record { ends = refl; holds = refl }

pub laid_out_lem : (at b : ℕ) (room : List ℕ) → length room ≤ at → Laid at (b ∷ []) room (at + 1) room
unfolding over
laid_out_lem at b room h = record { ends = refl; holds = sym (set_out room at b h) }

pub wrote_in : {t : Text} {b : ℕ} → Wrote (b ∷ []) 1 t (record { room = record t.room { now = set t.room.now t.at b }; at = t.at + 1 })
wrote_in {t} {b} = record { laid = laid_in t.at b t.room.now; short = omega arith; same = refl }

pub wrote_out : {t : Text} {b : ℕ} → length t.room.now ≤ t.at → Wrote (b ∷ []) 1 t (record { room = t.room; at = t.at + 1 })
wrote_out {t} {b} h = record { laid = laid_out_lem t.at b t.room.now h; short = omega arith; same = refl }

pub laid_none : (at : ℕ) (room : List ℕ) → Laid at [] room at room
unfolding over
laid_none at room = record { ends = sym (add-zero at); holds = refl }

pub laid-length : {at n : ℕ} {t room after : List ℕ} → Laid at t room n after → length after ≡ length room
unfolding over
laid-length {at} {n} {t} {room} l = ap length l.holds ∙ length-sets room at t

wrote_none : {t : Text} → Wrote [] 0 t t
wrote_none {t} = record { laid = laid_none t.at t.room.now; short = omega arith; same = refl }

pub laid_as : {at n : ℕ} {t u room after : List ℕ} → t ≡ u → Laid at t room n after → Laid at u room n after
laid_as {at} {n} {t} {u} {room} {after} e l = rw (← e) l

-- the same text under another name, and at most so many bytes
pub wrote_as : {a b : Text} {t u : List ℕ} {m : ℕ} (n : ℕ) → Wrote t m a b → t ≡ u → m ≤ n → Wrote u n a b
wrote_as {a} {b} n w e h = record {
  laid = let P : List ℕ → Type 0 = λ (v : List ℕ). Laid a.at v a.room.now b.at b.room.now in rw (← e) w.laid;
  short = omega (arith, w.short);
  same = w.same;
}

-- ---- a piece after a piece

pub laid_more : {at p q : ℕ} {t u room mid after : List ℕ} → Laid at t room p mid → Laid p u mid q after → Laid at (t ++ u) room q after
laid_more {at} {t = t} {u} {room} {mid} l m = record {
  ends = omega (arith, l.ends, m.ends, length-append t u);
  holds = m.holds ∙ ap (λ (k : ℕ). over k u mid) l.ends ∙ ap (over (at + length t) u) l.holds ∙ over-more at t u room;
}

pub wrote_more : {a b c : Text} {t u : List ℕ} {m n : ℕ} → Wrote t m a b → Wrote u n b c → Wrote (t ++ u) (m + n) a c
wrote_more x y = record { laid = laid_more x.laid y.laid; short = omega (arith, x.short, y.short); same = y.same ∙ x.same }

-- ---- pieces, one for each entry of a list

pub pieces-append : {A : Type 0} (piece : A → List ℕ) (xs ys : List A) → pieces piece (xs ++ ys) ≡ pieces piece xs ++ pieces piece ys
unfolding pieces
pieces-append piece [] ys = refl
pieces-append piece (x ∷ xs) ys = ap (λ (l : List ℕ). piece x ++ l) (pieces-append piece xs ys) ∙ sym (append_assoc (piece x) (pieces piece xs) (pieces piece ys))

next-piece : {A : Type 0} (piece : A → List ℕ) (d : A) (xs : List A) (i : ℕ) → i < length xs → pieces piece (take (i + 1) xs) ≡ pieces piece (take i xs) ++ piece (get_or xs i d)
unfolding pieces
next-piece piece d xs i h =
    rw (add-one, take-suc xs i d) (pieces-append piece (take i xs) (get_or xs i d ∷ []) ∙ ap (λ (l : List ℕ). pieces piece (take i xs) ++ l) (append-nil (piece (get_or xs i d))))

-- the first i pieces are laid, of m bytes at most
pub record Laying {A : Type 0} (piece : A → List ℕ) (xs : List A) (i m : ℕ) (old new : Text) : Type 0 where
  pub stop : i ≤ length xs
  pub wrote : Wrote (pieces piece (take i xs)) m old new

pub laying-none : {A : Type 0} {piece : A → List ℕ} {xs : List A} {t : Text} → Laying piece xs 0 0 t t
unfolding pieces
laying-none = record { stop = omega arith; wrote = wrote_none }

pub laying-start : {A : Type 0} {piece : A → List ℕ} {xs : List A} {i m : ℕ} {t : Text} → i ≡ 0 → Laying piece xs i m t t
unfolding pieces
laying-start e = rw e (record { stop = omega arith; wrote = wrote_as _ wrote_none refl (omega arith) })

module _ {A : Type 0} {piece : A → List ℕ} {xs : List A} {i m : ℕ} {old mid : Text} (d : A) (l : Laying piece xs i m old mid) where
  pub laying-more : {n : ℕ} {new : Text} (k : ℕ) → i < length xs → Wrote (piece (get_or xs i d)) n mid new → m + n ≤ k → Laying piece xs (i + 1) k old new
  laying-more k h w s = record { stop = omega arith; wrote = wrote_as k (wrote_more l.wrote w) (sym (next-piece piece d xs i h)) s }

  pub laying-end : length xs ≤ i → Wrote (pieces piece xs) m old mid
  laying-end h = wrote_as m l.wrote (ap (pieces piece) (take_all i xs h)) (omega arith)

-- ---- pieces, one for each number below n: a text that grows at its end

pub grows : (piece text : ℕ → List ℕ) → text 0 ≡ [] → ((n : ℕ) → text (suc n) ≡ text n ++ piece n) → (n : ℕ) → pieces piece (up_to n) ≡ text n
unfolding pieces up_to
grows piece text none more zero = sym none
grows piece text none more (suc n) =
    pieces-append piece (up_to n) (n ∷ []) ∙ ap (λ (l : List ℕ). pieces piece (up_to n) ++ l) (append-nil (piece n))
    ∙ ap (λ (l : List ℕ). l ++ piece n) (grows piece text none more n) ∙ sym (more n)

module _ {piece : ℕ → List ℕ} {n i m : ℕ} {old mid : Text} (l : Laying piece (up_to n) i m old mid) where
  pub growing-more : {b : ℕ} {new : Text} (k : ℕ) → i < n → Wrote (piece i) b mid new → m + b ≤ k → Laying piece (up_to n) (i + 1) k old new
  growing-more {b} {new} k h w s =
      let e : get_or (up_to n) i 0 ≡ i = get_d-up_to n i h in
      let v : Wrote (piece (get_or (up_to n) i 0)) b mid new = rw e w in
      laying-more 0 l k (rw (length-up_to n) h) v s

  pub growing-stop : i ≤ n
  growing-stop = rw (length-up_to n) at l.stop

  pub growing-end : n ≤ i → Wrote (pieces piece (up_to n)) m old mid
  growing-end h = laying-end 0 l (rw (length-up_to n) h)

-- ---- a text laid from the start on

module _ {n : ℕ} {t room after : List ℕ} (l : Laid 0 t room n after) where
  pub counts-text : n ≡ length t
  counts-text = l.ends ∙ zero-add (length t)

  pub laid-onto : length t ≤ length room → after ≡ onto t room
  unfolding over onto
  laid-onto h = l.holds ∙ sets-eq t room 0 (omega arith) ∙ ap (λ (k : ℕ). t ++ drop k room) (zero-add (length t))

-- ---- a list that is written byte by byte

pub byte-pieces : (byte : ℕ → ℕ) (xs : List ℕ) → pieces (λ x. byte x ∷ []) xs ≡ map byte xs
unfolding pieces
byte-pieces byte [] = refl
byte-pieces byte (x ∷ xs) = ap (λ (l : List ℕ). byte x ∷ l) (byte-pieces byte xs)

pub bytes-pieces : (bytes : List ℕ) → pieces (λ (b : ℕ). b ∷ []) bytes ≡ bytes
bytes-pieces bytes = byte-pieces (λ b. b) bytes ∙ map-id bytes
