-- What is noted behind the records that are there: nothing, one, one step after another, a loop's turn; and how many are then there. Assumes nothing.
use Rattle.std.proofs.Common.{◌≡◌, refl, sym, ap, ◌∙◌, ℕ, ◌+◌, ◌*◌, ◌≤◌, List, [], ◌∷◌, ◌++◌, length, append-nil, append_assoc, length-append, arith}
use borrow.Rule.Slice.PartMut.{put_mid}
use Rattle.rules.specs.declared.Difference.{Difference}
use Rattle.rules.specs.Lists.{in_turn}
use Rattle.rules.proofs.InTurn.{turn_more}
use Rattle.report.specs.Comparison.{records_in}
use Rattle.comparer.specs.declared.notes.Notes.{Notes}
use Rattle.comparer.specs.Finding.{Noted, Adds}
use Rattle.comparer.proofs.Records.{records-more, record-stay, record-made}

-- ---- in a list of numbers

pub nothing-noted : (n : ℕ) (numbers : List ℕ) → Noted n numbers [] n numbers
nothing-noted n numbers = record { many = omega arith; noted = sym (append-nil (records_in n numbers)) }

-- the same records by another name
pub noted-as : {n m : ℕ} {before after : List ℕ} {ds es : List Difference} → ds ≡ es → Noted n before ds m after → Noted n before es m after
noted-as e a = rw e at a

-- one step, and then another
pub noted-then : {n m k : ℕ} {x y z : List ℕ} {ds es : List Difference} → Noted n x ds m y → Noted m y es k z → Noted n x (ds ++ es) k z
noted-then {n} {m} {k} {x} {y} {z} {ds} {es} a b = record {
  many = omega (arith, length-append ds es, a.many, b.many);
  noted = b.noted ∙ ap (λ (rs : List Difference). rs ++ es) a.noted ∙ append_assoc (records_in n x) ds es;
}

-- no turn of a loop yet, and one turn more
pub noted-no-turn : (f : ℕ → List Difference) (n : ℕ) (numbers : List ℕ) → Noted n numbers (in_turn f 0) n numbers
unfolding in_turn
noted-no-turn f n numbers = nothing-noted n numbers

pub noted-turn : {n m k : ℕ} {x y z : List ℕ} (f : ℕ → List Difference) (i : ℕ) → Noted n x (in_turn f i) m y → Noted m y (f i) k z → Noted n x (in_turn f (i + 1)) k z
noted-turn f i a b = noted-as (sym (turn_more f i)) (noted-then a b)

-- how many records there are then, at most
pub noted-few : {n m : ℕ} {before after : List ℕ} {ds : List Difference} (k : ℕ) → Noted n before ds m after → length ds ≤ k → m ≤ n + k
noted-few k a few = omega (arith, a.many)

-- ---- in notes

pub adds-none : (k : ℕ) (notes : Notes) → Adds k notes [] notes
adds-none k notes = record {
  same = refl;
  long = refl;
  few = omega arith;
  noted = nothing-noted notes.count notes.numbers.now;
}

-- one record, put at its place
pub one-noted : (n : ℕ) (numbers : List ℕ) (d : Difference) → 4 * (n + 1) ≤ length numbers
    → Noted n numbers (d ∷ []) (n + 1) (put_mid (4 * n) 4 numbers (d.what ∷ d.number ∷ d.old ∷ d.new ∷ []))
one-noted n numbers d room = record {
  many = refl;
  noted = records-more n _ ∙ (λ k. record-stay n d numbers room k ++ (record-made n d numbers room k ∷ []));
}

-- the same records by another name
pub adds-as : {k : ℕ} {a b : Notes} {ds es : List Difference} → ds ≡ es → Adds k a ds b → Adds k a es b
adds-as e w = rw e at w

-- one step, and then another
pub adds-then : {k l : ℕ} {a b c : Notes} {ds es : List Difference} → Adds k a ds b → Adds l b es c → Adds (k + l) a (ds ++ es) c
adds-then p q = record {
  same = q.same ∙ p.same;
  long = q.long ∙ p.long;
  few = omega arith;
  noted = noted-then p.noted q.noted;
}

-- a loop: no turn yet, and one turn more
pub adds-no-turn : (f : ℕ → List Difference) (notes : Notes) → Adds 0 notes (in_turn f 0) notes
unfolding in_turn
adds-no-turn f notes = adds-none 0 notes

pub adds-turn : {k l m : ℕ} {a b c : Notes} (f : ℕ → List Difference) (i : ℕ) → k + l ≡ m → Adds k a (in_turn f i) b → Adds l b (f i) c → Adds m a (in_turn f (i + 1)) c
adds-turn f i e p q = rw e at (adds-as (sym (turn_more f i)) (adds-then p q))

-- what is noted when the notes are done with, and the numbers are as they left them
pub all-noted : {k : ℕ} {a b : Notes} {ds : List Difference} {numbers : List ℕ} → Adds k a ds b → numbers ≡ b.numbers.now → Noted a.count a.numbers.now ds b.count numbers
all-noted w e = rw e w.noted
