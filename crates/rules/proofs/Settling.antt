-- What it means that a promise settles a call's answer and the lists lent to it. Assumes nothing.
use mathlib.Core.Path.{◌≡◌, sym, ◌∙◌}
use mathlib.Core.List.{List}
use Prim.Native.Nat.{ℕ}
use contract.Lifetimes.{Lfts}
use denote.Triple.Clauses.{AtExit}
use borrow.Fn.Kinds.{ParamKind, ResultKind, Out, Dens, res_t, ended_of}

-- two results that meet the promise, with what the lent lists hold at their exits, read the same
abbrev pub Settles : (n : ℕ) (ps : List (ParamKind n)) (r : ResultKind n) (A : Type 0) → ((κs : Lfts n) → (res_t r κs).Denot → AtExit (ended_of n ps r) κs → A) → Out n ps r → Type 0
Settles n ps r A read promise =
    (κs : Lfts n) (a : Dens κs ps) (x y : (res_t r κs).Denot) (e f : AtExit (ended_of n ps r) κs) → promise κs a x e → promise κs a y f → read κs x e ≡ read κs y f

-- equal to one thing, so to each other
pub both : {A : Type 0} {x y v : A} → x ≡ v → y ≡ v → x ≡ y
both p q = p ∙ sym q
