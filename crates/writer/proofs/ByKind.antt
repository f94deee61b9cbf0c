-- A block's kind says which values it has. Assumes nothing.
use Rattle.std.proofs.Common.{◌≡◌, ℕ, ◌+◌, ◌-◌, ◌*◌, ◌/◌, ◌%◌, Bool, true, false, cond, eqb, ltb, get_or, refl, sym, ap, ◌∙◌}
use Rattle.rules.specs.declared.Header.{Header as Figures}
use denote.Enum.Declared.{tag_of}
use Rattle.layout.specs.contracts.kinds.Kind.{the_type}
use Rattle.layout.specs.declared.kinds.Kind.{Kind}
use Rattle.layout.specs.declared.kinds.Kind.TheVariants.{Header, Files, Bounds, Pins}
use Rattle.layout.specs.Kinds.{kind_number}
use Rattle.rules.specs.Job.{Job, bound, pin}
use Rattle.rules.specs.Stored.{bounds_at, pins_at, kind_of}
use Rattle.rules.specs.Writing.{header_for, header_figures, file_value, job_value}

-- the number that src/ has of it
pub kind-tag : (k : Kind) → tag_of the_type k + 1 ≡ kind_number k
kind-tag Header = refl
kind-tag Files = refl
kind-tag Bounds = refl
kind-tag Pins = refl

-- what stands for kind n
abbrev pub of_kind : ℕ → ℕ → ℕ → ℕ → ℕ → ℕ
of_kind n x y z w = cond (eqb n 1) x (cond (eqb n 2) y (cond (eqb n 3) z w))

by-number : (x y z w : ℕ) (p q r : Bool) → cond p x (cond q y (cond r z w)) ≡ of_kind (cond p 1 (cond q 2 (cond r 3 4))) x y z w
by-number x y z w true q r = refl
by-number x y z w false true r = refl
by-number x y z w false false true = refl
by-number x y z w false false false = refl

module _ (job : Job) (b v : ℕ) where
  -- the values that stand for the kinds
  abbrev values : ℕ → Figures → ℕ
  values n h =
      of_kind n (get_or (header_figures h) v 0) (file_value job (126 * (b - 1) + v / 2) (v % 2)) (bound job (253 * (b - bounds_at h) + v)) (pin job (253 * (b - pins_at h) + v))

  pub value-by-kind : {h : Figures} → h ≡ header_for job → (n : ℕ) → n ≡ kind_of h b → job_value job b v ≡ values n h
  unfolding job_value
  value-by-kind {h} e n k =
      by-number _ _ _ _ (eqb b 0) (ltb b (bounds_at (header_for job))) (ltb b (pins_at (header_for job)))
      ∙ ap (λ (g : Figures). values (kind_of g b) g) (sym e)
      ∙ ap (λ (m : ℕ). values m h) (sym k)
