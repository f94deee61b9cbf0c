-- What is found of two stored jobs: a refusal, or their differences; and what that makes of a lent list. Assumes nothing.
use Rattle.std.proofs.Common.{◌≡◌, ◌≢◌, refl, sym, ap, ap₂, ◌∙◌, ℕ, ◌≤◌, ◌<◌, List, length, eq-eqb, ne_eqb, arith}
use native.Mathlib.Decide.{ℕ_discrete}
use Rattle.std.specs.Prelude.{Result, Ok, Err, IfOk, IsErrAnd, MatchResult}
use Rattle.std.proofs.lemmas.Result.{err_from_is_err_and, IfOk-at_ok}
use Rattle.rules.specs.declared.Verdict.{Verdict}
use Rattle.rules.specs.declared.refusal.Refusal.{Refusal}
use Rattle.rules.specs.declared.Difference.{Difference}
use Rattle.rules.specs.Numbers.{verdict_of, Compared}
use Rattle.rules.specs.Lists.{up_to, onto}
use Rattle.rules.specs.Job.{Limits}
use Rattle.rules.specs.Check.{done}
use Rattle.rules.specs.Stored.{job_of}
use Rattle.rules.specs.Compare.{differences, read_for, compared, comparing_of, comparing}
use Rattle.rules.proofs.Exits.{not-done}
use Rattle.rules.proofs.Comparing.{compare-holds}
use Rattle.stored.specs.declared.taken.TakenUp.{TakenUp}
use Rattle.stored.specs.Room.{taking_up, lists_of, as_taken}
use Rattle.stored.specs.Steps.{job_taken}
use Rattle.stored.proofs.JobTaken.{refused-read, zero_read, job_read}
use Rattle.report.specs.Comparison.{records_in}
use Rattle.comparer.specs.declared.NotCompared.{NotCompared}
use Rattle.comparer.specs.declared.NotCompared.TheVariants.{Refused}
use Rattle.comparer.specs.Cases.{as_compared}
use Rattle.comparer.specs.Finding.{Noted, as_found, answer_of}

-- ---- an answer whose refusal is made another

module _ {A E F : Type 0} where
  -- m is t with its refusal e as f e
  abbrev pub Remade : (E → F) → Result A E → Result A F → Type 0
  Remade f t m = MatchResult t (λ x. m ≡ Ok x) (λ e. IsErrAnd m (λ y. y ≡ f e))

  -- refused, it leaves by a `?`
  pub remade-err : {B : Type 0} (f : E → F) (t : Result A E) (m : Result A F) (p : F) (r : Result B F) → Remade f t m → m ≡ Err p → IsErrAnd r (λ y. y ≡ p)
      → (e : E) × (t ≡ Err e) × (r ≡ Err (f e))
  remade-err f (Ok x) m p r h q w = absurd (let e : Ok x ≡ Err p = sym h ∙ q in cc)
  remade-err f (Err e) m p r h q w =
      let a = err_from_is_err_and m h in
      let b = err_from_is_err_and r w in
      (e, refl, (let same : r ≡ Err (f e) = (let k : Err a.0 ≡ Err p = sym a.1 ∙ q in cc) in same))

  pub remade-ok : (f : E → F) (t : Result A E) (m : Result A F) (x : A) → Remade f t m → m ≡ Ok x → t ≡ Ok x
  remade-ok f (Ok y) m x h q = let k : Ok y ≡ Ok x = sym h ∙ q in let same : y ≡ x = cc in ap Ok same
  remade-ok f (Err e) m x h q = absurd (let a = err_from_is_err_and m h in let k : Err a.0 ≡ Ok x = sym a.1 ∙ q in cc)

-- ---- what is found

-- a refusal of a job, as `compare` answers it
abbrev pub refused : ℕ × Refusal → NotCompared
refused p = Refused p.0 p.1

-- a stored job was taken up
pub record Took (most : Limits) (bytes : List ℕ) (t : TakenUp) : Type 0 where
  pub read : as_taken (Ok t) ≡ (taking_up most bytes).answer
  pub lists : lists_of t ≡ (taking_up most bytes).room

pub took_up : (most : Limits) (bytes : List ℕ) (f : Refusal → ℕ × Refusal) (t : Result TakenUp Refusal) (m : Result TakenUp (ℕ × Refusal)) (x : TakenUp) → Remade f t m → m ≡ Ok x
    → as_taken t ≡ (taking_up most bytes).answer → IfOk t (λ y. lists_of y ≡ (taking_up most bytes).room) → Took most bytes x
took_up most bytes f t m x made was read lists =
    let e = remade-ok f t m x made was in
    record { read = ap as_taken (sym e) ∙ read; lists = IfOk-at_ok (λ y. lists_of y ≡ (taking_up most bytes).room) e lists }

module _ (most : Limits) (old new : List ℕ) where
  pub of-first : (read_for most old).number ≢ 0 → answer_of most old new ≡ compared 1 (read_for most old) 0
  of-first n = rw (ne_eqb (read_for most old).number 0 n) refl

  pub of-second : (read_for most old).number ≡ 0 → (read_for most new).number ≢ 0 → answer_of most old new ≡ compared 2 (read_for most new) 0
  of-second z n = rw (eq-eqb (read_for most old).number 0 z, ne_eqb (read_for most new).number 0 n) refl

  pub of-both : (read_for most old).number ≡ 0 → (read_for most new).number ≡ 0 → answer_of most old new ≡ compared 0 done (length (differences (job_of old) (job_of new)))
  of-both z w = rw (eq-eqb (read_for most old).number 0 z, eq-eqb (read_for most new).number 0 w) refl

  -- of a refusal of job 1, which leaves by a `?`
  pub first-exit : (t : Result TakenUp Refusal) (m : Result TakenUp (ℕ × Refusal)) (p : ℕ × Refusal) (r : Result ℕ (ℕ × Refusal))
      → Remade (λ e. (1, e)) t m → m ≡ Err p → IsErrAnd r (λ y. y ≡ p) → as_taken t ≡ (taking_up most old).answer → as_found r ≡ answer_of most old new
  first-exit t m p r made was exit read =
      let e = remade-err (λ (x : Refusal). (1, x)) t m p r made was exit in
      let v : verdict_of e.0 ≡ read_for most old = refused-read most old e.0 (ap as_taken (sym e.1) ∙ read) in
      ap as_found e.2 ∙ ap (λ (w : Verdict). compared 1 w 0) v ∙ sym (of-first (λ z. not-done e.0 (ap (λ (w : Verdict). w.number) v ∙ z)))

  module _ {first : TakenUp} (took : Took most old first) where
    -- and of job 2
    pub second-exit : (t : Result TakenUp Refusal) (m : Result TakenUp (ℕ × Refusal)) (p : ℕ × Refusal) (r : Result ℕ (ℕ × Refusal))
        → Remade (λ e. (2, e)) t m → m ≡ Err p → IsErrAnd r (λ y. y ≡ p) → as_taken t ≡ (taking_up most new).answer → as_found r ≡ answer_of most old new
    second-exit t m p r made was exit read =
        let e = remade-err (λ (x : Refusal). (2, x)) t m p r made was exit in
        let v : verdict_of e.0 ≡ read_for most new = refused-read most new e.0 (ap as_taken (sym e.1) ∙ read) in
        ap as_found e.2
        ∙ ap (λ (w : Verdict). compared 2 w 0) v
        ∙ sym (of-second (zero_read most old first took.read took.lists) (λ z. not-done e.0 (ap (λ (w : Verdict). w.number) v ∙ z)))

    module _ {second : TakenUp} (took' : Took most new second) {count : ℕ} {before after : List ℕ}
        (w : Noted 0 before (differences (job_taken first) (job_taken second)) count after) where
      same : differences (job_taken first) (job_taken second) ≡ differences (job_of old) (job_of new)
      same = ap₂ differences (job_read most old first took.read took.lists) (job_read most new second took'.read took'.lists)

      pub both-found : compared 0 done count ≡ answer_of most old new
      both-found =
          let many : count ≡ length (differences (job_of old) (job_of new)) = omega (arith, w.many, ap length same) in
          ap (compared 0 done) many ∙ sym (of-both (zero_read most old first took.read took.lists) (zero_read most new second took'.read took'.lists))

      pub both-noted : records_in count after ≡ differences (job_of old) (job_of new)
      unfolding records_in up_to
      both-noted = w.noted ∙ same

  -- the two jobs that were read
  pub both_read : {a : Compared} → a ≡ answer_of most old new → a.verdict.number ≡ 0 → ((read_for most old).number ≡ 0) × ((read_for most new).number ≡ 0)
  both_read found z = elim (ℕ_discrete (read_for most old).number 0) [
    | no p ↦ absurd (p (sym (ap (λ (x : Compared). x.verdict.number) (found ∙ of-first p)) ∙ z))
    | yes ok ↦ elim (ℕ_discrete (read_for most new).number 0) [
      | no p ↦ absurd (p (sym (ap (λ (x : Compared). x.verdict.number) (found ∙ of-second ok p)) ∙ z))
      | yes fine ↦ (ok, fine)
    ]
  ]

  -- ---- what that makes of a lent list

  module _ (room : List Difference) (found : Result ℕ (ℕ × Refusal)) (answer : as_found found ≡ answer_of most old new)
      (made : Result ℕ NotCompared) (remade : Remade refused found made) where
    -- refused, the list stays
    stays : (a : Compared) → a ≡ answer_of most old new → a.verdict.number ≢ 0 → comparing_of a room ≡ comparing most old new room
    stays a e m = elim (ℕ_discrete (read_for most old).number 0) [
      | no p ↦ ap (λ (x : Compared). comparing_of x room) (e ∙ of-first p) ∙ sym ((compare-holds most old new room).first p)
      | yes ok ↦ elim (ℕ_discrete (read_for most new).number 0) [
        | no p ↦ ap (λ (x : Compared). comparing_of x room) (e ∙ of-second ok p) ∙ sym ((compare-holds most old new room).second ok p)
        | yes fine ↦ absurd (m (ap (λ (x : Compared). x.verdict.number) (e ∙ of-both ok fine)))
      ]
    ]

    pub list-stays : (p : NotCompared) (r : Result ℕ NotCompared) → made ≡ Err p → IsErrAnd r (λ y. y ≡ p) → comparing_of (as_compared r) room ≡ comparing most old new room
    list-stays p r was exit =
        let e = remade-err refused found made p r remade was exit in
        ap (λ (x : Result ℕ NotCompared). comparing_of (as_compared x) room) e.2 ∙ stays (as_found (Err e.0)) (ap as_found (sym e.1) ∙ answer) (not-done e.0.1)

    module _ {count : ℕ} (was : made ≡ Ok count) where
      done-found : compared 0 done count ≡ answer_of most old new
      done-found = ap as_found (sym (remade-ok refused found made count remade was)) ∙ answer

      both : ((read_for most old).number ≡ 0) × ((read_for most new).number ≡ 0)
      both = both_read done-found refl

      many : count ≡ length (differences (job_of old) (job_of new))
      many = ap (λ (a : Compared). a.count) (done-found ∙ of-both both.0 both.1)

      pub list-short : length room < count → comparing_of (compared 0 (record { number = 30; place = 0 }) count) room ≡ comparing most old new room
      list-short h =
          ap (λ (n : ℕ). comparing_of (compared 0 (record { number = 30; place = 0 }) n) room) many
          ∙ sym ((compare-holds most old new room).short both.0 both.1 (omega (arith, many)))

      pub list-made : (records : ℕ → List Difference) {after : List Difference} → IfOk found (λ n. records n ≡ differences (job_of old) (job_of new))
          → after ≡ onto (records count) room → count ≤ length room → comparing_of (compared 0 done count) after ≡ comparing most old new room
      list-made records w e h =
          let is : records count ≡ differences (job_of old) (job_of new) =
          IfOk-at_ok (λ n. records n ≡ differences (job_of old) (job_of new)) (remade-ok refused found made count remade was) w in
          ap (comparing_of (compared 0 done count)) e
          ∙ ap₂ (λ (n : ℕ) (ds : List Difference). comparing_of (compared 0 done n) (onto ds room)) many is
          ∙ sym ((compare-holds most old new room).made both.0 both.1 (omega (arith, many)))
