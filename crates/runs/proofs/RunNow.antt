-- A run, pass after pass: the first, one more, and the last. Assumes nothing.
use mathlib.Core.Path.{◌≡◌, refl, sym, ap, ap₂, ◌∙◌, subst}
use mathlib.Core.Logic.{◌≢◌}
use Prim.Native.Nat.{ℕ, zero, suc, ◌+◌, ◌*◌, ◌≤◌, ◌<◌}
use mathlib.Core.Bool.{Bool, true, false, not, ◌&&◌, ◌||◌}
use mathlib.Core.List.{List, [], ◌∷◌, ◌++◌}
use native.Mathlib.Decide.{dec_lt}
use native.Mathlib.Omega.{arith}
use lib.Dec.{ltb, eqb}
use lib.ListN.{length, get_or, take}
use lib.Seq.{take-suc, take-length}
use borrow.Author.Tests.{ne_eqb, lt-ltb, ltb-true, not-true}
use Rattle.rules.specs.Numbers.{Figures}
use Rattle.rules.specs.Lists.{total}
use Rattle.rules.specs.Job.{Job, Limits, file_count, recipes, Lent, fits}
use Rattle.rules.specs.Split.{is_cut, cut, size_a, balanced}
use Rattle.rules.specs.Check.{done}
use Rattle.rules.specs.Pass.{Pass, pass_of, leaves}
use Rattle.rules.specs.Fronts.{tries_by}
use Rattle.rules.specs.Run.{Ended, ended_of, settles, pass_by, first_pass, run_by, last_of, figures_of, run_figures_of}
use Rattle.rules.specs.Theorems.{Sound, Accepted, Sides, RunHoldsBy}
use Rattle.rules.proofs.Count.{total-append, count-le}
use Rattle.rules.proofs.FrontsProved.{editions-hold}
use Rattle.rules.proofs.Proved.{given-sides}
use Rattle.rules.proofs.Runs.{pass-size, last_more, last-at}
use Rattle.rules.proofs.Tests.{clash, and_yes}
use Rattle.split.specs.Playing.{pass_left}
use Rattle.tables.proofs.Accepted.{Narrow}
use Rattle.rules.proofs.SoundJob.{recipes-length}
use Rattle.rules.specs.Writing.{with_sides}
use Rattle.runs.specs.Running.{plus_of, follows, SumsFit, last_at, Running, run_left}
use Rattle.rules.proofs.OtherSides.{same-leaves, same-pass_of}
use Rattle.runs.proofs.PassAfterPass.{Alike, edition-holds, leaves-again, leaves_alike}

total-more : (w : Pass → ℕ) (ps : List Pass) (p : Pass) → total w (ps ++ (p ∷ [])) ≡ total w ps + (w p + 0)
unfolding total
total-more w ps p = total-append w ps (p ∷ [])

-- the figures of one pass more
figures-more : (first : Pass) (ps : List Pass) (p : Pass) → figures_of done first (ps ++ (p ∷ [])) ≡ plus_of (figures_of done first ps) (figures_of done p (p ∷ []))
unfolding figures_of plus_of
figures-more first ps p = λ i. record {
  verdict = done;
  before = first.cut_before;
  cut = (ap (λ (q : Pass). q.cut_after) (last_more first ps p ∙ sym (last_more p [] p))) i;
  size = (ap (λ (q : Pass). q.size_after) (last_more first ps p ∙ sym (last_more p [] p))) i;
  tried = (total-more (λ q. length q.tried) ps p ∙ one (λ q. length q.tried)) i;
  kept = (total-more (λ q. q.kept) ps p ∙ one (λ q. q.kept)) i;
  scans = (total-more (λ q. length q.scanned) ps p ∙ one (λ q. length q.scanned)) i;
  visits = (total-more (λ q. q.visited) ps p ∙ one (λ q. q.visited)) i;
  unread = first.unread;
  holding = first.holding;
}
  where
    one : (w : Pass → ℕ) → total w ps + (w p + 0) ≡ total w ps + total w (p ∷ [])
    one w = unfold total in refl

one-settles : (p : Pass) → eqb (figures_of done p (p ∷ [])).cut (figures_of done p (p ∷ [])).before ≡ settles p
unfolding figures_of last_of
one-settles p = refl

-- the sums of k passes are small
record SumsSmall (k : ℕ) (sum : Figures) : Type 0 where
  pub tried : sum.tried ≤ k * 65536
  pub kept : sum.kept ≤ k * 65536
  pub scans : sum.scans ≤ k * 65536
  pub visits : sum.visits ≤ k * 262144

sums-grow : (k : ℕ) (sum : Figures) (p : Pass) → SumsSmall k sum → length p.tried ≤ 65536 → p.kept ≤ 65536 → length p.scanned ≤ 65536 → p.visited ≤ 262144
    → SumsSmall (suc k) (plus_of sum (figures_of done p (p ∷ [])))
unfolding plus_of figures_of total
sums-grow k sum p r a b c d = record {
  tried = omega (arith, r.tried);
  kept = omega (arith, r.kept);
  scans = omega (arith, r.scans);
  visits = omega (arith, r.visits);
}

-- sides that a pass of a run starts from
pub record Starts (job : Job) (sides : List ℕ) : Type 0 where
  pub fit : Sides job sides
  pub balanced : balanced job (size_a job sides) ≡ true

module _ (edition : ℕ) {most : Limits} {job : Job} (ok : Accepted most job) (l : Lent) where
  -- the pass from these sides
  abbrev from : List ℕ → Pass
  from = pass_by job (tries_by edition job)

  abbrev s : Sound most job
  s = ok.sound

  run-holding : RunHoldsBy job (tries_by edition job)
  run-holding = (editions-hold most job s).run edition

  take_more : (k : ℕ) → k < length (run_by edition job) → take (suc k) (run_by edition job)
      ≡ take k (run_by edition job) ++ (get_or (run_by edition job) k (first_pass edition job) ∷ [])
  take_more k h = take-suc (run_by edition job) k (first_pass edition job) h

  -- the last of the first passes is the one at their number less one
  last-is : (k : ℕ) → k < length (run_by edition job) → last_at edition job (suc k) ≡ get_or (run_by edition job) k (first_pass edition job)
  last-is k h = last-at (first_pass edition job) (first_pass edition job) (run_by edition job) k h

  starts-next : (before : List ℕ) → Starts job before → Starts job (from before).sides_after
  starts-next before w = record {
    fit = (edition-holds edition most job s before w.fit).0.moves.next;
    balanced = rw (← pass-size job (tries_by edition job) before) ((edition-holds edition most job s before w.fit).0.returns w.balanced);
  }

  -- each pass is one from such sides
  pass-at : (j : ℕ) → j < length (run_by edition job) → (before : List ℕ) × Starts job before × (get_or (run_by edition job) j (first_pass edition job) ≡ from before)
  pass-at zero h = (job.sides, record { fit = given-sides most job s; balanced = ok.balanced }, run-holding.first (first_pass edition job))
  pass-at (suc i) h =
      let b = pass-at i (omega arith) in
      ((get_or (run_by edition job) i (first_pass edition job)).sides_after, rw b.2 (starts-next b.0 b.1), run-holding.each (first_pass edition job) i h)

  -- the pass after it
  pass-there : (k : ℕ) → suc k < length (run_by edition job) → get_or (run_by edition job) (suc k) (first_pass edition job) ≡ from (last_at edition job (suc k)).sides_after
  pass-there k h = run-holding.each (first_pass edition job) k h ∙ ap (λ (p : Pass). from p.sides_after) (sym (last-is k (omega arith)))

  -- after the first pass
  pub runs-first : (f : Figures) (sides : List ℕ) (lent : Lent) → ended_of f sides lent ≡ pass_left edition job l
      → Running edition job l 1 f (eqb f.cut f.before) sides lent
  unfolding figures_of last_of
  runs-first f sides lent e =
      let one : take 1 (run_by edition job) ≡ first_pass edition job ∷ [] = take_more 0 run-holding.some ∙ ap (λ (p : Pass). p ∷ []) (run-holding.first (first_pass edition job)) in
      record {
        some = omega arith;
        few = run-holding.some;
        sums = ap (λ (x : Ended Figures). x.answer) e ∙ ap (figures_of done (first_pass edition job)) (sym one);
        equal =
            ap₂ eqb (ap (λ (x : Ended Figures). x.answer.cut) e) (ap (λ (x : Ended Figures). x.answer.before) e)
            ∙ ap (λ (ps : List Pass). settles (last_of (first_pass edition job) ps)) (sym one);
        standing = ap (λ (x : Ended Figures). x.sides) e ∙ ap (λ (ps : List Pass). (last_of (first_pass edition job) ps).sides_after) (sym one);
        lists = ap (λ (x : Ended Figures). x.lent) e ∙ ap (λ (ps : List Pass). leaves edition job l (last_of (first_pass edition job) ps)) (sym one);
      }

  -- another pass follows exactly if there is one
  pub follows-there : (k : ℕ) → 1 ≤ k → k ≤ length (run_by edition job) → follows job.cap k (settles (last_at edition job k)) ≡ true → k < length (run_by edition job)
  follows-there k a b e = elim (dec_lt k (length (run_by edition job))) [
    | yes h ↦ h
    | no n ↦
        let q : k ≡ length (run_by edition job) = omega arith in
        let t = and_yes (not (settles (last_at edition job k))) (eqb job.cap 0 || ltb k job.cap) e in
        let whole : take k (run_by edition job) ≡ run_by edition job = ap (λ (i : ℕ). take i (run_by edition job)) q ∙ take-length (run_by edition job) in
        let full : length (run_by edition job) ≡ job.cap =
        run-holding.full (ap (λ (ps : List Pass). settles (last_of (first_pass edition job) ps)) (sym whole) ∙ not-true (settles (last_at edition job k)) t.0) in
        absurd (cap-no job.cap k t.1 (omega arith) a)
  ]
    where
      cap-no : (cap k : ℕ) → (eqb cap 0 || ltb k cap) ≡ true → k ≡ cap → 1 ≤ k → ⊥
      cap-no zero k e q a = omega arith
      cap-no (suc cap) k e q a = omega (arith, ltb-true k (suc cap) (simp (ne_eqb (suc cap) 0 (λ z. omega arith)) at e))

  not-settled : (j : ℕ) → suc j < length (run_by edition job) → settles (last_at edition job (suc j)) ≡ false
  not-settled j h =
      let p : Pass = get_or (run_by edition job) j (first_pass edition job) in
      ap settles (last-is j (omega arith)) ∙ ne_eqb p.cut_after p.cut_before (λ e. omega (arith, run-holding.lessened (first_pass edition job) j h))

  follows-not : (j : ℕ) → suc j ≤ length (run_by edition job) → follows job.cap (suc j) (settles (last_at edition job (suc j))) ≡ false → suc j ≡ length (run_by edition job)
  follows-not j b e = elim (dec_lt (suc j) (length (run_by edition job))) [
    | yes h ↦ clash (sym (ap (λ (t : Bool). not t && (eqb job.cap 0 || ltb (suc j) job.cap)) (not-settled j h) ∙ under job.cap run-holding.capped h) ∙ e)
    | no n ↦ omega arith
  ]
    where
      under : (cap : ℕ) → (cap ≢ 0 → length (run_by edition job) ≤ cap) → suc j < length (run_by edition job) → (eqb cap 0 || ltb (suc j) cap) ≡ true
      under zero c h = refl
      under (suc cap) c h = ap₂ (λ (a b : Bool). a || b) (ne_eqb (suc cap) 0 (λ z. omega arith)) (lt-ltb (suc j) (suc cap) (omega (arith, c (λ z. omega arith))))

  -- the last pass so far
  came : {k : ℕ} {sum : Figures} {settled : Bool} {sides : List ℕ} {lent : Lent} → Running edition job l k sum settled sides lent
      → (before : List ℕ) × Starts job before × (last_at edition job k ≡ from before)
  came {k = zero} r = absurd (omega (arith, r.some))
  came {k = suc j} r = let b = pass-at j r.few in (b.0, b.1, last-is j r.few ∙ b.2)

  -- the next starts from such sides too
  pub starts-there : {k : ℕ} {sum : Figures} {settled : Bool} {sides : List ℕ} {lent : Lent} → Running edition job l k sum settled sides lent → Starts job sides
  starts-there r =
      let b = came r in
      subst (Starts job) (sym (r.standing ∙ ap (λ (x : Pass). x.sides_after) b.2)) (starts-next b.0 b.1)

  -- one pass more
  more : (j : ℕ) {sum : Figures} {settled : Bool} {sides : List ℕ} {lent : Lent} → Running edition job l (suc j) sum settled sides lent → suc j < length (run_by edition job)
      → (f : Figures) (sides' : List ℕ) (lent' : Lent) → ended_of f sides' lent' ≡ pass_left edition (with_sides job sides) lent
      → Running edition job l (suc (suc j)) (plus_of sum f) (eqb f.cut f.before) sides' lent'
  more j {sides = sides} {lent = lent} r h f sides' lent' e =
      let p : Pass = get_or (run_by edition job) (suc j) (first_pass edition job) in
      let q : Pass = from sides in
      let same : q ≡ p = ap from r.standing ∙ sym (pass-there j h) in
      let again : Pass = first_pass edition (with_sides job sides) in
      let here : again ≡ q
      = same-pass_of job sides sides (tries_by edition (with_sides job sides) sides)
      ∙ ap (λ (try : List ℕ → List ℕ). pass_of job sides (try sides)) ((editions-hold most job s).sideless edition sides) in
      let b = came r in
      let u = edition-holds edition most job s b.0 b.1.fit in
      let v = edition-holds edition most job s sides (starts-there r).fit in
      let left : leaves edition (with_sides job sides) lent again ≡ leaves edition job l q
      = same-leaves job sides edition lent again ∙ ap₂ (leaves edition job) (r.lists ∙ ap (leaves edition job l) b.2) here
      ∙ leaves-again edition job l b.0 sides (tries_by edition job b.0) (tries_by edition job sides) u.0.moves u.1 v.0.moves v.1 in
      let answer : f ≡ figures_of done p (p ∷ []) = ap (λ (x : Ended Figures). x.answer) e ∙ ap (λ (x : Pass). figures_of done x (x ∷ [])) (here ∙ same) in
      let last : last_at edition job (suc (suc j)) ≡ p = last-is (suc j) h in
      record {
        some = omega arith;
        few = h;
        sums = ap₂ plus_of r.sums answer ∙ sym (figures-more (first_pass edition job) (take (suc j) (run_by edition job)) p)
            ∙ ap (figures_of done (first_pass edition job)) (sym (take_more (suc j) h));
        equal = ap (λ (x : Figures). eqb x.cut x.before) answer ∙ one-settles p ∙ ap settles (sym last);
        standing = ap (λ (x : Ended Figures). x.sides) e ∙ ap (λ (x : Pass). x.sides_after) (here ∙ same ∙ sym last);
        lists = ap (λ (x : Ended Figures). x.lent) e ∙ left ∙ ap (leaves edition job l) (same ∙ sym last);
      }

  pub runs-more : {k : ℕ} {sum : Figures} {settled : Bool} {sides : List ℕ} {lent : Lent} → Running edition job l k sum settled sides lent → follows job.cap k settled ≡ true
      → (f : Figures) (sides' : List ℕ) (lent' : Lent) → ended_of f sides' lent' ≡ pass_left edition (with_sides job sides) lent
      → Running edition job l (suc k) (plus_of sum f) (eqb f.cut f.before) sides' lent'
  runs-more {k = zero} r go f sides' lent' e = absurd (omega (arith, r.some))
  runs-more {k = suc j} r go f sides' lent' e =
      more j r (follows-there (suc j) r.some r.few (rw (← r.equal) go)) f sides' lent' e

  -- after the last
  pub runs_last : {k : ℕ} {sum : Figures} {settled : Bool} {sides : List ℕ} {lent : Lent} → Running edition job l k sum settled sides lent → follows job.cap k settled ≡ false
      → ended_of (record { figures = sum; passes = k; settled = settled }) sides lent ≡ run_left edition job l
  unfolding run_figures_of
  runs_last {k = zero} r go = absurd (omega (arith, r.some))
  runs_last {k = suc j} r go =
      let q : suc j ≡ length (run_by edition job) = follows-not j r.few (rw (← r.equal) go) in
      let whole : take (suc j) (run_by edition job) ≡ run_by edition job = ap (λ (i : ℕ). take i (run_by edition job)) q ∙ take-length (run_by edition job) in
      λ i. record {
        answer = record {
          figures = (r.sums ∙ ap (figures_of done (first_pass edition job)) whole) i;
          passes = q i;
          settled = (r.equal ∙ ap (λ (ps : List Pass). settles (last_of (first_pass edition job) ps)) whole) i;
        };
        sides = (r.standing ∙ ap (λ (ps : List Pass). (last_of (first_pass edition job) ps).sides_after) whole) i;
        lent = (r.lists ∙ ap (λ (ps : List Pass). leaves edition job l (last_of (first_pass edition job) ps)) whole) i;
      }

  -- and the lists are as long as those lent
  pub alike-there : fits edition job l ≡ true → {k : ℕ} {sum : Figures} {settled : Bool} {sides : List ℕ} {lent : Lent} → Running edition job l k sum settled sides lent
      → Alike job l sides lent
  alike-there fit r =
      let b = came r in
      rw (r.standing, r.lists, b.2) (leaves_alike edition most job s l fit b.0 b.1.fit)

  -- ---- the sums are small

  module _ (narrow : Narrow most) where
    one-small : (j : ℕ) → j < length (run_by edition job) → let p = get_or (run_by edition job) j (first_pass edition job) in
        (length p.tried ≤ 65536) × (p.kept ≤ 65536) × (length p.scanned ≤ 65536) × (p.visited ≤ 262144)
    one-small j h =
        let b = pass-at j h in
        let p = edition-holds edition most job s b.0 b.1.fit in
        let x = p.0.moves in
        rw b.2 (few-tried b.0 x.few, few-kept b.0 x.prefix x.few, omega (arith, p.1.scans, s.few_recipes, narrow.recipes), omega (arith, p.1.visits, s.few_pins, narrow.pins))
      where
        few-tried : (before : List ℕ) → length (tries_by edition job before) ≤ file_count job → length (from before).tried ≤ 65536
        few-tried before f = unfold pass_of in omega (arith, s.few_files, narrow.files)

        few-kept : (before : List ℕ) → (from before).kept ≤ length (tries_by edition job before) → length (tries_by edition job before) ≤ file_count job
            → (from before).kept ≤ 65536
        few-kept before p f = omega (arith, s.few_files, narrow.files)

    sums_at : (k : ℕ) → k ≤ length (run_by edition job) → SumsSmall k (figures_of done (first_pass edition job) (take k (run_by edition job)))
    sums_at zero h = unfold figures_of total in record { tried = omega arith; kept = omega arith; scans = omega arith; visits = omega arith }
    sums_at (suc k) h =
        let o = one-small k h in
        let r = sums_at k (omega arith) in
        let p : Pass = get_or (run_by edition job) k (first_pass edition job) in
        subst (SumsSmall (suc k)) (sym (ap (figures_of done (first_pass edition job)) (take_more k h) ∙ figures-more (first_pass edition job) (take k (run_by edition job)) p))
        (sums-grow k (figures_of done (first_pass edition job) (take k (run_by edition job))) p r o.0 o.1 o.2 o.3)

    start-cut : cut job.sides (recipes job) ≤ most.recipes
    start-cut = unfold cut in omega (arith, count-le (is_cut job.sides) (recipes job), recipes-length most job s, s.few_recipes)

    -- what is added up fits
    pub sums-fit : {k : ℕ} {sum : Figures} {settled : Bool} {sides : List ℕ} {lent : Lent} → Running edition job l k sum settled sides lent → SumsFit sum × (k ≤ 65536)
    sums-fit {k} r =
        let b = subst (SumsSmall k) (sym r.sums) (sums_at k r.few) in
        let n : k ≤ 65536 = omega (arith, r.few, run-holding.few, start-cut, narrow.recipes) in
        (record { tried = omega (arith, b.tried); kept = omega (arith, b.kept); scans = omega (arith, b.scans); visits = omega (arith, b.visits) }, n)
