-- The recipes of a move treated one after the other, as a loop over their cells has them. Assumes nothing.
use mathlib.Core.Path.{◌≡◌, refl, sym, ap, subst, ◌∙◌}
use Prim.Native.Nat.{ℕ, zero, suc, ◌+◌, ◌-◌, ◌≤◌, ◌<◌}
use mathlib.Core.List.{List, [], ◌∷◌}
use native.Mathlib.Numerals.{add-one}
use native.Mathlib.Omega.{arith}
use lib.ListN.{length, get_or, take, drop}
use lib.Seq.{drop-cons}
use Rattle.std.specs.Prelude.{Option}
use Rattle.rules.specs.Lists.{AllBelow}
use Rattle.rules.specs.Move.{State}
use Rattle.split.specs.declared.scan.Way.{Way}
use Rattle.split.specs.declared.scan.Kinds.{Kinds}
use Rattle.tables.specs.Zones.{part, state_of}
use Rattle.split.specs.Scanning.{Fits, Scanned, scan_if, Treated, recount, kinds_now, treat_one, treat_all, Treatable, Ready, next}
use Rattle.split.proofs.Lasting.{Later, later_same, later-then, fits-earlier, GainsNear, later-if, near-if, recount-length, recount-part, later-one, near-recipe}

-- the cells from i up to e: the first, and those after it
part-cons : (i e : ℕ) (z : List ℕ) → i < e → e ≤ length z → part i (e - i) z ≡ get_or z i 0 ∷ part (i + 1) (e - (i + 1)) z
part-cons i e z h k =
    let n : e - i ≡ suc (e - (i + 1)) = omega arith in
    let l : i < length z = omega arith in
    ap (λ (m : ℕ). take m (drop i z)) n
    ∙ ap (take (suc (e - (i + 1)))) (drop-cons z i 0 l)
    ∙ ap (λ (m : ℕ). get_or z i 0 ∷ take (e - (i + 1)) (drop m z)) (sym (add-one i))

part_none : (i e : ℕ) (z : List ℕ) → e ≤ i → part i (e - i) z ≡ []
part_none i e z h =
    let n : e - i ≡ zero = omega arith in
    ap (λ (m : ℕ). take m (drop i z)) n

ready-now : {way : Way} {look : ℕ → List ℕ} {e j : ℕ} {js z : List ℕ} → Ready way look e (j ∷ js) z → Treatable way look e z j
ready-now (next t r) = t

ready-then : {way : Way} {look : ℕ → List ℕ} {e j : ℕ} {js z : List ℕ} → Ready way look e (j ∷ js) z → Ready way look e js (recount way j z)
ready-then (next t r) = r

module _ (st : State) (way : Way) where
  pub treat-scratch : (j : ℕ) (r : List ℕ) (y : Treated) → (treat_one st way j r y).scratch ≡ recount way j y.scratch
  unfolding treat_one
  treat-scratch j r y = refl

  pub later-all : (look : ℕ → List ℕ) (js : List ℕ) (y : Treated) → Later y.scanned (treat_all st way look js y).scanned
  unfolding treat_all
  later-all look [] y = later_same y.scanned
  later-all look (j ∷ js) y = later-then (later-one st way j (look j) y.scratch y.scanned) (later-all look js (treat_one st way j (look j) y))

-- before the turn at i: the rest of the recipes leads to the same end
pub record Turn (st : State) (way : Way) (look : ℕ → List ℕ) (a e : ℕ) (y₀ : Treated) (i : ℕ) (y : Treated) : Type 0 where
  pub high : i ≤ e
  pub inside : (way.files ≤ e) × (e ≤ length y₀.scratch)
  pub scratch : length y.scratch ≡ length y₀.scratch
  pub locks : take way.files y.scratch ≡ st.locks
  pub ready : Ready way look e (part i (e - i) y.scratch) y.scratch
  pub rest : treat_all st way look (part i (e - i) y.scratch) y ≡ treat_all st way look (part a (e - a) y₀.scratch) y₀
  pub later : Later y₀.scanned y.scanned
  pub near : GainsNear y.scanned

module _ {st : State} {way : Way} {look : ℕ → List ℕ} {a e : ℕ} {y₀ : Treated} where
  pub turn_last : {i : ℕ} {y : Treated} → Turn st way look a e y₀ i y → e ≤ i → y ≡ treat_all st way look (part a (e - a) y₀.scratch) y₀
  turn_last {i} {y} t h = sym (none_left (part i (e - i) y.scratch) (part_none i e y.scratch h)) ∙ t.rest
    where
      none_left : (js : List ℕ) → js ≡ [] → treat_all st way look js y ≡ y
      none_left js q = ap (λ (l : List ℕ). treat_all st way look l y) q ∙ (unfold treat_all in refl)

  module _ {i : ℕ} {y : Treated} (t : Turn st way look a e y₀ i y) (h : i < e) where
    abbrev j : ℕ
    j = get_or y.scratch i 0

    abbrev js : List ℕ
    js = part (i + 1) (e - (i + 1)) y.scratch

    cells : part i (e - i) y.scratch ≡ j ∷ js
    cells = part-cons i e y.scratch h (omega (arith, t.inside, t.scratch))

    ready : Ready way look e (j ∷ js) y.scratch
    ready = subst (λ (l : List ℕ). Ready way look e l y.scratch) cells t.ready

    pub turn-treatable : Treatable way look e y.scratch j
    turn-treatable = ready-now ready

    then : treat_all st way look js (treat_one st way j (look j) y) ≡ treat_all st way look (part a (e - a) y₀.scratch) y₀
    unfolding treat_all
    then = ap (λ (l : List ℕ). treat_all st way look l y) (sym cells) ∙ t.rest

    pub turn-fits : Fits (treat_all st way look (part a (e - a) y₀.scratch) y₀).scanned → Fits (treat_one st way j (look j) y).scanned
    turn-fits f =
        fits-earlier (later-all st way look js (treat_one st way j (look j) y)) (subst (λ (x : Treated). Fits x.scanned) (sym then) f)

    treated-one : Turn st way look a e y₀ (i + 1) (treat_one st way j (look j) y)
    treated-one =
        let z = y.scratch in
        let s : (treat_one st way j (look j) y).scratch ≡ recount way j z = treat-scratch st way j (look j) y in
        let same : part (i + 1) (e - (i + 1)) (recount way j z) ≡ js = recount-part way j z (i + 1) (e - (i + 1)) (omega arith) turn-treatable in
        let left : part (i + 1) (e - (i + 1)) (treat_one st way j (look j) y).scratch ≡ js = ap (part (i + 1) (e - (i + 1))) s ∙ same in
        record {
          high = omega arith;
          inside = t.inside;
          scratch = ap length s ∙ recount-length way j z ∙ t.scratch;
          locks = ap (take way.files) s ∙ recount-part way j z 0 way.files (omega (arith, t.inside)) turn-treatable ∙ t.locks;
          ready = subst (λ (l : List ℕ). Ready way look e l (treat_one st way j (look j) y).scratch) (sym left) (subst (Ready way look e js) (sym s) (ready-then ready));
          rest = ap (λ (l : List ℕ). treat_all st way look l (treat_one st way j (look j) y)) left ∙ then;
          later = later-then t.later (later-one st way j (look j) z y.scanned);
          near = near-recipe st way j (look j) z y.scanned t.near;
        }

    -- ---- the code's steps: the counts changed, then two scans

    module _ {r z' : List ℕ} {k : Kinds} (own : r ≡ look j) (counted : z' ≡ recount way j y.scratch) (kinds : k ≡ kinds_now way j y.scratch) where
      -- the scans see the locks of the entry, below the counts
      abbrev seen : State
      seen = state_of st.sides (take way.files z')

      same : seen ≡ st
      same = ap (state_of st.sides)
          (ap (take way.files) counted ∙ recount-part way j y.scratch 0 way.files (omega (arith, t.inside)) turn-treatable ∙ t.locks)

      abbrev scan : Option ℕ → Scanned → Scanned
      scan kind x = scan_if seen way.side j r kind x

      abbrev one : Scanned
      one = scan k.first y.scanned

      both-made : ◌≡◌ {A = Treated} (record { scratch = z'; scanned = scan k.second one }) (treat_one st way j (look j) y)
      unfolding treat_one
      both-made = λ n. record {
        scratch = counted n;
        scanned = scan_if (same n) way.side j (own n) (kinds n).second (scan_if (same n) way.side j (own n) (kinds n).first y.scanned);
      }

      both-fit : Fits (treat_all st way look (part a (e - a) y₀.scratch) y₀).scanned → Fits (scan k.second one)
      both-fit f = subst (λ (x : Treated). Fits x.scanned) (sym both-made) (turn-fits f)

      -- what the scans ask
      pub own_below : AllBelow way.files r
      own_below = subst (AllBelow way.files) (sym own) turn-treatable.below

      pub seen-long : way.files ≤ length z'
      seen-long = omega (arith, t.inside, t.scratch, ap length counted, recount-length way j y.scratch)

      pub first_fits : Fits (treat_all st way look (part a (e - a) y₀.scratch) y₀).scanned → Fits one
      first_fits f = fits-earlier (later-if seen way.side j r k.second one) (both-fit f)

      module _ {x : Scanned} (first : x ≡ one) where
        pub second-near : GainsNear x
        second-near = subst (λ (u : Scanned). GainsNear u) (sym first) (near-if seen way.side j r k.first y.scanned t.near)

        pub second_fits : Fits (treat_all st way look (part a (e - a) y₀.scratch) y₀).scanned → Fits (scan k.second x)
        second_fits f = subst (λ (u : Scanned). Fits (scan k.second u)) (sym first) (both-fit f)

        pub turn_more : {x' : Scanned} → x' ≡ scan k.second x → Turn st way look a e y₀ (i + 1) (record { scratch = z'; scanned = x' })
        turn_more q =
            subst (Turn st way look a e y₀ (i + 1))
            (sym (ap (λ (u : Scanned). record { scratch = z'; scanned = u }) (q ∙ ap (scan k.second) first) ∙ both-made)) treated-one
