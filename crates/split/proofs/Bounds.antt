-- What keeps moves within their lists and numbers. Assumes nothing.
use mathlib.Core.Path.{◌≡◌, sym, ap, ◌∙◌}
use Prim.Native.Nat.{ℕ, suc, ◌+◌, ◌*◌, ◌≤◌, ◌<◌}
use mathlib.Core.Bool.{Bool, true, false, cond}
use mathlib.Core.List.{List, [], ◌∷◌, map}
use native.Mathlib.Decide.{dec_lt}
use native.Mathlib.Omega.{arith}
use lib.Dec.{eqb}
use lib.IntN.{ℤ, pos, negsuc, ◌-ℤ◌}
use lib.ListN.{length, get_or, length-map, get_or-eq_default}
use Rattle.rules.specs.Lists.{up_to, diff}
use Rattle.rules.specs.Job.{Job, file_count, recipe_count, pin_count, views, recipes, Lent, fits}
use Rattle.rules.specs.Split.{is_cut, cut, holds, gain, weight, size_a}
use Rattle.rules.specs.Move.{State, free, moved, scans, ends_from, visits}
use Rattle.rules.specs.Pass.{gains_when, cuts_after, standing, gains_after}
use Rattle.rules.proofs.Fits.{LongEnough, long-enough}
use Rattle.rules.proofs.Count.{get_d-tabled, length-tabled, count-le}
use Rattle.rules.proofs.Signed.{up, down, abs, diff-key}
use Rattle.rules.proofs.Entries.{onto-length}
use Rattle.rules.proofs.GainKept.{gains-kept, cut_moved}
use Rattle.rules.proofs.Steps.{gains-length, cuts-length, ends-length}
use Rattle.rules.proofs.FourScans.{all-scans, all-visits}
use Rattle.rules.proofs.Sizes.{sizes-add, gain-abs}
use Rattle.rules.proofs.SoundJob.{recipes-distinct, recipes-length, views-length, views-total}
use Rattle.split.specs.Moving.{Board}
use Rattle.split.proofs.Going.{begins, made, stands, Line, Going}
use Rattle.split.proofs.NextMove.{Next, stands-long, stands-binary, made-free, few-moves}
use Rattle.split.proofs.BestSoFar.{made-length}
use Rattle.split.proofs.ChoiceNow.{gains_now, gains-long, gains-fresh}

-- ---- gains and cuts are no more than recipes

standing-abs : (rs : List (List ℕ)) (st : State) (ms : List ℕ) (f : ℕ) → abs (standing rs st ms f) ≤ length rs
unfolding standing
standing-abs rs st [] f = omega (arith, gain-abs st.sides rs f, count-le (λ r. holds r f) rs)
standing-abs rs st (m ∷ ms) f = go (eqb m f) (standing-abs rs (moved st m) ms f)
  where
    go : (b : Bool) → abs (standing rs (moved st m) ms f) ≤ length rs → abs (cond b (gain st.sides rs f) (standing rs (moved st m) ms f)) ≤ length rs
    go true ih = omega (arith, gain-abs st.sides rs f, count-le (λ r. holds r f) rs)
    go false ih = ih

gains-abs : (rs : List (List ℕ)) (n : ℕ) (st : State) (ms : List ℕ) (f : ℕ) → abs (get_or (gains_after rs n st ms) f (pos 0)) ≤ length rs
unfolding gains_after
gains-abs rs n st ms f = elim (dec_lt f n) [
  | yes h ↦ rw (get_d-tabled (λ f. cond (free st f) (standing rs st ms f) (pos 0)) n f (pos 0) h) (go (free st f))
  | no z ↦
      rw (get_or-eq_default (map (λ f. cond (free st f) (standing rs st ms f) (pos 0)) (up_to n)) (pos 0) {n = f} (rw length-tabled (omega arith))) (omega arith)
]
  where
    go : (b : Bool) → abs (cond b (standing rs st ms f) (pos 0)) ≤ length rs
    go true = standing-abs rs st ms f
    go false = omega arith

-- a cut less a gain, where it is a cut
pub cut-crossed : (a b : ℕ) (g : ℤ) → pos a -ℤ g ≡ pos b → a + down g ≡ b + up g
unfolding diff
cut-crossed a b (pos n) e = omega (arith, ap up e, ap down e, diff-key a n)
cut-crossed a b (negsuc n) e = omega (arith, ap up e)

module _ {job : Job} {ms : List ℕ} (v : Line job ms) (k : ℕ) where
  pub gain-near : (f : ℕ) → abs (get_or (gains_now job ms k) f (pos 0)) ≤ recipe_count job
  gain-near f =
      rw (gains-kept (recipes job) (recipes-distinct v.most job v.sound) (file_count job) (begins job) (made ms k) (made-free v k) v.sound.binary)
      (omega (arith, gains-abs (recipes job) (file_count job) (begins job) (made ms k) f, recipes-length v.most job v.sound))

  pub cut-few : cut (stands job ms k).sides (recipes job) ≤ recipe_count job
  unfolding cut
  cut-few = omega (arith, count-le (is_cut (stands job ms k).sides) (recipes job), recipes-length v.most job v.sound)

  pub size_few : size_a job (stands job ms k).sides ≤ weight job
  size_few = omega (arith, sizes-add job (stands job ms k).sides (stands-binary v k))

  pub scans-few : length (scans (recipes job) (begins job) (made ms k)) ≤ 4 * recipe_count job
  scans-few = rw (← recipes-length v.most job v.sound) (all-scans (recipes job) (recipes-distinct v.most job v.sound) (begins job) (made ms k) (made-free v k) v.sound.binary)

  pub visits-few : visits (views job) (scans (recipes job) (begins job) (made ms k)) ≤ 4 * pin_count job
  visits-few =
      rw (← views-total v.most job v.sound)
      (all-visits (recipes job) (recipes-distinct v.most job v.sound) (begins job) (made ms k) (made-free v k) v.sound.binary (views job)
      (views-length v.most job v.sound ∙ sym (recipes-length v.most job v.sound)))

  -- the gain listed of the next move is its gain, and takes from the cut no more than it has
  pub gain-now : (f : ℕ) → Next job ms k f → get_or (gains_now job ms k) f (pos 0) ≡ gain (stands job ms k).sides (recipes job) f
  gain-now f n = gains-fresh v k f (rw (gains-long v k) n.below) n.free

  pub cut-next : (f : ℕ) → Next job ms k f
      → cut (stands job ms k).sides (recipes job) + down (get_or (gains_now job ms k) f (pos 0)) ≡ cut (moved (stands job ms k) f).sides (recipes job) + up (get_or (gains_now job ms k) f (pos 0))
  cut-next f n =
      cut-crossed (cut (stands job ms k).sides (recipes job)) (cut (moved (stands job ms k) f).sides (recipes job)) (get_or (gains_now job ms k) f (pos 0))
      (rw (gain-now f n) (cut_moved (recipes job) (recipes-distinct v.most job v.sound) (stands job ms k) f n.moves))

-- ---- the lists of a pass in progress are as long as lent

pub record BoardLong (job : Job) (l : Lent) (b : Board) : Type 0 where
  pub sides : length b.sides ≡ file_count job
  pub gains : length b.rest.scanned.gains ≡ file_count job
  pub tried : length b.tried ≡ length l.tried
  pub gained : length b.gained ≡ length l.gained
  pub cuts : length b.cuts ≡ length l.cuts
  pub scans_so_far : length b.ends ≡ length l.ends
  pub scanned_recipes : length b.rest.scanned.recipes ≡ length l.recipes
  pub scanned_kinds : length b.rest.scanned.kinds ≡ length l.kinds
  pub scratch : length b.rest.scratch ≡ length l.scratch

pub board-long : {job : Job} {ms : List ℕ} → Line job ms → {l : Lent} → fits 1 job l ≡ true → {k : ℕ} {b : Board} → Going job ms l k b → BoardLong job l b
board-long {job} {ms} v {l} ok {k} {b} g =
    let r : LongEnough 1 job l = long-enough 1 job l ok in
    let rs : List (List ℕ) = recipes job in
    let now : List ℕ = made ms k in
    let few : length now ≤ file_count job = omega (arith, made-length job ms k g.few, g.few, few-moves v) in
    let some = scans-few v k in
    record {
      sides = ap length g.sides ∙ (stands-long v k).sides;
      gains = ap length g.gains ∙ gains-long v k;
      tried = ap length g.tried ∙ onto-length 0 now l.tried (omega arith);
      gained = ap length g.gained ∙ onto-length (pos 0) (gains_when rs (begins job) now) l.gained (rw gains-length (omega arith));
      cuts = ap length g.cuts ∙ onto-length 0 (cuts_after rs (begins job) now) l.cuts (rw cuts-length (omega arith));
      scans_so_far = ap length g.scans_so_far ∙ onto-length 0 (ends_from rs 0 (begins job) now) l.ends (rw ends-length (omega arith));
      scanned_recipes = ap length g.scanned_recipes ∙ onto-length 0 (map (λ c. c.recipe) (scans rs (begins job) now)) l.recipes (rw length-map (omega arith));
      scanned_kinds = ap length g.scanned_kinds ∙ onto-length 0 (map (λ c. c.kind) (scans rs (begins job) now)) l.kinds (rw length-map (omega arith));
      scratch = g.long;
    }

-- ---- what a move needs

-- the lists have a place for move k, the gains and the cut fit, and the scans and visits of move k will
pub record Safe (job : Job) (ms : List ℕ) (k f : ℕ) (b : Board) : Type 0 where
  pub tried : k < length b.tried
  pub gained : k < length b.gained
  pub cuts : k < length b.cuts
  pub scans_so_far : k < length b.ends
  pub scanned_recipes : 4 * recipe_count job ≤ length b.rest.scanned.recipes
  pub scanned_kinds : 4 * recipe_count job ≤ length b.rest.scanned.kinds
  pub near : (x : ℕ) → abs (get_or b.rest.scanned.gains x (pos 0)) ≤ 65536
  pub size : b.rest.scanned.progress.size ≤ weight job
  pub few : b.rest.scanned.progress.cut ≤ recipe_count job
  pub falls : up (get_or b.rest.scanned.gains f (pos 0)) ≤ b.rest.scanned.progress.cut
  pub scanning : length (scans (recipes job) (begins job) (made ms (suc k))) ≤ 4 * recipe_count job
  pub visiting : visits (views job) (scans (recipes job) (begins job) (made ms (suc k))) ≤ 4 * pin_count job

up_le : (a b : ℕ) (g : ℤ) → a + down g ≡ b + up g → up g ≤ a
up_le a b (pos n) e = omega arith
up_le a b (negsuc n) e = omega arith

pub safe : {job : Job} {ms : List ℕ} → Line job ms → recipe_count job ≤ 65536 → {l : Lent} → fits 1 job l ≡ true
    → {k f : ℕ} {b : Board} → Going job ms l k b → Next job ms k f → Safe job ms k f b
safe {job} {ms} v small {l} ok {k} {f} {b} g n =
    let r : LongEnough 1 job l = long-enough 1 job l ok in
    let m : BoardLong job l b = board-long v ok g in
    let early : k < file_count job = n.early in
    record {
      tried = omega (arith, m.tried, r.tried);
      gained = omega (arith, m.gained, r.gained);
      cuts = omega (arith, m.cuts, r.cuts);
      scans_so_far = omega (arith, m.scans_so_far, r.scans_so_far);
      scanned_recipes = omega (arith, m.scanned_recipes, r.scanned_recipes);
      scanned_kinds = omega (arith, m.scanned_kinds, r.scanned_kinds);
      near = λ x. rw g.gains (omega (arith, gain-near v k x));
      size = rw g.progress.size (size_few v k);
      few = rw g.progress.cut_now (cut-few v k);
      falls =
          rw (g.gains, g.progress.cut_now)
          (up_le (cut (stands job ms k).sides (recipes job)) (cut (moved (stands job ms k) f).sides (recipes job)) (get_or (gains_now job ms k) f (pos 0)) (cut-next v k f n));
      scanning = scans-few v (suc k);
      visiting = visits-few v (suc k);
    }
