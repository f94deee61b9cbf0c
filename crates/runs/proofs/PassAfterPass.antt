-- What one pass leaves in the lent lists the next writes over, and every list stays as long. Assumes nothing.
use mathlib.Core.Path.{◌≡◌, sym, ap, ◌∙◌}
use Prim.Native.Nat.{ℕ, ◌*◌, ◌≤◌}
use mathlib.Core.Bool.{true, ◌&&◌}
use mathlib.Core.List.{List, [], map}
use native.Mathlib.Omega.{arith}
use lib.Dec.{leb, eqb}
use lib.IntN.{pos}
use lib.ListN.{length, length-map}
use Rattle.rules.specs.Job.{Job, Limits, file_count, recipe_count, recipes, Lent, lent_of, scratch_for, fits}
use Rattle.rules.specs.Move.{start, scans, ends_from}
use Rattle.rules.specs.Pass.{gains_when, cuts_after, pass_of, leaves}
use Rattle.rules.specs.Fronts.{tries_by}
use Rattle.rules.specs.Run.{pass_by}
use Rattle.rules.specs.Theorems.{Sound, Sides, MovesHold, ScansHold, Left, Lawful, PassHoldsBy}
use Rattle.rules.proofs.Entries.{listed-again}
use Rattle.rules.proofs.FrontsProved.{editions-hold}
use Rattle.rules.proofs.Proved.{left, lawful-frees, pass-holds-by, scans-hold}
use Rattle.rules.proofs.Steps.{gains-length, cuts-length, ends-length}
use Rattle.rules.proofs.Fits.{long-enough}

-- ---- one pass by an edition, from sides that it may start from: what holds of it and of its scans

pub edition-holds : (edition : ℕ) (most : Limits) (job : Job) → Sound most job → (before : List ℕ) → Sides job before
    → PassHoldsBy job before (tries_by edition job before) × ScansHold job before (tries_by edition job before)
edition-holds edition most job s before w =
    let lawful : Lawful job before (tries_by edition job before) = (editions-hold most job s).lawful edition before w in
    let ms : List ℕ = tries_by edition job before in
    (pass-holds-by most job s before ms w lawful, scans-hold most job s before ms w (lawful-frees most job s before ms w lawful))

-- ---- the lists after two passes are the second's

module _ (edition : ℕ) (job : Job) (l : Lent) (x y ms ns : List ℕ) (a : MovesHold job x ms) (c : ScansHold job x ms) (b : MovesHold job y ns) (d : ScansHold job y ns) where
  pub leaves-again : leaves edition job (leaves edition job l (pass_of job x ms)) (pass_of job y ns) ≡ leaves edition job l (pass_of job y ns)
  unfolding leaves pass_of
  leaves-again =
      let rs : List (List ℕ) = recipes job in
      let m : ℕ = file_count job in
      let n : ℕ = 4 * recipe_count job in
      let few : length ms ≤ m = a.few in
      let few' : length ns ≤ m = b.few in
      let tried = listed-again m 0 ms ns l.tried few few' in
      let gained = listed-again m (pos 0) (gains_when rs (start job x) ms) (gains_when rs (start job y) ns) l.gained (rw gains-length few) (rw gains-length few') in
      let cuts = listed-again m 0 (cuts_after rs (start job x) ms) (cuts_after rs (start job y) ns) l.cuts (rw cuts-length few) (rw cuts-length few') in
      let ends = listed-again m 0 (ends_from rs 0 (start job x) ms) (ends_from rs 0 (start job y) ns) l.ends (rw ends-length few) (rw ends-length few') in
      let recipes = listed-again n 0 (map (λ s. s.recipe) (scans rs (start job x) ms)) (map (λ s. s.recipe) (scans rs (start job y) ns))
      l.recipes (rw length-map c.scans) (rw length-map d.scans) in
      let kinds = listed-again n 0 (map (λ s. s.kind) (scans rs (start job x) ms)) (map (λ s. s.kind) (scans rs (start job y) ns))
      l.kinds (rw length-map c.scans) (rw length-map d.scans) in
      let scratch = listed-again (scratch_for edition job) 0 [] [] l.scratch (omega arith) (omega arith) in
      λ i. lent_of (pass_of job y ns).gains (tried i) (gained i) (cuts i) (ends i) (recipes i) (kinds i) (scratch i)

-- ---- the lists keep their lengths

pub record Alike (job : Job) (l : Lent) (standing : List ℕ) (lent : Lent) : Type 0 where
  pub sides : length standing ≡ length job.sides
  pub gains : length lent.gains ≡ length l.gains
  pub tried : length lent.tried ≡ length l.tried
  pub gained : length lent.gained ≡ length l.gained
  pub cuts : length lent.cuts ≡ length l.cuts
  pub ends : length lent.ends ≡ length l.ends
  pub recipes : length lent.recipes ≡ length l.recipes
  pub kinds : length lent.kinds ≡ length l.kinds
  pub scratch : length lent.scratch ≡ length l.scratch

pub leaves_alike : (edition : ℕ) (most : Limits) (job : Job) → Sound most job → (l : Lent) → fits edition job l ≡ true → (before : List ℕ) → Sides job before
    → let p = pass_by job (tries_by edition job) before in Alike job l p.sides_after (leaves edition job l p)
leaves_alike edition most job s l ok before w =
    let h = edition-holds edition most job s before w in
    let m : MovesHold job before (tries_by edition job before) = h.0.moves in
    let v : Left edition job l (pass_by job (tries_by edition job) before) = left most job s edition before (tries_by edition job before) l ok m h.1 in
    record {
      sides = m.next.long ∙ sym s.sides_long;
      gains = ap length v.gains ∙ m.all ∙ sym (long-enough edition job l ok).gains;
      tried = v.tried.long;
      gained = v.gained.long;
      cuts = v.cuts.long;
      ends = v.ends.long;
      recipes = v.recipes.long;
      kinds = v.kinds.long;
      scratch = v.scratch.long;
    }

-- so they fit the job as those lent did
pub fits-alike : (edition : ℕ) {job : Job} {l lent : Lent} {sides : List ℕ} → Alike job l sides lent → fits edition job lent ≡ fits edition job l
fits-alike edition {job} {l} {lent} a = λ i.
    eqb (a.gains i) (file_count job)
    && leb (file_count job) (a.tried i) && leb (file_count job) (a.gained i)
    && leb (file_count job) (a.cuts i) && leb (file_count job) (a.ends i)
    && leb (4 * recipe_count job) (a.recipes i) && leb (4 * recipe_count job) (a.kinds i)
    && leb (scratch_for edition job) (a.scratch i)
