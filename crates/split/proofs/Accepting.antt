-- What the answer before the moves tells: a job that is let through may be played, of one that is refused nothing changes.
-- Assumes nothing.
use mathlib.Core.Path.{◌≡◌, refl, sym, ap, ◌∙◌}
use mathlib.Core.Logic.{◌≢◌}
use Prim.Native.Nat.{ℕ, zero, suc, ◌*◌, ◌≤◌, ◌<◌, ◌^◌}
use mathlib.Core.Bool.{Bool, true, false, ◌&&◌}
use mathlib.Core.List.{List}
use native.Mathlib.Omega.{arith}
use native.Mathlib.Nat.{max-le, mul-le-mul}
use lib.IntN.{ℤ}
use lib.ListN.{length}
use lib.Dec.{leb, eqb}
use borrow.Author.Tests.{leb-true, le-leb}
use Rattle.rules.specs.declared.Verdict.{Verdict}
use Rattle.rules.specs.Numbers.{Figures}
use Rattle.rules.specs.Lists.{bit, total, largest, up_to}
use Rattle.rules.specs.Job.{Job, Limits, file_count, recipe_count, pin_count, files, is_read, Lent, lent_of, scratch_for, fits}
use Rattle.rules.specs.Split.{size_of, is_free, weighs, unread_files, unread_recipes, weight, smax, tolerance}
use Rattle.rules.specs.Check.{check_sound, check, check_edition, check_lent}
use Rattle.rules.specs.Run.{ended_of, Ended, no_figures, pass_ends}
use Rattle.rules.specs.Theorems.{Sound}
use Rattle.rules.proofs.Count.{bit-most, total-up_to, largest-up_to}
use Rattle.rules.proofs.SoundJob.{sound}
use Rattle.rules.proofs.Tests.{and_yes, and_both}
use Rattle.rules.proofs.Fits.{numbers-least}
use Rattle.rules.proofs.Verdicts.{chain-stop, zero_of, chain-go}
use Rattle.rules.proofs.Refusals.{lent-chain}
use Rattle.rules.proofs.Proved.{lent-sound, answers}
use Rattle.job.specs.Survey.{check_for}
use Rattle.job.specs.Survey.{Survey}
use Rattle.tables.specs.LayingOut.{LaysOut}
use Rattle.tables.proofs.Accepted.{Narrow, verdict-is, survey-is, let_through, wide-through}
use Rattle.choice.specs.declared.window.Window.{Window}
use Rattle.split.specs.declared.progress.Progress.{Progress}
use Rattle.choice.specs.Choosing.{window_of}
use Rattle.split.specs.Moving.{begun}
use Rattle.split.specs.Playing.{pass_left}
use Rattle.split.proofs.Playable.{Playable, size_at_start, cut_at_start}

-- ---- W and smax of two-byte sizes

total-most : (w : ℕ → ℕ) → ((i : ℕ) → w i < 65536) → (n : ℕ) → total w (up_to n) ≤ n * 65535
total-most w h zero = unfold total up_to in omega arith
total-most w h (suc n) = omega (arith, total-up_to w n, total-most w h n, h n)

largest-most : (w : ℕ → ℕ) → ((i : ℕ) → w i < 65536) → (n : ℕ) → largest w (up_to n) ≤ 65535
largest-most w h zero = unfold largest up_to in omega arith
largest-most w h (suc n) = rw (largest-up_to w n) (max-le (largest-most w h n) (omega (arith, h n)))

module _ (job : Job) (two : (i : ℕ) → size_of job i < 65536) where
  weight-most : weight job ≤ file_count job * 65535
  unfolding weight files
  weight-most = total-most (weighs job) (λ f. omega (arith, bit-most (is_read job f) (size_of job f), two f)) (file_count job)

  smax-most : smax job ≤ 65535
  unfolding smax files
  smax-most = largest-most (λ f. bit (is_free job f) * size_of job f) (λ f. omega (arith, bit-most (is_free job f) (size_of job f), two f)) (file_count job)

-- all that `fits` asks but for the scratch
abbrev lists_fit : Job → Lent → Bool
lists_fit job l =
    eqb (length l.gains) (file_count job)
    && leb (file_count job) (length l.tried) && leb (file_count job) (length l.gained)
    && leb (file_count job) (length l.cuts) && leb (file_count job) (length l.ends)
    && leb (4 * recipe_count job) (length l.recipes) && leb (4 * recipe_count job) (length l.kinds)

-- lists that fit a pass by any edition fit one by edition 1
fits-first : (edition : ℕ) (job : Job) (l : Lent) → fits edition job l ≡ true → fits 1 job l ≡ true
fits-first edition job l ok =
    let t = and_yes (lists_fit job l) (leb (scratch_for edition job) (length l.scratch)) ok in
    and_both t.0 (le-leb (scratch_for 1 job) (length l.scratch) (omega (arith, leb-true (scratch_for edition job) (length l.scratch) t.1, numbers-least edition (pin_count job) (file_count job) (recipe_count job))))

-- s answers for the job and the lists lent, and g and z are then the gains and the scratch; sizes are two-byte numbers
pub record Accepting (edition : ℕ) (balancing : Bool) (most : Limits) (job : Job) (l : Lent) (g : List ℤ) (z : List ℕ) (s : Survey) : Type 0 where
  pub narrow : Narrow most
  pub sizes : (i : ℕ) → size_of job i < 65536
  pub lays : LaysOut balancing most job (fits edition job l) l.gains l.scratch g z s

-- from what the step promises
pub accepting : (edition : ℕ) (balancing : Bool) (most : Limits) (job : Job) (l : Lent) {g : List ℤ} {z : List ℕ} {s : Survey} → LaysOut balancing most job (fits edition job l) l.gains l.scratch g z s
    → Narrow most → ((i : ℕ) → size_of job i < 65536) → Accepting edition balancing most job l g z s
accepting edition balancing most job l lays narrow sizes = record { narrow = narrow; sizes = sizes; lays = lays }

module _ {edition : ℕ} {balancing : Bool} {most : Limits} {job : Job} {l : Lent} {g : List ℤ} {z : List ℕ} {s : Survey} (a : Accepting edition balancing most job l g z s) where
  pub told : s.verdict ≡ check_for balancing most job (fits edition job l)
  told = ap (λ (x : Survey). x.verdict) a.lays.answer ∙ verdict-is balancing most job (fits edition job l)

  -- ---- let through

  module _ (d : s.verdict.number ≡ 0) where
    pub check_done : (check_for balancing most job (fits edition job l)).number ≡ 0
    check_done = zero_of told d

    found : s
        ≡ record {
          verdict = check_for balancing most job (fits edition job l);
          weight = weight job;
          tolerance = tolerance job;
          size = size_at_start job;
          cut = cut_at_start job;
          unread = unread_files job;
          holding = unread_recipes job;
        }
    found = a.lays.answer ∙ survey-is balancing most job (fits edition job l) check_done

    pub cut-is : s.cut ≡ cut_at_start job
    cut-is = ap (λ (x : Survey). x.cut) found

    pub unread-is : (s.unread ≡ unread_files job) × (s.holding ≡ unread_recipes job)
    unread-is = (ap (λ (x : Survey). x.unread) found, ap (λ (x : Survey). x.holding) found)

    pub begins-as : {p : Progress} → p ≡ begun s.size s.cut → p ≡ begun (size_at_start job) (cut_at_start job)
    begins-as e = e ∙ ap (λ (x : Survey). begun x.size x.cut) found

    -- it passed 1 to 6
    sound-done : (check_sound most job (fits edition job l)).number ≡ 0
    sound-done = let_through balancing most job (fits edition job l) a.lays.answer d

    sound-is : Sound most job
    sound-is = sound most job (fits edition job l) sound-done

    wide_is : (1 ≤ job.k) × (job.k ≤ 4)
    wide_is = wide-through balancing most job (fits edition job l) check_done

    pub fitting-is : fits edition job l ≡ true
    fitting-is = lent-sound most job (fits edition job l) sound-done

    weight-small : weight job < 2 ^ 32
    weight-small = omega (arith, weight-most job a.sizes, sound-is.few_files, a.narrow.files)

    pub sums-small : (s.weight < 2 ^ 32) × (s.tolerance < 2 ^ 32)
    sums-small =
        (omega (arith, ap (λ (x : Survey). x.weight) found, weight-small), omega (arith, ap (λ (x : Survey). x.tolerance) found, mul-le-mul wide_is.1 (smax-most job a.sizes)))

    pub playable : {w : Window} → w ≡ window_of job s.weight s.tolerance → Playable job l w
    playable e = record {
      most = most;
      sound = sound-is;
      wide = wide_is.0;
      small = record {
        files = omega (arith, sound-is.few_files, a.narrow.files);
        bounds = omega (arith, sound-is.few_recipes, a.narrow.recipes);
        pins = omega (arith, sound-is.few_pins, a.narrow.pins);
        scans = omega (arith, sound-is.few_recipes, a.narrow.recipes);
        links = omega (arith, sound-is.few_files, sound-is.few_recipes, a.narrow.links);
        weight = weight-small;
      };
      fitting = fits-first edition job l fitting-is;
      measured = record {
        den = ap (λ (w : Window). w.den) e;
        aim = ap (λ (w : Window). w.aim) e ∙ ap (λ (x : Survey). job.num * x.weight) found;
        span = ap (λ (w : Window). w.span) e ∙ ap (λ (x : Survey). job.den * x.tolerance) found;
      };
    }

-- ---- a pass

-- of an edition that there is not
pub pass-unknown : (edition : ℕ) (most : Limits) (job : Job) (l : Lent) {v : Verdict} {r : Figures} → v ≡ check_edition edition → v.number ≢ 0 → r ≡ no_figures v
    → ended_of r job.sides l ≡ pass_ends edition most job l
pass-unknown edition most job l {v} {r} e n q =
    let same : check_edition edition ≡ check_lent edition most job l = chain-stop (check most job (fits edition job l)) refl (λ z. n (ap (λ (x : Verdict). x.number) e ∙ z)) ∙ sym (lent-chain edition most job l) in
    let told : v ≡ check_lent edition most job l = e ∙ same in
    rw (q, told) (sym ((answers edition most job l).pass_refused (λ z. n (ap (λ (x : Verdict). x.number) told ∙ z))))

module _ {edition : ℕ} {most : Limits} {job : Job} {l : Lent} {g : List ℤ} {z : List ℕ} {s : Survey} (a : Accepting edition false most job l g z s)
    (known : (check_edition edition).number ≡ 0) where
  checks : check_lent edition most job l ≡ check most job (fits edition job l)
  checks = lent-chain edition most job l ∙ sym (chain-go refl known refl)

  pub pass-refused : {r : Figures} → s.verdict.number ≢ 0 → r ≡ no_figures s.verdict
      → ended_of r job.sides (lent_of g l.tried l.gained l.cuts l.ends l.recipes l.kinds z) ≡ pass_ends edition most job l
  pass-refused n e =
      let refuses : (check_lent edition most job l).number ≢ 0 = λ q. n (ap (λ (v : Verdict). v.number) (told a ∙ sym checks) ∙ q) in
      let stay = a.lays.refused n in
      rw (stay.0, stay.1, e, told a ∙ sym checks) (sym ((answers edition most job l).pass_refused refuses))

  pub pass-done : {x : Ended Figures} → s.verdict.number ≡ 0 → x ≡ pass_left edition job l → x ≡ pass_ends edition most job l
  pass-done d e = e ∙ sym ((answers edition most job l).pass_done (zero_of (sym checks) (check_done a d)))
