-- The theorems of specs/Theorems.antt about jobs, moves, passes and runs. Assumes nothing.
use mathlib.Core.Path.{◌≡◌, refl, sym, ap, ◌∙◌}
use mathlib.Core.Logic.{◌≢◌}
use Prim.Native.Nat.{ℕ, zero, suc, ◌*◌, ◌≤◌, ◌<◌}
use mathlib.Core.Bool.{Bool, true, not, ◌&&◌}
use mathlib.Core.List.{List, [], ◌∷◌, ◌++◌, map}
use native.Mathlib.Decide.{dec_lt, ℕ_discrete}
use native.Mathlib.Nat.{zero-add}
use native.Mathlib.Omega.{arith}
use lib.Dec.{eqb}
use lib.IntN.{ℤ, pos}
use lib.ListN.{length, get_or, take, length-map, get_or-append}
use lib.Seq.{take-suc, take_all, take-length, take-append-le, take-append_seam}
use borrow.Author.Tests.{eqb-true, eqb-false, eq-eqb, ne_eqb}
use Rattle.rules.specs.declared.Verdict.{Verdict}
use Rattle.rules.specs.Lists.{bit, count, up_to}
use Rattle.rules.specs.Job.{Job, Limits, file_count, pin_count, recipe_count, files, views, recipes, Lent, scratch_for, fits}
use Rattle.rules.specs.Split.{other, side_of, cut, times, unread_files, unread_recipes, size_a, balanced}
use Rattle.rules.specs.Check.{refuse_if, bad_k, all_rows, content_rows, sound_rows, check_counts, check_lists, check_lengths, check_free, check_start, check_contents, check_sound, check_goal, check_rest, check, is_edition, lent_rows, check_edition, check_lent, measure}
use Rattle.rules.specs.Move.{steps_by, State, start, lock_of, free, moved, after, Frees, size_after, legal, Scan, scans_of, scans, ends_from, visits, changes_of, changed}
use Rattle.rules.specs.Pass.{cut_at, keeps, gains_after, start_gains, Pass, pass_of, tries, leaves}
use Rattle.rules.specs.Run.{pass_by, most_passes, passes, first_pass, run_by, last_pass, figures_of, run_figures_of, left_by, pass_ends, run_ends}
use Rattle.rules.specs.Writing.{check_written}
use Rattle.rules.specs.Theorems.{Sound, Accepted, Sides, state_at, MovesHold, replayed_to, ScansHold, Left, scans_told, replayed_by, Replayed, Lawful, PassHoldsBy, LawfulTry, start_sides, RunHoldsBy, PassHolds, RunHolds, Answers}
use Rattle.rules.proofs.Tests.{clash, and_yes, not-no}
use Rattle.rules.proofs.Verdicts.{zero_of, passes-both, both-pass, not-refused, Plain}
use Rattle.rules.proofs.Refusals.{lacks, first-given, plain_rows, lent-chain}
use Rattle.rules.proofs.Count.{total-map, length-tabled, count-some}
use Rattle.rules.proofs.Entries.{beyond, listed_more, listed-holds}
use Rattle.rules.proofs.GainKept.{frees-take, after-binary, kept_up, kept-length, kept_more, gain-kept-at, gains-kept, gains-pinned, gains-chosen, replay-within, replay-listed, told_more, cut-kept, start-fresh}
use Rattle.rules.proofs.Changes.{scans-change}
use Rattle.rules.proofs.FourScans.{recipe-scans, all-scans, all-visits}
use Rattle.rules.proofs.Sizes.{sizes-kept, gain-range}
use Rattle.rules.proofs.SoundJob.{fine-k, ratio-pass, goal-pass, sound, recipes-distinct, views-length, recipes-length, views-total}
use Rattle.rules.proofs.Choice.{chosen-one}
use Rattle.rules.proofs.MovesEnd.{StateLong, after-long, frees_each, pass-each, pass-end, locked-stays, frees-once, frees-few}
use Rattle.rules.proofs.Fits.{long-enough}
use Rattle.rules.proofs.Steps.{after-snoc, kept-snoc, cuts-at, gains-take, gains-length, cuts-length, ends_last, ends-length}
use Rattle.rules.proofs.Runs.{keeps-le, keeps-least, keeps-shortest, pass-falls, pass-to, pass-size, settled-none, settled-stays, Passes, passes-come, come-first, come-next, come-less, come-few, come-turns, come-settled, come-full, come-start, each_start, come-last, come-some, turns-none, turns-cap, turns-some}

-- ---- an accepted job

pub accepted : (most : Limits) (job : Job) (lent : Bool) → (check most job lent).number ≡ 0 → Accepted most job
unfolding check check_sound check_rest check_goal check_free check_start files
accepted most job lent ok =
    let a = passes-both (check_sound most job lent) (check_rest most job) ok in
    let s = sound most job lent a.0 in
    let none = eqb (count (λ f. eqb (get_or job.marks f 0) 0) (up_to (file_count job))) 0 in
    let start = balanced job (size_a job job.sides) in
    let b = passes-both (check_goal most job) (refuse_if (not start) 9 0) a.1 in
    let c = goal-pass most job b.0 in
    let t = count-some (λ f. eqb (get_or job.marks f 0) 0) (file_count job) (eqb-false (count (λ f. eqb (get_or job.marks f 0) 0) (up_to (file_count job))) 0 (not-refused none 7 0 c.1)) in
    record {
      sound = s;
      distinct = recipes-distinct most job s;
      ratio = (ratio-pass most job c.0).0;
      wide = (ratio-pass most job c.0).1;
      free = (t.0, t.1, eqb-true (get_or job.marks t.0 0) 0 t.2);
      filled = c.2;
      balanced = not-no start (not-refused (not start) 8 0 b.1);
    }

-- ---- any moves of files then free

module _ (most : Limits) (job : Job) (s : Sound most job) where
  start-long : (sides : List ℕ) → Sides job sides → StateLong (file_count job) (start job sides)
  start-long sides w = record { sides = w.long; locks = s.marks_long }

  pub scans-hold : (sides ms : List ℕ) → Sides job sides → Frees (start job sides) ms → ScansHold job sides ms
  unfolding pass_of
  scans-hold sides ms w l =
      let st : State = start job sides in
      let rs : List (List ℕ) = recipes job in
      let dis = recipes-distinct most job s in
      let g : List ℤ = start_gains rs (file_count job) st in
      let long : length g ≡ file_count job = unfold gains_after in length-tabled _ (file_count job) in
      record {
        fresh = λ k f h e.
            ap (λ (x : List ℤ). get_or x f (pos 0)) (replay-listed k rs st ms g)
            ∙ gain-kept-at rs dis k st ms l w.binary g (start-fresh rs dis (file_count job) st) f (rw (kept-length rs dis st (take k ms) g, long) h) e;
        locked = λ k f h p e.
            ap (λ (x : List ℤ). get_or x f (pos 0)) (replay-listed (suc k) rs st ms g)
            ∙ kept_more rs dis st ms l w.binary g k f h (rw long p) (omega (arith, e))
            ∙ sym (ap (λ (x : List ℤ). get_or x f (pos 0)) (replay-listed k rs st ms g));
        changed = λ k h.
            let now : State = state_at job sides ms k in
            let f : ℕ = get_or ms k 0 in
            replay-listed (suc k) rs st ms g
            ∙ ap (λ (x : List ℕ). kept_up rs st x g) (take-suc ms k 0 h)
            ∙ kept-snoc rs st (take k ms) f g
            ∙ (scans-change rs (moved now f) (other (side_of now.sides f))).all (scans_of rs now f) (kept_up rs st (take k ms) g)
            ∙ ap (λ (x : List ℤ). steps_by changed x (changes_of rs now f)) (sym (replay-listed k rs st ms g));
        gains =
            replay-listed (length ms) rs st ms g
            ∙ ap (λ (x : List ℕ). kept_up rs st x g) (take-length ms)
            ∙ gains-kept rs dis (file_count job) st ms l w.binary;
        four = recipe-scans rs dis st ms l w.binary;
        scans = rw (← recipes-length most job s) (all-scans rs dis st ms l w.binary);
        visits = rw (← views-total most job s) (all-visits rs dis st ms l w.binary (views job) (views-length most job s ∙ sym (recipes-length most job s)));
      }

  pub moves-hold : (sides ms : List ℕ) → Sides job sides → Frees (start job sides) ms → MovesHold job sides ms
  unfolding pass_of cut_at
  moves-hold sides ms w l =
      let st : State = start job sides in
      let rs : List (List ℕ) = recipes job in
      let dis = recipes-distinct most job s in
      let c = scans-hold sides ms w l in
      record {
        all = unfold gains_after in length-tabled _ (file_count job);
        pinned = λ f h e. gains-pinned rs (file_count job) st ms f h e;
        chosen = gains-chosen rs (file_count job) l s.marks_long;
        afresh = λ f h e. sym (ap (λ (x : List ℤ). get_or x f (pos 0)) c.gains) ∙ c.fresh (length ms) f h e;
        range = λ k f. gain-range (state_at job sides ms k).sides rs f;
        cuts = λ k. rw (gains-take rs k st ms) (cut-kept rs dis st (take k ms) (frees-take k l) w.binary);
        present = λ k h. cuts-at rs st ms k h;
        sizes = λ k. sizes-kept job st (take k ms) (frees-take k l) w.binary;
        once = λ f. frees-once f l;
        few = omega (arith, frees-few l, s.marks_long);
        prefix = keeps-le rs st ms;
        least = λ k h. keeps-least rs st ms k h;
        shortest = λ k h. keeps-shortest rs st ms k h;
        falls = pass-falls job (λ x. ms) sides;
        still = λ e. (settled-none job (λ x. ms) sides e, settled-stays job (λ x. ms) sides e);
        next = record {
          long = (after-long st (take (keeps rs st ms) ms) (start-long sides w)).sides;
          binary = after-binary st (take (keeps rs st ms) ms) (frees-take (keeps rs st ms) l) w.binary;
        };
        stays = λ k f e. locked-stays f (omega (arith, e)) (frees-take k l);
        remains = λ f e. locked-stays f (omega (arith, e)) (frees-take (keeps rs st ms) l);
      }

  -- ---- what the lent lists then hold

  -- beyond what the pass lists, the replay reads nothing of them
  replay-left : (edition : ℕ) (sides ms : List ℕ) (l : Lent) (k : ℕ) → k ≤ length ms
      → replayed_by job sides (leaves edition job l (pass_of job sides ms)) k ≡ replayed_to job sides ms k
  unfolding leaves pass_of
  replay-left edition sides ms l k h =
      let st : State = start job sides in
      let rs : List (List ℕ) = recipes job in
      let cs : List Scan = scans rs st ms in
      let c : ℕ = file_count job in
      let n : ℕ = 4 * recipe_count job in
      rw (
        listed_more c 0 ms l.tried,
        take-append-le k ms (beyond c 0 ms l.tried) h,
        listed_more c 0 (ends_from rs 0 st ms) l.ends,
        listed_more n 0 (map (λ s. s.recipe) cs) l.recipes,
        listed_more n 0 (map (λ s. s.kind) cs) l.kinds,
        told_more cs (beyond n 0 (map (λ s. s.recipe) cs) l.recipes) (beyond n 0 (map (λ s. s.kind) cs) l.kinds),
        replay-within k rs st ms (beyond c 0 (ends_from rs 0 st ms) l.ends) (scans_told (beyond n 0 (map (λ s. s.recipe) cs) l.recipes) (beyond n 0 (map (λ s. s.kind) cs) l.kinds)) (start_gains rs c st),
        replay-listed k rs st ms (start_gains rs c st),
      )

  pub left : (edition : ℕ) (sides ms : List ℕ) (l : Lent) → fits edition job l ≡ true → MovesHold job sides ms → ScansHold job sides ms → Left edition job l (pass_of job sides ms)
  unfolding leaves pass_of
  left edition sides ms l ok m c =
      let r = long-enough edition job l ok in
      record {
        gains = refl;
        tried = listed-holds (file_count job) 0 ms l.tried m.few r.tried;
        gained = listed-holds (file_count job) (pos 0) _ l.gained (rw (gains-length (recipes job) (start job sides) ms) m.few) r.gained;
        cuts = listed-holds (file_count job) 0 _ l.cuts (rw (cuts-length (recipes job) (start job sides) ms) m.few) r.cuts;
        ends = listed-holds (file_count job) 0 _ l.ends (rw (ends-length (recipes job) 0 (start job sides) ms) m.few) r.scans_so_far;
        recipes = listed-holds (4 * recipe_count job) 0 _ l.recipes (rw length-map c.scans) r.scanned_recipes;
        kinds = listed-holds (4 * recipe_count job) 0 _ l.kinds (rw length-map c.scans) r.scanned_kinds;
        scratch = listed-holds (scratch_for edition job) 0 [] l.scratch (omega arith) r.scratch;
      }

  -- of as many recipes as there are scans the list left holds those of the scans
  recipes-left : (edition : ℕ) (sides ms : List ℕ) (l : Lent) → take (length (pass_of job sides ms).scanned) (leaves edition job l (pass_of job sides ms)).recipes ≡ map (λ c. c.recipe) (pass_of job sides ms).scanned
  unfolding leaves
  recipes-left edition sides ms l =
      let cs : List Scan = (pass_of job sides ms).scanned in
      let n : ℕ = 4 * recipe_count job in
      let js : List ℕ = map (λ c. c.recipe) cs in
      rw (listed_more n 0 js l.recipes) (ap (λ (k : ℕ). take k (js ++ beyond n 0 js l.recipes)) (sym (length-map cs (λ c. c.recipe))) ∙ take-append_seam js (beyond n 0 js l.recipes))

  pub replayed : (edition : ℕ) (sides ms : List ℕ) (l : Lent) → ScansHold job sides ms → Replayed edition job l sides ms
  unfolding leaves pass_of visits times count
  replayed edition sides ms l c =
      let st : State = start job sides in
      let rs : List (List ℕ) = recipes job in
      let ends : List ℕ = ends_from rs 0 st ms in
      let cs : List Scan = scans rs st ms in
      let after : List ℕ = beyond (file_count job) 0 ends l.ends in
      let few : length ms < suc (length ends) = omega (arith, ends-length rs 0 st ms) in
      let same : (k : ℕ) → k ≤ length ms → replayed_by job sides (leaves edition job l (pass_of job sides ms)) k ≡ replayed_to job sides ms k = replay-left edition sides ms l in
      record {
        same = same;
        fresh = λ k f h p e. ap (λ (x : List ℤ). get_or x f (pos 0)) (same k h) ∙ c.fresh k f p e;
        gains = same (length ms) (omega arith) ∙ c.gains;
        last = rw (listed_more (file_count job) 0 ends l.ends) (get_or-append (0 ∷ ends) after 0 (length ms) few ∙ ends_last rs 0 st ms ∙ zero-add (length cs));
        visits = rw (recipes-left edition sides ms l) (sym (total-map (λ j. length (get_or (views job) j [])) (λ c. c.recipe) cs));
        four = λ j. rw (recipes-left edition sides ms l, total-map (λ x. bit (eqb x j)) (λ c. c.recipe) cs) (c.four j);
      }

  -- ---- one pass, whoever chose its moves

  pub lawful-frees : (sides ms : List ℕ) → Sides job sides → Lawful job sides ms → Frees (start job sides) ms
  unfolding legal
  lawful-frees sides ms w l =
      frees_each (start job sides) ms (start-long sides w)
      (λ i h.
      let st : State = state_at job sides ms i in
      let f : ℕ = get_or ms i 0 in
      (l.below i h, eqb-true (lock_of st f) 0 (and_yes (free st f) (balanced job (size_after job st f)) (l.legal i h)).0))

  -- from a balanced start, after every move
  keeps-balance : (sides ms : List ℕ) → Lawful job sides ms → balanced job (size_a job sides) ≡ true
      → (k : ℕ) → balanced job (size_a job (state_at job sides ms k).sides) ≡ true
  unfolding legal size_after
  keeps-balance sides ms l b zero = unfold steps_by in b
  keeps-balance sides ms l b (suc k) = elim (dec_lt k (length ms)) [
    | yes h ↦
        let st : State = state_at job sides ms k in
        let f : ℕ = get_or ms k 0 in
        let e : state_at job sides ms (suc k) ≡ moved st f
        = ap (λ (l : List ℕ). after (start job sides) l) (take-suc ms k 0 h) ∙ after-snoc (start job sides) (take k ms) f in
        ap (λ (x : State). balanced job (size_a job x.sides)) e ∙ (and_yes (free st f) (balanced job (size_a job (moved st f).sides)) (l.legal k h)).1
    | no n ↦
        let e : take (suc k) ms ≡ take k ms = take_all (suc k) ms (omega arith) ∙ sym (take_all k ms (omega arith)) in
        ap (λ (l : List ℕ). balanced job (size_a job (after (start job sides) l).sides)) e ∙ keeps-balance sides ms l b k
  ]

  pub pass-holds-by : (sides ms : List ℕ) → Sides job sides → Lawful job sides ms → PassHoldsBy job sides ms
  pass-holds-by sides ms w l = record {
    moves = moves-hold sides ms w (lawful-frees sides ms w l);
    balance = keeps-balance sides ms l;
    returns = λ b. unfold pass_of in keeps-balance sides ms l b (keeps (recipes job) (start job sides) ms);
  }

  -- ---- a run, whoever chose its moves

  pub given-sides : Sides job job.sides
  given-sides = record { long = s.sides_long; binary = s.binary }

  module _ (try : List ℕ → List ℕ) (lawful : LawfulTry job try) where
    holds_by : (sides : List ℕ) → Sides job sides → PassHoldsBy job sides (try sides)
    holds_by sides w = pass-holds-by sides (try sides) w (lawful sides w)

    -- sides that a pass may start from, with every pinned file where it was
    abbrev Unmoved : List ℕ → Type 0
    Unmoved sides = Sides job sides × ((f : ℕ) → get_or job.marks f 0 ≢ 0 → side_of sides f ≡ side_of job.sides f)

    unmoved-start : Unmoved job.sides
    unmoved-start = (given-sides, λ f e. refl)

    unmoved-next : (sides : List ℕ) → Unmoved sides → Unmoved (pass_by job try sides).sides_after
    unmoved-next sides w = let m = (holds_by sides w.0).moves in (m.next, λ f e. m.remains f e ∙ w.1 f e)

    -- and balanced ones
    abbrev Level : List ℕ → Type 0
    Level sides = Sides job sides × (balanced job (size_a job sides) ≡ true)

    level-next : (sides : List ℕ) → Level sides → Level (pass_by job try sides).sides_after
    level-next sides w = let p = holds_by sides w.0 in (p.moves.next, rw (← pass-size job try sides) (p.returns w.1))

    pub run-holds-by : RunHoldsBy job try
    unfolding passes
    run-holds-by =
        let one : Pass = pass_by job try job.sides in
        let ps : List Pass = passes job try in
        let came : Passes job try (most_passes job) job.sides ps = passes-come job try (most_passes job) job.sides in
        let some : 1 ≤ length ps = come-some job try came (turns-some job) in
        let from : (d : Pass) (i : ℕ) → i < length ps → get_or ps i d ≡ pass_by job try (start_sides job try i) = come-start job try came in
        let there : (i : ℕ) → Unmoved (start_sides job try i) = each_start job try Unmoved unmoved-next unmoved-start in
        let last = come-last job try Unmoved unmoved-next came unmoved-start one (job.sides, unmoved-start, refl) in
        record {
          some = some;
          first = λ d. come-first job try came d some;
          each = λ d i h. come-next job try came d i h;
          sides = λ d i h. rw (from d i h) (unmoved-next (start_sides job try i) (there i)).0;
          from = from;
          begins = λ i. (there i).0;
          held = λ i. holds_by (start_sides job try i) (there i).0;
          lessened = λ d i h. come-less job try came d i h;
          few = come-few job try came;
          settled = λ e. come-settled job try came one (omega (arith, turns-none job e));
          capped = λ n. omega (arith, come-turns job try came, turns-cap job n);
          full = λ h. elim (ℕ_discrete job.cap 0) [
            | yes e ↦ clash (sym (come-settled job try came one (omega (arith, turns-none job e))) ∙ h)
            | no n ↦ come-full job try came one h ∙ turns-cap job n
          ];
          cut =
              ap (λ (p : Pass). p.cut_after) last.2 ∙ sym (pass-to job try last.0)
              ∙ sym (ap (λ (p : Pass). cut p.sides_after (recipes job)) last.2);
          size =
              ap (λ (p : Pass). p.size_after) last.2 ∙ pass-size job try last.0
              ∙ sym (ap (λ (p : Pass). size_a job p.sides_after) last.2);
          next = rw last.2 (unmoved-next last.0 last.1).0;
          returns = λ b.
              let t = come-last job try Level level-next came (given-sides, b) one (job.sides, (given-sides, b), refl) in
              ap (λ (p : Pass). balanced job p.size_after) t.2 ∙ (holds_by t.0 t.1.0).returns t.1.1;
          balance = λ b i k h. let t = each_start job try Level level-next (given-sides, b) i in (holds_by (start_sides job try i) t.0).balance t.1 k;
          stays = λ i k f h e. (holds_by (start_sides job try i) (there i).0).moves.stays k f e ∙ (there i).1 f e;
          remains = λ d i f h e. ap (λ (p : Pass). side_of p.sides_after f) (from d i h) ∙ (unmoved-next (start_sides job try i) (there i)).1 f e;
          pinned = λ f e. ap (λ (p : Pass). side_of p.sides_after f) last.2 ∙ (unmoved-next last.0 last.1).1 f e;
        }

  -- ---- edition 1

  pub tries-lawful : LawfulTry job (tries job)
  tries-lawful sides w = record {
    below = λ i h. (pass-each job (start job sides) (start-long sides w) i h).below;
    legal = λ i h. (pass-each job (start job sides) (start-long sides w) i h).lawful;
  }

  pub tries-free : (sides : List ℕ) → Sides job sides → Frees (start job sides) (tries job sides)
  tries-free sides w = lawful-frees sides (tries job sides) w (tries-lawful sides w)

  pub pass-holds : (sides : List ℕ) → Sides job sides → PassHolds job sides
  pass-holds sides w = record {
    lawful = tries-lawful sides w;
    any = pass-holds-by sides (tries job sides) w (tries-lawful sides w);
    scans = scans-hold sides (tries job sides) w (tries-free sides w);
    each = pass-each job (start job sides) (start-long sides w);
    only = λ i f h c. chosen-one job (state_at job sides (tries job sides) i) f (get_or (tries job sides) i 0) c (pass-each job (start job sides) (start-long sides w) i h);
    ended = rw (take-length (tries job sides)) (pass-end job (start job sides) (start-long sides w));
  }

  pub run_holds : RunHolds job
  run_holds = run-holds-by (tries job) tries-lawful

-- ---- the answers

pub plain-check : (most : Limits) (job : Job) (lent : Bool) → Plain (check most job lent)
unfolding check lacks
plain-check most job lent = plain_rows (all_rows most job lent) refl

pub plain-contents : (job : Job) → Plain (check_contents job)
unfolding check_contents lacks
plain-contents job = plain_rows (content_rows job) refl

pub plain-sound : (most : Limits) (job : Job) (lent : Bool) → Plain (check_sound most job lent)
unfolding check_sound lacks
plain-sound most job lent = plain_rows (sound_rows most job lent) refl

pub lent-sound : (most : Limits) (job : Job) (lent : Bool) → (check_sound most job lent).number ≡ 0 → lent ≡ true
unfolding check_sound check_lengths check_counts check_lists check_contents
lent-sound most job lent ok =
    let a = passes-both (check_lengths most job lent) (check_contents job) ok in
    let b = passes-both (check_counts most (file_count job) (recipe_count job) (pin_count job)) (check_lists job lent) a.0 in
    let long = eqb (length job.sides) (file_count job) && eqb (length job.marks) (file_count job) in
    (and_yes long lent (not-no (long && lent) (not-refused (not (long && lent)) 2 0 b.1))).1

pub lent_fits : (most : Limits) (job : Job) (lent : Bool) → (check most job lent).number ≡ 0 → lent ≡ true
unfolding check check_sound check_rest
lent_fits most job lent ok = lent-sound most job lent (passes-both (check_sound most job lent) (check_rest most job) ok).0

-- what passes 1 to 10 can be written
pub check-writes : (most : Limits) (job : Job) (lent : Bool) → (check most job lent).number ≡ 0 → (check_written most job lent).number ≡ 0
unfolding check check_sound check_rest check_goal check_start check_written
check-writes most job lent ok =
    let a = passes-both (check_sound most job lent) (check_rest most job) ok in
    let k = (ratio-pass most job (goal-pass most job (passes-both (check_goal most job) (check_start job) a.1).0).0).1 in
    both-pass (check_sound most job lent) (refuse_if (bad_k job.k) 7 0) a.0 (ap (λ (b : Bool). (refuse_if b 7 0).number) (fine-k job.k k))

-- let through, the edition is one that there is, and the check of the job lets through
pub lent-passes : (edition : ℕ) (most : Limits) (job : Job) (l : Lent) → (check_lent edition most job l).number ≡ 0
    → (is_edition edition ≡ true) × ((check most job (fits edition job l)).number ≡ 0)
lent-passes edition most job l ok =
    let b = passes-both (check_edition edition) (check most job (fits edition job l)) (zero_of (lent-chain edition most job l) ok) in
    (not-no (is_edition edition) (unfold check_edition in not-refused (not (is_edition edition)) 31 0 b.0), b.1)

pub answers : (edition : ℕ) (most : Limits) (job : Job) (l : Lent) → Answers edition most job l
unfolding pass_ends run_ends measure check_lent lacks
answers edition most job l =
    let v = check_lent edition most job l in
    let u = check_sound most job true in
    let plain : Plain v = plain_rows (lent_rows edition most job l) refl in
    record {
      table = first-given (lent_rows edition most job l) refl;
      place = plain;
      fitting = λ e. let b = lent-passes edition most job l e in (b.0, lent_fits most job (fits edition job l) b.1);
      pass_refused = λ n. rw (ne_eqb v.number 0 n, pass_ends) refl;
      run_refused = λ n. rw (ne_eqb v.number 0 n, run_ends) refl;
      pass_done = λ e. rw (eq-eqb v.number 0 e, pass_ends) (ap (λ (x : Verdict). left_by edition job l (figures_of x (first_pass edition job) (first_pass edition job ∷ [])) (first_pass edition job)) (plain e));
      run_done = λ e. rw (eq-eqb v.number 0 e, run_ends) (ap (λ (x : Verdict). left_by edition job l (run_figures_of x (first_pass edition job) (run_by edition job)) (last_pass edition job)) (plain e));
      measure_refused = λ n. rw (ne_eqb u.number 0 n, measure) refl;
      measure_done = λ e. rw (eq-eqb u.number 0 e, measure) (ap (λ (x : Verdict). record { verdict = x; cut = cut job.sides (recipes job); size = size_a job job.sides; unread = unread_files job; holding = unread_recipes job }) (plain-sound most job true e));
    }
