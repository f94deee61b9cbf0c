-- Before the first move. Assumes nothing.
use mathlib.Core.Path.{sym, ap, ◌∙◌}
use Prim.Native.Nat.{ℕ}
use mathlib.Core.List.{List}
use native.Mathlib.Omega.{arith}
use Rattle.rules.specs.Lists.{total, best_up_to, onto}
use Rattle.rules.specs.Job.{Job, recipes, Lent}
use Rattle.rules.specs.Split.{size_a}
use Rattle.rules.specs.Move.{steps_by, scans, ends_from, visits}
use Rattle.rules.specs.Pass.{gains_when, cuts_after, cut_at, keeps}
use Rattle.rules.proofs.GainKept.{kept_up}
use Rattle.split.specs.declared.progress.Progress.{Progress}
use Rattle.split.specs.Moving.{Board}
use Rattle.split.proofs.Going.{begins, made, stands, Going}
use Rattle.split.proofs.Treats.{Begun}

pub goes_first : {job : Job} {ms : List ℕ} {l : Lent} {b : Board} → Begun job l b → Going job ms l 0 b
unfolding steps_by onto kept_up gains_when cuts_after ends_from scans keeps best_up_to cut_at visits total
goes_first {job} {ms} g = record {
  few = omega arith;
  sides = g.sides;
  locks = g.locks;
  cells = g.cells;
  counts = g.counts;
  long = g.long;
  gains = g.gains;
  tried = g.tried;
  gained = g.gained;
  cuts = g.cuts;
  scans_so_far = g.scans_so_far;
  scanned_recipes = g.scanned_recipes;
  scanned_kinds = g.scanned_kinds;
  progress = record {
    size = ap (λ (p : Progress). p.size) g.progress;
    cut_now = ap (λ (p : Progress). p.cut) g.progress;
    moves = ap (λ (p : Progress). p.moves) g.progress;
    best = ap (λ (p : Progress). p.best) g.progress;
    least =
        ap (λ (p : Progress). p.least) g.progress
        ∙ sym (ap (λ (p : Progress). cut_at (recipes job) (begins job) (made ms 0) p.best) g.progress);
    atbest =
        ap (λ (p : Progress). p.atbest) g.progress
        ∙ sym (ap (λ (p : Progress). size_a job (stands job ms p.best).sides) g.progress);
    scanned = ap (λ (p : Progress). p.scans) g.progress;
    visited = ap (λ (p : Progress). p.visits) g.progress;
  };
}
