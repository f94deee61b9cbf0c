-- A move of a pass, put together from what its steps answer. Assumes nothing.
use mathlib.Core.Path.{◌≡◌, refl, sym, ap, ◌∙◌}
use Prim.Native.Nat.{ℕ, ◌-◌}
use mathlib.Core.List.{List}
use lib.ListN.{length, get_or, set}
use lib.IntN.{ℤ, pos}
use Rattle.rules.specs.Job.{view_of}
use Rattle.tables.specs.Zones.{part}
use Rattle.tables.specs.Ending.{turned}
use Rattle.split.specs.declared.progress.Progress.{Progress}
use Rattle.split.specs.Scanning.{Treated}
use Rattle.split.specs.Moving.{Board, board, counted_on, treat_move, move_one}
use Rattle.split.specs.Links.{followed_by}
use Rattle.split.specs.Passing.{on_scratch, links_follow, moved_by}
use Rattle.split.proofs.OneMove.{steps-move}

module _ (edition : ℕ) (sizes bounds pins : List ℕ) (f : ℕ) (b : Board) where
  abbrev k : ℕ
  k = b.rest.scanned.progress.moves

  abbrev from : ℕ
  from = b.rest.scanned.progress.scans

  pub steps-moved : {sides : List ℕ} {y : Treated} {r : Progress} {gain : ℤ} {z : List ℕ}
      → sides ≡ turned b.sides f
      → y ≡ treat_move sizes bounds pins f b
      → r ≡ counted_on y.scanned.progress
      → gain ≡ get_or b.rest.scanned.gains f (pos 0)
      → z ≡ followed_by edition (length sizes) (length bounds - 1) (length pins) y.scanned.gains sides (view_of bounds pins)
      (part from (y.scanned.progress.scans - from) y.scanned.recipes) (part from (y.scanned.progress.scans - from) y.scanned.kinds) f y.scratch
      → board sides (set b.tried k f) (set b.gained k gain) (set b.cuts k y.scanned.progress.cut) (set b.ends k y.scanned.progress.scans)
      z y.scanned.gains y.scanned.recipes y.scanned.kinds r ≡ moved_by edition sizes bounds pins f b
  steps-moved {sides} {y} {r} {gain} turn does counted read follow =
      let noted : Board =
      board sides (set b.tried k f) (set b.gained k gain) (set b.cuts k y.scanned.progress.cut) (set b.ends k y.scanned.progress.scans)
      y.scratch y.scanned.gains y.scanned.recipes y.scanned.kinds r in
      let moves : noted ≡ move_one sizes bounds pins f b = steps-move sizes bounds pins f b {y = y} turn (ap (set b.gained k) read) does counted in
      let scans : y.scanned.progress.scans ≡ r.scans = sym (ap (λ (p : Progress). p.scans) counted ∙ (unfold counted_on in refl)) in
      ap (on_scratch noted)
      (follow
      ∙ ap (λ (to : ℕ). followed_by edition (length sizes) (length bounds - 1) (length pins) y.scanned.gains sides (view_of bounds pins)
      (part from (to - from) y.scanned.recipes) (part from (to - from) y.scanned.kinds) f y.scratch) scans)
      ∙ ap (λ (x : Board). on_scratch x (links_follow edition sizes bounds pins f b x)) moves
