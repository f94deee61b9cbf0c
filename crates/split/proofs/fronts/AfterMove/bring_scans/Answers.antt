-- Assumes nothing.
use mathlib.Core.Path.{refl, sym, ap, ap₂, ◌∙◌}
use mathlib.Core.List.{List, ◌++◌}
use Prim.Native.Nat.{ℕ}
use lib.ListN.{length, take}
use Rattle.std.proofs.Common.{rules}
use Rattle.std.proofs.lemmas.List.{length_push}
use Rattle.std.proofs.lemmas.Slice.Zip.{zip_turn}
use Rattle.rules.specs.Job.{view_of}
use Rattle.rules.specs.Move.{steps_by}
use Rattle.split.specs.Links.{touched_by}
use Rattle.split.specs.Bringing.{state_after, changed, brought}
use Rattle.split.proofs.LinksSteps.{view-below, touched-more, same_then, brought-more}
use Rattle.split.proofs.fronts.AfterMove.bring_scans.Goals as goal

pub loop-j-init : goal.loop-j-init
unfolding touched_by steps_by
loop-j-init c = record { same_lists = record { links = refl; shape = refl }; links = refl }

pub bring_pins-requires : goal.bring_pins-requires
bring_pins-requires c =
    let a = c.args.self in
    rw c.view.ensures (view-below (length a.moved.sides.now) a.scans.recipes.bounds.now a.scans.recipes.pins.now _ a.pins_are_files)

pub loop-j-preserved : goal.loop-j-preserved
loop-j-preserved c =
    let m = c.args.self in
    let i = c.loop-j.invariant in
    let b = c.bring_pins.ensures in
    let js = m.scans.listed.now in
    let ks = m.scans.kinds.now in
    let look = view_of m.scans.recipes.bounds.now m.scans.recipes.pins.now in
    let at = length c.loop-j.yielded in
    -- this turn's scan is the next of those listed
    let turn = zip_turn js ks c.loop-j.yielded _ c.loop-j.j-iterator c.next.new.self _ (search rules) (search rules) c.loop-j.yielded_by
    (c.in-Some.j, c.in-Some.kind) c.in-Some.is c.next.ensures.steps in
    let before = touched_by (state_after m) m.moved.side look (take at js) (take at ks) in
    let now = changed m c.in-Some.kind.now c.view.result.now in
    record {
      same_lists = same_then i.same_lists b.same_lists;
      links =
          b.links_after
          ∙ brought-more m before now i.same_lists i.links
          ∙ ap (λ (fs : List ℕ). brought m fs c.args.buckets.now)
          (ap₂ (λ (k : ℕ) (r : List ℕ). before ++ changed m k r) (turn.3 0) (c.view.ensures ∙ ap look (turn.2 0))
          ∙ sym (touched-more (state_after m) m.moved.side look at js ks turn.0 turn.1)
          ∙ ap (λ (n : ℕ). touched_by (state_after m) m.moved.side look (take n js) (take n ks)) (sym (length_push c.loop-j.yielded (c.in-Some.j, c.in-Some.kind))));
    }
