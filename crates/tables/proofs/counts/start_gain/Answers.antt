-- The file's cells and the counts of both sides stand in the scratch, and give its gain. Assumes nothing.
use Rattle.std.proofs.Common.{◌≡◌, refl, ap, ap₂, ◌∙◌, ℕ, ◌+◌, ◌-◌, arith, rules, get_or, to_z, of_z, w32}
use borrow.Author.Tests.{eq-eqb, ne_eqb}
use Rattle.tables.specs.Zones.{cells_at, counts_at, side_at, start_in, end_in, zones_of, extent_of}
use Rattle.tables.specs.declared.zones.Extent.{Extent}
use Rattle.tables.specs.SoundJob.{many_files, many_recipes, many_pins}
use Rattle.tables.specs.Counting.{start_gain}
use Rattle.tables.proofs.Sides.{zones-are}
use Rattle.tables.proofs.Starting.{start-gain-is}
use Rattle.tables.proofs.counts.start_gain.Goals as goal

pub returns-then-job-f-ne0 : goal.returns-then-job-f-ne0
unfolding start_gain
returns-then-job-f-ne0 c =
    let none = ne_eqb _ 0 c.if-job-f-ne0.true in
    rw none at (start-gain-is c.args.job c.requires.stands c.requires.f_in_bounds refl refl refl refl)

pub returns : goal.returns
unfolding start_gain
returns c =
    let job = c.args.job in
    let C = many_files job in
    let P = many_pins job in
    let f = c.args.f in
    let z = c.args.scratch.now in
    let extent : c.extent-extent.result ≡ extent_of C (many_recipes job) P = c.extent-extent.ensures in
    let zones = zones-are C P (c.zones-zones.ensures ∙ ap (λ (e : Extent). zones_of e.files e.pins) extent) in
    let n = c.extent-extent.result.recipes in
    let own = c.side_at-own.result in
    let other = c.side_at-other.result in
    -- where the cells and the counts of both sides stand
    let s : ℕ = c.zones-zones.result.cells + get_or z (c.zones-zones.result.starts + f) 0 in
    let e : ℕ = c.zones-zones.result.cells + get_or z (c.zones-zones.result.starts + f + 1) 0 in
    let from : s ≡ cells_at C + start_in C P z f = ap₂ ◌+◌ zones.0 (ap (λ (i : ℕ). get_or z (i + f) 0) zones.1) in
    let to : e ≡ cells_at C + end_in C P z f = ap₂ ◌+◌ zones.0 (ap (λ (i : ℕ). get_or z (i + f + 1) 0) zones.1) in
    let mine = c.side_at-own.ensures ∙ ap (λ (e : Extent). side_at (counts_at e.files e.pins) e.recipes (get_or job.sides.now f 0)) extent in
    let theirs = c.side_at-other.ensures ∙ ap (λ (e : Extent). side_at (counts_at e.files e.pins) e.recipes (1 - get_or job.sides.now f 0)) extent in
    -- what is worked out
    let back : to_z w32 (of_z w32 c.gain_by.result) ≡ c.gain_by.result = search rules in
    let a : own + n - own ≡ n = omega arith in
    let b : other + n - other ≡ n = omega arith in
    let value : c.gain_by.result ≡ start_gain z (get_or job.marks.now f 0) s e own other n =
    c.gain_by.ensures ∙ rw (a, b, eq-eqb (get_or job.marks.now f 0) 0 c.if-job-f-ne0.false) refl in
    back ∙ value ∙ ap (start_gain z (get_or job.marks.now f 0) s e own other) (ap (λ (e : Extent). e.recipes) extent)
    ∙ start-gain-is job c.requires.stands c.requires.f_in_bounds from to mine theirs
