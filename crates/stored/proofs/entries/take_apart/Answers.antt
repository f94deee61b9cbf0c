use Rattle.std.proofs.Common.{sym, ap, ◌∙◌, rules}
use Rattle.layout.specs.Kinds.{kind_number}
use Rattle.stored.proofs.Filled.{files-taken, bounds-taken, pins-taken}
use Rattle.stored.proofs.entries.take_apart.Goals as goal

pub returns-in-Files-clause-taken : goal.returns-in-Files-clause-taken
returns-in-Files-clause-taken c = λ bytes e first t.
    let p = c.put in
    let q = c.put-in-Files in
    let r = c.put-in-Files-2 in
    files-taken t e c.requires.values (sym c.requires.kind ∙ ap kind_number c.in-Files.is)
    (record { long = p.auto.into; put = λ v l. let x = p.ensures.put v l in search rules; before = p.ensures.before; after = p.ensures.after })
    (record { long = q.auto.into; put = λ v l. let x = q.ensures.put v l in search rules; before = q.ensures.before; after = q.ensures.after })
    (record { long = r.auto.into; put = λ v l. let x = r.ensures.put v l in search rules; before = r.ensures.before; after = r.ensures.after })

pub returns-in-Bounds-clause-taken : goal.returns-in-Bounds-clause-taken
returns-in-Bounds-clause-taken c = λ bytes e first t.
    let p = c.put-in-Bounds in
    bounds-taken t e c.requires.values (sym c.requires.kind ∙ ap kind_number c.in-Bounds.is)
    (rw (← c.bounds_at.ensures) (record { long = p.auto.into; put = λ v l. let q = p.ensures.put v l in search rules; before = p.ensures.before; after = p.ensures.after }))

pub returns-in-Pins-clause-taken : goal.returns-in-Pins-clause-taken
returns-in-Pins-clause-taken c = λ bytes e first t.
    let p = c.put-in-Pins in
    pins-taken t e c.requires.values c.requires.past.1 (sym c.requires.kind ∙ ap kind_number c.in-Pins.is)
    (rw (← c.pins_at.ensures) (record { long = p.auto.into; put = λ v l. let q = p.ensures.put v l in search rules; before = p.ensures.before; after = p.ensures.after }))
