use Rattle.std.proofs.Common.{ℕ, ◌+◌, ◌-◌, ◌*◌, get_or, sym, ap, ◌∙◌}
use Rattle.writer.proofs.ByKind.{value-by-kind}
use Rattle.writer.proofs.checked.Checked.value.Goals as goal

pub returns-in-Header : goal.returns-in-Header
returns-in-Header c = c.figure.ensures ∙ sym (value-by-kind _ _ _ c.args.self.now.own_header 1 c.in-Header.ensures)

pub returns-in-Files : goal.returns-in-Files
returns-in-Files c = c.file_value.ensures ∙ sym (value-by-kind _ _ _ c.args.self.now.own_header 2 c.in-Files.ensures)

pub returns-in-Bounds : goal.returns-in-Bounds
returns-in-Bounds c =
    let a = c.args in
    c.entry_at.ensures
    ∙ ap (λ (first : ℕ). get_or a.self.now.book.recipes.bounds.now (253 * (a.b - first) + a.v) 0) c.bounds_at.ensures
    ∙ sym (value-by-kind _ _ _ a.self.now.own_header 3 c.in-Bounds.ensures)

pub returns-in-Pins : goal.returns-in-Pins
returns-in-Pins c =
    let a = c.args in
    c.entry_at-in-Pins.ensures
    ∙ ap (λ (first : ℕ). get_or a.self.now.book.recipes.pins.now (253 * (a.b - first) + a.v) 0) c.pins_at.ensures
    ∙ sym (value-by-kind _ _ _ a.self.now.own_header 4 c.in-Pins.ensures)
