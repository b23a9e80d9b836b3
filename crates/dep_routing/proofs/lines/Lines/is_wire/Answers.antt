use Rattle.std.proofs.Common.{rules, ◌<◌, ◌∙◌, length, false, sym, arith}
use Rattle.dep_routing.specs.LineTable.{wire_in}
use Rattle.dep_routing.proofs.Cells.{cell_at}
use Rattle.dep_routing.proofs.lines.Lines.is_wire.Goals as goal

pub of-requires : goal.of-requires
of-requires g c =
    let inside : c.args.edge < length c.self.inside.wires.set_of.items = rw (← c.self.view_is) at c.requires.edge in
    (omega arith, (search rules, (inside, c.self.invariant.wires.there c.args.edge inside)))

pub returns : goal.returns
returns g c =
    let sets = c.self.inside.wires.sets.items in
    let numbers = c.self.inside.wires.set_of.items in
    let inside : c.args.edge < length numbers = rw (← c.self.view_is) at c.requires.edge in
    let low : c.args.line < c.self.inside.lines = rw (← c.self.view_is) at c.requires.line in
    rw (← c.self.view_is)
    (c.holds.ensures.member ∙ c.of.ensures c.args.line
    ∙ sym (cell_at (length numbers) c.self.inside.lines (wire_in sets numbers) c.args.line c.args.edge false low inside))
