use Rattle.std.proofs.Common.{◌<◌, ◌∙◌, length, false, sym, arith}
use Rattle.dep_routing.specs.LineTable.{wire_in}
use Rattle.dep_routing.proofs.Cells.{cell_at}
use Rattle.dep_routing.proofs.lines.Lines.wires.Goals as goal

pub of-requires : goal.of-requires
of-requires g c =
    let inside : c.args.edge < length c.self.inside.wires.set_of.items = rw (← c.self.view_is) at c.requires in
    (omega arith, (search, (inside, c.self.invariant.wires.there c.args.edge inside)))

pub returns-clause-wires : goal.returns-clause-wires
returns-clause-wires g c = rw (← c.self.view_is) λ line low.
    let sets = c.self.inside.wires.sets.items in
    let numbers = c.self.inside.wires.set_of.items in
    let inside : c.args.edge < length numbers = rw (← c.self.view_is) at c.requires in
    c.of.ensures line
    ∙ sym (cell_at (length numbers) c.self.inside.lines (wire_in sets numbers) line c.args.edge false low inside)

pub returns-clause-within : goal.returns-clause-within
returns-clause-within g c = rw (← c.self.view_is) λ line member.
    let inside : c.args.edge < length c.self.inside.wires.set_of.items = rw (← c.self.view_is) at c.requires in
    c.self.invariant.wires.within line c.args.edge inside (sym (c.of.ensures line) ∙ member)
