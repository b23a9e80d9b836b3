use Rattle.std.proofs.Common.{◌<◌, ◌∙◌, length, sym}
use Rattle.dep_routing.specs.LineTable.{led}
use Rattle.shared_rows.specs.Table.{numbered_rows}
use Rattle.dep_routing.proofs.Cells.{cell_at}
use Rattle.dep_routing.proofs.lines.Lines.next_wire.Goals as goal

pub returns : goal.returns
returns g c =
    let rows = numbered_rows c.self.inside.next.table c.self.inside.next.row_of.items in
    let edges = length c.self.inside.wires.set_of.items in
    let inside : c.args.edge < edges = rw (← c.self.view_is) at c.requires.edge in
    let low : c.args.line < c.self.inside.lines = rw (← c.self.view_is) at c.requires.line in
    rw (← c.self.view_is)
    (c.led.ensures ∙ sym (cell_at edges c.self.inside.lines (led rows) c.args.line c.args.edge 0 low inside))
