use Rattle.std.proofs.Common.{◌≡◌, ◌↔◌, ℕ, Bool, true, false, length, refl, sym, subst, arith}
use Rattle.closed_walks.specs.Graph.{edge_count}
use Rattle.dep_routing.specs.LineTable.{led, wire_in}
use Rattle.shared_rows.specs.Table.{numbered_rows}
use Rattle.dep_routing.specs.Next.{Next}
use Rattle.dep_routing.specs.Noise.{AreNoisy, marks_of}
use Rattle.dep_routing.specs.Facts.{TreeFacts}
use Rattle.dep_routing.specs.Quiet.{IsWire}
use Rattle.dep_routing.specs.Touch.{touches_in}
use Rattle.dep_routing.proofs.Cells.{cell_at, rows_length, cells_length}
use Rattle.dep_routing.proofs.routing.route.Goals as goal

pub returns-clause-routing : goal.returns-clause-routing
returns-clause-routing g c =
    let graph = c.args.g.now in
    let t = c.args.t.now in
    let touches = touches_in c.args.touch.now in
    let sets = c.in_ok-wires.wires.sets.items in
    let numbers = c.in_ok-wires.wires.set_of.items in
    let rows = numbered_rows c.in_ok-next.next.table c.in_ok-next.next.row_of.items in
    let edges = length numbers in
    let noisy = c.in_ok-noisy.noisy.items in
    let f : TreeFacts graph t = c.tree_facts.ensures graph t c.requires.flow c.requires.tree in
    let n : (line : ℕ) → AreNoisy graph t touches line (marks_of noisy line) = c.in_ok-noisy.ensures.noisy in
    let count : edges ≡ edge_count graph = c.in_ok-wires.ensures.sets.size in
    record {
      count = refl;
      edges = count;
      wire = λ line e low edge. subst (λ (b : Bool). (b ≡ true) ↔ IsWire graph t touches line e)
          (sym (cell_at edges c.args.lines (wire_in sets numbers) line e false low (omega (arith, edge, count))))
          (c.in_ok-wires.ensures.wires touches line e (n line) low edge);
      next = λ line e low edge. subst (λ (d : ℕ). Next graph t touches line e d)
          (sym (cell_at edges c.args.lines (led rows) line e 0 low (omega (arith, edge, count))))
          (c.in_ok-next.ensures.next graph touches line e f (n line) low (omega (arith, edge, c.edges.ensures.count)));
    }

pub returns-clause-rows : goal.returns-clause-rows
returns-clause-rows g c =
    let sets = c.in_ok-wires.wires.sets.items in
    let numbers = c.in_ok-wires.wires.set_of.items in
    let edges = length numbers in
    record {
      next = rows_length edges c.args.lines (led (numbered_rows c.in_ok-next.next.table c.in_ok-next.next.row_of.items));
      next_cells = λ e edge. cells_length edges c.args.lines (led (numbered_rows c.in_ok-next.next.table c.in_ok-next.next.row_of.items)) e edge;
      wires = rows_length edges c.args.lines (wire_in sets numbers);
      wire_cells = λ e edge. cells_length edges c.args.lines (wire_in sets numbers) e edge;
    }
