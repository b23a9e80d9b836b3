use Rattle.std.proofs.Common.{◌≡◌, ◌-◌, ◌++◌, length}
use Rattle.std.specs.List.{All}
use Rattle.printed_graphs.specs.DataflowText.{wires_text}
use Rattle.printed_graphs.specs.GraphReading.{wires_at}
use Rattle.printed_graphs.specs.Printable.{IsPrintableWires}
use Rattle.printed_graphs.specs.Reading.{lines_at}
use Rattle.printed_graphs.specs.Words.{lines_from}
use Rattle.printed_graphs.proofs.dataflow_lines.read_all_wires.Given as goal

abbrev pub invariant-loop-k : goal.invariant-loop-k
invariant-loop-k l = record {
  text : l.fn.cursor.rest.now ≡ lines_from wires_text 0 l.all.items ++ l.cursor.rest.now;
  count : length l.all.items ≡ l.k;
  after : lines_at wires_at l.k (l.count - l.k) l.cursor.rest.now ≡ lines_at wires_at 0 l.count l.fn.cursor.rest.now;
  printable : All IsPrintableWires l.all.items;
}
