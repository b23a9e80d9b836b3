use Rattle.std.proofs.Common.{◌≡◌, ◌-◌, ◌++◌, length}
use Rattle.std.specs.List.{All}
use Rattle.printed_graphs.specs.DataflowText.{node_line_text}
use Rattle.printed_graphs.specs.GraphReading.{node_line_at}
use Rattle.printed_graphs.specs.Printable.{IsPrintableNode}
use Rattle.printed_graphs.specs.Reading.{lines_at}
use Rattle.printed_graphs.specs.Words.{lines_from}
use Rattle.printed_graphs.proofs.dataflow_lines.read_nodes.Given as goal

abbrev pub invariant-loop-k : goal.invariant-loop-k
invariant-loop-k l = record {
  text : l.fn.cursor.rest.now ≡ lines_from node_line_text 0 l.all.items ++ l.cursor.rest.now;
  count : length l.all.items ≡ l.k;
  after : lines_at node_line_at l.k (l.count - l.k) l.cursor.rest.now ≡ lines_at node_line_at 0 l.count l.fn.cursor.rest.now;
  printable : All IsPrintableNode l.all.items;
}
