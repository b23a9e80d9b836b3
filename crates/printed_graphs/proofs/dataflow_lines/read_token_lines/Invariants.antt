use Rattle.std.proofs.Common.{◌≡◌, ◌-◌, ◌++◌, length}
use Rattle.std.specs.List.{All}
use Rattle.printed_graphs.specs.DataflowText.{token_line_text}
use Rattle.printed_graphs.specs.GraphReading.{token_line_at}
use Rattle.printed_graphs.specs.Printable.{IsPrintableLine}
use Rattle.printed_graphs.specs.Reading.{lines_at}
use Rattle.printed_graphs.specs.Words.{lines_from}
use Rattle.printed_graphs.proofs.dataflow_lines.read_token_lines.Given as goal

abbrev pub invariant-loop-k : goal.invariant-loop-k
invariant-loop-k l = record {
  text : l.fn.cursor.rest.now ≡ lines_from token_line_text 0 l.all.items ++ l.cursor.rest.now;
  count : length l.all.items ≡ l.k;
  after : lines_at token_line_at l.k (l.count - l.k) l.cursor.rest.now ≡ lines_at token_line_at 0 l.count l.fn.cursor.rest.now;
  printable : All IsPrintableLine l.all.items;
}
