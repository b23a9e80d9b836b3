use Rattle.std.proofs.Common.{◌≡◌, ◌-◌, ◌++◌, length}
use Rattle.std.specs.List.{All}
use Rattle.printed_graphs.specs.FlowText.{region_text}
use Rattle.printed_graphs.specs.Printable.{IsPrintableRegion}
use Rattle.printed_graphs.specs.Reading.{region_at, lines_at}
use Rattle.printed_graphs.specs.Words.{lines_from}
use Rattle.printed_graphs.proofs.flow_lines.read_regions.Given as goal

abbrev pub invariant-loop-k : goal.invariant-loop-k
invariant-loop-k l = record {
  text : l.fn.cursor.rest.now ≡ lines_from region_text 0 l.all.items ++ l.cursor.rest.now;
  count : length l.all.items ≡ l.k;
  after : lines_at region_at l.k (l.count - l.k) l.cursor.rest.now ≡ lines_at region_at 0 l.count l.fn.cursor.rest.now;
  printable : All IsPrintableRegion l.all.items;
}
