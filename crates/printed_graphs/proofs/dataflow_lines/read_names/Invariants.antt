use Rattle.std.proofs.Common.{◌≡◌, ◌++◌, length, flat_map, codes}
use Rattle.std.specs.List.{All}
use Rattle.printed_graphs.specs.DataflowText.{name_text}
use Rattle.printed_graphs.specs.GraphReading.{after_letters, after_names}
use Rattle.printed_graphs.specs.Printable.{IsPrintableName}
use Rattle.printed_graphs.specs.Reading.{after_word}
use Rattle.printed_graphs.proofs.Loops.{PartsLeft}
use Rattle.printed_graphs.proofs.dataflow_lines.read_names.Given as goal

abbrev pub invariant-loop-alloc : goal.invariant-loop-alloc
invariant-loop-alloc l = record {
  text : l.fn.cursor.rest.now ≡ flat_map name_text l.all.items ++ l.cursor.rest.now;
  after : PartsLeft (after_word (codes " ")) after_letters l.cursor.rest.now (after_names l.fn.cursor.rest.now);
  printable : All IsPrintableName l.all.items;
}

abbrev pub decreases-loop-alloc : goal.decreases-loop-alloc
decreases-loop-alloc l = length l.cursor.rest.now
