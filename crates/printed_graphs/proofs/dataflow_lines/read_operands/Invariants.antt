use Rattle.std.proofs.Common.{◌≡◌, ◌++◌, length, flat_map, codes}
use Rattle.std.specs.List.{All}
use Rattle.printed_graphs.specs.DataflowText.{operand_text}
use Rattle.printed_graphs.specs.GraphReading.{operand_at, after_operands}
use Rattle.printed_graphs.specs.Printable.{IsPrintableOperand}
use Rattle.printed_graphs.specs.Reading.{after_word}
use Rattle.printed_graphs.proofs.Loops.{PartsLeft}
use Rattle.printed_graphs.proofs.dataflow_lines.read_operands.Given as goal

abbrev pub invariant-loop-all : goal.invariant-loop-all
invariant-loop-all l = record {
  text : l.fn.cursor.rest.now ≡ flat_map operand_text l.all.items ++ l.cursor.rest.now;
  after : PartsLeft (after_word (codes " ")) operand_at l.cursor.rest.now (after_operands l.fn.cursor.rest.now);
  printable : All IsPrintableOperand l.all.items;
}

abbrev pub decreases-loop-all : goal.decreases-loop-all
decreases-loop-all l = length l.cursor.rest.now
