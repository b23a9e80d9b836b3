use Rattle.std.proofs.Common.{◌≡◌, ◌++◌, length, flat_map}
use Rattle.std.specs.List.{All}
use Rattle.printed_graphs.specs.GraphReading.{at_digit, firing_at, after_firings}
use Rattle.printed_graphs.specs.Printable.{IsPrintableFiring}
use Rattle.printed_graphs.specs.TraceText.{firing_text}
use Rattle.printed_graphs.proofs.Loops.{PartsLeft}
use Rattle.printed_graphs.proofs.trace_lines.read_firings.Given as goal

abbrev pub invariant-loop-all : goal.invariant-loop-all
invariant-loop-all l = record {
  text : l.fn.cursor.rest.now ≡ flat_map firing_text l.all.items ++ l.cursor.rest.now;
  after : PartsLeft at_digit firing_at l.cursor.rest.now (after_firings l.fn.cursor.rest.now);
  printable : All IsPrintableFiring l.all.items;
}

abbrev pub decreases-loop-all : goal.decreases-loop-all
decreases-loop-all l = length l.cursor.rest.now
