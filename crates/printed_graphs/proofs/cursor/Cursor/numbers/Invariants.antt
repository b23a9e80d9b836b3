use Rattle.std.proofs.Common.{◌≡◌, ◌++◌, length, codes}
use Rattle.printed_graphs.specs.Printable.{AreShort}
use Rattle.printed_graphs.specs.Reading.{after_word, after_short, after_numbers}
use Rattle.printed_graphs.specs.Words.{numbers_text}
use Rattle.printed_graphs.proofs.Loops.{PartsLeft}
use Rattle.printed_graphs.proofs.cursor.Cursor.numbers.Given as goal

abbrev pub invariant-loop-all : goal.invariant-loop-all
invariant-loop-all l = record {
  text : l.fn.self.rest.now ≡ numbers_text l.all.items ++ l.self.rest.now;
  after : PartsLeft (after_word (codes " ")) after_short l.self.rest.now (after_numbers l.fn.self.rest.now);
  short : AreShort l.all.items;
}

abbrev pub decreases-loop-all : goal.decreases-loop-all
decreases-loop-all l = length l.self.rest.now
