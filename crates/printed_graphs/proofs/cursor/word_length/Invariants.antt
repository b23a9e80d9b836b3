use Rattle.std.proofs.Common.{◌≡◌, ◌+◌, drop}
use Rattle.printed_graphs.specs.Reading.{word_length}
use Rattle.printed_graphs.proofs.cursor.word_length.Given as goal

abbrev pub invariant-loop-c : goal.invariant-loop-c
invariant-loop-c l = record {
  end : l.end ≡ l.c-index;
  length : l.c-index + word_length (drop l.c-index l.text) ≡ word_length l.text;
}
