use Rattle.std.proofs.Common.{All, take}
use Rattle.op_table.specs.Words.{IsWord}
use Rattle.net_tables.proofs.new_board.words_are_words.Given as goal

abbrev pub invariant-loop-word : goal.invariant-loop-word
invariant-loop-word l = All IsWord (take l.word-index l.words.items)
