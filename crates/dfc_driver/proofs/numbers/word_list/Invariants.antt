use Rattle.dfc_driver.specs.declared.words.Setting.TheVariants.{Data}
use Rattle.dfc_driver.specs.Words.{is_piece, word_value}
use Rattle.dfc_driver.proofs.Pieces.{AreTaken}
use Rattle.dfc_driver.proofs.numbers.word_list.Given as goal

abbrev pub invariant-loop-k : goal.invariant-loop-k
invariant-loop-k l = AreTaken (is_piece Data) word_value l.text l.begin l.k l.list.items
