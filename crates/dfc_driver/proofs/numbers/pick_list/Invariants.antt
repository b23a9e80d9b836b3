use Rattle.fixed_form.specs.Columns.{number}
use Rattle.dfc_driver.specs.declared.words.Setting.TheVariants.{Picks}
use Rattle.dfc_driver.specs.Words.{is_piece}
use Rattle.dfc_driver.proofs.Pieces.{AreTaken}
use Rattle.dfc_driver.proofs.numbers.pick_list.Given as goal

abbrev pub invariant-loop-k : goal.invariant-loop-k
invariant-loop-k l = AreTaken (is_piece Picks) number l.text l.begin l.k l.list.items
