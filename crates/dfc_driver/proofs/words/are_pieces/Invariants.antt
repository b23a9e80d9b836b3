use Rattle.dfc_driver.proofs.Pieces.{AreRead}
use Rattle.dfc_driver.proofs.words.are_pieces.Given as goal

abbrev pub invariant-loop-k : goal.invariant-loop-k
invariant-loop-k l = AreRead l.setting l.text l.begin l.k
