use Rattle.cycle_equiv.proofs.Numbers.{IsNumbering-one}
use Rattle.cycle_equiv.proofs.one_numbering.Goals as goal

pub returns : goal.returns
returns c = λ g classes others one two. IsNumbering-one g classes others one two
