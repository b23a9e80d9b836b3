use Rattle.std.proofs.Common.{arith}
use Rattle.class_set.proofs.Bits.{IsClear-shifted, IsLowest-shifted}
use Rattle.class_set.proofs.words.lowest_from.Goals as goal

pub returns-then-rest-eq0 : goal.returns-then-rest-eq0
returns-then-rest-eq0 c = IsClear-shifted c.args.word c.args.from c.if-rest-eq0.true

pub returns-else-rest-eq0 : goal.returns-else-rest-eq0
returns-else-rest-eq0 c = IsLowest-shifted c.args.word c.args.from (omega arith) (omega (arith, c.if-rest-eq0.false))
