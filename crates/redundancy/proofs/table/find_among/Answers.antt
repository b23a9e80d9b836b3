use Rattle.redundancy.proofs.Tables.{not_found}
use Rattle.redundancy.proofs.table.find_among.Goals as goal

pub returns : goal.returns
returns c = not_found c.args.exprs.now.items c.args.numbers.now c.args.e.now c.loop-k.k-index c.loop-k-test.false c.loop-k.invariant
