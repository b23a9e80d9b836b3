use Rattle.redundancy.proofs.Growing.{grown-none}
use Rattle.redundancy.proofs.pieces.collect_item.Goals as goal

pub returns-in-Chars : goal.returns-in-Chars
returns-in-Chars c = rw c.in-Chars.is (grown-none c.args.names.now c.args.found.now.items)
