use Rattle.std.proofs.Common.{arith}
use Rattle.redundancy.proofs.Executables.{program_fits, get_past}
use Rattle.redundancy.proofs.pieces.exec_of.Goals as goal

pub returns-then-piece-len-clause-fits : goal.returns-then-piece-len-clause-fits
returns-then-piece-len-clause-fits c = program_fits c.args.p.now c.args.piece.exec c.at.result.now c.requires c.at.ensures.item

pub returns-else-piece-len-clause-exec : goal.returns-else-piece-len-clause-exec
returns-else-piece-len-clause-exec c = get_past c.args.p.now.execs c.args.piece.exec (omega (arith, c.len.ensures, c.if-piece-len.false))
