use Rattle.declared_names.proofs.Telling.{Tells-more}
use Rattle.declared_names.proofs.declarations.Declarations.of.Goals as goal

pub loop-s-preserved : goal.loop-s-preserved
loop-s-preserved c =
    Tells-more c.loop-s.declared c.read.new.self c.args.stmts.now c.loop-s.s-index c.s-item.result c.loop-s-test.true c.s-item.is c.loop-s.invariant c.in_ok-read.ensures
