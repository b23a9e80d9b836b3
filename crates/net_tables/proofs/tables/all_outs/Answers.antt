use Rattle.cfg_build.specs.Passes.{outs}
use Rattle.net_tables.proofs.TableLemmas.{mapped_more}
use Rattle.net_tables.proofs.tables.all_outs.Goals as goal

pub loop-piece-preserved : goal.loop-piece-preserved
loop-piece-preserved c = mapped_more (outs c.args.g.now) c.loop-piece.all.items c.push.new.self.items c.loop-piece.piece c.in_ok-outs.field-0 c.loop-piece.invariant c.in_ok-outs.ensures c.in_ok-push.ensures.items
