use Rattle.net_board.specs.Nodes.{touched}
use Rattle.net_tables.specs.PartsView.{net_in}
use Rattle.net_tables.proofs.TableLemmas.{mapped_more}
use Rattle.net_tables.proofs.tables.all_touched.Goals as goal

pub loop-piece-preserved : goal.loop-piece-preserved
loop-piece-preserved g c = mapped_more (touched (net_in c.args.plan.now)) c.loop-piece.all.items c.push.new.self.items c.loop-piece.piece c.in_ok-touched_lines.field-0 c.loop-piece.invariant (rw c.lines.ensures at c.in_ok-touched_lines.ensures.lines) c.in_ok-push.ensures.items
