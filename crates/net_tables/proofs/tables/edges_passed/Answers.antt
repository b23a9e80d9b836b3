use Rattle.net_board.specs.ControlCourse.{passed}
use Rattle.net_tables.specs.PartsView.{net_in}
use Rattle.net_tables.proofs.TableLemmas.{mapped_more}
use Rattle.net_tables.proofs.tables.edges_passed.Goals as goal

pub loop-e-preserved : goal.loop-e-preserved
loop-e-preserved g c = mapped_more (passed (net_in c.args.plan.now)) c.loop-e.edges.items c.push.new.self.items c.loop-e.e c.passed.result c.loop-e.invariant c.passed.ensures c.in_ok-push.ensures.items
