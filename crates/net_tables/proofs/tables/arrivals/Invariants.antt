use Rattle.std.proofs.Common.{◌≡◌, map}
use Rattle.net_board.specs.ControlCourse.{passed_by}
use Rattle.net_tables.specs.NetTables.{all_edges}
use Rattle.net_tables.specs.PartsView.{net_in}
use Rattle.net_tables.proofs.tables.arrivals.Given as goal

abbrev pub invariant-loop-round : goal.invariant-loop-round
invariant-loop-round g l = l.edges.items ≡ map (passed_by l.round (net_in l.plan)) (all_edges (net_in l.plan))
