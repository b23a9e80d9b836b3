use Rattle.std.proofs.Common.{◌≡◌, map}
use Rattle.std.specs.List.{range_with_len}
use Rattle.net_board.specs.ControlCourse.{passed}
use Rattle.net_tables.specs.PartsView.{net_in}
use Rattle.net_tables.proofs.tables.edges_passed.Given as goal

abbrev pub invariant-loop-e : goal.invariant-loop-e
invariant-loop-e g l = l.edges.items ≡ map (passed (net_in l.plan)) (range_with_len 0 l.e)
