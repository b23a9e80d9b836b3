use Rattle.std.proofs.Common.{◌≡◌, ◌-◌, ◌++◌, map}
use Rattle.std.specs.List.{range_with_len}
use Rattle.net_board.specs.Nodes.{node_at}
use Rattle.operation_tables.specs.PlanView.{operations_in}
use Rattle.operation_tables.proofs.names.push_turns.Given as goal

abbrev pub invariant-loop-n : goal.invariant-loop-n
invariant-loop-n g l = l.names ≡ l.initial.names ++ map (node_at (operations_in l.plan).net) (range_with_len l.from (l.n - l.from))
