-- What operations know of the nodes before which lines stand.
use Rattle.std.proofs.Common.{Some, eq-eqb}
use Rattle.closed_walks.specs.Graph.{to}
use Rattle.net_board.specs.Nodes.{graph_in}
use Rattle.op_board.specs.OperationFacts.{IsNeededAt, OperationFacts}
use Rattle.op_board.specs.OperationNets.{OperationNet}
use Rattle.operation_tables.specs.PlanFacts.{PlanFacts}
use Rattle.operation_tables.proofs.NodesBefore.{operation_before}
use Rattle.fork_board.proofs.ForkFirings.{both_ways}
use Rattle.read_forks.proofs.GroupStops.{StandAlone}

plan_facts : (x : OperationNet) → OperationFacts x → PlanFacts x
plan_facts x f = record {
  lists = f.lists;
  decisions = f.decisions;
  touched = f.touched;
  needed = λ piece line exists acts touched none. let r : IsNeededAt x piece line = f.needed piece line exists acts touched in both_ways (x.needs piece r.number line) r.needs (none r.number r.inside);
  few = f.few;
}

pub stand_alone : (x : OperationNet) → OperationFacts x → StandAlone x
stand_alone x facts piece i line edge passed exists inside needs leads same =
    operation_before x (plan_facts x facts) piece i line (Some edge) passed exists inside needs (eq-eqb (to (graph_in x.net) edge) piece leads) same
