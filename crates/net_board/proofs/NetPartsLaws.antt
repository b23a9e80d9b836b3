-- The parts of a program make its net.
use Rattle.std.proofs.Common.{◌<◌, ℕ, suc, ℤ, Bool, List, All, arith}
use Rattle.op_table.specs.Words.{IsWord}
use Rattle.closed_walks.specs.Graph.{edge_count}
use Rattle.f77_tree.specs.CanRun.{CanRun}
use Rattle.f77_tree.specs.WellFormed.{IsWellFormed}
use Rattle.f77_tree.specs.declared.programs.Program.{Program}
use Rattle.alias_classes.specs.Classes.{class_count}
use Rattle.cfg_build.specs.Flow.{flow}
use Rattle.cfg_build.specs.Joined.{FlowGraph}
use Rattle.dep_routing.specs.Routing.{Routing, next_at}
use Rattle.net_board.specs.SoundNets.{IsNet}
use Rattle.net_board.specs.ProgramFacts.{ProgramFacts}
use Rattle.net_board.specs.NetParts.{AreParts, net_with}

abbrev pub net_made : ((p : Program) → IsWellFormed p → CanRun p)
    → (p : Program) (f : FlowGraph) (touches : (piece line : ℕ) → Bool) (routing : Routing) (input : List ℤ) → AreParts p f touches routing → All IsWord input → IsNet (net_with p input touches routing)
net_made can_run p f touches routing input parts words = record {
  program = parts.program;
  can_run = can_run p parts.program;
  input_words = words;
  classes = parts.classes;
  own_classes = parts.own_classes;
  tree = parts.tree;
  own_tree = parts.own_tree;
  sound_touches = parts.sound_touches;
  own_routing = parts.own_routing;
}

-- a line is led to an edge of the graph
pub parts_lead : ProgramFacts → (p : Program) (f : FlowGraph) (touches : (piece line : ℕ) → Bool) (routing : Routing) → AreParts p f touches routing → (line edge : ℕ) → line < routing.lines → edge < edge_count (flow p.execs).graph → next_at routing line edge < edge_count (flow p.execs).graph
parts_lead ground p f touches routing parts line edge below exists =
    let count = parts.own_routing.count in
    let low : line < suc (class_count parts.classes) = omega (arith, count, below) in
    ground.next_exists (flow p.execs).graph parts.tree touches line edge (next_at routing line edge) (ground.strong p.names p.execs p.loops parts.program.execs) parts.own_tree exists (parts.own_routing.next line edge low exists)
