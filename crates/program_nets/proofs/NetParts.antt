-- What was found of a program makes its net.
use Rattle.std.proofs.Common.{◌≡◌, ◌≤◌, ℕ, ℤ, Bool, false, List, All, refl, sym, subst}
use Rattle.op_table.specs.Words.{IsWord}
use Rattle.f77_tree.specs.declared.programs.Program.{Program}
use Rattle.f77_tree.specs.WellFormed.{IsWellFormed}
use Rattle.cfg_build.specs.Flow.{flow}
use Rattle.cfg_build.specs.Joined.{FlowGraph}
use Rattle.dep_routing.specs.LineTable.{HaveRows}
use Rattle.dep_routing.specs.Routing.{Routing}
use Rattle.dep_routing.specs.Touch.{touches_in}
use Rattle.flow_analysis.specs.declared.parts.Analysis.{Analysis}
use Rattle.flow_analysis.specs.Analysis.{IsRangeAnalysisOf}
use Rattle.net_board.specs.NetParts.{AreParts, net_with}
use Rattle.net_board.specs.Nodes.{NetOf, graph_in}
use Rattle.op_board.specs.OperationNets.{OperationNet, operation_count}
use Rattle.op_board.specs.SoundOperationNets.{IsOperationNet}
use Rattle.operation_tables.specs.OperationParts.{AreOperationParts}
use Rattle.program_nets.specs.Game.{AreToldByRanges, IsNetOn}

abbrev pub found_parts : (p : Program) (found : Analysis) (f : FlowGraph) → f ≡ flow p.execs → IsWellFormed p → IsRangeAnalysisOf p found → AreParts p f (touches_in found.touch) found.lines
found_parts p found f own well_formed is = record {
  program = well_formed;
  own_flow = own;
  classes = found.classes;
  own_classes = is.classes;
  tree = found.tree;
  own_tree = is.tree;
  sound_touches = is.sound;
  outside = is.outside;
  own_routing = is.routing;
}

-- the same, with the classes that were found
pub found_operation_parts : (p : Program) (found : Analysis) (f : FlowGraph) → f ≡ flow p.execs → IsWellFormed p → IsRangeAnalysisOf p found → AreOperationParts p f found.classes (touches_in found.touch) found.lines
found_operation_parts p found f own well_formed is = record { parts = found_parts p found f own well_formed is; own_classes = refl }

-- what was found of a program tells the lines that its pieces touch
pub found_ranges : (p : Program) (found : Analysis) → IsRangeAnalysisOf p found → AreToldByRanges p (touches_in found.touch)
found_ranges p found is = record { classes = found.classes; own_classes = is.classes; are = is.touches }

-- A net of these parts is the net of the program, where beside its operations nothing needs a line.
pub net_on : (p : Program) (words : List ℤ) (touches : ℕ → ℕ → Bool) (routing : Routing) (x : OperationNet)
    → x.net ≡ net_with p words touches routing
    → All IsWord words
    → AreParts p (flow p.execs) touches routing
    → AreToldByRanges p touches
    → HaveRows routing
    → IsOperationNet x
    → ((piece i line : ℕ) → (graph_in x.net).nodes ≤ piece → x.needs piece i line ≡ false)
    → ((piece i line : ℕ) → operation_count x piece ≤ i → x.needs piece i line ≡ false)
    → IsNetOn p words x
net_on p words touches routing x same are_words parts ranges rows operations outside_pieces outside_operations = record {
  are_words = are_words;
  parts = subst (λ (n : NetOf). AreParts p (flow p.execs) n.touches n.routing) (sym same) parts;
  ranges = subst (λ (n : NetOf). AreToldByRanges p n.touches) (sym same) ranges;
  rows = subst (λ (n : NetOf). HaveRows n.routing) (sym same) rows;
  is = subst (λ (n : NetOf). n ≡ net_with p words n.touches n.routing) (sym same) refl;
  operations = operations;
  outside_pieces = outside_pieces;
  outside_operations = outside_operations;
}
