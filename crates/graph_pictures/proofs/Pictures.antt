-- Pictures by lists that are kept.
use Rattle.std.proofs.Common.{◌≡◌, ◌∙◌, ap, if◌then◌else◌, ℕ, Bool, List, [], length, map}
use mathlib.Core.Path.{fun_ext}
use Rattle.printed_graphs.specs.Nodes.{piece_of}
use Rattle.printed_graphs.specs.declared.dataflow.PrintedGraph.{PrintedGraph}
use Rattle.printed_graphs.specs.declared.flow.PrintedFlow.{PrintedFlow}
use Rattle.view_output.specs.declared.shown_lines.Lines.{Lines}
use Rattle.graph_pictures.specs.FlowDot.{boxes_of, flow_dot, picture_dot, pieces_in}
use Rattle.graph_pictures.specs.Numbers.{places_of}
use Rattle.graph_pictures.specs.WiresDot.{Net, net_of, wires_dot}
use Rattle.graph_pictures.specs.declared.boxes.Step.{Step}

pub same_picture : (flow : PrintedFlow) (with_regions : Bool) (steps : List Step) (pieces : ℕ → List ℕ) → steps ≡ (if with_regions then boxes_of flow else []) → ((region : ℕ) → pieces region ≡ pieces_in flow region) → picture_dot flow steps pieces ≡ flow_dot flow with_regions
same_picture flow with_regions steps pieces boxes each = ap (λ (s : List Step). picture_dot flow s pieces) boxes ∙ ap (picture_dot flow (if with_regions then boxes_of flow else [])) (fun_ext each)

abbrev net_with : PrintedGraph → PrintedFlow → (ℕ → List ℕ) → Net
net_with graph flow nodes_in = record { graph = graph; flow = flow; nodes_in = nodes_in }

pub same_wires : (graph : PrintedGraph) (flow : PrintedFlow) (lines : Lines) (nodes_in : ℕ → List ℕ) → ((piece : ℕ) → nodes_in piece ≡ places_of (length flow.pieces.items) 0 piece (map piece_of graph.nodes.items)) → wires_dot (net_with graph flow nodes_in) lines ≡ wires_dot (net_of graph flow) lines
same_wires graph flow lines nodes_in each = ap (λ (f : ℕ → List ℕ). wires_dot (net_with graph flow f) lines) (fun_ext each)
