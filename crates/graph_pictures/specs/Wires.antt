-- The wires of a graph, with the nodes of each piece kept as lists.
use Rattle.std.specs.Prelude.{ℕ, List, ◌++◌, codes}
use Rattle.std.specs.Fmt.{decimal}
use Rattle.graph_pictures.specs.Groups.{members_in}
use Rattle.graph_pictures.specs.WiresDot.{Net, wires_dot}
use Rattle.graph_pictures.specs.declared.wires_dot.Begin.{Begin}
use Rattle.graph_pictures.specs.declared.wires_dot.Begin.TheVariants as begin
use Rattle.graph_pictures.specs.declared.wires_dot.Ways.{Ways}

abbrev pub net_in : Ways → Net
net_in w = record {
  graph = w.graph.now;
  flow = w.flow.now;
  nodes_in = members_in w.nodes;
}

abbrev pub wires_in : Ways → List ℕ
wires_in w = wires_dot (net_in w) w.lines.now

abbrev pub begin_text : Begin → List ℕ
begin_text begin.Start = codes "  start"
begin_text (begin.Node node) = codes "  n" ++ decimal node
