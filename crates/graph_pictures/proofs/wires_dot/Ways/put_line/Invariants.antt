use Rattle.std.proofs.Common.{◌++◌, flat_map, take}
use Rattle.std.specs.Fmt.{HasWritten, IsPlainFormatter}
use Rattle.graph_pictures.specs.Wires.{net_in}
use Rattle.graph_pictures.specs.WiresDot.{hop_dot, wire_dot}
use Rattle.graph_pictures.proofs.wires_dot.Ways.put_line.Given as goal

abbrev pub invariant-loop-edge : goal.invariant-loop-edge
invariant-loop-edge g l =
    IsPlainFormatter l.initial.f → HasWritten g.W.Write.write_str_gives l.initial.f (flat_map (wire_dot (net_in l.self) l.line) (take l.edge-index l.edges)) l.f

abbrev pub invariant-loop-hop : goal.invariant-loop-hop
invariant-loop-hop g l =
    IsPlainFormatter l.fn.f → HasWritten g.W.Write.write_str_gives l.fn.f (flat_map (wire_dot (net_in l.self) l.line) l.edges ++ flat_map (hop_dot (net_in l.self) l.line) (take l.hop-index l.hop-items)) l.f
