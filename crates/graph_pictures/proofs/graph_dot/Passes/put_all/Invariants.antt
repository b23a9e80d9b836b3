use Rattle.std.proofs.Common.{flat_map, take}
use Rattle.std.specs.Fmt.{HasWritten, IsPlainFormatter}
use Rattle.graph_pictures.specs.GraphDot.{passes_to}
use Rattle.graph_pictures.proofs.graph_dot.Passes.put_all.Given as goal

abbrev pub invariant-loop-line : goal.invariant-loop-line
invariant-loop-line g l =
    IsPlainFormatter l.initial.f → HasWritten g.W.Write.write_str_gives l.initial.f (flat_map (passes_to l.self.graph.now.nodes.items l.self.lines.now l.number l.piece) (take l.line-index l.needed)) l.f
