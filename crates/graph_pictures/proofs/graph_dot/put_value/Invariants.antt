use Rattle.std.proofs.Common.{flat_map, take}
use Rattle.std.specs.Fmt.{HasWritten, IsPlainFormatter}
use Rattle.graph_pictures.specs.GraphDot.{operand_dot}
use Rattle.graph_pictures.proofs.graph_dot.put_value.Given as goal

abbrev pub invariant-loop-operand : goal.invariant-loop-operand
invariant-loop-operand g l =
    IsPlainFormatter l.initial.f → HasWritten g.W.Write.write_str_gives l.initial.f (flat_map (operand_dot l.value.node) (take l.operand-index l.operand-items)) l.f
