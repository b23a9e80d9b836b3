use Rattle.std.proofs.Common.{flat_map, reverse, take}
use Rattle.std.specs.Fmt.{HasWritten, IsPlainFormatter}
use Rattle.graph_pictures.specs.FlowDot.{member_dot}
use Rattle.graph_pictures.proofs.boxes.MembersDisplay.fmt.Given as goal

abbrev pub invariant-loop-k : goal.invariant-loop-k
invariant-loop-k g l = IsPlainFormatter l.initial.f → HasWritten g.W.Write.write_str_gives l.initial.f (flat_map member_dot (take l.k (reverse l.self.0.now))) l.f
