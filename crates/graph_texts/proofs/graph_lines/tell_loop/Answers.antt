use Rattle.std.proofs.Common.{ap, arith}
use Rattle.f77_tree.specs.Loops.{begun}
use Rattle.graph_texts.proofs.graph_lines.tell_loop.Goals as goal

pub of_loop-requires : goal.of_loop-requires
of_loop-requires g c = (omega arith, c.requires _ (ap begun c.in-DoStart.is))
