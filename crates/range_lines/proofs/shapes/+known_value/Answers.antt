use Rattle.std.proofs.Common.{take}
use Rattle.f77_tree.proofs.ForesightLemmas.{operator-known}
use Rattle.range_lines.proofs.shapes.+known_value.Goals as goal

pub returns-after-loop-arg : goal.returns-after-loop-arg
returns-after-loop-arg t c = operator-known c.args.e.now c.in-Apply.op c.in-Apply.args c.as_slice-arg-items.result.now c.loop-arg.arg-index (take c.loop-arg.count c.loop-arg.operands) c.fold.result c.in-Apply.is c.as_slice-arg-items.ensures.items c.loop-arg-test.false c.loop-arg.invariant.values c.fold.ensures
