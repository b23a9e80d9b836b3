use Rattle.std.proofs.Common.{arith}
use Rattle.control_structure.proofs.Meeting.{statement_of-within}
use Rattle.executable_lists.proofs.flow.Flow.labelled.Goals as goal

pub index-requires : goal.index-requires
index-requires c =
    let flow = c.requires in
    omega (arith, c.place.ensures, flow.labels c.args.label, flow.first.size, statement_of-within c.args.stmts.now c.args.label)
