use Rattle.std.proofs.Common.{◌+◌, length, ap, arith}
use Rattle.net_tables.specs.PartsView.{net_in}
use Rattle.net_tables.proofs.NodeCounts.{few_below}
use Rattle.net_tables.proofs.tables.count_of.Goals as goal

pub overflow_cast-result : goal.overflow_cast-result
overflow_cast-result g c =
    let p = (net_in c.args.plan.now).program in
    let few = few_below (net_in c.args.plan.now) c.args.plan.now.few_lines (c.args.piece + 1) (omega arith) (c.pieces_are_few.ensures p.names p.execs p.loops c.requires.execs) in
    omega (arith, ap length c.requires.names, few)

pub returns-clause-few : goal.returns-clause-few
returns-clause-few g c =
    let p = (net_in c.args.plan.now).program in
    let few = few_below (net_in c.args.plan.now) c.args.plan.now.few_lines (c.args.piece + 1) (omega arith) (c.pieces_are_few.ensures p.names p.execs p.loops c.requires.execs) in
    omega (arith, ap length c.requires.names, few)
