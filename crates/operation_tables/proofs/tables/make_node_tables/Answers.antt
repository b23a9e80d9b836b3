use Rattle.std.proofs.Common.{length, ap, arith}
use Rattle.operation_tables.proofs.tables.make_node_tables.Goals as goal

pub returns : goal.returns
returns g c =
    let nodes = c.in_ok-nodes.ensures in
    let few = nodes.few in
    let all = ap length nodes.names in
    let fits = c.most_values.ensures.few in
    record {
      names = nodes.names;
      few = omega (arith, few, all);
      firsts = nodes.firsts;
      most = c.most_values.ensures.most;
      fits = omega (arith, fits);
    }
