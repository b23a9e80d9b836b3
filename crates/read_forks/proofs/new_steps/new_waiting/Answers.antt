use Rattle.std.proofs.Common.{refl, arith}
use Rattle.op_net.specs.NetView.{net_of}
use Rattle.operation_tables.specs.Waits.{node_total}
use Rattle.read_forks.proofs.MadeLinks.{all_steps_made}
use Rattle.read_forks.proofs.NewTables.{new_kept}
use Rattle.read_forks.proofs.OpenedLinks.{none_opened}
use Rattle.read_forks.proofs.new_steps.new_waiting.Goals as goal

pub find_ways-requires : goal.find_ways-requires
find_ways-requires g c =
    let x = net_of c.args.net.now in
    let made = c.in_ok-tables.ensures.steps_made in
    (omega arith, (all_steps_made x (node_total x) c.in_ok-tables.tables.steps c.in_ok-tables.tables.links.items refl made, made.shut))

pub returns-clause-kept : goal.returns-clause-kept
returns-clause-kept g c =
    let did = c.find_ways.ensures in
    λ m. new_kept (net_of c.args.net.now) _ did.shut did.steps c.in_ok-closed.ensures did.ways c.in_ok-tables.ensures.values c.in_ok-groups.ensures m

pub returns-clause-none : goal.returns-clause-none
returns-clause-none g c = λ line piece number. none_opened (net_of c.args.net.now) c.find_ways.new.links.items c.find_ways.ensures.shut line piece number
