use Rattle.std.proofs.Common.{◌≡◌, ℕ, subst, arith}
use Rattle.op_net.specs.NetView.{net_of}
use Rattle.operation_tables.specs.Waits.{node_total}
use Rattle.read_forks.specs.MadeSteps.{AreTablesBelow}
use Rattle.read_forks.proofs.MadeTables.{no_tables}
use Rattle.read_forks.proofs.new_steps.new_tables.Goals as goal

pub loop-k-init : goal.loop-k-init
loop-k-init g c = no_tables (net_of c.args.net.now) _ _ _ c.in_ok-with_room.ensures c.new.ensures.items c.new-2.ensures.items

pub loop-k-preserved : goal.loop-k-preserved
loop-k-preserved g c = c.in_ok-push_step.ensures

pub returns : goal.returns
returns g c =
    let over = c.loop-k-test.false in
    let end = c.loop-k.auto.k-end in
    let count = c.nodes.ensures in
    let all : c.loop-k.k ≡ node_total (net_of c.args.net.now) = omega (arith, over, end, count) in
    subst (λ (n : ℕ). AreTablesBelow (net_of c.args.net.now) n c.loop-k.tables.steps c.loop-k.tables.links.items c.loop-k.tables.givers.items) all c.loop-k.invariant
