use Rattle.std.proofs.Common.{◌≡◌, ◌<◌, ◌+◌, ℕ, true, false, None, Some, slice_get, sym, ◌∙◌, subst, arith}
use Rattle.op_board.specs.OperationNets.{first_operation, operation_node}
use Rattle.op_board.specs.OperationTokens.{passed_by}
use Rattle.op_board.proofs.OperationNumbers.{operation_number}
use Rattle.op_net.specs.NetView.{marking_of as operations_on, net_of as net_in}
use Rattle.operation_tables.specs.Waits.{node_total}
use Rattle.fork_board.specs.ForkTokens.{is_load_node}
use Rattle.fork_board.specs.LoadGroups.{load_at, spot}
use Rattle.read_forks.specs.KeptLoads.{opened_of}
use Rattle.read_forks.specs.NodeLinks.{IsStep}
use Rattle.read_forks.specs.Ways.{IsLinkAt}
use Rattle.read_forks.proofs.FollowedLines.{far_before_none, none_opened}
use Rattle.read_forks.proofs.LoadsBefore.{IsLoadBefore, has_line, link_is, load_before, none_where_no_load, none_where_no_node, not_false, not_true}
use Rattle.read_forks.proofs.StoodLinks.{HasHeads}
use Rattle.read_forks.proofs.waiting.Waiting.arrive.Goals as goal

pub link_near-at-requires-clause-exist : goal.link_near-at-requires-clause-exist
link_near-at-requires-clause-exist g c =
    let x = net_in c.args.net.now in
    let m = operations_on c.args.net.now in
    let w = c.args.self.now in
    let line = c.args.line in
    let edge = c.args.edge in
    let k = c.args.to in
    let t = c.requires.kept.tables in
    let heads : HasHeads x = (c.nets_simulate_programs.ensures.begins x.net c.requires.is_net.is_net).ground.graph.heads in
    let nodes : c.nodes.result ≡ node_total x = c.nodes.ensures in
    let low : k < node_total x = omega (arith, nodes, c.if-to-nodes.false) in
    let all = t.steps.all in
    let step = c.at-step.result in
    let at : slice_get w.steps k ≡ Some step = c.at-step.ensures in
    let is : IsStep x w.links.items k step = t.steps.each k step at in
    is.has_links.inside

pub link_near-at-requires-clause-rise : goal.link_near-at-requires-clause-rise
link_near-at-requires-clause-rise g c =
    let x = net_in c.args.net.now in
    let m = operations_on c.args.net.now in
    let w = c.args.self.now in
    let line = c.args.line in
    let edge = c.args.edge in
    let k = c.args.to in
    let t = c.requires.kept.tables in
    let heads : HasHeads x = (c.nets_simulate_programs.ensures.begins x.net c.requires.is_net.is_net).ground.graph.heads in
    let nodes : c.nodes.result ≡ node_total x = c.nodes.ensures in
    let low : k < node_total x = omega (arith, nodes, c.if-to-nodes.false) in
    let all = t.steps.all in
    let step = c.at-step.result in
    let at : slice_get w.steps k ≡ Some step = c.at-step.ensures in
    let is : IsStep x w.links.items k step = t.steps.each k step at in
    is.rise

pub link_near-at-requires-clause-there : goal.link_near-at-requires-clause-there
link_near-at-requires-clause-there g c =
    let x = net_in c.args.net.now in
    let m = operations_on c.args.net.now in
    let w = c.args.self.now in
    let line = c.args.line in
    let edge = c.args.edge in
    let k = c.args.to in
    let t = c.requires.kept.tables in
    let heads : HasHeads x = (c.nets_simulate_programs.ensures.begins x.net c.requires.is_net.is_net).ground.graph.heads in
    let nodes : c.nodes.result ≡ node_total x = c.nodes.ensures in
    let low : k < node_total x = omega (arith, nodes, c.if-to-nodes.false) in
    let all = t.steps.all in
    let step = c.at-step.result in
    let at : slice_get w.steps k ≡ Some step = c.at-step.ensures in
    let is : IsStep x w.links.items k step = t.steps.each k step at in
    let loads : is_load_node x (operation_node x k) ≡ true = sym is.loads ∙ not_false step.loads c.if-not-step.false in
    let there : IsLoadBefore x line edge (passed_by m line) k c.requires.before = load_before x line edge (passed_by m line) k c.requires.before low loads in
    has_line x w.links.items k step is line there.piece there.number there.name c.requires.line there.needs

pub open_group-requires : goal.open_group-requires
open_group-requires g c =
    let x = net_in c.args.net.now in
    let m = operations_on c.args.net.now in
    let w = c.args.self.now in
    let line = c.args.line in
    let edge = c.args.edge in
    let k = c.args.to in
    let t = c.requires.kept.tables in
    let heads : HasHeads x = (c.nets_simulate_programs.ensures.begins x.net c.requires.is_net.is_net).ground.graph.heads in
    let nodes : c.nodes.result ≡ node_total x = c.nodes.ensures in
    let low : k < node_total x = omega (arith, nodes, c.if-to-nodes.false) in
    let all = t.steps.all in
    let step = c.at-step.result in
    let at : slice_get w.steps k ≡ Some step = c.at-step.ensures in
    let is : IsStep x w.links.items k step = t.steps.each k step at in
    let loads : is_load_node x (operation_node x k) ≡ true = sym is.loads ∙ not_false step.loads c.if-not-step.false in
    let there : IsLoadBefore x line edge (passed_by m line) k c.requires.before = load_before x line edge (passed_by m line) k c.requires.before low loads in
    let near = c.link_near-at in
    let link : IsLinkAt w.links.items near.result line k = link_is x w.links.items k step is line there.piece there.number near.result near.ensures.line near.ensures.from near.ensures.below in
    let own : IsLinkAt w.links.items near.result line (first_operation x there.piece + there.number) = subst (λ (n : ℕ). IsLinkAt w.links.items near.result line n) (operation_number x k there.piece there.number low there.name) link in
    (omega arith, (c.requires.line, (c.requires.is_net, (c.requires.exists, (c.requires.apart, (c.requires.kept, (c.requires.none, (c.requires.stands, (there.piece, (there.number, (there.here, own)))))))))))

pub returns-then-to-nodes-clause-opened : goal.returns-then-to-nodes-clause-opened
returns-then-to-nodes-clause-opened g c =
    let x = net_in c.args.net.now in
    let m = operations_on c.args.net.now in
    let w = c.args.self.now in
    let line = c.args.line in
    let edge = c.args.edge in
    let k = c.args.to in
    let t = c.requires.kept.tables in
    let heads : HasHeads x = (c.nets_simulate_programs.ensures.begins x.net c.requires.is_net.is_net).ground.graph.heads in
    let none : load_at x line (spot edge (passed_by m line)) ≡ None = none_where_no_node x line edge (passed_by m line) k c.requires.before heads c.requires.exists (omega (arith, c.nodes.ensures, c.if-to-nodes.true)) in
    none_opened x m line (opened_of x w) c.requires.none (far_before_none x m line edge c.requires.stands none)

pub returns-then-not-step-clause-opened : goal.returns-then-not-step-clause-opened
returns-then-not-step-clause-opened g c =
    let x = net_in c.args.net.now in
    let m = operations_on c.args.net.now in
    let w = c.args.self.now in
    let line = c.args.line in
    let edge = c.args.edge in
    let k = c.args.to in
    let t = c.requires.kept.tables in
    let heads : HasHeads x = (c.nets_simulate_programs.ensures.begins x.net c.requires.is_net.is_net).ground.graph.heads in
    let nodes : c.nodes.result ≡ node_total x = c.nodes.ensures in
    let low : k < node_total x = omega (arith, nodes, c.if-to-nodes.false) in
    let all = t.steps.all in
    let step = c.at-step.result in
    let at : slice_get w.steps k ≡ Some step = c.at-step.ensures in
    let is : IsStep x w.links.items k step = t.steps.each k step at in
    let not : is_load_node x (operation_node x k) ≡ false = sym is.loads ∙ not_true step.loads c.if-not-step.true in
    let none : load_at x line (spot edge (passed_by m line)) ≡ None = none_where_no_load x line edge (passed_by m line) k c.requires.before heads c.requires.exists not in
    none_opened x m line (opened_of x w) c.requires.none (far_before_none x m line edge c.requires.stands none)
