use Rattle.std.proofs.Common.{◌≡◌, ◌<◌, None, Some, length, vec_len, ap, ◌∙◌, arith, rules}
use Rattle.closed_walks.specs.Graph.{edge_count}
use Rattle.cfg_build.specs.Joined.{FlowGraph}
use Rattle.net_board.specs.Nodes.{graph_in}
use Rattle.net_board.specs.Tokens.{left_for}
use Rattle.token_net.specs.NetView.{net_of, tokens_of}
use Rattle.token_net.proofs.ActLemmas.{IsSwitching, switch_named}
use Rattle.token_net.proofs.FireShapes.{left_clash, switch_marking}
use Rattle.net_tables.proofs.TokenLineLemmas.{read_edge}
use Rattle.token_net.proofs.ControlMoveLemmas.{switch_leads}
use Rattle.token_net.proofs.net.Net.switch.Goals as goal

pub next_wire-requires : goal.next_wire-requires
next_wire-requires g c =
    let n : IsSwitching (net_of c.args.self.now) c.args.piece c.args.line c.args.k = switch_named (net_of c.args.self.now) c.args.piece c.args.k c.args.line c.requires.node c.requires.name in
    let at : left_for (tokens_of c.args.self.now) c.args.k ≡ Some c.in-Some.edge = read_edge c.args.self.now.edges.items c.args.k c.index.result.now (omega (arith, c.requires.node, c.args.self.now.every_node)) c.index.ensures ∙ c.in-Some.is in
    let exists : c.in-Some.edge < edge_count (graph_in (net_of c.args.self.now)) = c.requires.readable.lie c.args.k c.in-Some.edge at in
    let same = ap (λ (f : FlowGraph). edge_count f.graph) c.args.self.now.board.plan.own_flow in
    (omega arith, (n.inside, omega (arith, exists, same, c.args.self.now.board.plan.wires)))

pub index_mut-requires-in-Some : goal.index_mut-requires-in-Some
index_mut-requires-in-Some g c =
    let n : IsSwitching (net_of c.args.self.now) c.args.piece c.args.line c.args.k = switch_named (net_of c.args.self.now) c.args.piece c.args.k c.args.line c.requires.node c.requires.name in
    let room : length c.args.self.now.lines.items ≡ vec_len c.args.self.now.lines = search rules in
    omega (arith, n.inside, c.args.self.now.every_line, room)

pub steered-self-requires : goal.steered-self-requires
steered-self-requires g c =
    let at : left_for (tokens_of c.args.self.now) c.args.k ≡ Some c.in-Some.edge = read_edge c.args.self.now.edges.items c.args.k c.index.result.now (omega (arith, c.requires.node, c.args.self.now.every_node)) c.index.ensures ∙ c.in-Some.is in
    let exists : c.in-Some.edge < edge_count (graph_in (net_of c.args.self.now)) = c.requires.readable.lie c.args.k c.in-Some.edge at in
    (omega arith, (c.args.self.now.placed, exists))

pub returns-in-Some-clause-marking : goal.returns-in-Some-clause-marking
returns-in-Some-clause-marking g c =
    let at : left_for (tokens_of c.args.self.now) c.args.k ≡ Some c.in-Some.edge = read_edge c.args.self.now.edges.items c.args.k c.index.result.now (omega (arith, c.requires.node, c.args.self.now.every_node)) c.index.ensures ∙ c.in-Some.is in
    switch_marking (net_of c.args.self.now) (tokens_of c.args.self.now) c.args.k c.args.line c.in-Some.edge c.next_wire.result at c.next_wire.ensures

pub returns-in-Some-clause-place : goal.returns-in-Some-clause-place
returns-in-Some-clause-place g c =
    let net = net_of c.args.self.now in
    let m = tokens_of c.args.self.now in
    c.steered-self.ensures.steered m (switch_leads net m c.args.k c.requires.node c.args.piece c.args.line c.in-Some.edge c.requires.name)

pub returns-in_default-clause-marking : goal.returns-in_default-clause-marking
returns-in_default-clause-marking g c =
    let none : c.index.result.now ≡ None = search rules in
    let at : left_for (tokens_of c.args.self.now) c.args.k ≡ None = read_edge c.args.self.now.edges.items c.args.k c.index.result.now (omega (arith, c.requires.node, c.args.self.now.every_node)) c.index.ensures ∙ none in
    absurd (left_clash (left_for (tokens_of c.args.self.now) c.args.k) at c.requires.left)

pub returns-in_default-clause-place : goal.returns-in_default-clause-place
returns-in_default-clause-place g c =
    let none : c.index.result.now ≡ None = search rules in
    let at : left_for (tokens_of c.args.self.now) c.args.k ≡ None = read_edge c.args.self.now.edges.items c.args.k c.index.result.now (omega (arith, c.requires.node, c.args.self.now.every_node)) c.index.ensures ∙ none in
    absurd (left_clash (left_for (tokens_of c.args.self.now) c.args.k) at c.requires.left)
