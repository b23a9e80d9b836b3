use Rattle.std.proofs.Common.{◌≡◌, length, vec_len, subst, sym, ap, arith, rules}
use Rattle.closed_walks.specs.Graph.{edge_count}
use Rattle.cfg_build.specs.Joined.{FlowGraph}
use Rattle.net_board.specs.ControlPlaces.{Leads}
use Rattle.token_net.specs.NetView.{net_of, tokens_of}
use Rattle.token_net.proofs.ActLemmas.{IsMerging, merge_named}
use Rattle.token_net.proofs.ControlMoveLemmas.{merge_leads}
use Rattle.token_net.proofs.net.Net.merge.Goals as goal

pub first_out-edge-requires : goal.first_out-edge-requires
first_out-edge-requires g c =
    let n : IsMerging (net_of c.args.self.now) c.args.piece c.args.line c.args.k = merge_named (net_of c.args.self.now) c.args.piece c.args.k c.args.line c.requires.node c.requires.name in
    (omega arith, n.exists)

pub next_wire-requires : goal.next_wire-requires
next_wire-requires g c =
    let n : IsMerging (net_of c.args.self.now) c.args.piece c.args.line c.args.k = merge_named (net_of c.args.self.now) c.args.piece c.args.k c.args.line c.requires.node c.requires.name in
    let same = ap (λ (f : FlowGraph). edge_count f.graph) c.args.self.now.board.plan.own_flow in
    (omega arith, (n.inside, omega (arith, c.first_out-edge.ensures.exists, same, c.args.self.now.board.plan.wires)))

pub index_mut-requires : goal.index_mut-requires
index_mut-requires g c =
    let n : IsMerging (net_of c.args.self.now) c.args.piece c.args.line c.args.k = merge_named (net_of c.args.self.now) c.args.piece c.args.k c.args.line c.requires.node c.requires.name in
    let room : length c.args.self.now.lines.items ≡ vec_len c.args.self.now.lines = search rules in
    omega (arith, n.inside, c.args.self.now.every_line, room)

pub returns-clause-place : goal.returns-clause-place
returns-clause-place g c =
    let net = net_of c.args.self.now in
    let m = tokens_of c.args.self.now in
    c.steered-self.ensures.steered m (subst (Leads net m c.args.k) (sym c.first_out-edge.ensures.edge) (merge_leads net m c.args.k c.requires.node c.args.piece c.args.line c.requires.name))
