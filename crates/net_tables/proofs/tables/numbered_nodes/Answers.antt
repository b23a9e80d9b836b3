use Rattle.std.proofs.Common.{◌≡◌, ◌+◌, ◌++◌, List, length, ap, sym, ◌∙◌, arith}
use Rattle.cfg_build.specs.Joined.{FlowGraph}
use Rattle.firing.specs.declared.system.NodeName.{NodeName}
use Rattle.net_board.specs.Nodes.{nodes_at, nodes_below, first_node}
use Rattle.net_tables.specs.PartsView.{net_in}
use Rattle.net_tables.proofs.TableLemmas.{flat_map_next, mapped_more}
use Rattle.net_tables.proofs.tables.numbered_nodes.Goals as goal

pub loop-piece-preserved : goal.loop-piece-preserved
loop-piece-preserved g c =
    let net = net_in c.args.plan.now in
    let piece = c.loop-piece.piece in
    let names : c.push_nodes.new.names ≡ nodes_below net (piece + 1) =
    c.in_ok-push_nodes.ensures ∙ ap (λ (xs : List NodeName). xs ++ nodes_at net piece) c.loop-piece.invariant.names ∙ sym (flat_map_next (nodes_at net) piece) in
    let count = c.count_of-count.ensures.count in
    record {
      names = names;
      few = c.count_of-count.ensures.few;
      firsts = mapped_more (first_node net) c.loop-piece.firsts.items c.push-in-loop-piece.new.self.items (piece + 1) c.count_of-count.result c.loop-piece.invariant.firsts (count ∙ ap length names) c.in_ok-push-2.ensures.items;
    }

pub count_of-count-requires : goal.count_of-count-requires
count_of-count-requires g c =
    let net = net_in c.args.plan.now in
    let piece = c.loop-piece.piece in
    let names : c.push_nodes.new.names ≡ nodes_below net (piece + 1) =
    c.in_ok-push_nodes.ensures ∙ ap (λ (xs : List NodeName). xs ++ nodes_at net piece) c.loop-piece.invariant.names ∙ sym (flat_map_next (nodes_at net) piece) in
    let own = ap (λ (f : FlowGraph). f.graph.nodes) c.args.plan.now.own_flow in
    let all = c.args.plan.now.pieces in
    (omega arith, (c.requires, (omega (arith, own, all), names)))
