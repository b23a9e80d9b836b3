use Rattle.std.proofs.Common.{◌≡◌, ◌<◌, ◌+◌, suc, ℕ, List, get_or, map, ap, ◌∙◌, arith}
use Rattle.std.specs.List.{range_with_len}
use Rattle.cfg_build.specs.Flow.{flow}
use Rattle.cfg_build.specs.Joined.{FlowGraph, is_end}
use Rattle.net_board.specs.Nodes.{graph_in, first_node}
use Rattle.net_tables.specs.declared.program_parts.Plan.{Plan}
use Rattle.net_tables.specs.PartsView.{net_in}
use Rattle.net_tables.proofs.TableLemmas.{mapped_length, mapped_at, kind_told, idle_if, idle_unless}
use Rattle.net_tables.proofs.tables.is_idle.Goals as goal

pub index-requires : goal.index-requires
index-requires g c =
    let net = net_in c.args.plan.now in
    let count = mapped_length (first_node net) c.args.firsts.now.items (suc (graph_in net).nodes) c.requires.firsts in
    omega (arith, count, c.requires.piece)

pub index-requires-2 : goal.index-requires-2
index-requires-2 g c =
    let net = net_in c.args.plan.now in
    let count = mapped_length (first_node net) c.args.firsts.now.items (suc (graph_in net).nodes) c.requires.firsts in
    omega (arith, count, c.requires.piece)

pub piece-requires : goal.piece-requires
piece-requires g c =
    let same = ap (λ (f : FlowGraph). f.graph.nodes) c.args.plan.now.own_flow in
    omega (arith, same, c.args.plan.now.pieces, c.requires.piece)

first_read : {W : ℕ} (plan : Plan W) (firsts : List ℕ) (piece read : ℕ) → firsts ≡ map (first_node (net_in plan)) (range_with_len 0 (suc (graph_in (net_in plan)).nodes)) → piece < suc (graph_in (net_in plan)).nodes → read ≡ get_or firsts piece read → read ≡ first_node (net_in plan) piece
first_read plan firsts piece read are below is = is ∙ mapped_at (first_node (net_in plan)) firsts (suc (graph_in (net_in plan)).nodes) piece read are below

pub returns-then-index : goal.returns-then-index
returns-then-index g c =
    let net = net_in c.args.plan.now in
    let first = first_read c.args.plan.now c.args.firsts.now.items c.args.piece c.index.result.now c.requires.firsts (omega (arith, c.requires.piece)) c.index.ensures in
    let next = first_read c.args.plan.now c.args.firsts.now.items (c.args.piece + 1) c.index-2.result.now c.requires.firsts (omega (arith, c.requires.piece)) c.index-2.ensures in
    let kind = kind_told c.args.plan.now.flow.now (flow c.args.plan.now.program.now.execs) c.args.piece c.piece.result c.args.plan.now.own_flow c.piece.ensures in
    idle_if net c.args.piece c.index.result.now c.index-2.result.now c.is_end.result first next c.if-index.true (c.is_end.ensures ∙ ap is_end kind)

pub returns-else-index : goal.returns-else-index
returns-else-index g c =
    let net = net_in c.args.plan.now in
    let first = first_read c.args.plan.now c.args.firsts.now.items c.args.piece c.index.result.now c.requires.firsts (omega (arith, c.requires.piece)) c.index.ensures in
    let next = first_read c.args.plan.now c.args.firsts.now.items (c.args.piece + 1) c.index-2.result.now c.requires.firsts (omega (arith, c.requires.piece)) c.index-2.ensures in
    idle_unless net c.args.piece c.index.result.now c.index-2.result.now first next c.if-index.false
