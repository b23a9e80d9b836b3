use Rattle.std.proofs.Common.{◌<◌, ◌==◌, ◌^◌, length, filter, ap, ◌∙◌, arith}
use Rattle.std.proofs.lemmas.List.{take_all}
use Rattle.closed_walks.specs.Graph.{from}
use Rattle.net_tables.proofs.TableLemmas.{edge_exists, few_at, short_taken, leaving}
use Rattle.net_tables.proofs.tables.outs.Goals as goal

pub from-requires : goal.from-requires
from-requires c = edge_exists c.args.g.now c.args.piece c.edges_at-e-items.result.now c.loop-e.e-index c.loop-e.invariant.edges c.loop-e-test.true

pub push-requires : goal.push-requires
push-requires c =
    let few = few_at c.args.g.now c.args.piece c.edges_at-e-items.result.now c.loop-e.invariant.edges in
    let all : length c.edges_at-e-items.result.now < 2 ^ 31 = omega (arith, few, c.few_edges.ensures) in
    short_taken (λ e. from c.args.g.now e == c.args.piece) c.edges_at-e-items.result.now c.loop-e.list c.loop-e.e-index c.loop-e.invariant.list c.loop-e-test.true all

pub returns : goal.returns
returns c =
    c.loop-e.invariant.list
    ∙ ap (filter (λ e. from c.args.g.now e == c.args.piece)) (take_all c.loop-e.e-index c.edges_at-e-items.result.now c.loop-e-test.false)
    ∙ leaving c.args.g.now c.args.piece c.edges_at-e-items.result.now c.loop-e.invariant.edges
