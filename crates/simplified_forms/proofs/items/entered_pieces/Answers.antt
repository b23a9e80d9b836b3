use Rattle.std.proofs.Common.{sym, ap, ◌∙◌, arith}
use Rattle.closed_walks.specs.Graph.{edge_count}
use Rattle.cfg_build.specs.Joined.{FlowGraph}
use Rattle.const_prop.specs.Table.{knowns_of}
use Rattle.simplified_forms.proofs.ItemLemmas.{entered-tells}
use Rattle.simplified_forms.proofs.items.entered_pieces.Goals as goal

pub returns : goal.returns
returns g c =
    let graph = c.graph-g.result.now in
    let count = ap edge_count c.graph-g.ensures in
    let ends = c.edges-e-end.ensures.count in
    entered-tells c.args.p.now (knowns_of c.args.t.now) graph c.in_ok-live.live.items c.loop-e.entered.items (edge_count c.args.f.now.graph) c.loop-e.e (c.graph-g.ensures ∙ ap (λ (f : FlowGraph). f.graph) c.requires.flow) c.edges-e-end.ensures.sound (sym count) c.in_ok-live.ensures.live (omega (arith, count, ends)) c.loop-e.invariant
