use Rattle.std.proofs.Common.{◌==◌, ℕ, filter, get_or, subst, ap, ◌∙◌, take_all}
use Rattle.closed_walks.specs.Graph.{from, edges_at}
use Rattle.closed_walks.specs.Walk.{Holds}
use Rattle.closed_walks.proofs.Held.{Holds-at}
use Rattle.const_prop.proofs.Rows.{edges-outs}
use Rattle.const_prop.proofs.setting.out_row.Goals as goal

pub from-requires : goal.from-requires
from-requires c =
    let e = get_or c.edges_at-e-items.result.now c.loop-e.e-index 0 in
    let holds : Holds (edges_at c.args.g.now c.args.node) e = subst (λ xs. Holds xs e) c.edges_at-e-items.ensures (Holds-at c.edges_at-e-items.result.now c.loop-e.e-index c.loop-e-test.true) in
    ((c.edges_of_nodes.ensures.touch c.args.g.now c.args.node e).0 holds).0

pub returns : goal.returns
returns c =
    let leaves = λ (e : ℕ). from c.args.g.now e == c.args.node in
    c.loop-e.invariant
    ∙ ap (filter leaves) (take_all c.loop-e.e-index c.edges_at-e-items.result.now c.loop-e-test.false)
    ∙ ap (filter leaves) c.edges_at-e-items.ensures
    ∙ edges-outs c.args.g.now c.args.node
