use Rattle.std.proofs.Common.{◌≡◌, ◌+◌, ◌==◌, List, ℕ, get_or, sym, ap, subst, ◌∙◌, arith}
use Rattle.std.specs.List.{position_or_len, range_with_len}
use Rattle.closed_walks.specs.Graph.{edge_count, to}
use Rattle.cfg_build.specs.Flow.{flow}
use Rattle.cfg_build.specs.Joined.{FlowGraph}
use Rattle.simplified_forms.specs.Items.{own_edge}
use Rattle.simplified_forms.specs.Tables.{IsTable}
use Rattle.simplified_forms.proofs.RangeCounts.{table-push}
use Rattle.simplified_forms.proofs.plan.own_edges.Goals as goal

pub loop-k-preserved : goal.loop-k-preserved
loop-k-preserved c =
    let p = c.args.p.now in
    let k = c.loop-k.k in
    let own = c.requires.own.entry k (omega arith) in
    let place : FlowGraph → ℕ → ℕ = λ f piece. position_or_len (λ e. to f.graph e == piece) (range_with_len 0 (edge_count f.graph)) in
    let is : c.edge_to.result ≡ own_edge p k = c.edge_to.ensures ∙ ap (λ (f : FlowGraph). place f (get_or c.args.own.now k 0)) c.requires.flow ∙ ap (place (flow p.execs)) own in
    subst (λ (xs : List ℕ). IsTable (own_edge p) (k + 1) xs) (sym c.in_ok-push.ensures.items) (table-push (own_edge p) k c.edge_to.result c.loop-k.found.items c.loop-k.invariant is)
