use Rattle.std.proofs.Common.{◌+◌, ℕ, Bool, get_or, false, subst, sym}
use Rattle.closed_walks.specs.Graph.{Graph}
use Rattle.const_prop.specs.Kept.{IsKeptGraph}
use Rattle.const_prop.proofs.Keeping.{kept-more}
use Rattle.const_prop.proofs.live.kept_graph.Goals as goal

pub loop-e-preserved : goal.loop-e-preserved
loop-e-preserved c =
    let excluded : ℕ → Bool = λ e. get_or c.args.excluded.now e false in
    subst (λ (x : Graph). IsKeptGraph c.args.g.now excluded (c.loop-e.e + 1) x) (sym c.in_ok-add_edge.ensures.ok)
    (kept-more c.args.g.now excluded c.loop-e.e c.from.result c.kept_end.result c.loop-e.kept c.from.ensures.node c.kept_end.ensures.end c.loop-e.invariant)
