use Rattle.std.proofs.Common.{◌≡◌, ℕ, ◌<◌, ◌↔◌, true, false, ap, sym, ◌∙◌, subst, length, slice_index_or}
use Rattle.std.proofs.lemmas.Result.{IfOk-weaker}
use Rattle.std.proofs.lemmas.Bool.Decides.{same_from_decides}
use Rattle.closed_walks.specs.Graph.{Graph}
use Rattle.closed_walks.specs.Walk.{Reach, no_edge}
use Rattle.closed_walks.specs.Reaching.{reaches}
use Rattle.cfg_build.specs.Control.{control, is_reached}
use Rattle.cfg_build.proofs.reached.reached_execs.Goals as goal

pub returns-clause-reached : goal.returns-clause-reached
returns-clause-reached c =
    let g = c.in_ok-control.control in
    let same : g ≡ control c.args.p.now.execs = c.in_ok-control.ensures in
    let some : 0 < g.nodes = subst (λ (h : Graph). 0 < h.nodes) (sym same) c.requires.execs.end.some in
    IfOk-weaker c.reached_from.result
    (λ marks. (v : ℕ) → (slice_index_or marks.items v false ≡ true) ↔ Reach g no_edge 0 v)
    (λ marks. (k : ℕ) → k < length c.args.p.now.execs → slice_index_or marks.items k false ≡ is_reached c.args.p.now.execs k)
    (λ marks tells k below. same_from_decides (slice_index_or marks.items k false) (reaches g 0 k) (tells k) (c.reaching_is_told.ensures g 0 k c.nodes-nodes.ensures.sound some) ∙ ap (λ (h : Graph). reaches h 0 k) same)
    c.reached_from.ensures.reached
