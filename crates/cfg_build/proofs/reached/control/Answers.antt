use Rattle.std.proofs.Common.{◌≡◌, ℕ, ◌++◌, ◌∙◌, ap, sym, List, map, take, length, get_or, arith}
use Rattle.closed_walks.specs.Graph.{Graph}
use Rattle.f77_tree.specs.declared.programs.Exec.{Exec}
use Rattle.f77_tree.specs.Control.{successors}
use Rattle.cfg_build.specs.Control.{fan}
use Rattle.cfg_build.proofs.BuildingControl.{few_so_far, fan_more}
use Rattle.cfg_build.proofs.reached.control.Goals as goal

pub add_edges-requires-clause-room : goal.add_edges-requires-clause-room
add_edges-requires-clause-room c = grind (arith, few_so_far)

pub loop-k-preserved : goal.loop-k-preserved
loop-k-preserved c =
    let execs = c.args.p.now.execs in
    let k = c.loop-k.k in
    let d = c.at.result.now in
    let heads : c.as_slice.result.now ≡ successors (get_or execs k d).kind =
    (c.as_slice.ensures ∙ c.in_ok-heads.ensures) ∙ ap (λ (exec : Exec). successors exec.kind) c.at.ensures.lookup in
    let so_far = fan 0 (map (λ (exec : Exec). successors exec.kind) (take k execs)) in
    c.in_ok-add_edges.ensures
    ∙ ap (λ (g : Graph). record { nodes = g.nodes; edges = g.edges ++ map (λ head. (k, head)) c.as_slice.result.now }) c.loop-k.invariant
    ∙ ap (λ (hs : List ℕ). record { nodes = length execs; edges = so_far ++ map (λ head. (k, head)) hs }) heads
    ∙ ap (λ (es : List (ℕ × ℕ)). record { nodes = length execs; edges = es }) (sym (fan_more (λ (exec : Exec). successors exec.kind) execs k d (omega arith)))
