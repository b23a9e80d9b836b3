use Rattle.std.proofs.Common.{List, Bool, Result, IfOk, Ok, Err, false, get_or, ap, subst, arith, rules}
use Rattle.closed_walks.specs.Graph.{Graph, edge_count}
use Rattle.const_prop.specs.Kept.{IsKeptGraph}
use Rattle.const_prop.specs.Table.{knowns_of}
use Rattle.const_prop.proofs.Keeping.{live-told, told-alike}
use Rattle.const_prop.proofs.live.live_edges.Goals as goal

-- what follows of the value, if there is one
on_value : {T E : Type 0} (r : Result T E) (P Q : T → Type 0) → ((x : T) → P x → Q x) → IfOk r P → IfOk r Q
on_value (Ok x) P Q follows h = follows x h
on_value (Err e) P Q follows h = tt

pub excluded_edges-requires : goal.excluded_edges-requires
excluded_edges-requires g c = (search rules, ((c.program_facts.ensures.program c.args.p.now c.args.f.now c.requires.program c.requires.flow).shape.count, c.requires.pieces))

pub reached_from-requires : goal.reached_from-requires
reached_from-requires g c =
    let program = c.program_facts.ensures.program c.args.p.now c.args.f.now c.requires.program c.requires.flow in
    let exists = program.shape.end_exists in
    let nodes = c.in_ok-kept.ensures.nodes in
    let same = ap (λ (x : Graph). x.nodes) c.graph.ensures in
    omega (arith, exists, nodes, same)

pub returns-clause-live : goal.returns-clause-live
returns-clause-live g c =
    let f = c.args.f.now in
    let excluded = c.in_ok-excluded.excluded.items in
    let reached = c.in_ok-reached.reached.items in
    let kept = c.in_ok-kept.kept in
    let is_kept : IsKeptGraph f.graph (λ e. get_or excluded e false) (edge_count f.graph) kept =
    subst (λ (x : Graph). IsKeptGraph x (λ e. get_or excluded e false) (edge_count x) kept) c.graph.ensures
    (subst (λ (xs : List Bool). IsKeptGraph c.graph.result.now (λ e. get_or xs e false) (edge_count c.graph.result.now) kept) c.deref.ensures.value c.in_ok-kept.ensures)
    in
    on_value c.reached_edges.result _ _
    (λ live tells. live-told c.args.p.now f (knowns_of c.args.t.now) (λ e. get_or excluded e false) (λ v. get_or reached v false) (λ e. get_or live.items e false) kept c.requires.flow (record {
      is_kept = is_kept;
      excludes_all = c.in_ok-excluded.ensures.excluded;
      reaches = c.in_ok-reached.ensures.reached;
      tells = told-alike f c.graph-2.result.now excluded reached c.deref-2.result.now c.deref-3.result.now (λ e. get_or live.items e false) c.graph-2.ensures c.deref-2.ensures.value c.deref-3.ensures.value tells;
    }))
    c.reached_edges.ensures.live
