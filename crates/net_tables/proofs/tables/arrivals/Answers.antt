use Rattle.std.proofs.Common.{◌≡◌, ◌<◌, ℕ, All, Vec, Global, map, subst, ap, sym, ◌∙◌, arith}
use Rattle.std.proofs.lemmas.Result.{IfOk-weaker}
use Rattle.closed_walks.specs.Graph.{Graph, edge_count, to}
use Rattle.cfg_build.specs.Joined.{FlowGraph}
use Rattle.net_board.specs.Nodes.{graph_in}
use Rattle.net_board.specs.ControlCourse.{arrival, passed_by}
use Rattle.net_tables.specs.NetTables.{all_edges}
use Rattle.net_tables.specs.PartsView.{net_in}
use Rattle.net_tables.proofs.TableLemmas.{all_inside, all_within, heads_are, led_twice, passed_by_exists, passed_first, passed_twice}
use Rattle.net_tables.proofs.tables.arrivals.Goals as goal

pub loop-round-init : goal.loop-round-init
loop-round-init g c = passed_first (net_in c.args.plan.now) c.in_ok-edges.edges.items c.in_ok-edges.ensures

pub doubled-requires : goal.doubled-requires
doubled-requires g c =
    let net = net_in c.args.plan.now in
    all_within (passed_by c.loop-round.round net) (edge_count (graph_in net)) (passed_by_exists net c.loop-round.round) c.loop-round.edges.items c.loop-round.invariant

pub loop-round-preserved : goal.loop-round-preserved
loop-round-preserved g c =
    let net = net_in c.args.plan.now in
    passed_twice net c.loop-round.round c.in_ok-edges-2.edges.items
    (led_twice (passed_by c.loop-round.round net) (edge_count (graph_in net)) (passed_by_exists net c.loop-round.round) c.loop-round.edges.items c.loop-round.invariant c.in_ok-edges-2.edges.items c.in_ok-edges-2.ensures)

pub heads-requires : goal.heads-requires
heads-requires g c =
    let net = net_in c.args.plan.now in
    let same : c.graph.result.now ≡ graph_in net = c.graph.ensures ∙ ap (λ (f : FlowGraph). f.graph) c.args.plan.now.own_flow in
    subst (λ (h : Graph). All (λ (e : ℕ). e < edge_count h) c.loop-round.edges.items) (sym same)
    (all_inside (passed_by c.loop-round.round net) (edge_count (graph_in net)) (passed_by_exists net c.loop-round.round) c.loop-round.edges.items c.loop-round.invariant)

pub returns : goal.returns
returns g c =
    let net = net_in c.args.plan.now in
    let xs = c.loop-round.edges.items in
    let same : c.graph.result.now ≡ graph_in net = c.graph.ensures ∙ ap (λ (f : FlowGraph). f.graph) c.args.plan.now.own_flow in
    let all : c.loop-round.round ≡ 18 = omega arith in
    IfOk-weaker c.heads.result
    (λ (v : Vec ℕ Global). v.items ≡ map (to c.graph.result.now) xs)
    (λ (v : Vec ℕ Global). v.items ≡ map (arrival net) (all_edges net))
    (λ (v : Vec ℕ Global) (so : v.items ≡ map (to c.graph.result.now) xs). heads_are net (λ edge inside. c.control_arrives.ensures.doublings net edge c.requires.execs inside) c.loop-round.round xs v.items all c.loop-round.invariant (so ∙ ap (λ (h : Graph). map (to h) xs) same))
    c.heads.ensures
