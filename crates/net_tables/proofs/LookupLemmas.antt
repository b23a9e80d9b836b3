-- What is looked up in the tables of a net is there.
use Rattle.std.proofs.Common.{◌≡◌, ◌<◌, ◌≤◌, ℕ, length, get_or, All, subst, ap, ◌∙◌, arith}
use Rattle.std.proofs.lemmas.List.FromFn.{length-range_with_len}
use Rattle.closed_walks.specs.Graph.{Graph, IsGraph, edge_count}
use Rattle.cfg_build.specs.Joined.{FlowGraph}
use Rattle.net_board.specs.ControlCourse.{arrival, passed_times}
use Rattle.net_board.specs.Nodes.{NetOf, graph_in, all_lines, touched}
use Rattle.list_laws.proofs.Members.{Member-at, Member-filtered, Member-in_range}
use Rattle.net_tables.specs.declared.program_parts.Plan.{Plan}
use Rattle.net_tables.specs.PartsView.{net_in}
use Rattle.net_tables.proofs.TableLemmas.{short_filter, passed_times_exists}

pub touched_exist : (net : NetOf) (piece : ℕ) → All (λ line. line < net.routing.lines) (touched net piece)
touched_exist net piece k d below =
    let m = Member-filtered (net.touches piece) (all_lines net) (get_or (touched net piece) k d) (Member-at (touched net piece) k d below) in
    let r = Member-in_range 0 net.routing.lines (get_or (touched net piece) k d) m.0 in
    let high = r.1 in
    omega (arith, high)

pub touched_few : (net : NetOf) (piece : ℕ) → length (touched net piece) ≤ net.routing.lines
touched_few net piece =
    let s = short_filter (net.touches piece) (all_lines net) in
    let r = length-range_with_len 0 net.routing.lines in
    omega (arith, s, r)

module _ {W : ℕ} (plan : Plan W) where
  pub some_edge : 0 < edge_count (graph_in (net_in plan))
  some_edge =
      let same : plan.flow.now.graph ≡ graph_in (net_in plan) = ap (λ (f : FlowGraph). f.graph) plan.own_flow in
      let two = subst (λ (g : Graph). 1 < edge_count g) same plan.two_edges in
      omega (arith, two)

  pub arrival_exists : (g : Graph) (edge : ℕ) → g ≡ plan.flow.now.graph → IsGraph g → edge < edge_count (graph_in (net_in plan)) → arrival (net_in plan) edge < (graph_in (net_in plan)).nodes
  arrival_exists g edge is sound exists =
      let same : g ≡ graph_in (net_in plan) = is ∙ ap (λ (f : FlowGraph). f.graph) plan.own_flow in
      let graph : IsGraph (graph_in (net_in plan)) = subst (λ (h : Graph). IsGraph h) same sound in
      graph.ends (passed_times (net_in plan) (graph_in (net_in plan)).nodes edge) (passed_times_exists (net_in plan) (graph_in (net_in plan)).nodes edge exists)
