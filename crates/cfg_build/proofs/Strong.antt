-- The flow graph is strongly connected.
use Rattle.std.proofs.Common.{◌≡◌, ℕ, ◌<◌, ◌≤◌, List, length, sym, ◌∙◌, subst, ⊎_elim, arith}
use Rattle.std.proofs.lemmas.Bool.{cases_lt}
use Rattle.std.specs.List.{range_with_len}
use Rattle.closed_walks.specs.Graph.{Graph, IsGraph, edge_count, from}
use Rattle.closed_walks.specs.Walk.{IsStrong}
use Rattle.closed_walks.specs.Region.{IsFlowGraph}
use Rattle.closed_walks.specs.Endless.{GoesOn}
use Rattle.f77_tree.specs.declared.programs.Exec.{Exec}
use Rattle.f77_tree.specs.declared.programs.NameInfo.{NameInfo}
use Rattle.f77_tree.specs.WellFormed.{AreExecs}
use Rattle.cfg_build.specs.Parts.{parts}
use Rattle.cfg_build.specs.Joined.{rows, finish, joined}
use Rattle.cfg_build.specs.Holds.{is_held}
use Rattle.cfg_build.specs.Flow.{flow, held, piece_at}
use Rattle.list_laws.specs.Member.{Member}
use Rattle.list_laws.proofs.Members.{Member-filter, Member-filtered, Member-range, Member-in_range}
use Rattle.cfg_build.proofs.ReachedNodes.{IsTold, Reaches, IsEdge, join, along, cases_Reaches}
use Rattle.cfg_build.proofs.JoinedGraph.{row_graph, edge_zero}
use Rattle.cfg_build.proofs.PieceKinds.{pieces_of}
use Rattle.cfg_build.proofs.ReachedPieces.{joined_sound, finish_below, some_rows, reached_piece, leaves_piece}
use Rattle.cfg_build.proofs.Lowest.{IsMet, ReachesHeld, reaches_held, reached_below}
use Rattle.cfg_build.proofs.HeldEdges.{IsHoldEdge, edge_for, hold_edge}
use Rattle.cfg_build.proofs.Holding.{IsHold, IsHolding, begun, AreHeld, all_held}

module _ (told : IsTold) (met : IsMet) (names : List NameInfo) (execs : List Exec) (loops : ℕ) (well : AreExecs names execs loops) where
  abbrev pub g : Graph
  g = row_graph (parts execs) (finish execs)

  abbrev pub end : ℕ
  end = finish execs

  abbrev pub flows : Graph
  flows = (flow execs).graph

  sound : IsGraph (row_graph (parts execs) (finish execs))
  sound = joined_sound told names execs loops well

  end_below : finish execs < length (rows (parts execs))
  end_below = finish_below told names execs loops well

  pub held_edges : (x : ℕ) → Member (held execs) x → IsHoldEdge (row_graph (parts execs) (finish execs)) x (edge_for told names execs loops well x)
  held_edges x m =
      grind (arith, Member-filtered (is_held g end) (range_with_len 0 g.nodes) x m, Member-in_range 0 g.nodes x, hold_edge told names execs loops well x)

  pub holds : AreHeld (row_graph (parts execs) (finish execs)) (finish execs) (joined execs) (flow execs) (held execs)
  holds =
      all_held g end (edge_for told names execs loops well) (λ x. piece_at (pieces_of (parts execs)) x) sound end_below (held execs) (joined execs)
      (begun g end sound (edge_zero (parts execs) end).1)
      held_edges

  pub holding : IsHolding (row_graph (parts execs) (finish execs)) (finish execs) (flow execs).graph
  holding = holds.holding

  -- ---- to the end

  goes_on : (u : ℕ) → u < g.nodes → (Reaches g u end → ⊥) → GoesOn g u
  goes_on u node stuck v r =
      ⊎_elim
      (λ (is : v ≡ end). absurd (stuck (subst (λ n. Reaches g u n) is r)))
      (λ (e : (y : ℕ) × IsEdge g v y). (e.1.number, e.1.exists, e.1.begins))
      (leaves_piece told names execs loops well v (reached_below told g sound u v node r))

  old_to_end : (u : ℕ) → u < g.nodes → Reaches flows u end
  old_to_end u node = ⊎_elim
      (λ (r : Reaches g u end). holding.kept u end r)
      (λ (stuck : Reaches g u end → ⊥).
      let r : ReachesHeld told g sound end u = reaches_held told g sound end met u node stuck (goes_on u node stuck) in
      let m : Member (held execs) r.piece = Member-filter (is_held g end) (range_with_len 0 g.nodes) r.piece (Member-range 0 g.nodes r.piece (omega arith) (omega (arith, r.node))) r.held in
      join flows u r.piece end (holding.kept u r.piece r.reached) (holds.lead r.piece m))
      (cases_Reaches g told sound u end node)

  to_end : (u : ℕ) → u < flows.nodes → Reaches flows u end
  to_end u node = ⊎_elim
      (λ (l : u < g.nodes). old_to_end u l)
      (λ (l : g.nodes ≤ u). (holding.fresh u l node).leads)
      (cases_lt u g.nodes)

  -- ---- from the start

  some_edge : 0 < edge_count g
  some_edge = omega arith

  some_flow : 0 < edge_count flows
  some_flow = let more : edge_count g ≤ edge_count flows = holding.edges in omega (arith, more, some_edge)

  pub zero_from : from (flow execs).graph 0 ≡ finish execs
  zero_from = holding.tails 0 some_edge ∙ (edge_zero (parts execs) end).0

  end_to_start : Reaches flows end 0
  end_to_start = along flows end 0 (record { number = 0; exists = some_flow; begins = zero_from; ends = holding.zero_to })

  old_from_start : (v : ℕ) → v < g.nodes → Reaches flows 0 v
  old_from_start v node = ⊎_elim
      (λ (is : v ≡ end). subst (λ n. Reaches flows 0 n) (sym is) (old_to_end 0 (some_rows told names execs loops well)))
      (λ (r : Reaches g 0 v). holding.kept 0 v r)
      (reached_piece told names execs loops well v node)

  from_start : (v : ℕ) → v < flows.nodes → Reaches flows 0 v
  from_start v node = ⊎_elim
      (λ (l : v < g.nodes). old_from_start v l)
      (λ (l : g.nodes ≤ v).
      let r : IsHold g end flows v = holding.fresh v l node in
      join flows 0 r.source v (old_from_start r.source r.old) r.led)
      (cases_lt v g.nodes)

  strong : IsStrong flows
  strong u v u_node v_node = join flows u 0 v (join flows u end 0 (to_end u u_node) end_to_start) (from_start v v_node)

  pub flow_graph : IsFlowGraph (flow execs).graph
  flow_graph = record { sound = holding.sound; strong = strong; some = some_flow; start = holding.zero_to }
