-- An edge that leaves a piece other than a join leads to what each edge enters first.
use Rattle.std.proofs.Common.{◌≡◌, ◌≢◌, ℕ, ◌+◌, ◌<◌, true, false, List, length, get_or, sym, ap, ◌∙◌, subst, ⊎_elim}
use Rattle.std.proofs.lemmas.Bool.{cases_Bool, cond-true, cond-false}
use Rattle.closed_walks.specs.Graph.{Graph, edge_count, from, to}
use Rattle.f77_tree.specs.declared.programs.Exec.{Exec}
use Rattle.f77_tree.specs.declared.programs.NameInfo.{NameInfo}
use Rattle.f77_tree.specs.WellFormed.{AreExecs}
use Rattle.cfg_build.specs.Parts.{parts}
use Rattle.cfg_build.specs.Joined.{rows, finish}
use Rattle.cfg_build.specs.Holds.{is_join}
use Rattle.cfg_build.specs.Flow.{flow, held, piece_at}
use Rattle.cfg_build.specs.Passes.{out}
use Rattle.cfg_build.specs.Chains.{hold_of, is_after_hold}
use Rattle.list_laws.proofs.Members.{Member-at}
use Rattle.cfg_build.proofs.ReachedNodes.{IsTold}
use Rattle.cfg_build.proofs.JoinedGraph.{row_graph, heads_at}
use Rattle.cfg_build.proofs.PieceKinds.{pieces_of}
use Rattle.cfg_build.proofs.OutEdges.{first_out, IsOut, out_is}
use Rattle.cfg_build.proofs.HeldEdges.{edge_for}
use Rattle.cfg_build.proofs.FlowEdges.{held_piece, held_edge_at, free_leads, held_leads}
use Rattle.cfg_build.proofs.EnteredParts.{entering, IsHeldAt, held_at, IsHeldEdge, holder, after_then, after_from, own_edge}
use Rattle.std.proofs.Common.{arith}

module _ (told : IsTold) (names : List NameInfo) (execs : List Exec) (loops : ℕ) (well : AreExecs names execs loops) where
  abbrev g : Graph
  g = row_graph (parts execs) (finish execs)

  module _ (x i : ℕ) (old : x < length (rows (parts execs))) (other : x ≢ finish execs) (within : i < length (heads_at (parts execs) x)) where
    abbrev k : ℕ
    k = first_out (parts execs) (finish execs) x + i

    abbrev y : ℕ
    y = get_or (heads_at (parts execs) x) i 0

    r : IsOut (parts execs) (finish execs) x i
    r = out_is (parts execs) (finish execs) x i old other within

    pub edge_exists : first_out (parts execs) (finish execs) x + i < edge_count (row_graph (parts execs) (finish execs))
    edge_exists = subst (λ n. n < edge_count g) r.is r.exists

    pub edge_begins : from (row_graph (parts execs) (finish execs)) (first_out (parts execs) (finish execs) x + i) ≡ x
    edge_begins = ap (λ n. from g n) (sym r.is) ∙ r.begins

    pub edge_ends : to (row_graph (parts execs) (finish execs)) (first_out (parts execs) (finish execs) x + i) ≡ get_or (heads_at (parts execs) x) i 0
    edge_ends = ap (λ n. to g n) (sym r.is) ∙ r.ends

    way_held : is_join (piece_at (pieces_of (parts execs)) x).kind ≡ false → IsHeldEdge told names execs loops well k → to (flow execs).graph (out (flow execs).graph x i) ≡ entering execs y
    way_held plain e =
        grind (arith, held_piece told names execs loops well e.place, held_leads told names execs loops well x i e.place old other within e.some e.is, edge_begins, edge_ends, Member-at (held execs) e.place 0 e.some, after_from told names execs loops well, cond-true (is_after_hold execs y) (hold_of execs y) y, holder told names execs loops well)

    way_free : is_join (piece_at (pieces_of (parts execs)) x).kind ≡ false → ((q : ℕ) → q < length (held execs) → held_edge_at told names execs loops well q ≢ k) → to (flow execs).graph (out (flow execs).graph x i) ≡ entering execs y
    way_free plain none =
        let leads : to (flow execs).graph (out (flow execs).graph x i) ≡ y = free_leads told names execs loops well x i old other within none in
        ⊎_elim
        (λ (after : is_after_hold execs y ≡ true).
        let h = after_then told names execs loops well y after in
        let a : IsHeldAt told names execs loops well y = held_at told names execs loops well y h.0 in
        let apart : held_edge_at told names execs loops well a.place ≢ k = none a.place a.some in
        absurd (apart (ap (λ n. edge_for told names execs loops well n) a.is ∙ own_edge told names execs loops well y k h.0 h.1 edge_exists edge_ends)))
        (λ (after : is_after_hold execs y ≡ false). leads ∙ sym (cond-false (is_after_hold execs y) (hold_of execs y) y after))
        (cases_Bool (is_after_hold execs y))

    pub way_enters : is_join (piece_at (pieces_of (parts execs)) x).kind ≡ false → to (flow execs).graph (out (flow execs).graph x i) ≡ entering execs (get_or (heads_at (parts execs) x) i 0)
    way_enters plain = search (way_held, way_free, arith)
