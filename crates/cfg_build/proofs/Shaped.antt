-- The flow graph has its shape.
use Rattle.std.proofs.Common.{◌≡◌, ◌≢◌, ℕ, suc, ◌+◌, ◌<◌, ◌≤◌, true, false, List, [], length, get_or, refl, sym, ap, ◌∙◌, ⊎_elim, arith}
use Rattle.std.proofs.lemmas.Bool.{cases_lt, eq-eqb, ne_eqb, false≢true}
use Rattle.closed_walks.specs.Graph.{Graph, edge_count, from, to}
use Rattle.f77_tree.specs.declared.programs.Exec.{Exec}
use Rattle.f77_tree.specs.declared.programs.NameInfo.{NameInfo}
use Rattle.f77_tree.specs.WellFormed.{AreExecs}
use Rattle.cfg_build.specs.declared.pieces.Piece.{Piece}
use Rattle.cfg_build.specs.declared.pieces.PieceKind.{PieceKind}
use Rattle.cfg_build.specs.declared.pieces.PieceKind.TheVariants.{Start, Hold, End}
use Rattle.cfg_build.specs.Parts.{parts}
use Rattle.cfg_build.specs.Joined.{rows, finish, joined}
use Rattle.cfg_build.specs.Holds.{is_join}
use Rattle.cfg_build.specs.Flow.{flow, held, piece_at}
use Rattle.cfg_build.specs.Degrees.{in_degree, out_degree}
use Rattle.cfg_build.specs.Shape.{kind_at, takes_one, leaves_one, IsShaped}
use Rattle.cfg_build.proofs.EndNumber.{end_is_last}
use Rattle.cfg_build.proofs.Fans.{places_before}
use Rattle.cfg_build.proofs.Places.{begins_before}
use Rattle.cfg_build.proofs.ReachedNodes.{IsTold, IsEdge}
use Rattle.cfg_build.proofs.JoinedGraph.{row_graph, edge_zero, heads_in, heads_at, length_heads, IsRowEdge, row_edge}
use Rattle.cfg_build.proofs.PieceKinds.{pieces_of, length_pieces}
use Rattle.list_laws.proofs.Counts.{bit, bit_false, count_unique}
use Rattle.cfg_build.proofs.FanCounts.{comes_to, leaves_from}
use Rattle.cfg_build.proofs.ReachedPieces.{joined_sound, finish_below, some_rows, leaves_piece}
use Rattle.cfg_build.proofs.JoinedDegrees.{one_comes}
use Rattle.cfg_build.proofs.OutDegrees.{IsPiece, is_between, class_of, out_degree_is}
use Rattle.cfg_build.proofs.Lowest.{IsMet}
use Rattle.cfg_build.proofs.HeldEdges.{edge_for}
use Rattle.cfg_build.proofs.HoldDegrees.{HasHolds, none_yet, all_more}
use Rattle.cfg_build.proofs.Holding.{IsHolding}
use Rattle.cfg_build.proofs.Strong.{holding, held_edges, zero_from}
use Rattle.std.proofs.lemmas.Grind.{elements}

-- ---- one edge

pub one_to : (g : Graph) (node a b : ℕ) → in_degree g node ≡ 1 → a < edge_count g → b < edge_count g → to g a ≡ node → to g b ≡ node → a ≡ b
unfolding to
one_to g node a b one first second a_to b_to = grind (arith, elements, count_unique, comes_to, eq-eqb)

one_from : (g : Graph) (node a b : ℕ) → out_degree g node ≡ 1 → a < edge_count g → b < edge_count g → from g a ≡ node → from g b ≡ node → a ≡ b
unfolding from
one_from g node a b one first second a_from b_from = grind (arith, elements, count_unique, leaves_from, eq-eqb)

-- ---- kinds

not_join_of : (kind : PieceKind) → takes_one kind ≡ true → is_join kind ≡ false
not_join_of h h2 = grind arith

module _ (told : IsTold) (met : IsMet) (names : List NameInfo) (execs : List Exec) (loops : ℕ) (well : AreExecs names execs loops) where
  abbrev g : Graph
  g = row_graph (parts execs) (finish execs)

  abbrev end : ℕ
  end = finish execs

  end_below : finish execs < length (rows (parts execs))
  end_below = finish_below told names execs loops well

  after : length (rows (parts execs)) ≡ finish execs + 1
  after = end_is_last execs well.end

  pub has_holds : HasHolds (joined execs) (finish execs) (flow execs)
  has_holds =
      all_more (joined execs) end (edge_for told names execs loops well) (λ x. piece_at (pieces_of (parts execs)) x) end_below (held execs) (joined execs)
      (none_yet (joined execs) end (joined_sound told names execs loops well) (length_pieces (parts execs)))
      (held_edges told met names execs loops well)

  class : (x : ℕ) → x < g.nodes → IsPiece execs x
  class x below = class_of told names execs loops well x below

  kind_old : (x : ℕ) → x < g.nodes → kind_at (flow execs) x ≡ (piece_at (pieces_of (parts execs)) x).kind
  kind_old x old = ap (λ (p : Piece). p.kind) (has_holds.old_piece x old)

  start_old : g.nodes ≤ 0 → ⊥
  start_old none = omega (arith, none, some_rows told names execs loops well)

  -- ---- kinds at nodes

  start_then : (x : ℕ) → IsPiece execs x → (piece_at (pieces_of (parts execs)) x).kind ≡ Start → x ≡ 0
  start_then x h is = grind (arith, is_between)

  start_at : (x : ℕ) → IsPiece execs x → x ≡ 0 → (piece_at (pieces_of (parts execs)) x).kind ≡ Start
  start_at x h is = grind arith

  end_then : (x : ℕ) → IsPiece execs x → (piece_at (pieces_of (parts execs)) x).kind ≡ End → x ≡ finish execs
  end_then x h is = grind (arith, is_between)

  end_at : (x : ℕ) → IsPiece execs x → x ≡ finish execs → (piece_at (pieces_of (parts execs)) x).kind ≡ End
  end_at x h is = grind arith

  no_hold : (x : ℕ) → IsPiece execs x → (piece_at (pieces_of (parts execs)) x).kind ≡ Hold → ⊥
  no_hold x h is = grind (arith, is_between)

  one_out : (x : ℕ) → IsPiece execs x → leaves_one (piece_at (pieces_of (parts execs)) x).kind ≡ true → out_degree g x ≡ 1
  one_out x h one = grind arith

  takes_not_end : (x : ℕ) → IsPiece execs x → takes_one (piece_at (pieces_of (parts execs)) x).kind ≡ true → x ≢ finish execs
  takes_not_end x h one = grind arith

  start_not_end : 0 ≢ finish execs
  start_not_end is =
      grind (arith, pieces_of (parts execs), start_at 0 (class 0 (some_rows told names execs loops well)), class 0 (some_rows told names execs loops well), some_rows told names execs loops well, end_at 0 (class 0 (some_rows told names execs loops well)) is)

  -- ---- degrees in the joined graph

  in_old : (x : ℕ) → x < g.nodes → takes_one (piece_at (pieces_of (parts execs)) x).kind ≡ true → in_degree g x ≡ 1
  in_old x old one = one_comes told names execs loops well x old (takes_not_end x (class x old) one) (not_join_of (piece_at (pieces_of (parts execs)) x).kind one)

  out_of_start : out_degree g 0 ≡ 1
  out_of_start = one_out 0 (class 0 (some_rows told names execs loops well)) (ap leaves_one (start_at 0 (class 0 (some_rows told names execs loops well)) refl))

  out_of_end : out_degree g (finish execs) ≡ 1
  out_of_end = one_out end (class end end_below) (ap leaves_one (end_at end (class end end_below) refl))

  -- ---- edges 0 and 1

  record IsFirst (e : ℕ) : Type 0 where
    exists : e < edge_count g
    begins : from g e ≡ 0

  one_head : length (heads_at (parts execs) 0) ≡ 1
  one_head = grind (arith, bit, heads_at (parts execs), out_degree_is (parts execs), bit_false, ne_eqb, start_not_end, out_of_start)

  edge_one : IsFirst 1
  edge_one =
      let lists : List (List ℕ) = heads_in (parts execs) in
      let all : length lists ≡ length (rows (parts execs)) = length_heads (parts execs) in
      let more : 1 < edge_count g = two_in_g in
      let r : IsRowEdge (parts execs) end 1 = row_edge (parts execs) end 0 more in
      let at : 1 ≡ suc (places_before lists r.piece + r.nth) = r.at in
      ⊎_elim
      (λ (h : 0 < r.piece).
      let before : places_before lists 0 + length (get_or lists 0 []) ≤ places_before lists r.piece = begins_before (λ (heads : List ℕ). length heads) lists 0 r.piece [] h (omega (arith, r.exists, all)) in
      absurd (omega (arith, at, before, one_head)))
      (λ (h : r.piece ≤ 0). record { exists = more; begins = r.begins ∙ zero_of r.piece h })
      (cases_lt 0 r.piece)
    where
      zero_of : (n : ℕ) → n ≤ 0 → n ≡ 0
      zero_of n h = omega (arith, h)

      two_in_g : 1 < edge_count g
      two_in_g = ⊎_elim
          (λ (is : 0 ≡ end). absurd (start_not_end is))
          (λ (e : (y : ℕ) × IsEdge g 0 y). ⊎_elim
          (λ (h : 0 < e.1.number). let below : e.1.number < edge_count g = e.1.exists in omega (arith, h, below))
          (λ (h : e.1.number ≤ 0).
          let zero_at : e.1.number ≡ 0 = zero_of e.1.number h in
          absurd (start_not_end (sym e.1.begins ∙ ap (λ n. from g n) zero_at ∙ (edge_zero (parts execs) end).0)))
          (cases_lt 0 e.1.number))
          (leaves_piece told names execs loops well 0 (some_rows told names execs loops well))

  -- ---- the flow graph

  holds_on : IsHolding (row_graph (parts execs) (finish execs)) (finish execs) (flow execs).graph
  holds_on = holding told met names execs loops well

  edges_more : edge_count g ≤ edge_count (flow execs).graph
  edges_more = holds_on.edges

  some_flow : 0 < edge_count (flow execs).graph
  some_flow = omega (arith, edges_more, edge_one.exists)

  two_flow : 1 < edge_count (flow execs).graph
  two_flow = omega (arith, edges_more, edge_one.exists)

  from_zero : from (flow execs).graph 0 ≡ finish execs
  from_zero = zero_from told met names execs loops well

  from_one : from (flow execs).graph 1 ≡ 0
  from_one = holds_on.tails 1 edge_one.exists ∙ edge_one.begins

  flow_in_start : in_degree (flow execs).graph 0 ≡ 1
  flow_in_start =
      has_holds.old_in 0 (some_rows told names execs loops well) start_not_end
      ∙ in_old 0 (some_rows told names execs loops well) (ap takes_one (start_at 0 (class 0 (some_rows told names execs loops well)) refl))

  -- a node is one of the joined graph, or a hold
  old_or_hold : (P : Type 0) (x : ℕ) → x < (flow execs).graph.nodes → (x < g.nodes → P) → (g.nodes ≤ x → kind_at (flow execs) x ≡ Hold → P) → P
  old_or_hold P x node old new = ⊎_elim
      (λ (l : x < g.nodes). old l)
      (λ (l : g.nodes ≤ x). new l (has_holds.new_piece x l node))
      (cases_lt x g.nodes)

  pub shaped : IsShaped (flow execs) (finish execs)
  shaped = record {
    count = has_holds.count;
    start = λ x node. (
      λ (is : kind_at (flow execs) x ≡ Start). old_or_hold (x ≡ 0) x node (λ old. start_then x (class x old) (sym (kind_old x old) ∙ is)) (λ new hold. absurd cc),
      λ (is : x ≡ 0). old_or_hold (kind_at (flow execs) x ≡ Start) x node (λ old. kind_old x old ∙ start_at x (class x old) is) (λ new hold. absurd (start_old (omega (arith, new, is)))),
    );
    end = λ x node. (
      λ (is : kind_at (flow execs) x ≡ End). old_or_hold (x ≡ finish execs) x node (λ old. end_then x (class x old) (sym (kind_old x old) ∙ is)) (λ new hold. absurd cc),
      λ (is : x ≡ finish execs). old_or_hold (kind_at (flow execs) x ≡ End) x node (λ old. kind_old x old ∙ end_at x (class x old) is) (λ new hold. absurd (omega (arith, new, is, end_below))),
    );
    holds = λ x node. (
      λ (is : kind_at (flow execs) x ≡ Hold). old_or_hold (finish execs < x) x node
          (λ old. absurd (no_hold x (class x old) (sym (kind_old x old) ∙ is)))
          (λ new hold. omega (arith, new, after)),
      λ (new : finish execs < x). has_holds.new_piece x (omega (arith, new, after)) node,
    );
    end_exists = let more : g.nodes ≤ (flow execs).graph.nodes = has_holds.nodes in omega (arith, more, end_below);
    two_edges = two_flow;
    leaves_end = λ e edge. (
      λ is. one_from (flow execs).graph end e 0 (has_holds.old_out end end_below ∙ out_of_end) edge some_flow is from_zero,
      λ (is : e ≡ 0). ap (λ n. from (flow execs).graph n) is ∙ from_zero,
    );
    comes_to_start = λ e edge. (
      λ is. one_to (flow execs).graph 0 e 0 flow_in_start edge some_flow is holds_on.zero_to,
      λ (is : e ≡ 0). ap (λ n. to (flow execs).graph n) is ∙ holds_on.zero_to,
    );
    leaves_start = λ e edge. (
      λ is. one_from (flow execs).graph 0 e 1 (has_holds.old_out 0 (some_rows told names execs loops well) ∙ out_of_start) edge two_flow is from_one,
      λ (is : e ≡ 1). ap (λ n. from (flow execs).graph n) is ∙ from_one,
    );
    one_comes = λ x node one. old_or_hold (in_degree (flow execs).graph x ≡ 1) x node
        (λ old.
        let one_old : takes_one (piece_at (pieces_of (parts execs)) x).kind ≡ true = sym (ap takes_one (kind_old x old)) ∙ one in
        has_holds.old_in x old (takes_not_end x (class x old) one_old) ∙ in_old x old one_old)
        (λ new hold. has_holds.new_in x new node);
    one_leaves = λ x node one. old_or_hold (out_degree (flow execs).graph x ≡ 1) x node
        (λ old. has_holds.old_out x old ∙ one_out x (class x old) (sym (ap leaves_one (kind_old x old)) ∙ one))
        (λ new hold. absurd (false≢true (sym (ap leaves_one hold) ∙ one)));
    two_leave = λ x node is. old_or_hold (out_degree (flow execs).graph x ≡ 2) x node
        (λ old. absurd (no_hold x (class x old) (sym (kind_old x old) ∙ is)))
        (λ new hold. has_holds.new_out x new node);
  }
