-- What a hold does to the degrees and pieces of a flow graph, and what they are after all holds.
use Rattle.std.proofs.Common.{◌≡◌, ◌≢◌, ℕ, zero, suc, ◌+◌, ◌<◌, ◌≤◌, ◌==◌, List, [], ◌∷◌, ◌++◌, length, set, fold, count_by, refl, sym, ap, ◌∙◌, inl, inr, ⊎_elim, arith}
use Rattle.std.proofs.lemmas.Bool.{cases_lt, eq-eqb, ne_eqb}
use Rattle.std.proofs.lemmas.List.{length-append}
use Rattle.closed_walks.specs.Graph.{Graph, IsGraph, edge_count, from, to}
use Rattle.cfg_build.specs.declared.pieces.Piece.{Piece}
use Rattle.cfg_build.specs.declared.pieces.PieceKind.TheVariants.{Hold}
use Rattle.cfg_build.specs.Joined.{FlowGraph}
use Rattle.cfg_build.specs.Holds.{with_hold}
use Rattle.cfg_build.specs.Flow.{piece_at}
use Rattle.cfg_build.specs.Degrees.{in_degree, out_degree}
use Rattle.list_laws.specs.Member.{Member}
use Rattle.list_laws.proofs.Members.{at_of}
use Rattle.list_laws.proofs.Counts.{bit, bit_true, bit_false, count-cons, count-append, count-set, count_zero}
use Rattle.cfg_build.proofs.FanCounts.{comes_to, leaves_from}
use Rattle.cfg_build.proofs.HoldSteps.{hold_graph, hold_sound, more_edges}
use Rattle.cfg_build.proofs.HeldEdges.{IsHoldEdge}

-- no edge comes to a number that is no node, and none leaves it
none_come : (g : Graph) → IsGraph g → (y : ℕ) → g.nodes ≤ y → in_degree g y ≡ 0
unfolding to
none_come g sound y past = grind (arith, count_zero (comes_to y) g.edges, comes_to y, at_of g.edges, ne_eqb)

none_leave : (g : Graph) → IsGraph g → (y : ℕ) → g.nodes ≤ y → out_degree g y ≡ 0
unfolding from
none_leave g sound y past = grind (arith, count_zero (leaves_from y) g.edges, leaves_from y, at_of g.edges, ne_eqb)

module _ (finish : ℕ) (g : Graph) (e : ℕ) (edge : e < edge_count g) (y : ℕ) where
  abbrev prefix : List (ℕ × ℕ)
  prefix = set g.edges e (from g e, g.nodes)

  abbrev back : List (ℕ × ℕ)
  back = (g.nodes, to g e) ∷ (g.nodes, finish) ∷ []

  in_more : in_degree (hold_graph finish g e) y ≡ in_degree g y + bit (g.nodes == y) + bit (finish == y)
  unfolding to
  in_more =
      grind (arith, hold_graph finish g e, count_by (comes_to y) prefix, comes_to y, count_by (comes_to y) back, count-append (comes_to y) prefix back, count_by, bit (to g e == y), bit (g.nodes == y), count-set (comes_to y) g.edges e (from g e, g.nodes) (0, 0) edge, count_by (comes_to y) ((g.nodes, finish) ∷ []), count-cons (comes_to y) (g.nodes, to g e) ((g.nodes, finish) ∷ []), bit (finish == y), count_by (comes_to y), count-cons (comes_to y) (g.nodes, finish))

  out_more : out_degree (hold_graph finish g e) y ≡ out_degree g y + bit (g.nodes == y) + bit (g.nodes == y)
  unfolding from
  out_more =
      grind (arith, hold_graph finish g e, count_by (leaves_from y) prefix, leaves_from y, count_by (leaves_from y) back, count-append (leaves_from y) prefix back, count_by, bit (from g e == y), count-set (leaves_from y) g.edges e (from g e, g.nodes) (0, 0) edge, bit (g.nodes == y), count_by (leaves_from y) ((g.nodes, finish) ∷ []), count-cons (leaves_from y) (g.nodes, to g e) ((g.nodes, finish) ∷ []), count_by (leaves_from y), count-cons (leaves_from y) (g.nodes, finish))

piece_left : (ps qs : List Piece) (k : ℕ) → k < length ps → piece_at (ps ++ qs) k ≡ piece_at ps k
piece_left [] qs k some = absurd (omega (arith, some))
piece_left (p ∷ ps) qs zero some = refl
piece_left (p ∷ ps) qs (suc k) some = piece_left ps qs k (omega (arith, some))

piece_last : (ps : List Piece) (p : Piece) (k : ℕ) → k ≡ length ps → piece_at (ps ++ p ∷ []) k ≡ p
piece_last [] p zero is = refl
piece_last [] p (suc k) is = absurd (omega (arith, is))
piece_last (q ∷ ps) p zero is = absurd (omega (arith, is))
piece_last (q ∷ ps) p (suc k) is = piece_last ps p k (omega (arith, is))

module _ (g : FlowGraph) (finish : ℕ) where
  -- the degrees and pieces that f has after some holds on g
  pub record HasHolds (f : FlowGraph) : Type 0 where
    pub edges : edge_count g.graph ≤ edge_count f.graph
    pub nodes : g.graph.nodes ≤ f.graph.nodes
    pub sound : IsGraph f.graph
    pub count : length f.pieces ≡ f.graph.nodes
    pub old_in : (y : ℕ) → y < g.graph.nodes → y ≢ finish → in_degree f.graph y ≡ in_degree g.graph y
    pub old_out : (y : ℕ) → y < g.graph.nodes → out_degree f.graph y ≡ out_degree g.graph y
    pub old_piece : (y : ℕ) → y < g.graph.nodes → piece_at f.pieces y ≡ piece_at g.pieces y
    pub new_in : (y : ℕ) → g.graph.nodes ≤ y → y < f.graph.nodes → in_degree f.graph y ≡ 1
    pub new_out : (y : ℕ) → g.graph.nodes ≤ y → y < f.graph.nodes → out_degree f.graph y ≡ 2
    pub new_piece : (y : ℕ) → g.graph.nodes ≤ y → y < f.graph.nodes → (piece_at f.pieces y).kind ≡ Hold

  pub none_yet : IsGraph g.graph → length g.pieces ≡ g.graph.nodes → HasHolds g
  none_yet sound count = grind arith

  module _ (end : finish < g.graph.nodes) (f : FlowGraph) (h : HasHolds f) (e : ℕ) (edge : e < edge_count g.graph) (piece : Piece) where
    below : e < edge_count f.graph
    below = let more : edge_count g.graph ≤ edge_count f.graph = h.edges in omega (arith, more, edge)

    in_now : (y : ℕ) → in_degree (hold_graph finish f.graph e) y ≡ in_degree f.graph y + bit (f.graph.nodes == y) + bit (finish == y)
    in_now y = in_more finish f.graph e below y

    out_now : (y : ℕ) → out_degree (hold_graph finish f.graph e) y ≡ out_degree f.graph y + bit (f.graph.nodes == y) + bit (f.graph.nodes == y)
    out_now y = out_more finish f.graph e below y

    in_kept : (y : ℕ) → y < f.graph.nodes → y ≢ finish → in_degree (hold_graph finish f.graph e) y ≡ in_degree f.graph y
    in_kept y node other =
        let a : in_degree (hold_graph finish f.graph e) y ≡ in_degree f.graph y + bit (f.graph.nodes == y) + bit (finish == y) = in_now y in
        let b : bit (f.graph.nodes == y) ≡ 0 = bit_false (f.graph.nodes == y) (ne_eqb f.graph.nodes y (λ (s : f.graph.nodes ≡ y). omega (arith, s, node))) in
        let c : bit (finish == y) ≡ 0 = bit_false (finish == y) (ne_eqb finish y (λ (s : finish ≡ y). other (sym s))) in
        omega (arith, a, b, c)

    out_kept : (y : ℕ) → y < f.graph.nodes → out_degree (hold_graph finish f.graph e) y ≡ out_degree f.graph y
    out_kept y node =
        grind (arith, hold_graph finish f.graph e, bit (f.graph.nodes == y), out_now y, bit, bit_false (f.graph.nodes == y), ne_eqb f.graph.nodes y)

    in_new : (y : ℕ) → f.graph.nodes ≡ y → in_degree (hold_graph finish f.graph e) y ≡ 1
    in_new y is =
        let more : g.graph.nodes ≤ f.graph.nodes = h.nodes in
        let a : in_degree (hold_graph finish f.graph e) y ≡ in_degree f.graph y + bit (f.graph.nodes == y) + bit (finish == y) = in_now y in
        let z : in_degree f.graph y ≡ 0 = none_come f.graph h.sound y (omega (arith, is)) in
        let b : bit (f.graph.nodes == y) ≡ 1 = bit_true (f.graph.nodes == y) (eq-eqb f.graph.nodes y is) in
        let c : bit (finish == y) ≡ 0 = bit_false (finish == y) (ne_eqb finish y (λ (s : finish ≡ y). omega (arith, s, end, more, is))) in
        omega (arith, a, z, b, c)

    out_new : (y : ℕ) → f.graph.nodes ≡ y → out_degree (hold_graph finish f.graph e) y ≡ 2
    out_new y is =
        grind (arith, hold_graph finish f.graph e, bit (f.graph.nodes == y), out_now y, none_leave f.graph h.sound y, bit, bit_true (f.graph.nodes == y) (eq-eqb f.graph.nodes y is), eq-eqb f.graph.nodes y is)

    abbrev added : List Piece
    added = record { kind = Hold; line = piece.line; exec = piece.exec } ∷ []

    piece_kept : (y : ℕ) → y < f.graph.nodes → piece_at (with_hold finish f e piece).pieces y ≡ piece_at f.pieces y
    piece_kept y node = let c : length f.pieces ≡ f.graph.nodes = h.count in piece_left f.pieces added y (omega (arith, node, c))

    piece_new : (y : ℕ) → f.graph.nodes ≡ y → (piece_at (with_hold finish f e piece).pieces y).kind ≡ Hold
    piece_new y is = let c : length f.pieces ≡ f.graph.nodes = h.count in ap (λ (p : Piece). p.kind) (piece_last f.pieces (record { kind = Hold; line = piece.line; exec = piece.exec }) y (omega (arith, is, c)))

    pub one_more : HasHolds (with_hold finish f e piece)
    one_more =
        let more : g.graph.nodes ≤ f.graph.nodes = h.nodes in
        let edges : edge_count g.graph ≤ edge_count f.graph = h.edges in
        let m : edge_count (hold_graph finish f.graph e) ≡ edge_count f.graph + 2 = more_edges finish f.graph e below in
        let a : length (f.pieces ++ added) ≡ length f.pieces + 1 = length-append f.pieces added in
        let c : length f.pieces ≡ f.graph.nodes = h.count in
        record {
          edges = omega (arith, edges, m);
          nodes = omega (arith, more);
          sound = hold_sound finish f.graph e below h.sound (omega (arith, end, more));
          count = omega (arith, a, c);
          old_in = λ y old other. in_kept y (omega (arith, old, more)) other ∙ h.old_in y old other;
          old_out = λ y old. out_kept y (omega (arith, old, more)) ∙ h.old_out y old;
          old_piece = λ y old. piece_kept y (omega (arith, old, more)) ∙ h.old_piece y old;
          new_in = λ y new node. ⊎_elim
              (λ (l : y < f.graph.nodes). in_kept y l (λ (s : y ≡ finish). omega (arith, s, new, end)) ∙ h.new_in y new l)
              (λ (l : f.graph.nodes ≤ y). in_new y (omega (arith, l, node)))
              (cases_lt y f.graph.nodes);
          new_out = λ y new node. ⊎_elim
              (λ (l : y < f.graph.nodes). out_kept y l ∙ h.new_out y new l)
              (λ (l : f.graph.nodes ≤ y). out_new y (omega (arith, l, node)))
              (cases_lt y f.graph.nodes);
          new_piece = λ y new node. ⊎_elim
              (λ (l : y < f.graph.nodes). ap (λ (p : Piece). p.kind) (piece_kept y l) ∙ h.new_piece y new l)
              (λ (l : f.graph.nodes ≤ y). piece_new y (omega (arith, l, node)))
              (cases_lt y f.graph.nodes);
        }

  pub all_more : (edge_of : ℕ → ℕ) (piece_of : ℕ → Piece) → finish < g.graph.nodes → (hs : List ℕ) (f : FlowGraph) → HasHolds f → ((x : ℕ) → Member hs x → IsHoldEdge g.graph x (edge_of x)) → HasHolds (fold (λ f x. with_hold finish f (edge_of x) (piece_of x)) f hs)
  all_more edge_of piece_of end [] f h edges = h
  all_more edge_of piece_of end (x ∷ hs) f h edges =
      all_more edge_of piece_of end hs (with_hold finish f (edge_of x) (piece_of x)) (one_more end f h (edge_of x) (edges x (inl refl)).exists (piece_of x)) (λ y m. edges y (inr m))
