-- The flow graph of a program as it is drawn: first the parts, with joins, and then the holds.
use Rattle.std.proofs.Common.{◌≡◌, ℕ, suc, ◌+◌, ◌<◌, ◌≤◌, ◌-◌, ◌==◌, Bool, true, false, cond, List, [], ◌∷◌, length, get_or, map, filter, fold, Result, Ok, Err, IfOk, refl, sym, ap, ◌∙◌, subst, ⊎_elim, arith}
use Rattle.std.proofs.lemmas.Bool.{cases_Bool, cond-true, cond-false, cases_eq, ne_eqb, true≢false}
use Rattle.std.proofs.lemmas.List.{length-map}
use Rattle.std.proofs.lemmas.List.Sums.{sum_by-append, sum_by-cons}
use Rattle.std.proofs.lemmas.List.FromFn.{length-range_with_len}
use Rattle.std.specs.List.{sum_by, range_with_len, flat_map}
use Rattle.closed_walks.specs.Graph.{Graph, IsGraph, edge_count}
use Rattle.closed_walks.specs.Region.{IsFlowGraph}
use Rattle.f77_tree.specs.declared.programs.Exec.{Exec}
use Rattle.f77_tree.specs.declared.programs.NameInfo.{NameInfo}
use Rattle.f77_tree.specs.WellFormed.{AreExecs}
use Rattle.df_sequence.specs.declared.NoMemory.{NoMemory}
use Rattle.cfg_build.specs.declared.numbers.ByTarget.{ByTarget}
use Rattle.cfg_build.specs.declared.parts.Part.{Part}
use Rattle.cfg_build.specs.declared.parts.Target.TheVariants.{First}
use Rattle.cfg_build.specs.declared.pieces.Piece.{Piece}
use Rattle.cfg_build.specs.declared.rows.Drawing.{Drawing}
use Rattle.cfg_build.specs.Control.{fan}
use Rattle.cfg_build.specs.Parts.{parts, start_part, end_part, last_of}
use Rattle.cfg_build.specs.Joined.{FlowGraph, Row, rows, rows_of, number, joined, finish}
use Rattle.cfg_build.specs.Holds.{is_held, held_edge, with_hold}
use Rattle.cfg_build.specs.Flow.{flow, held, piece_at}
use Rattle.cfg_build.specs.Tables.{AreParts, number_in, drawn_as}
use Rattle.cfg_build.proofs.AfterHolds.{AfterHolds}
use Rattle.cfg_build.proofs.BuildingControl.{length-fan}
use Rattle.cfg_build.proofs.BuildingTables.{few_numbers}
use Rattle.cfg_build.proofs.DrawableParts.{are_parts, way_count}
use Rattle.cfg_build.proofs.EndNumber.{end_is_last}
use Rattle.cfg_build.proofs.FlowEdges.{after}
use Rattle.cfg_build.proofs.HeldEdges.{edge_for}
use Rattle.cfg_build.proofs.JoinedGraph.{IsPartAt, place_of_part}
use Rattle.cfg_build.proofs.Lowest.{IsMet}
use Rattle.list_laws.proofs.Members.{Member-at, Member-filtered, Member-in_range}
use Rattle.cfg_build.proofs.PartsFound.{member_end}
use Rattle.cfg_build.proofs.PieceNumbers.{length_rows}
use Rattle.cfg_build.proofs.ReachedNodes.{IsTold}
use Rattle.cfg_build.proofs.ReachedPieces.{joined_sound}
use Rattle.cfg_build.proofs.Strong.{held_edges, flow_graph}

-- ---- counts

-- a part has one edge more than ways, where a join stands before it
few_heads_of : (ps : List Part) (p : Part) → sum_by (λ (row : Row). length row.heads) (rows_of ps p) ≤ 1 + length p.outs
few_heads_of ps p = grind (arith, cond-true, length-map, cond-false)

few_heads : (ps qs : List Part) → sum_by (λ (row : Row). length row.heads) (flat_map (rows_of ps) qs) ≤ length qs + way_count qs
few_heads ps [] = omega arith
few_heads ps (p ∷ qs) = search (few_heads_of, sum_by-append, sum_by-cons, few_heads ps qs, arith)

length-filter_le : (test : ℕ → Bool) (xs : List ℕ) → length (filter test xs) ≤ length xs
length-filter_le test [] = omega arith
length-filter_le test (x ∷ xs) =
    ⊎_elim
    (λ (h : test x ≡ true). subst (λ b. length (cond b (x ∷ filter test xs) (filter test xs)) ≤ suc (length xs)) (sym h) (omega (arith, length-filter_le test xs)))
    (λ (h : test x ≡ false). subst (λ b. length (cond b (x ∷ filter test xs) (filter test xs)) ≤ suc (length xs)) (sym h) (omega (arith, length-filter_le test xs)))
    (cases_Bool (test x))

-- ---- holds that can be put on a graph, and what is drawn then

abbrev pub put : FlowGraph → Graph → (fin : ℕ) → List ℕ → FlowGraph
put j g fin hs = fold (λ f x. with_hold fin f (held_edge g x (piece_at j.pieces x).kind) (piece_at j.pieces x)) j hs

pub record HoldsFit (j : FlowGraph) (g : Graph) (fin : ℕ) (hs : List ℕ) (f : FlowGraph) : Type 0 where
  pub nodes : (k d : ℕ) → k < length hs → get_or hs k d < g.nodes
  pub edges : (k d : ℕ) → k < length hs → held_edge g (get_or hs k d) (piece_at j.pieces (get_or hs k d)).kind < edge_count g
  pub few : j.graph.nodes + length hs ≤ 160008
  pub is : put j g fin hs ≡ f

-- where there are none, the drawing stays
no_count : (n : ℕ) → (n == 0) ≡ true → n ≡ 0
no_count n none = ⊎_elim (λ e. e) (λ d. absurd (true≢false (sym none ∙ ne_eqb n 0 d))) (cases_eq n 0)

pub none_held : (j : FlowGraph) (g : Graph) (fin : ℕ) (hs : List ℕ) (f : FlowGraph) → HoldsFit j g fin hs f → (length hs == 0) ≡ true → j ≡ f
none_held j g fin [] f fit none = fit.is
none_held j g fin (x ∷ xs) f fit none = absurd (omega (arith, no_count (length (x ∷ xs)) none))

module _ (told : IsTold) (met : IsMet) (names : List NameInfo) (execs : List Exec) (loops : ℕ) (well : AreExecs names execs loops) where
  are : AreParts (length execs) (parts execs)
  are = are_parts told names execs loops well

  pub few_nodes : (joined execs).graph.nodes ≤ 80004
  few_nodes = omega (arith, length_rows (parts execs), few_numbers (length execs) (parts execs) are)

  pub few_edges : edge_count (joined execs).graph ≤ 104004
  few_edges =
      omega (arith, length-fan (λ (row : Row). row.heads) 0 (rows (parts execs)), few_heads (parts execs) (parts execs), are.few_parts, are.few_ways)

  pub sound : IsGraph (joined execs).graph
  sound = joined_sound told names execs loops well

  few_held : length (held execs) ≤ 80004
  few_held = grind (arith, few_nodes, length-filter_le (is_held (joined execs).graph (finish execs)), length-range_with_len 0)

  base : HoldsFit (joined execs) (joined execs).graph (finish execs) (held execs) (flow execs)
  base =
      grind (arith, Member-filtered (is_held (joined execs).graph (finish execs)) (range_with_len 0 (joined execs).graph.nodes), Member-at (held execs), Member-in_range 0 (joined execs).graph.nodes, held_edges told met names execs loops well, few_nodes, few_held)

  pub holds_fit : (j : FlowGraph) (g : Graph) (fin : ℕ) (hs : List ℕ) → j ≡ joined execs → g ≡ j.graph → fin ≡ g.nodes - 1 → hs ≡ filter (is_held g fin) (range_with_len 0 g.nodes) → HoldsFit j g fin hs (flow execs)
  holds_fit j g fin hs is graph last held_is = grind (arith, end_is_last execs well.end, base)

  flow_after : AfterHolds (joined execs).graph (finish execs) (edge_for told names execs loops well) (held execs) (length (held execs)) (flow execs).graph
  flow_after = after told names execs loops well

  pub few_flow_nodes : (flow execs).graph.nodes ≤ 160008
  few_flow_nodes = omega (arith, flow_after.nodes, few_nodes, few_held)

  pub few_flow_edges : edge_count (flow execs).graph ≤ 264012
  few_flow_edges = omega (arith, flow_after.edges, few_edges, few_held)

  pub flow_strong : IsFlowGraph (flow execs).graph
  flow_strong = flow_graph told met names execs loops well

-- ---- the parts as they are drawn

-- the number of the end is that of the last part
pub finish_told : (execs : List Exec) (table : ByTarget) (ps : List Part) → ps ≡ parts execs → ((j : ℕ) → j < length ps → number_in table (get_or ps j start_part).own ≡ number ps (get_or ps j start_part).own) → number_in table (First (last_of execs)) ≡ finish execs
finish_told execs table ps is numbered =
    let all : List Part = parts execs in
    let told : (j : ℕ) → j < length all → number_in table (get_or all j start_part).own ≡ number all (get_or all j start_part).own =
    subst (λ (xs : List Part). (j : ℕ) → j < length xs → number_in table (get_or xs j start_part).own ≡ number xs (get_or xs j start_part).own) is numbered in
    let at : IsPartAt all (First (last_of execs)) = place_of_part all (First (last_of execs)) (record { one = end_part execs; among = member_end execs; own = refl }) in
    ap (number_in table) (sym at.own) ∙ told at.place at.exists ∙ ap (number all) at.own

abbrev shape : ℕ → List (ℕ × ℕ) → List Piece → FlowGraph
shape n edges pieces = record { graph = record { nodes = n; edges = edges }; pieces = pieces }

drawing_is : (execs : List Exec) (pieces : List Piece) (edges : List (ℕ × ℕ)) → pieces ≡ map (λ (row : Row). row.piece) (rows (parts execs)) → edges ≡ (finish execs, 0) ∷ fan 0 (map (λ (row : Row). row.heads) (rows (parts execs)))
    → shape (length pieces) edges pieces ≡ joined execs
drawing_is execs pieces edges one two = grind (arith, length-map)

pub drawn_is : (execs : List Exec) (result : Result Drawing NoMemory) (ps : List Part) (fin : ℕ) → ps ≡ parts execs → fin ≡ finish execs
    → IfOk result (λ d. d.pieces.items ≡ map (λ (row : Row). row.piece) (rows ps)) → IfOk result (λ d. d.edges.items ≡ (fin, 0) ∷ fan 0 (map (λ (row : Row). row.heads) (rows ps)))
    → IfOk result (λ d. drawn_as d ≡ joined execs)
drawn_is execs (Err error) ps fin parts_are end one two = tt
drawn_is execs (Ok d) ps fin parts_are end one two = grind (arith, drawing_is execs d.pieces.items d.edges.items)
