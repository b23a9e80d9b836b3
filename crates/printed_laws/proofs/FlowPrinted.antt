-- The value whose text tells the regions.
use Rattle.std.proofs.Common.{◌≡◌, ℕ, ◌+◌, ◌-◌, ◌<◌, ◌≤◌, ◌^◌, List, [], ◌++◌, length, map, slice_index, Some, None, ap, sym, ◌∙◌, subst, append-nil, ⊎_elim, arith}
use Rattle.std.proofs.Math.Nat.{lt_trans, lt_of_le_of_lt}
use Rattle.std.specs.List.{range_with_len}
use Rattle.std.proofs.lemmas.List.FromFn.{length-map-range_with_len}
use Rattle.closed_walks.specs.Graph.{Graph, IsGraph, edge_count, from, to}
use Rattle.closed_walks.specs.Numbering.{fresh, IsNumbering}
use Rattle.cfg_build.specs.Joined.{FlowGraph}
use Rattle.cfg_build.specs.Flow.{piece_at}
use Rattle.region_tree.specs.Tree.{Tree, IsRegionTree, region_count, entry_of, exit_of, parent_of}
use Rattle.graph_jobs.specs.Regions.{counts_line, piece_line, edge_line, region_line, piece_lines, edge_lines, region_lines, regions_text}
use Rattle.printed_graphs.specs.declared.flow.Edge.{Edge}
use Rattle.printed_graphs.specs.declared.flow.Piece.{Piece}
use Rattle.printed_graphs.specs.declared.flow.PrintedFlow.{PrintedFlow}
use Rattle.printed_graphs.specs.declared.flow.Region.{Region}
use Rattle.printed_graphs.specs.declared.printed.Printed.{Printed}
use Rattle.printed_graphs.specs.FlowText.{counts_text, piece_text, edge_text, region_text, flow_text}
use Rattle.printed_graphs.specs.Printable.{IsPrintableFlow, IsPrintablePiece, IsPrintableEdge, IsPrintableRegion, IsPrintedText}
use Rattle.printed_graphs.specs.Words.{lines_from}
use Rattle.printed_laws.specs.ShortFlow.{IsShortFlow}
use Rattle.printed_laws.proofs.ClassBounds.{class_most, classes_few, regions_few}
use Rattle.printed_laws.proofs.FlowLines.{piece_of, edge_of, region_of, piece_same, edge_same, region_same}
use Rattle.printed_laws.proofs.Lines.{all_made, all_made_below, lines_same}
use Rattle.printed_laws.proofs.Rows.{vec_of, the_heap, short_is_small}

abbrev piece_in_flow : FlowGraph → ℕ → Piece
piece_in_flow f k = piece_of (piece_at f.pieces k)

abbrev edge_in : Graph → List ℕ → ℕ → Edge
edge_in g classes e = edge_of (from g e) (to g e) (slice_index classes e)

abbrev region_in : Tree → ℕ → Region
region_in t r = region_of (entry_of t r) (exit_of t r) (parent_of t r)

abbrev pieces_of : FlowGraph → List Piece
pieces_of f = map (piece_in_flow f) (range_with_len 0 (length f.pieces))

abbrev edges_of : Graph → List ℕ → List Edge
edges_of g classes = map (edge_in g classes) (range_with_len 0 (edge_count g))

abbrev regions_of : Tree → List Region
regions_of t = map (region_in t) (range_with_len 1 (region_count t))

-- its lists are those of values in memory
record IsSmall (f : FlowGraph) (classes : List ℕ) (t : Tree) : Type 0 where
  pieces : length (pieces_of f) < 2 ^ 63
  edges : length (edges_of f.graph classes) < 2 ^ 63
  regions : length (regions_of t) < 2 ^ 63

abbrev flow_of : (f : FlowGraph) (classes : List ℕ) (t : Tree) → IsSmall f classes t → PrintedFlow
flow_of f classes t small = record {
  classes = fresh classes;
  pieces = vec_of the_heap (pieces_of f) small.pieces;
  edges = vec_of the_heap (edges_of f.graph classes) small.edges;
  regions = vec_of the_heap (regions_of t) small.regions;
}

-- ---- its text

pieces_told : (f : FlowGraph) → lines_from piece_text 0 (pieces_of f) ≡ piece_lines f.pieces (length f.pieces)
pieces_told f =
    lines_same piece_text (piece_in_flow f) (λ k. piece_line k (piece_at f.pieces k)) 0 0 0 (length f.pieces) (omega arith)
    (λ i k at low lt. let same : i ≡ k = omega (arith, at) in ap (λ n. piece_text n (piece_in_flow f k)) same ∙ piece_same k (piece_at f.pieces k))

edges_told : (g : Graph) (classes : List ℕ) → lines_from edge_text 0 (edges_of g classes) ≡ edge_lines g classes (edge_count g)
edges_told g classes =
    lines_same edge_text (edge_in g classes) (λ e. edge_line e (from g e) (to g e) (slice_index classes e)) 0 0 0 (edge_count g) (omega arith)
    (λ i k at low lt. let same : i ≡ k = omega (arith, at) in ap (λ n. edge_text n (edge_in g classes k)) same ∙ edge_same k (from g k) (to g k) (slice_index classes k))

regions_told : (t : Tree) → lines_from region_text 0 (regions_of t) ≡ region_lines t (region_count t)
regions_told t =
    lines_same region_text (region_in t) (λ r. region_line r (entry_of t r) (exit_of t r) (parent_of t r)) 1 0 1 (region_count t) (omega arith)
    (λ i k at low lt. region_same i k (entry_of t k) (exit_of t k) (parent_of t k) at)

counts_told : (a b c d p e r : ℕ) → a ≡ p → b ≡ e → d ≡ r → counts_text a b c d ≡ counts_line p e c r
counts_told a b c d p e r one two three = ap (λ n. counts_text n b c d) one ∙ ap (λ n. counts_text p n c d) two ∙ ap (λ n. counts_text p e c n) three

flow_told : (f : FlowGraph) (classes : List ℕ) (t : Tree) (small : IsSmall f classes t) → flow_text (flow_of f classes t small) ≡ regions_text f classes t
flow_told f classes t small =
    let counts =
    counts_told (length (pieces_of f)) (length (edges_of f.graph classes)) (fresh classes) (length (regions_of t)) (length f.pieces) (edge_count f.graph) (region_count t)
    (length-map-range_with_len (piece_in_flow f) 0 (length f.pieces))
    (length-map-range_with_len (edge_in f.graph classes) 0 (edge_count f.graph))
    (length-map-range_with_len (region_in t) 1 (region_count t))
    in
    ap (λ l. l ++ lines_from piece_text 0 (pieces_of f) ++ lines_from edge_text 0 (edges_of f.graph classes) ++ lines_from region_text 0 (regions_of t)) counts
    ∙ ap (λ l. counts_line (length f.pieces) (edge_count f.graph) (fresh classes) (region_count t) ++ l ++ lines_from edge_text 0 (edges_of f.graph classes) ++ lines_from region_text 0 (regions_of t)) (pieces_told f)
    ∙ ap (λ l. counts_line (length f.pieces) (edge_count f.graph) (fresh classes) (region_count t) ++ piece_lines f.pieces (length f.pieces) ++ l ++ lines_from region_text 0 (regions_of t)) (edges_told f.graph classes)
    ∙ ap (λ l. counts_line (length f.pieces) (edge_count f.graph) (fresh classes) (region_count t) ++ piece_lines f.pieces (length f.pieces) ++ edge_lines f.graph classes (edge_count f.graph) ++ l) (regions_told t)

-- ---- its numbers

-- A flow graph with its classes and regions, all of whose numbers are below a bound.
record Fits (f : FlowGraph) (classes : List ℕ) (t : Tree) (top : ℕ) : Type 0 where
  graph : IsGraph f.graph
  numbering : IsNumbering f.graph classes
  tree : IsRegionTree f.graph t
  nodes : f.graph.nodes < top
  count : length f.pieces ≡ f.graph.nodes
  edges : edge_count f.graph < top

parent_below : (f : FlowGraph) (classes : List ℕ) (t : Tree) (top r : ℕ) → Fits f classes t top → 0 < r → r < length t.entries → parent_of t r < length t.entries
parent_below f classes t top r fits some lt =
    ⊎_elim (λ none. let is = none.0 in omega (arith, is, lt)) (λ least. least.number.1) (fits.tree.parents r (some, lt))

regions_within : (f : FlowGraph) (classes : List ℕ) (t : Tree) (top : ℕ) → Fits f classes t top → length t.entries ≤ edge_count f.graph + 1
regions_within f classes t top fits =
    let some = fits.tree.regions.some in
    let most = regions_few f.graph t (length t.entries - 1) fits.tree.regions (omega (arith, some)) in
    omega (arith, some, most)

-- plain numbers, apart from the bound
below_next : (a n m : ℕ) → a < n → n ≤ m + 1 → a ≤ m
below_next a n m lt le = omega arith

count_most : (n m : ℕ) → n ≤ m + 1 → n - 1 ≤ m
count_most n m le = omega arith

region_below : (n k : ℕ) → 0 < n → k < 1 + (n - 1) → k < n
region_below n k some lt = omega arith

nodes_are_short : 160008 < 2 ^ 32
nodes_are_short = omega arith

edge_fits : (f : FlowGraph) (classes : List ℕ) (t : Tree) (e : ℕ) → Fits f classes t (2 ^ 32) → e < edge_count f.graph → IsPrintableEdge (edge_in f.graph classes e)
edge_fits f classes t e fits lt =
    let nodes = fits.nodes in
    let edges = fits.edges in
    let begins = fits.graph.begins e lt in
    let ends = fits.graph.ends e lt in
    let class = class_most f.graph classes e fits.numbering lt in
    record { from = lt_trans begins nodes; to = lt_trans ends nodes; class = lt_of_le_of_lt class (lt_trans lt edges) }

region_fits : (f : FlowGraph) (classes : List ℕ) (t : Tree) (r : ℕ) → Fits f classes t (2 ^ 32) → 0 < r → r < length t.entries → IsPrintableRegion (region_in t r)
region_fits f classes t r fits some lt =
    let edges = fits.edges in
    let is = (fits.tree.regions.sound r (some, lt)).pair in
    let around = parent_below f classes t (2 ^ 32) r fits some lt in
    let within = regions_within f classes t (2 ^ 32) fits in
    record { entry = lt_trans is.first edges; exit = lt_trans is.second edges; parent = lt_of_le_of_lt (below_next (parent_of t r) (length t.entries) (edge_count f.graph) around within) edges }

-- there are as many values as there are pieces, edges and regions
record AreFew (f : FlowGraph) (classes : List ℕ) (t : Tree) : Type 0 where
  pieces : length (pieces_of f) < 2 ^ 32
  edges : length (edges_of f.graph classes) < 2 ^ 32
  regions : length (regions_of t) < 2 ^ 32

flow_few : (f : FlowGraph) (classes : List ℕ) (t : Tree) → Fits f classes t (2 ^ 32) → AreFew f classes t
flow_few f classes t fits =
    let few = regions_within f classes t (2 ^ 32) fits in
    record {
      pieces = subst (λ n. n < 2 ^ 32) (sym (length-map-range_with_len (piece_in_flow f) 0 (length f.pieces) ∙ fits.count)) fits.nodes;
      edges = subst (λ n. n < 2 ^ 32) (sym (length-map-range_with_len (edge_in f.graph classes) 0 (edge_count f.graph))) fits.edges;
      regions = subst (λ n. n < 2 ^ 32) (sym (length-map-range_with_len (region_in t) 1 (region_count t))) (lt_of_le_of_lt (count_most (length t.entries) (edge_count f.graph) few) fits.edges);
    }

flow_small : (f : FlowGraph) (classes : List ℕ) (t : Tree) → AreFew f classes t → IsSmall f classes t
flow_small f classes t few = record { pieces = lt_trans few.pieces short_is_small; edges = lt_trans few.edges short_is_small; regions = lt_trans few.regions short_is_small }

flow_fits : (f : FlowGraph) (classes : List ℕ) (t : Tree) (small : IsSmall f classes t) → IsShortFlow f → Fits f classes t (2 ^ 32) → IsPrintableFlow (flow_of f classes t small)
flow_fits f classes t small short fits =
    let some = fits.tree.regions.some in
    let few = flow_few f classes t fits in
    record {
      classes = lt_of_le_of_lt (classes_few f.graph classes fits.numbering) fits.edges;
      few_pieces = few.pieces;
      few_edges = few.edges;
      few_regions = few.regions;
      pieces = all_made_below IsPrintablePiece (piece_in_flow f) (length f.pieces) short.lines;
      edges = all_made_below IsPrintableEdge (edge_in f.graph classes) (edge_count f.graph) (λ k lt. edge_fits f classes t k fits lt);
      regions = all_made IsPrintableRegion (region_in t) 1 (region_count t) (λ k low lt. region_fits f classes t k fits low (region_below (length t.entries) k some lt));
    }

-- ---- the text can be read

pub flow_read : (f : FlowGraph) (classes : List ℕ) (t : Tree) (text : List ℕ) → IsShortFlow f → IsGraph f.graph → f.graph.nodes ≤ 160008 → length f.pieces ≡ f.graph.nodes → IsNumbering f.graph classes → IsRegionTree f.graph t → text ≡ regions_text f classes t → IsPrintedText text
flow_read f classes t text short graph few count numbering tree is =
    let fits : Fits f classes t (2 ^ 32) = record { graph = graph; numbering = numbering; tree = tree; nodes = lt_of_le_of_lt few nodes_are_short; count = count; edges = short.edges } in
    let small = flow_small f classes t (flow_few f classes t fits) in
    let flow = flow_of f classes t small in
    let value : Printed = record { flow = Some flow; graph = None; trace = None } in (
      value,
      record { flow = flow_fits f classes t small short fits; graph = tt; trace = tt; text = tt },
      is ∙ sym (append-nil (flow_text flow ++ []) ∙ append-nil (flow_text flow) ∙ flow_told f classes t small),
    )
