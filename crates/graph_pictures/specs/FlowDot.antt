-- The text of a flow graph for Graphviz.
use Rattle.std.specs.Prelude.{ℕ, zero, suc, List, [], ◌∷◌, ◌++◌, ◌+◌, ◌-◌, ◌*◌, ◌%◌, ◌==◌, ◌||◌, Bool, if◌then◌else◌, codes, flat_map, length, map, nat_le, replicate, reverse, set, slice_get, slice_index, Option, Some, None}
use Rattle.std.specs.Fmt.{decimal}
use Rattle.printed_graphs.specs.Names.{kind_text}
use Rattle.printed_graphs.specs.declared.flow.Edge.{Edge}
use Rattle.printed_graphs.specs.declared.flow.Piece.{Piece}
use Rattle.printed_graphs.specs.declared.flow.PrintedFlow.{PrintedFlow}
use Rattle.printed_graphs.specs.declared.flow.Region.{Region}
use Rattle.graph_pictures.specs.Numbers.{if_there, numbered, places_of}
use Rattle.graph_pictures.specs.declared.boxes.Step.{Step}
use Rattle.graph_pictures.specs.declared.boxes.Step.TheVariants as step

-- the colour of a class or of a token line: one of twelve, used over and over
abbrev pub colour_at : (k : ℕ) → List ℕ
colour_at k =
    if k == 0 then codes "#1f77b4"
    else if k == 1 then codes "#d62728"
    else if k == 2 then codes "#2ca02c"
    else if k == 3 then codes "#9467bd"
    else if k == 4 then codes "#ff7f0e"
    else if k == 5 then codes "#17becf"
    else if k == 6 then codes "#8c564b"
    else if k == 7 then codes "#e377c2"
    else if k == 8 then codes "#7f7f7f"
    else if k == 9 then codes "#bcbd22"
    else if k == 10 then codes "#0000a0"
    else codes "#a00060"

unfoldable pub colour_text : (number : ℕ) → List ℕ
colour_text number = colour_at (number % 12)

-- ---- pieces and edges

unfoldable pub label_text : (k : ℕ) → Piece → List ℕ
label_text k p = kind_text p.kind ++ codes " " ++ decimal k ++ codes "\\nline " ++ decimal p.line

unfoldable pub piece_dot : (k : ℕ) → Piece → List ℕ
piece_dot k p = codes "  p" ++ decimal k ++ codes " [label=\"" ++ label_text k p ++ codes "\"];\n"

-- START stands on top and END below: edge 0, from END to START, and those to earlier pieces move no piece
unfoldable pub hue_text : (k : ℕ) → Edge → List ℕ
hue_text k e = codes ", color=\"" ++ colour_text e.class ++ (if (k == 0) || nat_le e.to e.from then codes "\", constraint=false" else codes "\"")

unfoldable pub ends_text : Edge → List ℕ
ends_text e = codes "  p" ++ decimal e.from ++ codes " -> p" ++ decimal e.to

-- the number of an edge, and that of its class
unfoldable pub name_text : (k class : ℕ) → List ℕ
name_text k class = decimal k ++ codes ":c" ++ decimal class

unfoldable pub edge_dot : (k : ℕ) → Edge → List ℕ
edge_dot k e = ends_text e ++ codes " [label=\"" ++ name_text k e.class ++ codes "\"" ++ hue_text k e ++ codes "];\n"

-- ---- the smallest region of each piece, found along edges from START, on which regions are entered and left

abbrev pub entry_of : Region → ℕ
entry_of r = r.entry

abbrev pub exit_of : Region → ℕ
exit_of r = r.exit

abbrev pub parent_of : Region → ℕ
parent_of r = r.parent

-- The first region that has this edge there. Regions are counted from 1, and 0 stands for the whole graph.
abbrev pub region_at : PrintedFlow → (edge_of : Region → ℕ) → (edge : ℕ) → Option ℕ
region_at flow edge_of edge = slice_get (places_of (length flow.edges.items) 1 edge (map edge_of flow.regions.items)) 0

-- The smallest region after an edge that enters a region, that leaves one, or that does neither, from a piece whose smallest region is
-- `inside`.
abbrev pub after_edge : PrintedFlow → (entered left : Option ℕ) → (inside : ℕ) → ℕ
after_edge flow (Some region) left inside = region
after_edge flow None (Some region) inside = slice_index (map parent_of flow.regions.items) (region - 1)
after_edge flow None None inside = inside

abbrev pub region_after : PrintedFlow → (edge inside : ℕ) → ℕ
region_after flow edge inside = after_edge flow (region_at flow entry_of edge) (region_at flow exit_of edge) inside

-- the smallest region of a piece, once it is found
abbrev pub at_piece : Option (Option ℕ) → Option ℕ
at_piece None = None
at_piece (Some region) = region

abbrev pub found_at : List (Option ℕ) → (piece : ℕ) → Option ℕ
found_at found piece = at_piece (slice_get found piece)

abbrev pub reached : PrintedFlow → (k : ℕ) → Edge → (from to : Option ℕ) → List (Option ℕ) → List (Option ℕ)
reached flow k e (Some inside) None found = set found e.to (Some (region_after flow k inside))
reached flow k e _ _ found = found

-- what is found over one more edge, over all edges, and over all of them so often
abbrev pub over_edge : PrintedFlow → (k : ℕ) → Edge → List (Option ℕ) → List (Option ℕ)
over_edge flow k e found = if k == 0 then found else reached flow k e (found_at found e.from) (found_at found e.to) found

abbrev pub over_edges : PrintedFlow → (k : ℕ) → List Edge → List (Option ℕ) → List (Option ℕ)
over_edges flow k [] found = found
over_edges flow k (e ∷ es) found = over_edges flow (suc k) es (over_edge flow k e found)

abbrev pub over_all : PrintedFlow → (times : ℕ) → List (Option ℕ) → List (Option ℕ)
over_all flow zero found = found
over_all flow (suc n) found = over_all flow n (over_edges flow 0 flow.edges.items found)

abbrev pub smallest_regions : PrintedFlow → List (Option ℕ)
smallest_regions flow = over_all flow (length flow.pieces.items) (set (replicate (length flow.pieces.items) None) 0 (Some 0))

-- ---- regions as boxes

abbrev pub number_of : Option ℕ → ℕ
number_of None = 0
number_of (Some region) = region

-- the pieces of which this is the smallest region
abbrev pub pieces_in : PrintedFlow → (region : ℕ) → List ℕ
pieces_in flow region = places_of (length flow.regions.items + 1) 0 region (map number_of (smallest_regions flow))

-- the regions that lie in a region and in none within it
abbrev pub regions_in : PrintedFlow → (region : ℕ) → List ℕ
regions_in flow region = places_of (length flow.regions.items + 1) 1 region (map parent_of flow.regions.items)

-- what comes behind the beginning of a box: the boxes within it, and its end
abbrev pub within : (regions : ℕ → List ℕ) → Step → List Step
within regions (step.Open region) = map step.Open (regions region) ++ step.Close ∷ []
within regions step.Close = []

-- the beginnings and the ends of boxes, so many, of which these come next
abbrev pub nested : PrintedFlow → (count : ℕ) → List Step → List Step
nested flow zero steps = []
nested flow (suc n) [] = []
nested flow (suc n) (s ∷ steps) = s ∷ nested flow n (within (regions_in flow) s ++ steps)

-- each region is begun and ended once at most
abbrev pub boxes_of : PrintedFlow → List Step
boxes_of flow = nested flow (length flow.regions.items * 2) (map step.Open (regions_in flow 0))

abbrev pub member_dot : (piece : ℕ) → List ℕ
member_dot piece = codes "  p" ++ decimal piece ++ codes ";\n"

abbrev pub head_dot : (region : ℕ) → List ℕ
head_dot region = codes "  subgraph cluster_" ++ decimal region ++ codes " {\n  label=\"region " ++ decimal region ++ codes "\"; color=\"#808080\"; fontname=\"sans-serif\"; fontsize=9;\n"

abbrev pub box_dot : (pieces : ℕ → List ℕ) → Step → List ℕ
box_dot pieces (step.Open region) = head_dot region ++ flat_map member_dot (reverse (pieces region))
box_dot pieces step.Close = codes "  }\n"

-- ---- the whole

-- the boxes and the edges
unfoldable pub rest_dot : PrintedFlow → (steps : List Step) → (pieces : ℕ → List ℕ) → List ℕ
rest_dot flow steps pieces = numbered (λ k. if_there (box_dot pieces) (slice_get steps k)) (length steps) ++ numbered (λ k. if_there (edge_dot k) (slice_get flow.edges.items k)) (length flow.edges.items)

unfoldable pub body_dot : PrintedFlow → (steps : List Step) → (pieces : ℕ → List ℕ) → List ℕ
body_dot flow steps pieces = numbered (λ k. if_there (piece_dot k) (slice_get flow.pieces.items k)) (length flow.pieces.items) ++ rest_dot flow steps pieces

unfoldable pub opening_dot : List ℕ
opening_dot = codes "digraph flow {\n  newrank=true;\n  node [shape=box, fontname=\"sans-serif\", fontsize=11];\n  edge [fontname=\"sans-serif\", fontsize=9];\n"

unfoldable pub picture_dot : PrintedFlow → (steps : List Step) → (pieces : ℕ → List ℕ) → List ℕ
picture_dot flow steps pieces = opening_dot ++ body_dot flow steps pieces ++ codes "}\n"

-- the flow graph, with its regions as nested boxes where these are asked for
abbrev pub flow_dot : PrintedFlow → (with_regions : Bool) → List ℕ
flow_dot flow with_regions = picture_dot flow (if with_regions then boxes_of flow else []) (pieces_in flow)
