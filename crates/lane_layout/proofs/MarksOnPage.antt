-- Marks stand on the page.
use Rattle.std.proofs.Common.{◌≡◌, ℕ, suc, List, [], ◌∷◌, All, map, slice_index, slice_index_or}
use Rattle.std.proofs.Math.Nat.{min-le_right}
use Rattle.std.proofs.lemmas.List.Elements.{All-append, All-cons, All-head, All-map, All-nil, All-same, All-tail}
use Rattle.chart_words.specs.Nodes.{lines_of}
use Rattle.lane_parts.specs.declared.marks.Mark.{Mark}
use Rattle.lane_parts.specs.declared.marks.Shape.{Shape}
use Rattle.printed_graphs.specs.declared.dataflow.Node.{Node}
use Rattle.lane_layout.specs.declared.spots.Places.{Places}
use Rattle.lane_layout.specs.Spots.{IsMarkOn, IsSpotOn, shape_of, spot_at, spot_in, spots_from}

inside : (places : Places) (number : ℕ) (shape : Shape) (line : ℕ) → IsSpotOn places.width places.height (spot_at places number shape line)
inside places number shape line = (min-le_right (slice_index places.across.now line) places.width, min-le_right (slice_index places.down.now number) places.height)

spots_inside : (places : Places) (number : ℕ) (nodes : List Node) → All (IsSpotOn places.width places.height) (spots_from places number nodes)
spots_inside places number [] = All-nil (IsSpotOn places.width places.height)
spots_inside places number (n ∷ ns) =
    All-append
    (IsSpotOn places.width places.height)
    (map (spot_at places number (shape_of n)) (lines_of n))
    (spots_from places (suc number) ns)
    (All-map (IsSpotOn places.width places.height) (spot_at places number (shape_of n)) (lines_of n) (λ k d l. inside places number (shape_of n) (slice_index_or (lines_of n) k d)))
    (spots_inside places (suc number) ns)

marked : (width height : ℕ) (marks : List Mark) → All (IsSpotOn width height) (map spot_in marks) → All (IsMarkOn width height) marks
marked width height [] all = All-nil (IsMarkOn width height)
marked width height (m ∷ ms) all =
    All-cons (IsMarkOn width height) m ms (All-head (IsSpotOn width height) (spot_in m) (map spot_in ms) all)
    (marked width height ms (All-tail (IsSpotOn width height) (spot_in m) (map spot_in ms) all))

pub marks_on_page : (places : Places) (nodes : List Node) (marks : List Mark) → map spot_in marks ≡ spots_from places 0 nodes → All (IsMarkOn places.width places.height) marks
marks_on_page places nodes marks same =
    marked places.width places.height marks (All-same (IsSpotOn places.width places.height) (map spot_in marks) (spots_from places 0 nodes) same (spots_inside places 0 nodes))
