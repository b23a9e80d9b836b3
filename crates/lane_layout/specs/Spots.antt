-- The marks of a lane chart.
use Rattle.std.specs.Prelude.{◌≤◌, ℕ, suc, List, [], ◌∷◌, ◌++◌, map, min, slice_index}
use Rattle.chart_words.specs.Nodes.{lines_of}
use Rattle.lane_parts.specs.declared.marks.Mark.{Mark}
use Rattle.lane_parts.specs.declared.marks.Shape.{Shape}
use Rattle.lane_parts.specs.declared.marks.Shape.TheVariants as shape
use Rattle.lane_parts.specs.declared.marks.Spot.{Spot}
use Rattle.printed_graphs.specs.declared.dataflow.Node.{Node}
use Rattle.printed_graphs.specs.declared.dataflow.Node.TheVariants as node
use Rattle.printed_graphs.specs.declared.dataflow.Work.{Work}
use Rattle.printed_graphs.specs.declared.dataflow.Work.TheVariants as work
use Rattle.lane_layout.specs.declared.spots.Places.{Places}

abbrev pub shape_by : Work → Shape
shape_by work.Load = shape.Ring
shape_by (work.Apply op) = shape.Square
shape_by _ = shape.Disc

-- how the marks of a node look
abbrev pub shape_of : Node → Shape
shape_of (node.Operation piece number work lines) = shape_by work
shape_of (node.Switch piece line) = shape.Diamond
shape_of (node.Merge piece line) = shape.Triangle

-- the spot of a node on a token line: where both stand, on the page
abbrev pub spot_at : Places → (number : ℕ) → Shape → (line : ℕ) → Spot
spot_at places number shape line = record {
  node = number;
  line = line;
  x = min (slice_index places.across.now line) places.width;
  y = min (slice_index places.down.now number) places.height;
  colour = slice_index places.colours.now line;
  shape = shape;
}

-- the spots of a node: one for each token line that it takes
abbrev pub spots_at : Places → (number : ℕ) → Node → List Spot
spots_at places number n = map (spot_at places number (shape_of n)) (lines_of n)

-- the spots of nodes of which the first has this number
abbrev pub spots_from : Places → (number : ℕ) → List Node → List Spot
spots_from places number [] = []
spots_from places number (n ∷ ns) = spots_at places number n ++ spots_from places (suc number) ns

abbrev pub spot_in : Mark → Spot
spot_in mark = mark.spot

-- a spot, and its mark, stand on a page of this size
abbrev pub IsSpotOn : (width height : ℕ) → Spot → Type 0
IsSpotOn width height spot = (spot.x ≤ width) × (spot.y ≤ height)

abbrev pub IsMarkOn : (width height : ℕ) → Mark → Type 0
IsMarkOn width height mark = IsSpotOn width height mark.spot
