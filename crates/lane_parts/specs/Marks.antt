-- The text of a mark, in SVG.
use Rattle.std.specs.Prelude.{ℕ, List, ◌++◌, ◌-◌, codes, string_bytes}
use Rattle.std.specs.Fmt.{decimal}
use Rattle.lane_parts.specs.declared.marks.Mark.{Mark}
use Rattle.lane_parts.specs.declared.marks.Shape.{Shape}
use Rattle.lane_parts.specs.declared.marks.Shape.TheVariants as shape
use Rattle.lane_parts.specs.declared.marks.Spot.{Spot}

-- a circle around a place, of this beginning and colour
abbrev pub circle_svg : (words : List ℕ) → (x y colour : ℕ) → List ℕ
circle_svg words x y colour = words ++ decimal colour ++ codes "\" cx=\"" ++ decimal x ++ codes "\" cy=\"" ++ decimal y ++ codes "\"/>"

-- where a path begins, behind its class
unfoldable pub corner_text : (x y : ℕ) → List ℕ
corner_text x y = codes "\" d=\"M" ++ decimal x ++ codes " " ++ decimal y

-- the marks that are paths, from the corner at which each begins
unfoldable pub square_svg : (x y colour : ℕ) → List ℕ
square_svg x y colour = codes "<path class=\"mark f" ++ decimal colour ++ corner_text x y ++ codes "h10v10h-10z\"/>"

unfoldable pub diamond_svg : (x y colour : ℕ) → List ℕ
diamond_svg x y colour = codes "<path class=\"mark way open c" ++ decimal colour ++ corner_text x y ++ codes "l7 7l-7 7l-7 -7z\"/>"

unfoldable pub triangle_svg : (x y colour : ℕ) → List ℕ
triangle_svg x y colour = codes "<path class=\"mark way open c" ++ decimal colour ++ corner_text x y ++ codes "h14l-7 11z\"/>"

abbrev pub shape_svg : Shape → (x y colour : ℕ) → List ℕ
shape_svg shape.Ring x y colour = circle_svg (codes "<circle r=\"5\" class=\"mark way open c") x y colour
shape_svg shape.Disc x y colour = circle_svg (codes "<circle r=\"6\" class=\"mark f") x y colour
shape_svg shape.Square x y colour = square_svg (x - 5) (y - 5) colour
shape_svg shape.Diamond x y colour = diamond_svg x (y - 7) colour
shape_svg shape.Triangle x y colour = triangle_svg (x - 7) (y - 5) colour

unfoldable pub spot_svg : Spot → List ℕ
spot_svg s = shape_svg s.shape s.x s.y s.colour

-- a node on a token line, as attributes
unfoldable pub on_text : (node line : ℕ) → List ℕ
on_text node line = codes " data-node=\"" ++ decimal node ++ codes "\" data-line=\"" ++ decimal line ++ codes "\""

unfoldable pub mark_svg : Mark → List ℕ
mark_svg m = codes "<g" ++ on_text m.spot.node m.spot.line ++ codes "><title>" ++ string_bytes m.title ++ codes "</title>" ++ spot_svg m.spot ++ codes "</g>\n"
