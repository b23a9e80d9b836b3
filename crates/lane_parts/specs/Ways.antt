-- The text of a way of tokens, in SVG.
use Rattle.std.specs.Prelude.{ℕ, List, [], ◌++◌, ◌+◌, ◌-◌, codes}
use Rattle.std.specs.Fmt.{decimal}
use Rattle.lane_parts.specs.declared.ways.Exit.{Exit}
use Rattle.lane_parts.specs.declared.ways.Exit.TheVariants as exit
use Rattle.lane_parts.specs.declared.ways.Look.{Look}
use Rattle.lane_parts.specs.declared.ways.Look.TheVariants as look
use Rattle.lane_parts.specs.declared.ways.Side.{Side}
use Rattle.lane_parts.specs.declared.ways.Side.TheVariants as side
use Rattle.lane_parts.specs.declared.ways.Way.{Way}

unfoldable pub look_text : Look → List ℕ
look_text look.Plain = []
look_text look.Thin = codes " thin"
look_text look.Faint = codes " faint"

unfoldable pub point_text : (x y : ℕ) → List ℕ
point_text x y = decimal x ++ codes " " ++ decimal y

-- straight to a point, and around a corner to another
unfoldable pub bend_text : (near_x near_y corner_x corner_y end_x end_y : ℕ) → List ℕ
bend_text near_x near_y corner_x corner_y end_x end_y =
    codes "L" ++ point_text near_x near_y ++ codes "Q" ++ point_text corner_x corner_y ++ codes " " ++ point_text end_x end_y

-- from one place of a lane to another: straight down, in a bow at the right, or in one at the left
abbrev pub path_by : Side → (x right left from to : ℕ) → List ℕ
path_by side.Straight x right left from to = codes "M" ++ point_text x from ++ codes "L" ++ point_text x to
path_by side.Back x right left from to =
    codes "M" ++ point_text x from ++ bend_text (right - 6) from right from right (from - 6) ++ bend_text right (to + 6) right to (right - 6) to
    ++ codes "L" ++ point_text (x + 12) to
path_by side.Past x right left from to =
    codes "M" ++ point_text x from ++ bend_text (left + 6) from left from left (from + 6) ++ bend_text left (to - 6) left to (left + 6) to
    ++ codes "L" ++ point_text (x - 12) to
path_by side.Out x right left from to =
    codes "M" ++ point_text x from ++ bend_text (left + 6) from left from left (from + 6) ++ codes "L" ++ point_text left to

unfoldable pub path_text : Way → List ℕ
path_text w = path_by w.side w.x (w.x + w.reach) (w.x - w.reach) w.from w.to

-- an arrow up to its tip, at this place
unfoldable pub tip_svg : (x y colour : ℕ) → List ℕ
tip_svg x y colour = codes "<path class=\"f" ++ decimal colour ++ codes "\" d=\"M" ++ point_text x y

-- the arrow at the right of a mark, or at the left of it
abbrev pub arrow_by : Side → (x y colour : ℕ) → List ℕ
arrow_by side.Straight x y colour = []
arrow_by side.Back x y colour = tip_svg (x + 8) y colour ++ codes "l6 -4v8z\"/>\n"
arrow_by side.Past x y colour = tip_svg (x - 8) y colour ++ codes "l-6 -4v8z\"/>\n"
arrow_by side.Out x y colour = []

unfoldable pub arrow_svg : Way → List ℕ
arrow_svg w = arrow_by w.side w.x w.to w.colour

-- where an answer stands: below the place where a way leaves, or above it at the right or at the left
abbrev pub leaving_x : Side → (beside left : ℕ) → ℕ
leaving_x side.Straight beside left = beside
leaving_x side.Back beside left = beside
leaving_x side.Past beside left = left + 1
leaving_x side.Out beside left = left + 1

abbrev pub leaving_y : Side → (from : ℕ) → ℕ
leaving_y side.Straight from = from + 17
leaving_y side.Back from = from - 3
leaving_y side.Past from = from - 4
leaving_y side.Out from = from - 4

abbrev pub answer_svg : (x y : ℕ) → (words : List ℕ) → List ℕ
answer_svg x y words = codes "<text class=\"small\" x=\"" ++ decimal x ++ codes "\" y=\"" ++ decimal y ++ codes "\">" ++ words ++ codes "</text>\n"

-- the answer by which a way leaves, if there is one
abbrev pub label_by : Exit → (x y : ℕ) → List ℕ
label_by exit.Only x y = []
label_by exit.True x y = answer_svg x y (codes "T")
label_by exit.False x y = answer_svg x y (codes "F")
label_by (exit.Case number) x y = answer_svg x y (decimal number)

unfoldable pub label_svg : Way → List ℕ
label_svg w = label_by w.exit (leaving_x w.side (w.x + w.beside) (w.x - w.reach)) (leaving_y w.side w.from)

unfoldable pub line_svg : Way → List ℕ
line_svg w = codes "<path class=\"way c" ++ decimal w.colour ++ look_text w.look ++ codes "\" d=\"" ++ path_text w ++ codes "\"/>\n"

unfoldable pub way_svg : Way → List ℕ
way_svg w = line_svg w ++ arrow_svg w ++ label_svg w
