-- The text of what stands beside and behind the lanes, in SVG.
use Rattle.std.specs.Prelude.{ℕ, List, ◌++◌, codes, string_bytes}
use Rattle.std.specs.Fmt.{decimal}
use Rattle.svg_text.specs.Svg.{place_text, rectangle_text, source_svg}
use Rattle.lane_parts.specs.declared.grounds.Frame.{Frame}
use Rattle.lane_parts.specs.declared.grounds.Name.{Name}
use Rattle.lane_parts.specs.declared.grounds.Note.{Note}
use Rattle.lane_parts.specs.declared.grounds.Statement.{Statement}

-- a thin rule, and the line of the source
unfoldable pub statement_svg : Statement → List ℕ
statement_svg s = codes "<path class=\"rule\" d=\"M8 " ++ decimal s.rule ++ codes "H" ++ decimal s.end ++ codes "\"/>" ++ source_svg s.source ++ codes "\n"

unfoldable pub frame_svg : Frame → List ℕ
frame_svg f =
    codes "<rect class=\"box\" rx=\"8\"" ++ rectangle_text f.square ++ codes "><title>region " ++ decimal f.region ++ codes "</title></rect>\n"

unfoldable pub note_svg : Note → List ℕ
note_svg n =
    codes "<text class=\"op\" data-node=\"" ++ decimal n.node ++ codes "\"" ++ place_text n.place.0 n.place.1 ++ codes ">" ++ string_bytes n.text ++ codes "</text>\n"

-- the beginning of the name of a lane of this colour
unfoldable pub tag_text : (colour : ℕ) → List ℕ
tag_text colour = codes "<text class=\"head f" ++ decimal colour ++ codes "\" text-anchor=\"middle\""

unfoldable pub name_svg : Name → List ℕ
name_svg n = tag_text n.colour ++ place_text n.place.0 n.place.1 ++ codes ">" ++ string_bytes n.text ++ codes "</text>\n"
