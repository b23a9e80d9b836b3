-- The text of a lane chart, in SVG: each of its parts once, one after another.
use Rattle.std.specs.Prelude.{ℕ, List, ◌++◌, ◌-◌, codes, flat_map}
use Rattle.svg_text.specs.Svg.{legend_svg, opening_svg}
use Rattle.lane_parts.specs.declared.chart.TheConstants.{MARKS, REGIONS}
use Rattle.lane_parts.specs.declared.chart.Chart.{Chart}
use Rattle.lane_parts.specs.Grounds.{frame_svg, name_svg, note_svg, statement_svg}
use Rattle.lane_parts.specs.Marks.{mark_svg}
use Rattle.lane_parts.specs.Ways.{way_svg}

unfoldable pub grounds_svg : Chart → List ℕ
grounds_svg c = flat_map statement_svg c.statements.items ++ flat_map frame_svg c.frames.items ++ flat_map note_svg c.notes.items

-- the names above the lanes, and the marks on them
unfoldable pub named_svg : Chart → List ℕ
named_svg c = flat_map name_svg c.names.items ++ flat_map mark_svg c.marks.items

-- what the marks mean
unfoldable pub legends_svg : (height : ℕ) → List ℕ
legends_svg height = legend_svg 8 (height - 40) MARKS.now ++ legend_svg 8 (height - 20) REGIONS.now

unfoldable pub lanes_svg : Chart → List ℕ
lanes_svg c = flat_map way_svg c.ways.items ++ named_svg c ++ legends_svg c.height

unfoldable pub chart_svg : Chart → List ℕ
chart_svg c = opening_svg (codes "lanes") c.width c.height ++ grounds_svg c ++ lanes_svg c ++ codes "</svg>\n"
