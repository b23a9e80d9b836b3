-- The text of a picture of rounds, in SVG: each of its parts once, one after another.
use Rattle.std.specs.Prelude.{ℕ, List, [], ◌++◌, ◌-◌, ◌==◌, if◌then◌else◌, Option, Some, None, codes, flat_map, length, string_bytes}
use Rattle.std.specs.Fmt.{decimal}
use Rattle.svg_text.specs.Svg.{legend_svg, opening_svg, place_text, rectangle_text, source_svg}
use Rattle.svg_text.specs.declared.text.Rectangle.{Rectangle}
use Rattle.round_charts.specs.declared.parts.TheConstants.{COLUMNS}
use Rattle.round_charts.specs.declared.parts.Band.{Band}
use Rattle.round_charts.specs.declared.parts.DrawnCell.{DrawnCell}
use Rattle.round_charts.specs.declared.parts.Key.{Key}
use Rattle.round_charts.specs.declared.parts.Letters.{Letters}
use Rattle.round_charts.specs.declared.parts.Rounds.{Rounds}
use Rattle.round_charts.specs.declared.parts.Ruler.{Ruler}
use Rattle.round_charts.specs.declared.parts.Ruler.TheVariants as ruler
use Rattle.round_charts.specs.declared.parts.Style.{Style}
use Rattle.round_charts.specs.declared.parts.Style.TheVariants as style

-- how many firings are left out, if any
unfoldable pub later_svg : (later : ℕ) → List ℕ
later_svg later = if later == 0 then [] else codes "<text class=\"faint\" x=\"8\" y=\"38\">" ++ decimal later ++ codes " later ones are left out</text>\n"

unfoldable pub heading_svg : (firings rounds later : ℕ) → List ℕ
heading_svg firings rounds later =
    codes "<text class=\"head\" x=\"8\" y=\"20\">" ++ decimal firings ++ codes " firings in " ++ decimal rounds ++ codes " rounds</text>\n" ++ later_svg later

unfoldable pub ruler_svg : Ruler → List ℕ
ruler_svg (ruler.Bar bar) = codes "<rect class=\"bar\"" ++ rectangle_text bar ++ codes "/>\n"
ruler_svg (ruler.Number place number) = codes "<text class=\"axis\"" ++ place_text place.0 place.1 ++ codes ">" ++ decimal number ++ codes "</text>\n"

-- the ground of rows, if they have one
unfoldable pub shade_svg : Option Rectangle → List ℕ
shade_svg None = []
shade_svg (Some shade) = codes "<rect class=\"band\"" ++ rectangle_text shade ++ codes "/>\n"

-- a ground, and the line of the source
unfoldable pub band_svg : Band → List ℕ
band_svg b = shade_svg b.shade ++ source_svg b.source ++ codes "\n"

unfoldable pub style_text : Style → List ℕ
style_text style.Load = codes "load"
style_text style.Store = codes "store"
style_text style.Print = codes "print"
style_text style.Apply = codes "apply"
style_text style.Steer = codes "steer"
style_text style.Route = codes "route"

-- a square of a colour, and what it means
unfoldable pub key_svg : Key → List ℕ
key_svg k =
    codes "<g class=\"key " ++ style_text k.style ++ codes "\"><rect" ++ rectangle_text k.square ++ codes "/></g>"
    ++ legend_svg k.legend.place.0 k.legend.place.1 k.legend.words.now

unfoldable pub letters_svg : Letters → List ℕ
letters_svg l = codes "<text" ++ place_text l.place.0 l.place.1 ++ codes ">" ++ string_bytes l.text ++ codes "</text>"

-- the letters on a firing, if there are any
unfoldable pub over_svg : Option Letters → List ℕ
over_svg None = []
over_svg (Some letters) = letters_svg letters

-- what a firing tells, and its square with the letters on it
unfoldable pub face_svg : (title : List ℕ) → Rectangle → Option Letters → List ℕ
face_svg title square letters = codes "<title>" ++ title ++ codes "</title><rect" ++ rectangle_text square ++ codes "/>" ++ over_svg letters

-- a node and a firing, as attributes
unfoldable pub of_text : (node firing : ℕ) → List ℕ
of_text node firing = codes " data-node=\"" ++ decimal node ++ codes "\" data-firing=\"" ++ decimal firing ++ codes "\""

unfoldable pub cell_svg : DrawnCell → List ℕ
cell_svg c =
    codes "<g class=\"cell " ++ style_text c.style ++ codes "\"" ++ of_text c.node c.firing ++ codes ">" ++ face_svg (string_bytes c.title) c.square c.letters ++ codes "</g>\n"

-- what stands above the columns, with the bars
unfoldable pub head_svg : Rounds → List ℕ
head_svg r = heading_svg (length r.cells.items) r.rounds (r.firings - length r.cells.items) ++ flat_map ruler_svg r.rulers.items

unfoldable pub grid_svg : Rounds → List ℕ
grid_svg r = head_svg r ++ flat_map band_svg r.bands.items ++ flat_map cell_svg r.cells.items

-- what the colours, the columns and the bars mean
unfoldable pub foot_svg : Rounds → List ℕ
foot_svg r = flat_map key_svg r.keys.items ++ legend_svg 8 (r.height - 12) COLUMNS.now

unfoldable pub rounds_svg : Rounds → List ℕ
rounds_svg r = opening_svg (codes "rounds") r.width r.height ++ grid_svg r ++ foot_svg r ++ codes "</svg>\n"
