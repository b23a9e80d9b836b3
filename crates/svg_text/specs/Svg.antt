-- The texts of the parts of a picture.
use Rattle.std.specs.Prelude.{ℕ, List, [], ◌∷◌, ◌++◌, ◌==◌, ◌&&◌, if◌then◌else◌, codes, flat_map, nat_le}
use Rattle.std.specs.Fmt.{decimal}
use Rattle.svg_text.specs.declared.text.Rectangle.{Rectangle}
use Rattle.svg_text.specs.declared.text.SourceLine.{SourceLine}
use Rattle.svg_text.specs.declared.style.TheConstants.{SHEET}

-- the sheet of styles
unfoldable pub sheet_text : List ℕ
sheet_text = SHEET.now

abbrev pub extent_text : (width height : ℕ) → List ℕ
extent_text width height = codes " width=\"" ++ decimal width ++ codes "\" height=\"" ++ decimal height ++ codes "\""

-- the part of the plane that a picture of this size shows
abbrev pub view_text : (width height : ℕ) → List ℕ
view_text width height = codes " viewBox=\"0 0 " ++ decimal width ++ codes " " ++ decimal height ++ codes "\""

unfoldable pub size_text : (width height : ℕ) → List ℕ
size_text width height = extent_text width height ++ view_text width height

unfoldable pub place_text : (x y : ℕ) → List ℕ
place_text x y = codes " x=\"" ++ decimal x ++ codes "\" y=\"" ++ decimal y ++ codes "\""

unfoldable pub rectangle_text : Rectangle → List ℕ
rectangle_text r = place_text r.x r.y ++ extent_text r.width r.height

-- the beginning of a picture, with its sheet of styles and its ground
unfoldable pub opening_svg : (class : List ℕ) → (width height : ℕ) → List ℕ
opening_svg class width height =
    codes "<svg xmlns=\"http://www.w3.org/2000/svg\" class=\"" ++ class ++ codes "\"" ++ size_text width height ++ codes ">\n" ++ sheet_text
    ++ codes "\n<rect class=\"page\" width=\"100%\" height=\"100%\"/>\n"

-- a line of what the signs of a picture mean
unfoldable pub legend_svg : (x y : ℕ) → (words : List ℕ) → List ℕ
legend_svg x y words = codes "<text class=\"faint\"" ++ place_text x y ++ codes ">" ++ words ++ codes "</text>\n"

-- a byte of a text of others
abbrev pub escape : (byte : ℕ) → List ℕ
escape byte =
    if byte == 38 then codes "&amp;"
    else if byte == 60 then codes "&lt;"
    else if byte == 62 then codes "&gt;"
    else if byte == 34 then codes "&quot;"
    else if byte == 9 then codes " "
    else if nat_le 32 byte && nat_le byte 126 then byte ∷ []
    else codes "?"

-- the number of a line
unfoldable pub number_svg : (line y : ℕ) → List ℕ
number_svg line y = codes "<text class=\"no\" x=\"8\" y=\"" ++ decimal y ++ codes "\">" ++ decimal line ++ codes "</text>"

-- a line of the source: its number and its text
unfoldable pub source_svg : SourceLine → List ℕ
source_svg s =
    number_svg s.line s.y ++ codes "<text class=\"src\" xml:space=\"preserve\"" ++ place_text s.x s.y ++ codes ">" ++ flat_map escape s.text.now ++ codes "</text>"
