-- The picture of a run in rounds.
use Rattle.std.specs.Prelude.{◌≡◌, ◌≤◌, ◌+◌, ◌-◌, ◌*◌, ℕ, List, All, IfSome, length, map, min}
use Rattle.std.specs.List.Sorted.{IsPermutation}
use Rattle.printed_graphs.specs.declared.trace.Firing.{Firing}
use Rattle.svg_text.specs.declared.text.Rectangle.{Rectangle}
use Rattle.round_charts.specs.declared.page.Page.{Page}
use Rattle.round_charts.specs.declared.parts.Band.{Band}
use Rattle.round_charts.specs.declared.parts.DrawnCell.{DrawnCell}
use Rattle.round_charts.specs.declared.parts.Key.{Key}
use Rattle.round_charts.specs.declared.parts.Rounds.{Rounds}
use Rattle.round_charts.specs.declared.parts.Ruler.{Ruler}
use Rattle.round_charts.specs.declared.parts.Ruler.TheVariants as ruler
use Rattle.round_charts.specs.Grid.{key_drawn, keys_from}
use Rattle.round_charts.specs.Parts.{rounds_svg}

-- a place on a page
abbrev pub IsPlaceOn : Page → (x y : ℕ) → Type 0
IsPlaceOn page x y = (x ≤ page.width) × (y ≤ page.height)

abbrev pub IsRectangleOn : Page → Rectangle → Type 0
IsRectangleOn page r = IsPlaceOn page (r.x + r.width) (r.y + r.height)

abbrev pub IsRulerOn : Page → Ruler → Type 0
IsRulerOn page (ruler.Bar bar) = IsRectangleOn page bar
IsRulerOn page (ruler.Number place number) = IsPlaceOn page place.0 place.1

abbrev pub IsBandOn : Page → Band → Type 0
IsBandOn page b = IfSome b.shade (IsRectangleOn page) × IsPlaceOn page b.source.x b.source.y

-- a firing in the column of its round, where the first column begins at `left` and each is so wide
abbrev pub IsCellOn : (left wide : ℕ) → Page → DrawnCell → Type 0
IsCellOn left wide page c = (c.square.x ≡ min (left + (c.round - 1) * wide + 1) page.width) × IsRectangleOn page c.square

abbrev pub IsKeyOn : Page → Key → Type 0
IsKeyOn page k = IsRectangleOn page k.square × IsPlaceOn page k.legend.place.0 k.legend.place.1

-- the page of a picture
abbrev pub page_of : Rounds → Page
page_of r = record { width = r.width; height = r.height }

-- everything stands on the page
pub record IsOnPage (r : Rounds) : Type 0 where
  pub rulers : All (IsRulerOn (page_of r)) r.rulers.items
  pub bands : All (IsBandOn (page_of r)) r.bands.items
  pub left : ℕ
  pub wide : ℕ
  pub cells : All (IsCellOn left wide (page_of r)) r.cells.items
  pub keys : All (IsKeyOn (page_of r)) r.keys.items

-- a text shows the firings of the rounds up to `most`, a cell for each, on its page
pub record Shows (most : ℕ) (firings : List Firing) (rounds text : List ℕ) : Type 0 where
  pub picture : Rounds
  pub each : IsPermutation (keys_from most 0 firings rounds) (map key_drawn picture.cells.items)
  pub inside : IsOnPage picture
  pub firings_told : picture.firings ≡ min (length firings) (length rounds)
  pub drawn : text ≡ rounds_svg picture
