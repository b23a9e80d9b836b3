-- Lines and names of a source, for those of the text that was made of it.
use Rattle.std.specs.Prelude.{ℕ, zero, suc, List, [], ◌∷◌, Option, Some, None, if◌then◌else◌, slice_get, unwrap_or}
use Rattle.std.specs.Str.{bytes_eq}
use Rattle.std.specs.String.{string_bytes}
use Rattle.std.specs.declared.alloc.Global.{Global}
use Rattle.std.specs.declared.string.String.{String}
use Rattle.source_maps.specs.declared.map.SourceMap.{SourceMap}

-- for each line of the text that of the source, and names of the source, each with that of the text
pub record Map : Type 0 where
  pub lines : List ℕ
  pub names : List (String Global × String Global)

-- a text that is its own source
abbrev pub no_map : Map
no_map = record { lines = []; names = [] }

abbrev pub map_of : SourceMap → Map
map_of m = record { lines = m.lines.now; names = m.names.now }

-- the line of the source for a line of the text, both counted from 1; one that the map doesn't have stays
abbrev pub line_in : (lines : List ℕ) → (line : ℕ) → ℕ
line_in lines zero = zero
line_in lines (suc k) = unwrap_or (slice_get lines k) (suc k)

-- the name of the source that has become this one
abbrev pub long_in : List (String Global × String Global) → (name : List ℕ) → Option (List ℕ)
long_in [] name = None
long_in (both ∷ rest) name = if bytes_eq (string_bytes both.1) name then Some (string_bytes both.0) else long_in rest name

-- the same, or the name itself
abbrev pub name_in : List (String Global × String Global) → (name : List ℕ) → List ℕ
name_in names name = unwrap_or (long_in names name) name
