-- The lines of statements as they are written one after another.
use Rattle.std.specs.Prelude.{◌≡◌, List, ◌++◌, flat_map}
use Rattle.std.specs.List.{list_any}
use Rattle.flat_programs.specs.declared.page.Page.{Page}
use Rattle.flat_programs.specs.Lines.{Typeset, lines_of, is_long}

-- a page has the lines of these statements, and tells whether one of them is too long
pub record IsPage (page : Page) (ts : List Typeset) : Type 0 where
  pub bytes : page.bytes.items ≡ flat_map lines_of ts
  pub is_long : page.is_long ≡ list_any is_long ts

-- these statements come after those that are there
abbrev pub Grows : (old new : Page) → List Typeset → Type 0
Grows old new more = (ts : List Typeset) → IsPage old ts → IsPage new (ts ++ more)
