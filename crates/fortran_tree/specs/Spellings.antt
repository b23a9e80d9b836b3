-- Names and their spellings.
use Rattle.std.specs.Prelude.{ℕ, Bool, ◌==◌, List, [], map, Option, Some, None, string_bytes, slice_get}
use Rattle.fortran_tree.specs.declared.name_table.Name.{Name}
use Rattle.fortran_tree.specs.declared.name_table.Names.{Names}

-- both names are the same place of a table
abbrev pub same_name : Name → Name → Bool
same_name a b = a.0 == b.0

-- the spellings of the names, in the order in which they were added
abbrev pub spellings : Names → List (List ℕ)
spellings names = map string_bytes names.spellings.keys

abbrev pub spelling_at : Option (List ℕ) → List ℕ
spelling_at None = []
spelling_at (Some spelling) = spelling

-- the spelling of a name of the table, empty for another one
abbrev pub spelling_of : Names → Name → List ℕ
spelling_of names name = spelling_at (slice_get (spellings names) name.0)
