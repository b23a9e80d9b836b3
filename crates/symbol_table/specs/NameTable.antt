-- The table of names as it is kept: by name, with what the declarations say of it.
use Rattle.std.specs.Prelude.{ℕ, List}
use Rattle.f77_tree.specs.declared.programs.NameInfo.{NameInfo}
use Rattle.symbol_table.specs.declared.names.Symbol.{Symbol}

-- a name with its symbol, at the place 0
abbrev pub info_of : List ℕ × Symbol → NameInfo
info_of entry = record { name = entry.0; kind = entry.1.kind; dims = entry.1.dims; place = 0 }
