-- The units of a text (ANSI X3.9-1978, section 2.4).
use Rattle.std.specs.Prelude.{Bool, true, false, List, flat_map, Option, Some, None, slice_get}
use Rattle.fortran_tree.specs.declared.error.Place.{Place}
use Rattle.fortran_tree.specs.declared.heads.Head.{Head}
use Rattle.fortran_tree.specs.declared.heads.Head.TheVariants.{Subroutine, Function, BlockData, End}
use Rattle.fortran_tree.specs.declared.statements.Statement.{Statement}
use Rattle.unit_tables.specs.declared.units.Unit.{Unit}

-- the kind of a statement, END where there is none
abbrev pub head_at : Option Statement → Head
head_at None = End
head_at (Some statement) = statement.head

-- where a statement stands, before all lines where there is none
abbrev pub place_at : Option Statement → Place
place_at None = record { line = 0; column = 0 }
place_at (Some statement) = statement.place

-- no SUBROUTINE, FUNCTION or BLOCK DATA begins with it
abbrev pub begins_main : Head → Bool
begins_main Subroutine = false
begins_main (Function kind) = false
begins_main BlockData = false
begins_main _ = true

abbrev pub is_main : Unit → Bool
is_main unit = begins_main (head_at (slice_get unit.statements.items 0))

-- the statements of units, one after another
abbrev pub all_statements : List Unit → List Statement
all_statements units = flat_map (λ unit. unit.statements.items) units
