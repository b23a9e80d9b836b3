-- A unit by itself as a program.
use Rattle.std.specs.Prelude.{Bool, List}
use Rattle.f77_tree.specs.declared.statements.Labelled.{Labelled}
use Rattle.f77_tree.specs.declared.programs.Program.{Program}
use Rattle.layout_rules.specs.Layout.{program}
use Rattle.program_units.specs.Units.{standing_in}

abbrev pub own_program : List Labelled → (checked : Bool) → Program
own_program u checked = program (standing_in u) checked
