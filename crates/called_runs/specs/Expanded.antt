-- A text with subroutines, and the program of the list that it comes to.
use Rattle.std.specs.Prelude.{◌≡◌, Bool, List, None, Ok}
use Rattle.f77_tree.specs.declared.programs.Program.{Program}
use Rattle.f77_tree.specs.declared.statements.Labelled.{Labelled}
use Rattle.layout_rules.specs.Layout.{layout}
use Rattle.layout_rules.specs.Source.{IsSource}
use Rattle.program_units.specs.Expansion.{whole_list}
use Rattle.program_units.specs.Refusals.{unit_refusal}
use Rattle.program_units.specs.Texts.{IsText}
use Rattle.program_units.specs.Units.{units}

-- nothing refuses the units, and the list can be laid out and is the program p
pub record IsExpanded (stmts : List Labelled) (checked : Bool) (p : Program) : Type 0 where
  pub text : IsText stmts
  pub accepted : unit_refusal stmts checked ≡ None
  pub source : IsSource (whole_list (units stmts))
  pub laid : layout (whole_list (units stmts)) checked ≡ Ok p
