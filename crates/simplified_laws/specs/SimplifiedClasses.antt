-- The simplified form of a program has the words of the program, and no more DOs and classes than it.
use Rattle.std.specs.Prelude.{◌≤◌, Bool}
use Rattle.f77_tree.specs.declared.programs.Program.{Program}
use Rattle.f77_tree.specs.WellFormed.{IsWellFormed}
use Rattle.alias_classes.specs.Classes.{ClassTable}
use Rattle.alias_classes.specs.Number.{number_of_classes}
use Rattle.alias_classes.specs.WriteLaws.{HaveSameWords}
use Rattle.const_prop.specs.Table.{Knowns}
use Rattle.simplified_forms.specs.Simplified.{IsSimplified}

pub record HasNoMoreClasses (p q : Program) : Type 0 where
  pub words : HaveSameWords p q
  pub loops : q.loops ≤ p.loops
  pub classes : number_of_classes q ≤ number_of_classes p

abbrev pub SimplifiedProgramsHaveNoMoreClasses : Type 0
SimplifiedProgramsHaveNoMoreClasses = (p : Program) (c : ClassTable) (t : Knowns) (checked : Bool) (q : Program) → IsWellFormed p → IsSimplified p c t checked q → HasNoMoreClasses p q
