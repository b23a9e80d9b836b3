-- Statements without a fault of labels, loops and blocks.
use Rattle.std.specs.Prelude.{◌≡◌, ℕ, List, [], None, filter, length, Bool}
use Rattle.f77_tree.specs.Control.{SuccessorsExist}
use Rattle.f77_tree.specs.Loops.{AreLoops}
use Rattle.f77_tree.specs.declared.programs.Exec.{Exec}
use Rattle.f77_tree.specs.declared.statements.Labelled.{Labelled}
use Rattle.layout_rules.specs.Executables.{is_do, executables}
use Rattle.layout_rules.specs.Faults.{first_line}
use Rattle.layout_rules.specs.Jumps.{jumps_into}
use Rattle.layout_rules.specs.Labels.{is_labelled_twice, lacks_label}
use Rattle.layout_rules.specs.Nesting.{first_unnested}
use Rattle.layout_rules.specs.Source.{IsSource}
use Rattle.f77_tree.specs.declared.programs.NameInfo.{NameInfo}

-- A source in which each label stands once, those that are used stand where they may, loops and blocks are nested, and no jump
-- leads into them.
pub record IsStructured (stmts : List Labelled) : Type 0 where
  pub source : IsSource stmts
  pub once : first_line is_labelled_twice stmts ≡ None
  pub borne : first_line (lacks_label stmts) stmts ≡ None
  pub nested : first_unnested [] stmts ≡ None
  pub stays : first_line (jumps_into stmts) stmts ≡ None

abbrev pub loop_count : List Labelled → ℕ
loop_count stmts = length (filter (λ s. is_do s.stmt) stmts)

-- control leads from each executable to others of the list, and so many loops are its loops
pub record LeadsWithin (execs : List Exec) (count : ℕ) : Type 0 where
  pub successors : SuccessorsExist execs
  pub loops : AreLoops execs count

-- control leads from each executable to others of the program, and the DOs are the loops of the executables
abbrev pub ControlLeadsWithinPrograms : Type 0
ControlLeadsWithinPrograms = (names : List NameInfo) (checked : Bool) (stmts : List Labelled)
    → IsStructured stmts → LeadsWithin (executables names checked stmts) (loop_count stmts)
