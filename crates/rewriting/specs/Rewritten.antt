-- Programs written anew: the simplified form of a program by its own constants, and the shared form of that by its own available
-- expressions.
use Rattle.std.specs.Prelude.{◌≡◌, ◌+◌, ◌⊎◌, ℕ, Bool, List}
use Rattle.f77_tree.specs.declared.programs.Program.{Program}
use Rattle.alias_classes.specs.Classes.{ClassTable, IsClasses, class_count}
use Rattle.cfg_build.specs.Flow.{flow}
use Rattle.dep_routing.specs.OneTable.{EndAt}
use Rattle.dep_routing.specs.Routing.{Routing}
use Rattle.dep_routing.specs.Touches.{AreTouches}
use Rattle.const_prop.specs.Closed.{IsConstants}
use Rattle.const_prop.specs.Right.{IsProgramRouting}
use Rattle.const_prop.specs.Table.{Knowns}
use Rattle.flat_programs.specs.declared.statements.FlatLine.{FlatLine}
use Rattle.flat_programs.specs.FlatForm.{AreStatementsOf, IsFlatProgram}
use Rattle.flat_programs.specs.Text.{text as text_of}
use Rattle.redundancy.specs.Available.{Availability, IsAvailability}
use Rattle.shared_forms.specs.declared.ends.RewriteEnd.{RewriteEnd}
use Rattle.shared_forms.specs.declared.ends.RewriteEnd.TheVariants.{TooManyStatements}
use Rattle.shared_forms.specs.Shared.{IsRefused, IsShared, IsSharedText}
use Rattle.simplified_forms.specs.Simplified.{HasManySimplified, IsSimplified}

-- ---- the simplified form

-- the constants of a program, over its alias classes, what its pieces touch and no other piece does, and the wires of its lines
pub record AreConstantsOf (p : Program) (c : ClassTable) (t : Knowns) : Type 0 where
  pub touches : ℕ → ℕ → Bool
  pub wires : Routing
  pub classes : IsClasses p c
  pub touching : AreTouches p c touches
  pub no_others : EndAt (flow p.execs).graph.nodes touches
  pub routed : IsProgramRouting p touches (class_count c + 1) wires
  pub constants : IsConstants p (flow p.execs) c touches wires t

-- the simplified form of a program in a dialect, by the constants of the program
pub record IsSimplifiedOf (p : Program) (checked : Bool) (q : Program) : Type 0 where
  pub classes : ClassTable
  pub table : Knowns
  pub constants : AreConstantsOf p classes table
  pub simplified : IsSimplified p classes table checked q

-- it has too many statements
pub record HasManySimplifiedOf (p : Program) (checked : Bool) : Type 0 where
  pub classes : ClassTable
  pub table : Knowns
  pub constants : AreConstantsOf p classes table
  pub many : HasManySimplified p classes table checked

-- ---- the shared form

-- the available expressions of a flat program, by its alias classes
pub record AreAvailableOf (q : Program) (a : Availability) : Type 0 where
  pub flat : IsFlatProgram q
  pub classes : ClassTable
  pub are : IsClasses q classes
  pub available : IsAvailability q (flow q.execs) classes a

-- the shared form of a flat program, by the available expressions of the program
pub record IsSharedOf (q s : Program) : Type 0 where
  pub table : Availability
  pub available : AreAvailableOf q table
  pub shared : IsShared q table s

-- its text
pub record IsSharedTextOf (q : Program) (text : List ℕ) : Type 0 where
  pub table : Availability
  pub available : AreAvailableOf q table
  pub shared : IsSharedText q table text

-- it passes a limit
pub record IsRefusedOf (q : Program) (end : RewriteEnd) : Type 0 where
  pub table : Availability
  pub available : AreAvailableOf q table
  pub refused : IsRefused q table end

-- ---- both

-- the rewritten form of a program in a dialect: the shared form of its simplified form
pub record IsRewritten (p : Program) (checked : Bool) (s : Program) : Type 0 where
  pub form : Program
  pub simplified : IsSimplifiedOf p checked form
  pub shared : IsSharedOf form s

-- the text of the rewritten form of a program in a dialect
pub record IsRewrittenText (p : Program) (checked : Bool) (text : List ℕ) : Type 0 where
  pub form : Program
  pub rewritten : IsRewritten p checked form
  pub flat : List FlatLine
  pub statements : AreStatementsOf form flat
  pub is : text ≡ text_of form flat

-- there is a simplified form, and its shared form passes a limit
pub record IsSharingRefused (p : Program) (checked : Bool) (end : RewriteEnd) : Type 0 where
  pub form : Program
  pub simplified : IsSimplifiedOf p checked form
  pub refused : IsRefusedOf form end

-- there is no rewritten form: the simplified form has too many statements, or the shared form passes this limit
abbrev pub PassesLimit : Program → (checked : Bool) → (end : RewriteEnd) → Type 0
PassesLimit p checked end = (HasManySimplifiedOf p checked × (end ≡ TooManyStatements)) ⊎ IsSharingRefused p checked end
