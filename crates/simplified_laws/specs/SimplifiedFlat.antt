-- The simplified form of a program is a flat program.
use Rattle.std.specs.Prelude.{ℕ, Bool, List}
use Rattle.f77_tree.specs.declared.programs.Program.{Program}
use Rattle.alias_classes.specs.Classes.{ClassTable}
use Rattle.region_tree.specs.Tree.{Tree}
use Rattle.cfg_build.specs.Flow.{flow}
use Rattle.dep_routing.specs.Routing.{Routing}
use Rattle.const_prop.specs.Closed.{IsConstants}
use Rattle.const_prop.specs.Right.{AreRouted}
use Rattle.const_prop.specs.Table.{Knowns}
use Rattle.flat_programs.specs.declared.statements.FlatLine.{FlatLine}
use Rattle.flat_programs.specs.FlatForm.{IsFlat, IsFlatProgram}
use Rattle.simplified_forms.specs.Simplified.{AreSimplified, IsSimplified}

-- The statements of the simplified form of a program by its constants are flat.
abbrev pub SimplifiedStatementsAreFlat : Type 0
SimplifiedStatementsAreFlat = (p : Program) (c : ClassTable) (touches : ℕ → ℕ → Bool) (tree : Tree) (r : Routing) (t : Knowns) (checked : Bool)
    (flat : List FlatLine) → AreRouted p c touches tree r → IsConstants p (flow p.execs) c touches r t → AreSimplified p c t checked flat → IsFlat flat

-- The simplified form of a program by its constants is a flat program.
abbrev pub SimplifiedProgramsAreFlat : Type 0
SimplifiedProgramsAreFlat = (p : Program) (c : ClassTable) (touches : ℕ → ℕ → Bool) (tree : Tree) (r : Routing) (t : Knowns) (checked : Bool) (q : Program)
    → AreRouted p c touches tree r → IsConstants p (flow p.execs) c touches r t → IsSimplified p c t checked q → IsFlatProgram q
