-- How many steps the shared form of the simplified form of a program takes for steps of the program.
use Rattle.std.specs.Prelude.{ℕ, ◌+◌, ◌*◌, ◌≤◌, ℤ, Bool, List, All}
use Rattle.op_table.specs.Words.{IsWord}
use Rattle.f77_tree.specs.declared.programs.Program.{Program}
use Rattle.f77_tree.specs.Operations.{most_operations}
use Rattle.f77_tree.specs.Run.{source}
use Rattle.alias_classes.specs.Classes.{ClassTable}
use Rattle.region_tree.specs.Tree.{Tree}
use Rattle.cfg_build.specs.Flow.{flow}
use Rattle.dep_routing.specs.Routing.{Routing}
use Rattle.const_prop.specs.Closed.{IsConstants}
use Rattle.const_prop.specs.Right.{AreRouted}
use Rattle.const_prop.specs.Table.{Knowns}
use Rattle.redundancy.specs.Available.{Availability}
use Rattle.shared_laws.specs.SharedRuns.{AgreeUpTo, IsSharedBy}
use Rattle.simplified_forms.specs.Simplified.{IsSimplified}

-- After n steps of the program the rewritten one agrees with it, on its words, after at most so many steps for each of them: three, and
-- one for each operation of the statement that asks for most.
pub record FollowsWithin (p s : Program) (input : List ℤ) (n : ℕ) : Type 0 where
  pub steps : ℕ
  pub most : steps ≤ (most_operations p + 3) * n
  pub agrees : AgreeUpTo p.words (source p input n) (source s input steps)

-- So it is with the shared form of the simplified form of a program, over data of words.
abbrev pub RewrittenProgramsFollow : Type 0
RewrittenProgramsFollow = (p : Program) (c : ClassTable) (touches : ℕ → ℕ → Bool) (tree : Tree) (r : Routing) (t : Knowns) (checked : Bool) (q : Program) (d : ClassTable) (a : Availability) (s : Program) (input : List ℤ) (n : ℕ)
    → AreRouted p c touches tree r → IsConstants p (flow p.execs) c touches r t → IsSimplified p c t checked q → IsSharedBy q d a s → All IsWord input
    → FollowsWithin p s input n
