-- What touches by ranges give.
use Rattle.std.specs.Prelude.{◌≡◌, ℕ, Bool, slice_get}
use Rattle.f77_tree.specs.declared.programs.Program.{Program}
use Rattle.f77_tree.specs.Touched.{ExecReadsData}
use Rattle.f77_tree.specs.WellFormed.{IsWellFormed}
use Rattle.alias_classes.specs.Classes.{ClassTable, IsClasses}
use Rattle.cfg_build.specs.Flow.{flow}
use Rattle.cfg_build.specs.Passes.{kind_in}
use Rattle.region_tree.specs.Tree.{Tree, IsRegionTree}
use Rattle.dep_routing.specs.OneTable.{EndAt}
use Rattle.dep_routing.specs.Sound.{IsSound}
use Rattle.dep_routing.specs.Touches.{AreTouchesBy}
use Rattle.range_lines.specs.RangeRisks.{MayTrapInRuns}

-- the tests tell for each piece which lines it touches, where subscripts that are seen in range can't trap
abbrev pub AreRangeTouches : Program → ClassTable → (touches : ℕ → ℕ → Bool) → Type 0
AreRangeTouches p t touches = AreTouchesBy p t (MayTrapInRuns p t) touches

-- what takes data may trap
abbrev pub TakingMayTrap : Type 0
TakingMayTrap = (p : Program) (t : ClassTable) (k : ℕ) → IsWellFormed p → IsClasses p t → ExecReadsData (kind_in (slice_get p.execs k)) → MayTrapInRuns p t k

-- such touches are sound
abbrev pub RangeTouchesAreSound : Type 0
RangeTouchesAreSound = (p : Program) (c : ClassTable) (t : Tree) (touches : ℕ → ℕ → Bool)
    → IsWellFormed p → IsClasses p c → IsRegionTree (flow p.execs).graph t → AreRangeTouches p c touches → IsSound p c t touches

-- a program has one table of them
abbrev pub OneRangeTouching : Type 0
OneRangeTouching = (p : Program) (c d : ClassTable) (touches others : ℕ → ℕ → Bool)
    → IsClasses p c → IsClasses p d → AreRangeTouches p c touches → AreRangeTouches p d others
    → EndAt (flow p.execs).graph.nodes touches → EndAt (flow p.execs).graph.nodes others → touches ≡ others
