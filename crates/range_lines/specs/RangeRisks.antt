-- Which executables may trap, where subscripts that are seen in range don't count.
use Rattle.std.specs.Prelude.{◌≡◌, ℕ, ◌↔◌, Bool, true, List, Option, slice_get}
use Rattle.f77_tree.specs.declared.declarations.Dim.{Dim}
use Rattle.f77_tree.specs.declared.expressions.Expr.{Expr}
use Rattle.f77_tree.specs.declared.programs.Program.{Program}
use Rattle.f77_tree.specs.Known.{ExecMayTrapBut}
use Rattle.alias_classes.specs.Classes.{ClassTable}
use Rattle.cfg_build.specs.Passes.{kind_in}
use Rattle.dep_routing.specs.Touches.{IsFlagged}
use Rattle.loop_ranges.specs.Seen.{IsSeenInRange}
use Rattle.range_lines.specs.declared.reaches.Reach.{Reach}
use Rattle.range_lines.specs.Marks.{is_seen}

-- something in the executable k can trap but in its subscripts that are seen in range
abbrev pub MayTrapInRuns : Program → ClassTable → (k : ℕ) → Type 0
MayTrapInRuns p t k = ExecMayTrapBut (IsSeenInRange p t k) p.names (kind_in (slice_get p.execs k))

-- the flags tell of each executable whether that is so
abbrev pub AreRangeRisks : Program → ClassTable → (flags : List Bool) → Type 0
AreRangeRisks p t flags = (k : ℕ) → IsFlagged flags k ↔ MayTrapInRuns p t k

-- a subscript in the executable k is seen in range by the reaches of names
abbrev pub IsMarked : (current : List (Option Reach)) → (k : ℕ) → Expr → Dim → Type 0
IsMarked current k sub dim = is_seen current k (record { sub = sub; dim = dim }) ≡ true
