-- Where control can come into the ranges of DOs, by the decisions of a table.
use Rattle.std.specs.Prelude.{◌<◌, ℕ, Bool}
use Rattle.f77_tree.specs.declared.programs.Program.{Program}
use Rattle.f77_tree.specs.Loops.{do_start, do_next, InRange}
use Rattle.alias_classes.specs.Classes.{ClassTable}
use Rattle.region_tree.specs.Tree.{Tree}
use Rattle.cfg_build.specs.Flow.{flow}
use Rattle.dep_routing.specs.Routing.{Routing}
use Rattle.const_prop.specs.Closed.{IsClosed}
use Rattle.const_prop.specs.Right.{AreRouted}
use Rattle.const_prop.specs.Table.{Knowns}
use Rattle.simplified_forms.specs.Items.{IsEntered}

-- Where control can come to an executable in the range of a DO, by the decisions of a closed table, it can come to the beginning of the
-- DO.
abbrev pub LiveRangesHaveLiveStarts : Type 0
LiveRangesHaveLiveStarts = (p : Program) (c : ClassTable) (touches : ℕ → ℕ → Bool) (tree : Tree) (r : Routing) (t : Knowns) (n k : ℕ)
    → AreRouted p c touches tree r → IsClosed p (flow p.execs) c touches r t
    → n < p.loops → InRange p.execs n k → IsEntered p t k → IsEntered p t (do_start p.execs n)

-- So it is with the increment of the DO.
abbrev pub LiveIncrementsHaveLiveStarts : Type 0
LiveIncrementsHaveLiveStarts = (p : Program) (c : ClassTable) (touches : ℕ → ℕ → Bool) (tree : Tree) (r : Routing) (t : Knowns) (n : ℕ)
    → AreRouted p c touches tree r → IsClosed p (flow p.execs) c touches r t
    → n < p.loops → IsEntered p t (do_next p.execs n) → IsEntered p t (do_start p.execs n)
