-- A program has one table of touches, and touches have one table of wires.
use Rattle.std.specs.Prelude.{◌≡◌, ◌<◌, ◌≤◌, ℕ, Bool, false, List, length}
use Rattle.class_set.specs.declared.ClassSet.{ClassSet}
use Rattle.closed_walks.specs.Graph.{Graph}
use Rattle.closed_walks.specs.Region.{IsFlowGraph}
use Rattle.f77_tree.specs.declared.programs.Program.{Program}
use Rattle.alias_classes.specs.Classes.{ClassTable, IsClasses}
use Rattle.cfg_build.specs.Flow.{flow}
use Rattle.region_tree.specs.Tree.{Tree, IsRegionTree}
use Rattle.dep_routing.specs.LineTable.{HaveRows}
use Rattle.dep_routing.specs.Routing.{Routing, IsRouting, next_at, wire_at}
use Rattle.dep_routing.specs.Touch.{touches_in}
use Rattle.dep_routing.specs.Touches.{AreTouches}

-- ---- touches

-- the nodes from this number on touch no line
abbrev pub EndAt : (nodes : ℕ) → (touches : ℕ → ℕ → Bool) → Type 0
EndAt nodes touches = (node line : ℕ) → nodes ≤ node → touches node line ≡ false

-- so it is of sets for so many nodes
abbrev pub SetsEnd : Type 0
SetsEnd = (W : ℕ) (sets : List (ClassSet W)) → EndAt (length sets) (touches_in sets)

-- Two tests that tell the lines of the pieces of one program, and of no other pieces, are the same.
abbrev pub OneTouching : Type 0
OneTouching = (p : Program) (c d : ClassTable) (touches others : ℕ → ℕ → Bool)
    → IsClasses p c → IsClasses p d → AreTouches p c touches → AreTouches p d others
    → EndAt (flow p.execs).graph.nodes touches → EndAt (flow p.execs).graph.nodes others → touches ≡ others

-- ---- wires

-- two tables of one size have the same cells
pub record HaveSameCells (r s : Routing) : Type 0 where
  pub lines : r.lines ≡ s.lines
  pub edges : r.edges ≡ s.edges
  pub next : (line e : ℕ) → line < r.lines → e < r.edges → next_at r line e ≡ next_at s line e
  pub wires : (line e : ℕ) → line < r.lines → e < r.edges → wire_at r line e ≡ wire_at s line e

-- they are the same, where they have no other cells
abbrev pub SameCellsSameTable : Type 0
SameCellsSameTable = (r s : Routing) → HaveRows r → HaveRows s → HaveSameCells r s → r ≡ s

-- Two tables of the wires of one graph, with the same touches, are the same.
abbrev pub OneRouting : Type 0
OneRouting = (g : Graph) (t u : Tree) (touches : ℕ → ℕ → Bool) (lines : ℕ) (r s : Routing)
    → IsFlowGraph g → IsRegionTree g t → IsRegionTree g u → IsRouting g t touches lines r → IsRouting g u touches lines s
    → HaveRows r → HaveRows s → r ≡ s
