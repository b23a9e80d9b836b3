-- The parts of a program of which its net is made.
use Rattle.std.specs.Prelude.{◌≡◌, ◌≤◌, ℕ, suc, ℤ, Bool, false, List}
use Rattle.region_tree.specs.Tree.{Tree, IsRegionTree}
use Rattle.f77_tree.specs.declared.programs.Program.{Program}
use Rattle.f77_tree.specs.WellFormed.{IsWellFormed}
use Rattle.alias_classes.specs.Classes.{ClassTable, IsClasses, class_count}
use Rattle.cfg_build.specs.Flow.{flow}
use Rattle.cfg_build.specs.Joined.{FlowGraph}
use Rattle.dep_routing.specs.Routing.{Routing, IsRouting}
use Rattle.dep_routing.specs.Sound.{IsSound}
use Rattle.net_board.specs.Nodes.{NetOf}

-- The parts of the net of a program are the program's own, and the touches are sound, by whatever means it is seen which pieces can't trap.
pub record AreParts (p : Program) (f : FlowGraph) (touches : (piece line : ℕ) → Bool) (routing : Routing) : Type 0 where
  pub program : IsWellFormed p
  pub own_flow : f ≡ flow p.execs
  pub classes : ClassTable
  pub own_classes : IsClasses p classes
  pub tree : Tree
  pub own_tree : IsRegionTree (flow p.execs).graph tree
  pub sound_touches : IsSound p classes tree touches
  -- there are no other pieces
  pub outside : (piece line : ℕ) → (flow p.execs).graph.nodes ≤ piece → touches piece line ≡ false
  pub own_routing : IsRouting (flow p.execs).graph tree touches (suc (class_count classes)) routing

-- the net of a program over data, with these parts
abbrev pub net_with : Program → List ℤ → ((piece line : ℕ) → Bool) → Routing → NetOf
net_with p input touches routing = record { program = p; input = input; touches = touches; routing = routing }
