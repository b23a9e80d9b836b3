-- The parts of a program of which its net of operations is made.
use Rattle.std.specs.Prelude.{◌≡◌, ℕ, Bool}
use Rattle.f77_tree.specs.declared.programs.Program.{Program}
use Rattle.alias_classes.specs.Classes.{ClassTable}
use Rattle.cfg_build.specs.Joined.{FlowGraph}
use Rattle.dep_routing.specs.Routing.{Routing}
use Rattle.net_board.specs.NetParts.{AreParts}

-- the parts of the net of a program are the program's own, with these classes
pub record AreOperationParts (p : Program) (f : FlowGraph) (c : ClassTable) (touches : (piece line : ℕ) → Bool) (routing : Routing) : Type 0 where
  pub parts : AreParts p f touches routing
  pub own_classes : parts.classes ≡ c
