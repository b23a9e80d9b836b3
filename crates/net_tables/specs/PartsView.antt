-- What contracts see of the parts of a net.
use Rattle.std.specs.Prelude.{ℕ}
use Rattle.dep_routing.specs.Touch.{touches_in}
use Rattle.net_board.specs.Nodes.{NetOf}
use Rattle.net_tables.specs.declared.program_parts.Plan.{Plan}

module _ {W : ℕ} where
  -- what firings never change
  abbrev pub net_in : Plan W → NetOf
  net_in plan = record { program = plan.program.now; input = plan.input.items; touches = touches_in plan.touch.now; routing = plan.routes.now }
