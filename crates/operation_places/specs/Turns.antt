-- The nodes of a piece for lines that it doesn't touch.
use Rattle.std.specs.Prelude.{◌==◌, ◌&&◌, ℕ, Bool, true, false}
use Rattle.firing.specs.declared.system.NodeName.{NodeName}
use Rattle.firing.specs.declared.system.NodeName.TheVariants.{Merge, Switch}

-- the node is the switch or the merge of the line at the piece
abbrev pub is_turn : NodeName → (piece line : ℕ) → Bool
is_turn (Switch own other) piece line = own == piece && other == line
is_turn (Merge own other) piece line = own == piece && other == line
is_turn _ piece line = false

-- the node is a switch or a merge
abbrev pub is_turning : NodeName → Bool
is_turning (Switch piece line) = true
is_turning (Merge piece line) = true
is_turning _ = false
