-- What contracts see of the parts of a net with its tables.
use Rattle.std.specs.Prelude.{ℕ}
use Rattle.net_board.specs.Nodes.{NetOf}
use Rattle.net_tables.specs.declared.lookups.Board.{Board}
use Rattle.net_tables.specs.PartsView.{net_in}

module _ {W : ℕ} where
  abbrev pub net_on : Board W → NetOf
  net_on board = net_in board.plan
