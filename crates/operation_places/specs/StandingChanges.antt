-- What the firing of an operation changes of the places of lines, decisions and values.
use Rattle.std.specs.Prelude.{ℕ, Some, None}
use Rattle.net_board.specs.Nodes.{switches}
use Rattle.net_board.specs.Tokens.{led_from, with_all}
use Rattle.op_board.specs.OperationNets.{OperationNet, last_needed, needed, operation_at}
use Rattle.op_board.specs.OperationTokens.{OperationTokens, passed_after, replaced, taken_values}
use Rattle.op_board.specs.WholePieces.{lines_moved_at}

-- the operands are taken
abbrev pub values_taken : OperationNet → OperationTokens → (piece i : ℕ) → OperationTokens
values_taken x m piece i = record m { values = taken_values x m piece (operation_at x piece i) }

-- the lines that the operation needs have passed it, and after the last one that needs them they are led along the edge
abbrev pub lines_moved : OperationNet → OperationTokens → (piece i edge : ℕ) → OperationTokens
lines_moved x m piece i edge = record m {
  tokens = record m.tokens { lines = with_all m.tokens.lines (last_needed x piece i) (led_from x.net edge) };
  passed = replaced m.passed (needed x piece i) (passed_after x m piece i);
}

-- the lines that the operation needs vanish
abbrev pub lines_dropped : OperationNet → OperationTokens → (piece i : ℕ) → OperationTokens
lines_dropped x m piece i = record m {
  tokens = record m.tokens { lines = with_all m.tokens.lines (needed x piece i) (λ line. None) };
  passed = replaced m.passed (needed x piece i) (λ line. 0);
}

-- the edge is left for the switches of the piece
abbrev pub room_filled : OperationNet → OperationTokens → (piece edge : ℕ) → OperationTokens
room_filled x m piece edge = record m { tokens = record m.tokens { edges = with_all m.tokens.edges (switches x.net piece) (λ switch. Some edge) } }

-- the lines that the nodes of a piece move are led along the edge
abbrev pub lines_led : OperationNet → OperationTokens → (piece edge : ℕ) → OperationTokens
lines_led x m piece edge = record m { tokens = record m.tokens { lines = with_all m.tokens.lines (lines_moved_at x.net piece) (led_from x.net edge) } }
