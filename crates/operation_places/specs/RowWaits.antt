-- What the lines and operands in the row of an operation wait for.
use Rattle.std.specs.Prelude.{◌<◌, ◌+◌, ◌==◌, ◌&&◌, ℕ, ℤ, Bool, true, List, Option, is_some, slice_get}
use Rattle.net_board.specs.Tokens.{is_before}
use Rattle.op_board.specs.OperationNets.{OperationNet}
use Rattle.op_board.specs.OperationTokens.{OperationTokens, passed_by, value_of}
use Rattle.operation_lists.specs.declared.operations.Operand.{Operand}
use Rattle.operation_lists.specs.declared.operations.Operand.TheVariants.{Known, Node}
use Rattle.operation_tables.specs.declared.hops.Hop.{Hop}

-- the line stands before the operation
abbrev pub hop_stands : OperationNet → OperationTokens → (piece : ℕ) → Hop → Bool
hop_stands x m piece hop = is_before x.net m.tokens piece hop.line && (passed_by m hop.line == hop.before)

-- the operand's value is there, where the piece has this first node
abbrev pub is_there : List (Option ℤ) → (first : ℕ) → Operand → Bool
is_there values first (Known z) = true
is_there values first (Node number) = is_some (value_of (slice_get values (first + number)))

-- an operand that is a value is one of so many nodes
abbrev pub IsBelow : (nodes first : ℕ) → Operand → Type 0
IsBelow nodes first (Known z) = Unit {0}
IsBelow nodes first (Node number) = first + number < nodes
