-- The operations of a piece while they are performed one after another, over a list of the values that they gave so far.
use Rattle.std.specs.Prelude.{◌≤◌, ℕ, ℤ, List, length, map, drop, Result}
use Rattle.op_table.specs.declared.Trap.{Trap}
use Rattle.f77_meaning.specs.Room.{most_room}
use Rattle.f77_meaning.specs.Storage.{memory_of}
use Rattle.f77_meaning.specs.declared.storage.Storage.{Storage}
use Rattle.f77_tree.specs.Execution.{Memory}
use Rattle.net_board.specs.SoundNets.{HasSizesOf}
use Rattle.op_board.specs.Effects.{Effect, Ran, changes, operand_at, performed, ran}
use Rattle.op_board.specs.OperationNets.{OperationNet, operation_at, operations_at}

-- what comes of an operation of a piece over the values of those before it
abbrev pub performed_over : OperationNet → (piece i : ℕ) → Memory → (values : List ℤ) → Result Effect Trap
performed_over x piece i m values = performed x.net.program.names x.net.input m (operation_at x piece i).work (map (operand_at values) (operation_at x piece i).operands)

-- what becomes of the operations of a piece from this one on, where those before have these values and left this memory
abbrev pub ran_from : OperationNet → (piece i : ℕ) → Memory → (values : List ℤ) → Ran
ran_from x piece i m values = ran x.net.program.names x.net.input values (changes m) (drop i (operations_at x piece))

-- what operations rely on: a storage of the program's sizes, room for its lines, and for so many values
pub record HasRoom (x : OperationNet) (most : ℕ) (storage : Storage) (line_room value_room : ℕ) : Type 0 where
  pub sizes : HasSizesOf x.net.program (memory_of storage)
  pub taken : storage.taken ≤ length x.net.input
  pub lines : most_room x.net.program.execs ≤ line_room
  pub values : most ≤ value_room
