-- Operations as they are compiled, and as they are defined.
use Rattle.std.specs.Prelude.{List, map}
use Rattle.f77_tree.specs.Known.{known}
use Rattle.op_board.specs.Operations as board
use Rattle.operation_lists.specs.declared.operations.Operand.{Operand}
use Rattle.operation_lists.specs.declared.operations.Operand.TheVariants as operand
use Rattle.operation_lists.specs.declared.operations.Work.{Work}
use Rattle.operation_lists.specs.declared.operations.Work.TheVariants as work
use Rattle.operation_lists.specs.declared.operations.Operation.{Operation}

abbrev pub operand_seen : Operand → board.Operand
operand_seen (operand.Node number) = board.From number
operand_seen (operand.Known value) = board.Known value

-- an access is seen by its name, and by what is known of its subscripts
abbrev pub work_seen : Work → board.Work
work_seen (work.Load access) = board.Load access.now.name (map known access.now.subs)
work_seen (work.Operate op) = board.Operate op
work_seen (work.Store access) = board.Store access.now.name (map known access.now.subs)
work_seen work.Take = board.Take
work_seen (work.Write items) = board.Write items.now
work_seen (work.Begin loop_no var) = board.Begin loop_no var
work_seen (work.Advance loop_no var) = board.Advance loop_no var
work_seen work.DecideTruth = board.DecideTruth
work_seen work.DecideSign = board.DecideSign
work_seen (work.DecideNumber count) = board.DecideNumber count
work_seen (work.DecideTrips loop_no) = board.DecideTrips loop_no
work_seen work.DecideFirst = board.DecideFirst

abbrev pub operation_seen : Operation → board.Operation
operation_seen op = record { work = work_seen op.work; operands = map operand_seen op.operands.items }

-- the operations of a piece up to some place, and the operand that the last thing evaluated is
abbrev pub compiled_seen : List Operation → Operand → board.Compiled
compiled_seen done operand = record { done = map operation_seen done; operand = operand_seen operand }

-- or its operands
abbrev pub row_seen : List Operation → List Operand → board.CompiledRow
row_seen done operands = record { done = map operation_seen done; operands = map operand_seen operands }
