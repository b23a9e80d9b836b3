-- How many bytes an operation may write.
use Rattle.std.specs.Prelude.{ℕ}
use Rattle.f77_tree.specs.Line.{line_room}
use Rattle.op_board.specs.Operations.{Work, Write}

abbrev pub work_room : Work → ℕ
work_room (Write items) = line_room items
work_room _ = 0
