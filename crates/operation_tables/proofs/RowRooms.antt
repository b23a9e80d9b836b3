-- How many bytes a task may write.
use Rattle.std.proofs.Common.{◌≤◌, ℕ, List, [], ◌∷◌, sym, subst, arith}
use Rattle.f77_tree.specs.declared.programs.Item.{Item}
use Rattle.f77_tree.specs.declared.programs.NameInfo.{NameInfo}
use Rattle.f77_tree.specs.Line.{line_room}
use Rattle.op_board.specs.Operations as board
use Rattle.operation_effects.specs.Tasks.{IsTaskOf, task_room}
use Rattle.operation_effects.specs.declared.tasks.Task.{Task}
use Rattle.operation_effects.specs.declared.tasks.Task.TheVariants as task
use Rattle.operation_tables.specs.RowRoom.{work_room}

-- a task writes no more than its operation
pub task_within : (names : List NameInfo) (work : board.Work) (of_work : Task) (room : ℕ) → IsTaskOf names work of_work → work_room work ≤ room → task_room of_work ≤ room
task_within names work (task.Load word kind) room is within = omega arith
task_within names work (task.LoadAt word size kind) room is within = omega arith
task_within names work (task.Operate op) room is within = omega arith
task_within names work task.Add room is within = omega arith
task_within names work task.Sub room is within = omega arith
task_within names work task.Mul room is within = omega arith
task_within names work task.Lt room is within = omega arith
task_within names work task.Le room is within = omega arith
task_within names work task.Eq room is within = omega arith
task_within names work task.Ne room is within = omega arith
task_within names work task.Ge room is within = omega arith
task_within names work task.Gt room is within = omega arith
task_within names work task.Bound room is within = omega arith
task_within names work task.Place room is within = omega arith
task_within names work (task.Store word) room is within = omega arith
task_within names work (task.StoreAt word size) room is within = omega arith
task_within names work task.Take room is within = omega arith
task_within names work (task.Begin loop_no word) room is within = omega arith
task_within names work (task.Advance loop_no word) room is within = omega arith
task_within names work task.DecideTruth room is within = omega arith
task_within names work task.DecideSign room is within = omega arith
task_within names work (task.DecideNumber count) room is within = omega arith
task_within names work (task.DecideTrips loop_no) room is within = omega arith
task_within names work task.DecideFirst room is within = omega arith
task_within names (board.Write items) (task.Write texts) room is within = subst (λ (xs : List Item). line_room xs ≤ room) (sym is) within
task_within names (board.Load name []) (task.Write texts) room is within = absurd is
task_within names (board.Load name (sub ∷ subs)) (task.Write texts) room is within = absurd is
task_within names (board.Operate op) (task.Write texts) room is within = absurd cc
task_within names (board.Store name []) (task.Write texts) room is within = absurd is
task_within names (board.Store name (sub ∷ subs)) (task.Write texts) room is within = absurd is
task_within names board.Take (task.Write texts) room is within = absurd is
task_within names (board.Begin loop_no var) (task.Write texts) room is within = absurd is
task_within names (board.Advance loop_no var) (task.Write texts) room is within = absurd is
task_within names board.DecideTruth (task.Write texts) room is within = absurd is
task_within names board.DecideSign (task.Write texts) room is within = absurd is
task_within names (board.DecideNumber count) (task.Write texts) room is within = absurd is
task_within names (board.DecideTrips loop_no) (task.Write texts) room is within = absurd is
task_within names board.DecideFirst (task.Write texts) room is within = absurd is
