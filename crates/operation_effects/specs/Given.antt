-- The values that operations give.
use Rattle.std.specs.Prelude.{ℤ, Bool, true, false, if◌then◌else◌, Option, None, Some, Result, Ok, Err}
use Rattle.op_table.specs.declared.Trap.{Trap}
use Rattle.op_board.specs.Effects.{Effect}
use Rattle.operation_effects.specs.declared.tasks.Task.{Task}
use Rattle.operation_effects.specs.declared.tasks.Task.TheVariants as task

-- a task that gives a value where it doesn't trap, and leaves the memory as it is
abbrev pub only_gives : Task → Bool
only_gives (task.Load word kind) = true
only_gives (task.LoadAt word size kind) = true
only_gives (task.Operate op) = true
only_gives task.Add = true
only_gives task.Sub = true
only_gives task.Mul = true
only_gives task.Lt = true
only_gives task.Le = true
only_gives task.Eq = true
only_gives task.Ne = true
only_gives task.Ge = true
only_gives task.Gt = true
only_gives task.Bound = true
only_gives task.Place = true
only_gives _ = false

-- the value of an operator, if it doesn't trap
abbrev pub unless_trap : Result ℤ Trap → Option ℤ
unless_trap (Err trap) = None
unless_trap (Ok z) = Some z

-- the value that a task gives by this effect, if it only gives one
abbrev pub given_by : Task → Result Effect Trap → Option ℤ
given_by t (Err trap) = None
given_by t (Ok effect) = if only_gives t then effect.value else None
