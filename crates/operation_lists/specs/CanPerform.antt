-- What an operation needs of a program.
use Rattle.std.specs.Prelude.{◌≡◌, ℕ, ◌<◌, ◌≤◌, length}
use Rattle.op_table.specs.Operators.{arity_of}
use Rattle.f77_tree.specs.declared.programs.Program.{Program}
use Rattle.f77_tree.specs.Value.{IsAccess, place_of}
use Rattle.operation_lists.specs.declared.operations.Operation.{Operation}
use Rattle.operation_lists.specs.declared.operations.Work.{Work}
use Rattle.operation_lists.specs.declared.operations.Work.TheVariants.{Load, Operate, Store, Begin, Advance}

-- a DO of the program, and the word of its variable
pub record IsLoop (p : Program) (loop_no var : ℕ) : Type 0 where
  pub loop : loop_no < p.loops
  pub name : var < length p.names
  pub word : place_of p.names var < p.words

-- accesses are those of the table of names, an operator has as many operands as it takes, and the DOs are there
abbrev pub CanWork : Program → Work → (operands : ℕ) → Type 0
CanWork p (Load access) operands = IsAccess p.names access.now
CanWork p (Operate op) operands = operands ≡ arity_of op
CanWork p (Store access) operands = IsAccess p.names access.now
CanWork p (Begin loop_no var) operands = IsLoop p loop_no var
CanWork p (Advance loop_no var) operands = IsLoop p loop_no var
CanWork p _ operands = Unit {0}

-- an operation can work, and takes no more operands than an executable may have operations
pub record CanPerform (p : Program) (op : Operation) : Type 0 where
  pub work : CanWork p op.work (length op.operands.items)
  pub few : length op.operands.items ≤ 500
