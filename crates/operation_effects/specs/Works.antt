-- What an operation needs of its program.
use Rattle.std.specs.Prelude.{◌≡◌, ◌<◌, ℕ, [], ◌∷◌, length, All, Some, slice_get}
use Rattle.op_table.specs.Operators.{arity_of}
use Rattle.f77_tree.specs.declared.programs.Program.{Program}
use Rattle.f77_tree.specs.CanRun.{CanPrint, CanExecute}
use Rattle.op_board.specs.Operations.{Operation, Work, Load, Operate, Store, Write, Begin, Advance, DecideTruth, DecideSign, DecideNumber, DecideTrips, operations_of}
use Rattle.f77_tree.specs.declared.programs.ExecKind.{ExecKind}
use Rattle.cfg_build.specs.declared.pieces.PieceKind.{PieceKind}

-- the names and DOs of the operation are the program's, and what it writes fits the table of names
abbrev pub FitsProgram : Program → Work → Type 0
FitsProgram p (Load name subs) = name < length p.names
FitsProgram p (Store name subs) = name < length p.names
FitsProgram p (Write items) = All (CanPrint p.names) items
FitsProgram p (Begin loop_no var) = (loop_no < p.loops) × (var < length p.names)
FitsProgram p (Advance loop_no var) = (loop_no < p.loops) × (var < length p.names)
FitsProgram p (DecideTrips loop_no) = loop_no < p.loops
FitsProgram p _ = Unit {0}

-- It has so many operands: an access of an array has a place, and a store the value. What is written has any number of them.
abbrev pub HasOperands : Work → ℕ → Type 0
HasOperands (Load name []) count = count ≡ 0
HasOperands (Load name (sub ∷ subs)) count = count ≡ 1
HasOperands (Operate op) count = count ≡ arity_of op
HasOperands (Store name []) count = count ≡ 1
HasOperands (Store name (sub ∷ subs)) count = count ≡ 2
HasOperands (Begin loop_no var) count = count ≡ 3
HasOperands DecideTruth count = count ≡ 1
HasOperands DecideSign count = count ≡ 1
HasOperands (DecideNumber number) count = count ≡ 1
HasOperands _ count = Unit {0}

abbrev pub OperationFits : Program → Operation → Type 0
OperationFits p op = FitsProgram p op.work × HasOperands op.work (length op.operands)

-- the operations of a piece whose executable fits a program fit it too
abbrev pub OperationsFit : Type 0
OperationsFit = (p : Program) (piece : PieceKind) (exec : ExecKind)
    → CanExecute p exec → (i : ℕ) (op : Operation) → slice_get (operations_of p.names piece exec) i ≡ Some op → OperationFits p op
