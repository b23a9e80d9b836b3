-- Laws on the operations of pieces and on the lines that they need, as statements.
use Rattle.std.specs.Prelude.{ℕ, ◌≡◌, true, ◌<◌, suc, ◌&&◌, Some, slice_get, ◌==◌, ◌⊎◌}
use Rattle.net_board.specs.Nodes.{graph_in, kind_in, is_acting}
use Rattle.op_board.specs.OperationNets.{OperationNet, operations_at, operation_count, operation_at}
use Rattle.op_board.specs.OperationLists.{IsOperationList, takes_by}
use Rattle.op_board.specs.SoundOperationNets.{IsOperationNet}
use Rattle.op_board.specs.Operations.{Operation, is_decision}
use Rattle.op_board.specs.OperationFacts.{is_parting, IsNeededAt, NeedsLine, TakesValue}
use Rattle.net_board.specs.SoundNets.{IsNet}
use Rattle.op_board.specs.Needs.{TrapsAsKnown}

-- a piece that acts has a list of operations
abbrev pub PiecesHaveOperationLists : Type 0
PiecesHaveOperationLists = (x : OperationNet) (piece : ℕ)
    → IsOperationNet x → piece < (graph_in x.net).nodes → is_acting (kind_in x.net piece) ≡ true → IsOperationList (operations_at x piece)

-- the last operation of a piece decides where edges part, and no other one does
abbrev pub LastOperationsDecide : Type 0
LastOperationsDecide = (x : OperationNet) (piece i : ℕ) (op : Operation)
    → slice_get (operations_at x piece) i ≡ Some op
    → is_decision op.work ≡ (is_parting (kind_in x.net piece) && (suc i == operation_count x piece))

-- an operation takes values of earlier ones alone
abbrev pub ValuesAreTakenLater : Type 0
ValuesAreTakenLater = (x : OperationNet) (piece i number : ℕ) (op : Operation)
    → slice_get (operations_at x piece) i ≡ Some op → 0 < takes_by op.operands number → number < i

-- a piece touches the lines that its operations need
abbrev pub NeededLinesAreTouched : Type 0
NeededLinesAreTouched = (x : OperationNet) (piece i line : ℕ)
    → IsOperationNet x → piece < (graph_in x.net).nodes → i < operation_count x piece → x.needs piece i line ≡ true
    → x.net.touches piece line ≡ true

-- and no others, where it acts
abbrev pub TouchedLinesAreNeeded : Type 0
TouchedLinesAreNeeded = (x : OperationNet) (piece line : ℕ)
    → IsOperationNet x → piece < (graph_in x.net).nodes → is_acting (kind_in x.net piece) ≡ true → x.net.touches piece line ≡ true
    → IsNeededAt x piece line

-- each operation needs a line or takes a value
abbrev pub OperationsWait : Type 0
OperationsWait = (x : OperationNet) (piece i : ℕ)
    → IsOperationNet x → piece < (graph_in x.net).nodes → i < operation_count x piece
    → NeedsLine x piece i ⊎ TakesValue (operation_at x piece i)

-- a piece touches the line of output if an operator of it traps at what is known
abbrev pub KnownTrapsTouchOutput : Type 0
KnownTrapsTouchOutput = (x : OperationNet) (piece i : ℕ)
    → IsNet x.net → piece < (graph_in x.net).nodes → i < operation_count x piece → TrapsAsKnown (operation_at x piece i)
    → x.net.touches piece 0 ≡ true
