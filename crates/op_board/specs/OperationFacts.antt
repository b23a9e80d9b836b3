-- What is known of the operations of a net of a program.
use Rattle.std.specs.Prelude.{◌≡◌, ◌<◌, ◌≤◌, ◌⊎◌, ℕ, suc, ◌==◌, ◌&&◌, Bool, true, false, Some, slice_get}
use Rattle.op_table.specs.declared.Trap.{Trap}
use Rattle.f77_tree.specs.Execution.{Memory}
use Rattle.f77_tree.specs.Operations.{most_operations}
use Rattle.f77_tree.specs.Steps.{HoldsWords}
use Rattle.cfg_build.specs.declared.pieces.PieceKind.{PieceKind}
use Rattle.cfg_build.specs.declared.pieces.PieceKind.TheVariants as kind
use Rattle.cfg_build.specs.Passes.{out}
use Rattle.net_board.specs.Nodes.{graph_in, is_acting, kind_in}
use Rattle.net_board.specs.SoundNets.{HasSizesOf}
use Rattle.net_board.specs.Tokens.{pass_at}
use Rattle.op_board.specs.Operations.{Operation, is_decision}
use Rattle.op_board.specs.Effects.{Stopped}
use Rattle.op_board.specs.OperationLists.{DoesAsPass, IsOperationList, takes_by}
use Rattle.op_board.specs.OperationNets.{OperationNet, operation_at, operation_count, operations_at}
use Rattle.op_board.specs.OperationOrder.{ran_at}

-- edges part at such a piece
abbrev pub is_parting : PieceKind → Bool
is_parting kind.Branch = true
is_parting kind.Hold = true
is_parting _ = false

-- an operation of the piece needs the line
pub record IsNeededAt (x : OperationNet) (piece line : ℕ) : Type 0 where
  pub number : ℕ
  pub inside : number < operation_count x piece
  pub needs : x.needs piece number line ≡ true

-- the operation waits for something: a line, or the value of another one
pub record NeedsLine (x : OperationNet) (piece i : ℕ) : Type 0 where
  pub line : ℕ
  pub exists : line < x.net.routing.lines
  pub needs : x.needs piece i line ≡ true

pub record TakesValue (op : Operation) : Type 0 where
  pub number : ℕ
  pub takes : 0 < takes_by op.operands number

pub record OperationFacts (x : OperationNet) : Type 0 where
  -- a piece that acts has operations, of which the last gives no value and each other one gives one to a later one
  pub lists : (piece : ℕ) → piece < (graph_in x.net).nodes → is_acting (kind_in x.net piece) ≡ true → IsOperationList (operations_at x piece)
  -- where edges part the last one is a decision, and no other one is
  pub decisions : (piece i : ℕ) (op : Operation) → piece < (graph_in x.net).nodes → slice_get (operations_at x piece) i ≡ Some op → is_decision op.work ≡ (is_parting (kind_in x.net piece) && (suc i == operation_count x piece))
  -- they do what the piece does
  pub passes : (piece : ℕ) (m : Memory) → piece < (graph_in x.net).nodes → is_acting (kind_in x.net piece) ≡ true → HasSizesOf x.net.program m → HoldsWords m → DoesAsPass (out (graph_in x.net) piece) (ran_at x piece m) (pass_at x.net piece m)
  -- up to one that traps the memory is what it was before the piece
  pub unchanged : (piece at : ℕ) (m new : Memory) (trap : Trap) → piece < (graph_in x.net).nodes → is_acting (kind_in x.net piece) ≡ true → HasSizesOf x.net.program m → HoldsWords m → ran_at x piece m ≡ Stopped at new trap → new ≡ m
  -- an operation that traps needs the line of output, where its piece touches that
  pub traps : (piece at : ℕ) (m new : Memory) (trap : Trap) → piece < (graph_in x.net).nodes → HasSizesOf x.net.program m → HoldsWords m → ran_at x piece m ≡ Stopped at new trap → x.net.touches piece 0 ≡ true → x.needs piece at 0 ≡ true
  -- a piece touches the lines that its operations need
  pub touched : (piece i line : ℕ) → piece < (graph_in x.net).nodes → i < operation_count x piece → x.needs piece i line ≡ true → x.net.touches piece line ≡ true
  pub needed : (piece line : ℕ) → piece < (graph_in x.net).nodes → is_acting (kind_in x.net piece) ≡ true → x.net.touches piece line ≡ true → IsNeededAt x piece line
  pub waits : (piece i : ℕ) → piece < (graph_in x.net).nodes → i < operation_count x piece → NeedsLine x piece i ⊎ TakesValue (operation_at x piece i)
  -- no piece has more operations than a statement may ask
  pub few : (piece : ℕ) → piece < (graph_in x.net).nodes → operation_count x piece ≤ most_operations x.net.program
