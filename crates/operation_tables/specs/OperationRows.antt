-- What the rows of operations hold.
use Rattle.std.specs.Prelude.{◌≡◌, ◌<◌, ◌≤◌, ◌+◌, ◌++◌, nat_lt, ℕ, pos, suc, true, false, if◌then◌else◌, List, [], ◌∷◌, length, map, take, All, Option, Some, None, slice_get}
use Rattle.cfg_build.specs.Passes.{out}
use Rattle.f77_meaning.specs.Room.{most_room}
use Rattle.net_board.specs.Nodes.{graph_in, is_acting, kind_in, switches, touched}
use Rattle.op_board.specs.Operations.{Operand, Known, Operation, gives_value, is_decision}
use Rattle.op_board.specs.OperationLists.{takes_by}
use Rattle.op_board.specs.OperationNets.{OperationNet, is_last_at, needed, needing_before, operation_at, operation_count, operation_in}
use Rattle.op_board.specs.OperationTokens.{givers}
use Rattle.operation_lists.specs.Seen.{operand_seen}
use Rattle.operation_effects.specs.Tasks.{CanPerform, IsTaskOf, TakesOperands, task_room}
use Rattle.operation_tables.specs.declared.hops.Hop.{Hop}
use Rattle.operation_tables.specs.declared.rows.Row.{Row}
use Rattle.operation_tables.specs.declared.rows.PieceRows.{PieceRows}
use Rattle.operation_tables.specs.Waits.{one_if}

-- ---- the lines of an operation

-- this operation of the piece is the next one that needs the line
pub record IsNextNeed (x : OperationNet) (piece i line n : ℕ) : Type 0 where
  pub inside : n < operation_count x piece
  pub needs : x.needs piece n line ≡ true
  pub after : needing_before x piece n line ≡ suc (needing_before x piece i line)
  pub more : is_last_at x piece i line ≡ false

-- the next operation that needs the line, where there is one
abbrev pub NextIs : OperationNet → (piece i line : ℕ) → Option ℕ → Type 0
NextIs x piece i line None = is_last_at x piece i line ≡ true
NextIs x piece i line (Some n) = IsNextNeed x piece i line n

-- a line that the operation needs, of which it isn't told yet where it goes on
pub record IsCountedHop (x : OperationNet) (piece i : ℕ) (hop : Hop) : Type 0 where
  pub exists : hop.line < x.net.routing.lines
  pub before : hop.before ≡ needing_before x piece i hop.line

pub record IsHop (x : OperationNet) (piece i : ℕ) (hop : Hop) : Type 0 where
  pub exists : hop.line < x.net.routing.lines
  pub before : hop.before ≡ needing_before x piece i hop.line
  pub next : NextIs x piece i hop.line hop.next

-- ---- operations

-- another operation of the piece takes the value of this one
pub record IsTaker (x : OperationNet) (piece i taker : ℕ) : Type 0 where
  pub inside : taker < operation_count x piece
  pub takes : 0 < takes_by (operation_at x piece taker).operands i

-- another operation of a list takes the value of this one
pub record IsTakerIn (ops : List Operation) (number taker : ℕ) : Type 0 where
  pub inside : taker < length ops
  pub takes : 0 < takes_by (operation_in (slice_get ops taker)).operands number

-- how many switches a decision waits for once it has fired
abbrev pub room_of : OperationNet → (piece i : ℕ) → ℕ
room_of x piece i = if is_decision (operation_at x piece i).work then length (switches x.net piece) else 0

-- For how much an operation waits once it has fired: for the lines that it needs, the values that it takes, its own to be taken, and where
-- it is a decision for the switches of its piece.
abbrev pub waits_anew : OperationNet → (piece i : ℕ) → ℕ
waits_anew x piece i =
    length (needed x piece i)
    + (length (givers x piece (operation_at x piece i).operands)
    + (one_if (gives_value (operation_at x piece i).work) + room_of x piece i))

-- the first three operands, with known zeros after them where there are fewer
abbrev pub first_three : List Operand → List Operand
first_three operands = take 3 (operands ++ Known (pos 0) ∷ Known (pos 0) ∷ Known (pos 0) ∷ [])

-- how many operands there are, where 4 stands for more than three
abbrev pub short_count : (count : ℕ) → ℕ
short_count count = if nat_lt 3 count then 4 else count

-- what the firing of an operation looks up, with what is told of its lines
pub record IsRowWith (IsHopOf : Hop → Type 0) (x : OperationNet) (piece i : ℕ) (row : Row) : Type 0 where
  pub own_piece : row.piece ≡ piece
  pub own_number : row.number ≡ i
  pub task : IsTaskOf x.net.program.names (operation_at x piece i).work row.task
  pub can : CanPerform x.net.program row.task
  pub takes : TakesOperands row.task (length row.operands.items)
  pub room : task_room row.task ≤ most_room x.net.program.execs
  pub operands : map operand_seen row.operands.items ≡ (operation_at x piece i).operands
  pub few : map operand_seen row.few ≡ first_three (operation_at x piece i).operands
  pub count : row.count ≡ short_count (length (operation_at x piece i).operands)
  pub waits : row.waits ≡ waits_anew x piece i
  pub gives : row.gives ≡ gives_value (operation_at x piece i).work
  pub decides : row.decides ≡ is_decision (operation_at x piece i).work
  pub serial : row.serial ≡ x.needs piece i 0
  pub edge : row.edge ≡ out (graph_in x.net) piece 0
  pub taker : row.gives ≡ true → IsTaker x piece i row.taker
  pub lines : map (λ (hop : Hop). hop.line) row.hops.items ≡ needed x piece i
  pub hops : All IsHopOf row.hops.items

abbrev pub IsRow : OperationNet → (piece i : ℕ) → Row → Type 0
IsRow x piece i row = IsRowWith (IsHop x piece i) x piece i row

-- ---- pieces

-- this operation of the piece is the first one that needs the line
pub record IsEntry (x : OperationNet) (piece line n : ℕ) : Type 0 where
  pub inside : n < operation_count x piece
  pub needs : x.needs piece n line ≡ true
  pub first : needing_before x piece n line ≡ 0

abbrev pub EntryIs : OperationNet → (piece line : ℕ) → Option ℕ → Type 0
EntryIs x piece line None = ⊥
EntryIs x piece line (Some n) = IsEntry x piece line n

-- a row for each operation of the piece, with what is told of its lines
pub record HasRows (IsHopOf : (i : ℕ) → Hop → Type 0) (x : OperationNet) (piece : ℕ) (made : List Row) : Type 0 where
  pub count : length made ≡ operation_count x piece
  pub rows : (i : ℕ) (row : Row) → slice_get made i ≡ Some row → IsRowWith (IsHopOf i) x piece i row

-- a row for each operation of the piece, and for each line that it touches the first operation that needs it
pub record AreRows (x : OperationNet) (piece : ℕ) (t : PieceRows) : Type 0 where
  pub count : length t.rows.items ≡ operation_count x piece
  pub rows : (i : ℕ) (row : Row) → slice_get t.rows.items i ≡ Some row → IsRow x piece i row
  pub entries : is_acting (kind_in x.net piece) ≡ true → (place line : ℕ) → slice_get (touched x.net piece) place ≡ Some line → EntryIs x piece line (slice_get t.entries.items place)
