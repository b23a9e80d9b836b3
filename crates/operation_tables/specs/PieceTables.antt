-- The rows of the operations of all pieces, one piece after another.
use Rattle.std.specs.Prelude.{◌≡◌, ◌<◌, ◌+◌, ◌^◌, ℕ, zero, suc, true, List, length, map, Option, None, Some, Vec, slice_get, slice_index}
use Rattle.std.specs.List.{range_with_len}
use Rattle.std.specs.declared.alloc.Global.{Global}
use Rattle.firing.specs.declared.system.NodeName.{NodeName}
use Rattle.firing.specs.declared.system.NodeName.TheVariants.{Op}
use Rattle.net_board.specs.Nodes.{graph_in, is_acting, kind_in, touched}
use Rattle.op_board.specs.OperationNets.{OperationNet, operation_count}
use Rattle.operation_tables.specs.declared.rows.Row.{Row}
use Rattle.operation_tables.specs.declared.tables.AllRows.{AllRows}
use Rattle.operation_tables.specs.OperationRows.{EntryIs, IsRow}

-- how many operations the pieces before this one have
abbrev pub rows_before : OperationNet → (piece : ℕ) → ℕ
rows_before x zero = 0
rows_before x (suc piece) = rows_before x piece + operation_count x piece

-- the first operation of a piece that needs a line, by the line's place among those that the piece touches
abbrev pub entry_in : Option (Vec ℕ Global) → (place : ℕ) → Option ℕ
entry_in (Some own) place = slice_get own.items place
entry_in None place = None

abbrev pub entry_at : List (Vec ℕ Global) → (piece place : ℕ) → Option ℕ
entry_at entries piece place = entry_in (slice_get entries piece) place

-- the rows of the first pieces, with where those of each piece begin, and for each line that a piece touches the first operation that needs it
pub record AreFirstRows (x : OperationNet) (n : ℕ) (made : List Row) (begins : List ℕ) (firsts : List (Vec ℕ Global)) : Type 0 where
  -- the last one is the number of all rows
  pub starts : begins ≡ map (rows_before x) (range_with_len 0 (suc n))
  pub count : length made ≡ rows_before x n
  pub few : length made < 2 ^ 32
  pub rows : (piece i : ℕ) (row : Row) → piece < n → i < operation_count x piece → slice_get made (rows_before x piece + i) ≡ Some row → ∥ IsRow x piece i row ∥₁
  pub pieces : length firsts ≡ n
  pub entries : (piece place line : ℕ) → piece < n → is_acting (kind_in x.net piece) ≡ true → slice_get (touched x.net piece) place ≡ Some line → ∥ EntryIs x piece line (entry_at firsts piece place) ∥₁

-- the rows of all pieces
abbrev pub AreAllRows : OperationNet → AllRows → Type 0
AreAllRows x t = AreFirstRows x (graph_in x.net).nodes t.rows.items t.starts.items t.entries.items

-- ---- the numbers of rows

-- the row of a node can be numbered
abbrev pub IsCounted : List ℕ → NodeName → Type 0
IsCounted starts (Op piece i) = (piece < length starts) × (slice_index starts piece + i < 2 ^ 32)
IsCounted starts _ = Unit {0}

-- the number of the row of a node, or the greatest number where it is no operation
abbrev pub record_in : List ℕ → NodeName → ℕ
record_in starts (Op piece i) = slice_index starts piece + i
record_in starts _ = 4294967295
