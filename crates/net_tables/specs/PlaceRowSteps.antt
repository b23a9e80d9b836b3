-- The steps that make the rows of places. No public clause cites this module.
use Rattle.std.specs.Prelude.{◌≡◌, ◌<◌, ℕ, List, [], Option, None, Some, length, replicate, slice_index, map, ◌+◌, if◌then◌else◌, ◌&&◌, not, Bool}
use Rattle.net_board.specs.Nodes.{NetOf, all_lines, is_free}
use Rattle.net_board.specs.WokenNodes.{no_node, passing_below, place_by}
use Rattle.shared_rows.specs.Table.{Table, row_at, with_row, with_row_at}
use Rattle.cfg_build.specs.declared.pieces.PieceKind.{PieceKind}
use Rattle.class_set.specs.ClassSet.{holds}
use Rattle.class_set.specs.declared.ClassSet.{ClassSet}

-- the table has a number for each line, and its first row tells for none of them a node
pub record IsBlank (net : NetOf) (t : Table) : Type 0 where
  pub wide : t.width ≡ net.routing.lines
  pub some : 0 < length t.rows
  pub blank : row_at t 0 ≡ replicate net.routing.lines (no_node net)

-- a row was pushed, whose number is told, or it is empty and was not
abbrev pub IsPushed : Table → Table → Option ℕ → List ℕ → Type 0
IsPushed t new None row = (new ≡ t) × (row ≡ [])
IsPushed t new (Some k) row = (k ≡ length t.rows) × (new ≡ with_row t row)

-- a row has these numbers now
pub record IsRewritten (t : Table) (k : ℕ) (new : Table) (number : ℕ → ℕ) : Type 0 where
  pub row : List ℕ
  pub is : new ≡ with_row_at t k row
  pub size : length row ≡ t.width
  pub numbers : (line : ℕ) → line < t.width → slice_index row line ≡ number line

-- the places of all lines at a piece of this kind
abbrev pub places_by : NetOf → (piece : ℕ) → PieceKind → List ℕ
places_by net piece kind = map (λ line. place_by net piece line kind) (all_lines net)

-- the cells of a row, where those of the lines in the set get numbers from `first` on
abbrev pub numbered_from : {W : ℕ} → Table → (row : ℕ) → ClassSet W → (first line : ℕ) → ℕ
numbered_from t row set first line = if holds set line then first + passing_below (holds set) line else slice_index (row_at t row) line

-- the line is led to the piece, which doesn't touch it
abbrev pub is_led_past : NetOf → (piece line : ℕ) → Bool
is_led_past net piece line = is_free net piece line && not (net.touches piece line)
