-- What is known of the lines while the rows of a piece are made.
use Rattle.std.specs.Prelude.{◌≡◌, ◌<◌, ◌≤◌, ℕ, true, Option, Some, None, length, slice_index, slice_index_or}
use Rattle.op_board.specs.OperationNets.{OperationNet, needing_before, operation_count}
use Rattle.operation_tables.specs.declared.hops.Hop.{Hop}
use Rattle.operation_tables.specs.declared.hops.Scratch.{Scratch}

-- how many operations so far need the line
abbrev pub before_at : Scratch → (line : ℕ) → ℕ
before_at s line = slice_index s.before.items line

-- the first of the operations so far that needs the line, from the last one on
abbrev pub first_at : Scratch → (line : ℕ) → Option ℕ
first_at s line = slice_index_or s.first.items line None

-- so many lines are known of
pub record HasLines (lines : ℕ) (s : Scratch) : Type 0 where
  pub before : length s.before.items ≡ lines
  pub first : length s.first.items ≡ lines

-- nothing is known of so many lines
pub record IsClean (lines : ℕ) (s : Scratch) : Type 0 where
  pub all : HasLines lines s
  pub before : (line : ℕ) → line < lines → before_at s line ≡ 0
  pub first : (line : ℕ) → line < lines → first_at s line ≡ None

-- a line that an operation needs, of which it isn't told yet where it goes on
abbrev pub unlinked : (line before : ℕ) → Hop
unlinked line before = record { line = line; before = before; next = None }

-- the operation to which a line goes on from a hop is the first one that is known to need it
abbrev pub linked : Scratch → Hop → Hop
linked s hop = record hop { next = first_at s hop.line }

-- ---- the operations of a piece

-- of each line it is known how many of the operations before this one need it
pub record AreCounted (x : OperationNet) (piece i : ℕ) (s : Scratch) : Type 0 where
  pub all : HasLines x.net.routing.lines s
  pub before : (line : ℕ) → line < x.net.routing.lines → before_at s line ≡ needing_before x piece i line

-- this operation is the first one of the piece that needs the line, of those from the number i on
pub record IsFirstFrom (x : OperationNet) (piece i line n : ℕ) : Type 0 where
  pub from : i ≤ n
  pub inside : n < operation_count x piece
  pub needs : x.needs piece n line ≡ true
  pub first : needing_before x piece n line ≡ needing_before x piece i line

abbrev pub FirstIs : OperationNet → (piece i line : ℕ) → Option ℕ → Type 0
FirstIs x piece i line None = needing_before x piece (operation_count x piece) line ≡ needing_before x piece i line
FirstIs x piece i line (Some n) = IsFirstFrom x piece i line n

-- of each line it is known which of the operations from this one on is the first one that needs it
pub record AreLinked (x : OperationNet) (piece i : ℕ) (s : Scratch) : Type 0 where
  pub all : HasLines x.net.routing.lines s
  pub first : (line : ℕ) → line < x.net.routing.lines → FirstIs x piece i line (first_at s line)
