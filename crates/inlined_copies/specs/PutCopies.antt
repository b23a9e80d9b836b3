-- Copies as they are put into the list: by tables that are made once for each unit, and with names in place of entities.
use Rattle.std.specs.Prelude.{ℕ, zero, suc, ◌+◌, ◌==◌, if◌then◌else◌, List, [], ◌∷◌, ◌++◌, map, Option, Some, None, slice_get}
use Rattle.f77_tree.specs.declared.statements.Labelled.{Labelled}
use Rattle.f77_tree.specs.declared.statements.RawExpr.{RawExpr}
use Rattle.f77_tree.specs.declared.statements.Stmt.TheVariants.{Continue, BlockIf, EndIf}
use Rattle.inlined_copies.specs.declared.unit_table.CopyTables.{CopyTables}
use Rattle.inlined_copies.specs.declared.unit_table.UnitTable.{UnitTable}
use Rattle.program_units.specs.Units.{Call, call_in, guard_of, unit_at, unit_of}
use Rattle.program_units.specs.Widths.{is_kept, labels}
use Rattle.program_units.specs.Copies.{Change, bare, changed, changed_stmt}
use Rattle.inlined_copies.specs.Changes.{change_by}
use Rattle.inlined_copies.specs.LabelCounts.{count_at, labels_of}

-- what stands before the copy at a CALL
abbrev pub opening : Change → (a line : ℕ) → Option RawExpr → List Labelled
opening c a line None = bare a line Continue ∷ []
opening c a line (Some condition) = bare a line Continue ∷ bare 0 line (BlockIf (changed c condition)) ∷ []

-- what stands behind it
abbrev pub closing : (b line : ℕ) → Option RawExpr → List Labelled
closing b line None = bare b line Continue ∷ []
closing b line (Some condition) = bare 0 line EndIf ∷ bare b line Continue ∷ []

-- what makes the copy of a unit whose dummies become these names, before which so many labels stand
abbrev pub Putting : Type 0
Putting = (k : ℕ) → (arguments : List (List ℕ)) → (base : ℕ) → List Labelled

module _ (us : List (List Labelled)) (counts : List ℕ) where
  abbrev pub put_by : Putting → Change → (m : ℕ) → Labelled → Option Call → List Labelled
  put_by body c m s None = bare (if s.label == 0 then 0 else m) s.line (changed_stmt c s.stmt) ∷ []
  put_by body c m s (Some call) = opening c m s.line (guard_of s.stmt) ++ (body (unit_of us call.name) (map c.name call.arguments) m ++ closing (m + count_at counts (unit_of us call.name) + 1) s.line (guard_of s.stmt))

  -- what is put for a statement of the unit k, the first label of which would be m
  abbrev pub put_piece : Putting → (k : ℕ) → Change → (m : ℕ) → Labelled → List Labelled
  put_piece body k c m s = if is_kept k s.stmt then put_by body c m s (call_in s.stmt) else []

  -- what is put for statements of the unit k, before which so many labels stand
  abbrev pub put_pieces : Putting → (k : ℕ) → Change → (before : ℕ) → List Labelled → List Labelled
  put_pieces body k c before [] = []
  put_pieces body k c before (s ∷ rest) = put_piece body k c (before + 1) s ++ put_pieces body k c (before + labels (count_at counts) us k s) rest

  abbrev pub put_unit : Putting → (k : ℕ) → (arguments : List (List ℕ)) → (base : ℕ) → Option UnitTable → List Labelled
  put_unit body k arguments base None = []
  put_unit body k arguments base (Some table) = put_pieces body k (change_by table arguments base) base (unit_at us k)

  abbrev pub put_copy : (tables : List UnitTable) → (depth : ℕ) → Putting
  put_copy tables zero k arguments base = []
  put_copy tables (suc depth) k arguments base = put_unit (put_copy tables depth) k arguments base (slice_get tables k)

-- ---- the same by the tables as they are kept

abbrev pub count_of : CopyTables → (k : ℕ) → ℕ
count_of t k = count_at t.units.counts.now k

abbrev pub labels_in : CopyTables → (k : ℕ) → List Labelled → ℕ
labels_in t k stmts = labels_of t.units.us.now t.units.counts.now k stmts

abbrev pub copies_of : CopyTables → (depth : ℕ) → Putting
copies_of t depth = put_copy t.units.us.now t.units.counts.now t.tables.now depth

abbrev pub pieces_of : CopyTables → (depth k : ℕ) → Change → (before : ℕ) → List Labelled → List Labelled
pieces_of t depth k c before stmts = put_pieces t.units.us.now t.units.counts.now (copies_of t depth) k c before stmts

abbrev pub piece_of : CopyTables → (depth k : ℕ) → Change → (m : ℕ) → Labelled → List Labelled
piece_of t depth k c m s = put_piece t.units.us.now t.units.counts.now (copies_of t depth) k c m s

abbrev pub called_in : CopyTables → (depth : ℕ) → Change → (m : ℕ) → Labelled → Call → List Labelled
called_in t depth c m s call = put_by t.units.us.now t.units.counts.now (copies_of t depth) c m s (Some call)
