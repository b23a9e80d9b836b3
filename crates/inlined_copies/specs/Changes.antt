-- What changes in a copy, by the tables that are kept of its unit.
use Rattle.std.specs.Prelude.{ℕ, ◌+◌, ◌∷◌, [], ◌++◌, nat_eq, nat_lt, if◌then◌else◌, List, length, Option, Some, None, bytes_eq, slice_get}
use Rattle.indexmap.specs.IndexMap.{get}
use Rattle.op_table.specs.declared.Op.{Op}
use Rattle.declared_names.specs.Described.{is_array_told}
use Rattle.declared_names.specs.KeptDeclarations.{said_by}
use Rattle.f77_tree.specs.declared.statements.RawExpr.{RawExpr}
use Rattle.f77_tree.specs.declared.statements.RawExpr.TheVariants.{Apply}
use Rattle.program_units.specs.declared.new_name.NewName.{NewName}
use Rattle.program_units.specs.declared.new_name.NewName.TheVariants.{Argument, Fixed}
use Rattle.inlined_copies.specs.declared.unit_table.NewLabel.{NewLabel}
use Rattle.inlined_copies.specs.declared.unit_table.UnitTable.{UnitTable}
use Rattle.inlined_copies.specs.declared.unit_table.CopyOf.{CopyOf}
use Rattle.program_units.specs.Copies.{Change}

abbrev pub or_itself : {A : Type 0} → A → Option A → A
or_itself old None = old
or_itself old (Some new) = new

-- a name that isn't in the table stays, and so does a dummy without an argument
abbrev pub renamed : (arguments : List (List ℕ)) → List ℕ → Option NewName → List ℕ
renamed arguments x None = x
renamed arguments x (Some (Argument place)) = or_itself x (slice_get arguments place)
renamed arguments x (Some (Fixed name)) = name

-- a label that no statement has leads behind the copy
abbrev pub first_or : (behind : ℕ) → Option NewLabel → ℕ
first_or behind None = behind
first_or behind (Some label) = label.first

abbrev pub last_or : (behind : ℕ) → Option NewLabel → ℕ
last_or behind None = behind
last_or behind (Some label) = label.last

-- what changes in the copy of a unit whose dummies become these names, before which so many labels stand
abbrev pub change_by : UnitTable → (arguments : List (List ℕ)) → (base : ℕ) → Change
change_by table arguments base = record {
  name = λ x. renamed arguments x (get bytes_eq table.names x);
  arrays = is_array_told (said_by table.declared);
  copied = table.copied;
  jump = λ l. base + first_or table.behind (get nat_eq table.labels l);
  end = λ l. base + last_or table.behind (get nat_eq table.labels l);
  back = base + table.behind;
}

abbrev pub changes_of : CopyOf → Change
changes_of copy = change_by copy.table.now copy.arguments.now copy.base

-- one operand more: two that are there already become one, the operator at them
abbrev pub with_operand : Op → List RawExpr → RawExpr → List RawExpr
with_operand op operands operand = if nat_lt (length operands) 2 then operands ++ operand ∷ [] else Apply op operands ∷ operand ∷ []
