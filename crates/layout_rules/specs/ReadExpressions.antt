-- Trees of expressions: constants that a source can write, and operators of the grammar at their operands.
use Rattle.std.specs.Prelude.{◌≡◌, true}
use Rattle.op_table.specs.Operators.{arity_of}
use Rattle.f77_tree.specs.declared.statements.RawExpr.{RawExpr, Row_of-RawExpr, end_of-RawExpr, more_of-RawExpr}
use Rattle.f77_tree.specs.declared.statements.RawExpr.TheVariants.{Int, Truth, Named, Call', Apply'}
use Rattle.f77_tree.specs.Kinds.{is_written, IsConstant}
use Rattle.layout_rules.specs.Types.{count_of_row}

abbrev mutual
  -- an expression as a text can give it, but for what its names are
  pub IsReading : RawExpr → Type 0
  IsReading (Int z) = IsConstant z
  IsReading (Truth b) = Unit {0}
  IsReading (Named name) = Unit {0}
  IsReading (Call' name shape args) = AllReadings args
  IsReading (Apply' op shape args) = (is_written op ≡ true) × (count_of_row args ≡ arity_of op) × AllReadings args

  pub AllReadings : {m : _} → Row_of-RawExpr m → Type 0
  AllReadings end_of-RawExpr = Unit {0}
  AllReadings (more_of-RawExpr e rest) = IsReading e × AllReadings rest
