-- How what operations do is written.
use Rattle.std.specs.Prelude.{ℕ, List, codes}
use Rattle.op_table.specs.declared.Op.{Op}
use Rattle.op_table.specs.declared.Op.TheVariants as op
use Rattle.op_board.specs.Operations as board
use Rattle.operation_tables.specs.declared.telling.OpName.{OpName}
use Rattle.operation_tables.specs.declared.telling.OpName.TheVariants as name
use Rattle.operation_tables.specs.Telling.{operation_name}

abbrev pub operator_name : Op → List ℕ
operator_name op.Add = codes "ADD"
operator_name op.Sub = codes "SUB"
operator_name op.Mul = codes "MUL"
operator_name op.Div = codes "DIV"
operator_name op.Pow = codes "POW"
operator_name op.Neg = codes "NEG"
operator_name op.Lt = codes "LT"
operator_name op.Le = codes "LE"
operator_name op.Eq = codes "EQ"
operator_name op.Ne = codes "NE"
operator_name op.Ge = codes "GE"
operator_name op.Gt = codes "GT"
operator_name op.Not = codes "NOT"
operator_name op.And = codes "AND"
operator_name op.Or = codes "OR"
operator_name op.Eqv = codes "EQV"
operator_name op.Neqv = codes "NEQV"
operator_name op.Mod = codes "MOD"
operator_name op.Abs = codes "ABS"
operator_name op.Sign = codes "SIGN"
operator_name op.Max = codes "MAX"
operator_name op.Min = codes "MIN"
operator_name op.Truth = codes "TRUTH"
operator_name op.Bound = codes "BOUND"
operator_name op.Place = codes "PLACE"
operator_name op.Three = codes "THREE"
operator_name op.Pick = codes "PICK"
operator_name op.Step = codes "STEP"
operator_name op.AddChecked = codes "ADDC"
operator_name op.SubChecked = codes "SUBC"
operator_name op.MulChecked = codes "MULC"
operator_name op.NegChecked = codes "NEGC"
operator_name op.AbsChecked = codes "ABSC"
operator_name op.PowChecked = codes "POWC"

-- what an operation does
abbrev pub op_name : OpName → List ℕ
op_name name.Load = codes "LOAD"
op_name (name.Apply op) = operator_name op
op_name name.Store = codes "STORE"
op_name name.Write = codes "WRITE"
op_name name.Begin = codes "BEGIN"
op_name name.Advance = codes "ADVANCE"
op_name name.Decide = codes "DECIDE"
op_name name.Take = codes "TAKE"

-- the work of an operation
abbrev pub work_name : board.Work → List ℕ
work_name work = op_name (operation_name work)
