-- The words that stand for kinds of pieces, for what operations do, and for traps.
use Rattle.std.specs.Prelude.{ℕ, List, codes}
use Rattle.op_table.specs.declared.Op.{Op}
use Rattle.op_table.specs.declared.Op.TheVariants as op
use Rattle.op_table.specs.declared.Trap.{Trap}
use Rattle.op_table.specs.declared.Trap.TheVariants as trap
use Rattle.printed_graphs.specs.declared.dataflow.Work.{Work}
use Rattle.printed_graphs.specs.declared.dataflow.Work.TheVariants as work
use Rattle.printed_graphs.specs.declared.flow.PieceKind.{PieceKind}
use Rattle.printed_graphs.specs.declared.flow.PieceKind.TheVariants as kind

abbrev pub kind_text : PieceKind → List ℕ
kind_text kind.Start = codes "START"
kind_text kind.Act = codes "ACT"
kind_text kind.Branch = codes "BRANCH"
kind_text kind.Join = codes "JOIN"
kind_text kind.Pass = codes "PASS"
kind_text kind.Hold = codes "HOLD"
kind_text kind.End = codes "END"

abbrev pub operator_text : Op → List ℕ
operator_text op.Add = codes "ADD"
operator_text op.Sub = codes "SUB"
operator_text op.Mul = codes "MUL"
operator_text op.Div = codes "DIV"
operator_text op.Pow = codes "POW"
operator_text op.Neg = codes "NEG"
operator_text op.Lt = codes "LT"
operator_text op.Le = codes "LE"
operator_text op.Eq = codes "EQ"
operator_text op.Ne = codes "NE"
operator_text op.Ge = codes "GE"
operator_text op.Gt = codes "GT"
operator_text op.Not = codes "NOT"
operator_text op.And = codes "AND"
operator_text op.Or = codes "OR"
operator_text op.Eqv = codes "EQV"
operator_text op.Neqv = codes "NEQV"
operator_text op.Mod = codes "MOD"
operator_text op.Abs = codes "ABS"
operator_text op.Sign = codes "SIGN"
operator_text op.Max = codes "MAX"
operator_text op.Min = codes "MIN"
operator_text op.Truth = codes "TRUTH"
operator_text op.Bound = codes "BOUND"
operator_text op.Place = codes "PLACE"
operator_text op.Three = codes "THREE"
operator_text op.Pick = codes "PICK"
operator_text op.Step = codes "STEP"
operator_text op.AddChecked = codes "ADDC"
operator_text op.SubChecked = codes "SUBC"
operator_text op.MulChecked = codes "MULC"
operator_text op.NegChecked = codes "NEGC"
operator_text op.AbsChecked = codes "ABSC"
operator_text op.PowChecked = codes "POWC"

abbrev pub work_text : Work → List ℕ
work_text work.Load = codes "LOAD"
work_text (work.Apply op) = operator_text op
work_text work.Store = codes "STORE"
work_text work.Write = codes "WRITE"
work_text work.Begin = codes "BEGIN"
work_text work.Advance = codes "ADVANCE"
work_text work.Decide = codes "DECIDE"
work_text work.Take = codes "TAKE"

abbrev pub trap_text : Trap → List ℕ
trap_text trap.Divide = codes "DIVIDE"
trap_text trap.Subscript = codes "SUBSCRIPT"
trap_text trap.Step = codes "STEP"
trap_text trap.Input = codes "INPUT"
trap_text trap.Overflow = codes "OVERFLOW"
