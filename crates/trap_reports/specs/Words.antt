-- What is told of a cause.
use Rattle.std.specs.Prelude.{ℕ, List, ◌++◌, codes}
use Rattle.std.specs.Fmt.{signed_decimal}
use Rattle.op_table.specs.declared.Op.{Op}
use Rattle.op_table.specs.declared.Op.TheVariants as op
use Rattle.sure_traps.specs.declared.causes.Cause.{Cause}
use Rattle.sure_traps.specs.declared.causes.Cause.TheVariants as cause
use Rattle.trap_reports.specs.declared.words.TheConstants.{DIVISOR, MODULUS, POWER, STEP, OVERFLOW, OTHER_DIVISOR, OTHER_POWER, OTHER_STEP, OTHER_VALUE, OTHER_SUBSCRIPT}

-- what is wrong where an operator traps
abbrev pub operator_wrong : Op → List ℕ
operator_wrong op.Div = DIVISOR.now
operator_wrong op.Mod = MODULUS.now
operator_wrong op.Pow = POWER.now
operator_wrong op.Step = STEP.now
operator_wrong _ = OVERFLOW.now

-- a subscript outside the bounds of its dimension, in decimal
abbrev pub outside_text : (value low high : List ℕ) → List ℕ
outside_text value low high = codes "a subscript is " ++ value ++ codes ", outside the bounds " ++ low ++ codes ":" ++ high

abbrev pub wrong : Cause → List ℕ
wrong (cause.Operator op) = operator_wrong op
wrong (cause.Subscript value dim) = outside_text (signed_decimal value) (signed_decimal dim.lo) (signed_decimal dim.hi)

-- what to write instead
abbrev pub operator_instead : Op → List ℕ
operator_instead op.Div = OTHER_DIVISOR.now
operator_instead op.Mod = OTHER_DIVISOR.now
operator_instead op.Pow = OTHER_POWER.now
operator_instead op.Step = OTHER_STEP.now
operator_instead _ = OTHER_VALUE.now

abbrev pub instead : Cause → List ℕ
instead (cause.Operator op) = operator_instead op
instead (cause.Subscript value dim) = OTHER_SUBSCRIPT.now
