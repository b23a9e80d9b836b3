-- How an operand is written, as a net tells it.
use Rattle.std.specs.Prelude.{ℕ, List, ◌∷◌, ◌++◌, codes}
use Rattle.std.specs.Fmt.{decimal, signed_decimal}
use Rattle.operation_lists.specs.declared.operations.Operand.{Operand}
use Rattle.operation_lists.specs.declared.operations.Operand.TheVariants as operand

-- the node that gives it, or its known value
abbrev pub given_text : Operand → List ℕ
given_text (operand.Node giver) = 32 ∷ decimal giver
given_text (operand.Known z) = codes " =" ++ signed_decimal z
