-- What signs make of the expressions in which they stand (ANSI X3.9-1978, sections 6.3 and 6.4).
use Rattle.std.specs.Prelude.{Bool, true, false}
use Rattle.fortran_tree.specs.declared.signs.Sign.{Sign}
use Rattle.fortran_tree.specs.declared.signs.Sign.TheVariants.{Plus, Minus, Times, Divide, Power, Comma, Equals, Colon}

-- an expression with this operator outside of brackets is logical
abbrev pub is_logical : Sign → Bool
is_logical Plus = false
is_logical Minus = false
is_logical Times = false
is_logical Divide = false
is_logical Power = false
is_logical Comma = false
is_logical Equals = false
is_logical Colon = false
is_logical _ = true
