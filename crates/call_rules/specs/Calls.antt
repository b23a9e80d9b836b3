-- Statements that may call functions, and what stands around them.
use Rattle.std.specs.Prelude.{◌||◌, Bool, true, false, List, [], ◌∷◌, ◌++◌, map, is_some}
use Rattle.fortran_tree.specs.declared.heads.Head.{Head}
use Rattle.fortran_tree.specs.declared.heads.Head.TheVariants.{ArithmeticIf, Assign, Call, Do, ElseIf, EndIf, GoTo, Print, Read, Then}
use Rattle.fortran_tree.specs.declared.statements.Statement.{Statement}

-- its body has expressions
abbrev pub has_expressions : Head → Bool
has_expressions ArithmeticIf = true
has_expressions Assign = true
has_expressions Call = true
has_expressions Do = true
has_expressions ElseIf = true
has_expressions GoTo = true
has_expressions Print = true
has_expressions Read = true
has_expressions Then = true
has_expressions _ = false

-- it, or the condition on which it depends, has expressions
abbrev pub may_call : Statement → Bool
may_call statement = is_some statement.guard || has_expressions statement.head

abbrev pub heads : List Statement → List Head
heads statements = map (λ statement. statement.head) statements

-- the kinds of statements in a block IF around others
abbrev pub block_heads : List Head → List Head
block_heads inside = Then ∷ (inside ++ EndIf ∷ [])
