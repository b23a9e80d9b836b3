-- Kinds of statements that the rules take away.
use Rattle.std.specs.Prelude.{◌≡◌, Bool, true, false, List, All}
use Rattle.fortran_tree.specs.declared.heads.Head.{Head}
use Rattle.fortran_tree.specs.declared.heads.Head.TheVariants.{External, Intrinsic, Parameter, Save}
use Rattle.fortran_tree.specs.declared.statements.Statement.{Statement}

abbrev pub is_parameter : Head → Bool
is_parameter Parameter = true
is_parameter _ = false

-- it says what is so in the language of `dfc` anyway
abbrev pub is_needless : Head → Bool
is_needless External = true
is_needless Intrinsic = true
is_needless Save = true
is_needless _ = false

-- no statement is of such a kind
abbrev pub HasNo : (Head → Bool) → List Statement → Type 0
HasNo is_kind statements = All (λ statement. is_kind statement.head ≡ false) statements
