-- Functions, which become subroutines.
use Rattle.std.specs.Prelude.{◌≡◌, Bool, true, false, List, All}
use Rattle.fortran_tree.specs.declared.heads.Head.{Head}
use Rattle.fortran_tree.specs.declared.heads.Head.TheVariants.{Declare, Function}
use Rattle.fortran_tree.specs.declared.statements.Statement.{Statement}

abbrev pub is_function : Head → Bool
is_function (Function kind) = true
is_function _ = false

abbrev pub is_type : Head → Bool
is_type (Declare kind) = true
is_type _ = false

-- no statement begins a function
abbrev pub HasNoFunction : List Statement → Type 0
HasNoFunction statements = All (λ statement. is_function statement.head ≡ false) statements
