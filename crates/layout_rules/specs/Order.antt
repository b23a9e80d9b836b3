-- The order of statements (ANSI X3.9-1978, section 3.5).
use Rattle.std.specs.Prelude.{ℕ, Bool, ◌&&◌, ◌||◌, nat_lt, ◌==◌, List}
use Rattle.std.specs.List.{list_any}
use Rattle.f77_tree.specs.declared.statements.Labelled.{Labelled}
use Rattle.f77_tree.specs.declared.statements.Stmt.{Stmt}
use Rattle.f77_tree.specs.declared.statements.Stmt.TheVariants.{Program, Implicit, ImplicitNone, TypeOf, Dimension, Common, Equivalence, End}

-- PROGRAM comes first, then IMPLICIT, then the other declarations, then DATA and executable statements, then END
abbrev pub rank : Stmt → ℕ
rank Program = 0
rank (Implicit ranges) = 1
rank ImplicitNone = 1
rank (TypeOf kind decls) = 2
rank (Dimension decls) = 2
rank (Common parts) = 2
rank (Equivalence groups) = 2
rank End = 4
rank _ = 3

abbrev pub is_out_of_order : (above : List Labelled) → Labelled → Bool
is_out_of_order above s = list_any (λ a. nat_lt (rank s.stmt) (rank a.stmt) || (rank a.stmt == 0 && rank s.stmt == 0) || rank a.stmt == 4) above
