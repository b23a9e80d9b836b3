-- The kinds that statements give, as they are kept while none is given twice.
use Rattle.std.specs.Prelude.{◌≡◌, Bool, ◌&&◌, ◌||◌, ◌==◌, ◌++◌, bytes_eq}
use Rattle.f77_tree.specs.declared.statements.Stmt.{Stmt}
use Rattle.declared_names.specs.declared.type_faults.Given.{Given}
use Rattle.layout_rules.specs.Declarations.{is_implicit_none}
use Rattle.layout_rules.specs.Faults.{has_repeat}
use Rattle.layout_rules.specs.TypeFaults.{typed_names, implied_letters, is_implicit}

-- the statement gives a kind to a name or a letter that has one, or it is an IMPLICIT beside IMPLICIT NONE
abbrev pub gives_again : Given → Stmt → Bool
gives_again given stmt =
    has_repeat bytes_eq given.typed.keys (typed_names stmt)
    || has_repeat (λ a b. a == b) given.implied.keys (implied_letters stmt)
    || (is_implicit stmt && ((is_implicit_none stmt && given.has_implicit) || given.has_none))

-- what is given after the statement
pub record GivesMore (before : Given) (stmt : Stmt) (after : Given) : Type 0 where
  pub typed : after.typed.keys ≡ before.typed.keys ++ typed_names stmt
  pub implied : after.implied.keys ≡ before.implied.keys ++ implied_letters stmt
  pub implicit : after.has_implicit ≡ (before.has_implicit || is_implicit stmt)
  pub none : after.has_none ≡ (before.has_none || is_implicit_none stmt)
