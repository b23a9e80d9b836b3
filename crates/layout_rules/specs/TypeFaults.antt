-- Faults of kinds: a kind given twice, and expressions of the wrong kind (ANSI X3.9-1978, sections 8.4 and 8.5).
use Rattle.std.specs.Prelude.{ℕ, Bool, true, false, not, ◌+◌, ◌-◌, ◌&&◌, ◌||◌, ◌==◌, List, [], map, flat_map, bytes_eq}
use Rattle.std.specs.List.{list_any, range_with_len}
use Rattle.f77_tree.specs.declared.declarations.LetterRange.{LetterRange}
use Rattle.f77_tree.specs.declared.programs.NameInfo.{NameInfo}
use Rattle.f77_tree.specs.declared.statements.Labelled.{Labelled}
use Rattle.f77_tree.specs.declared.statements.Stmt.{Stmt}
use Rattle.f77_tree.specs.declared.statements.Stmt.TheVariants.{Implicit, ImplicitNone, TypeOf}
use Rattle.layout_rules.specs.Faults.{has_repeat}
use Rattle.layout_rules.specs.Declarations.{is_implicit_none}
use Rattle.layout_rules.specs.Types.{is_well_kinded}

-- the names of a type statement
abbrev pub typed_names : Stmt → List (List ℕ)
typed_names (TypeOf kind decls) = map (λ decl. decl.name) decls
typed_names _ = []

-- the letters of a range; one that runs backwards has none
abbrev pub letters_of_range : LetterRange → List ℕ
letters_of_range range = range_with_len range.from (range.to + 1 - range.from)

abbrev pub implied_letters : Stmt → List ℕ
implied_letters (Implicit ranges) = flat_map letters_of_range ranges
implied_letters _ = []

abbrev pub is_implicit : Stmt → Bool
is_implicit (Implicit ranges) = true
is_implicit ImplicitNone = true
is_implicit _ = false

-- a name has a kind above or before in the statement
abbrev pub types_twice : (above : List Labelled) → Labelled → Bool
types_twice above s = has_repeat bytes_eq (flat_map (λ a. typed_names a.stmt) above) (typed_names s.stmt)

-- a letter has a kind above or before in the statement
abbrev pub implies_twice : (above : List Labelled) → Labelled → Bool
implies_twice above s = has_repeat (λ a b. a == b) (flat_map (λ a. implied_letters a.stmt) above) (implied_letters s.stmt)

-- IMPLICIT NONE stands beside another IMPLICIT: the lower one of them is at fault
abbrev pub is_beside_none : (above : List Labelled) → Labelled → Bool
is_beside_none above s = is_implicit s.stmt && list_any (λ a. is_implicit a.stmt && (is_implicit_none a.stmt || is_implicit_none s.stmt)) above

abbrev pub has_wrong_type : List NameInfo → (above : List Labelled) → Labelled → Bool
has_wrong_type names above s = types_twice above s || implies_twice above s || is_beside_none above s || not (is_well_kinded names s.stmt)
