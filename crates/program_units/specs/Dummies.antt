-- Dummies that stand where they can't.
use Rattle.std.specs.Prelude.{ℕ, Bool, ◌||◌, if◌then◌else◌, List, [], bytes_eq}
use Rattle.std.specs.List.{list_any}
use Rattle.f77_tree.specs.declared.statements.Stmt.{Stmt}
use Rattle.layout_rules.specs.Appearances.{appearing}
use Rattle.layout_rules.specs.Faults.{has_repeat}
use Rattle.program_units.specs.Refusals.{is_of_storage}

-- the names in a statement, if it is COMMON, EQUIVALENCE or DATA
abbrev pub stored : (arrays : List ℕ → Bool) → Stmt → List (List ℕ)
stored arrays s = if is_of_storage s then appearing arrays s else []

abbrev pub is_stored : (names : List (List ℕ)) → List ℕ → Bool
is_stored names d = list_any (bytes_eq d) names

-- one of the dummies stands twice, or is one of these names
abbrev pub are_wrong_dummies : (names dummies : List (List ℕ)) → Bool
are_wrong_dummies names dummies = has_repeat bytes_eq [] dummies || list_any (is_stored names) dummies
