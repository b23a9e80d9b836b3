-- How many statements of subroutines are merged.
use Rattle.std.specs.Prelude.{ℕ, Bool, true, false, cond, not, ◌&&◌, List, Option, sum_by}
use Rattle.std.specs.List.{count_by, list_any, range_with_len}
use Rattle.f77_tree.specs.declared.statements.Labelled.{Labelled}
use Rattle.f77_tree.specs.declared.statements.Stmt.{Stmt}
use Rattle.f77_tree.specs.declared.statements.Stmt.TheVariants.{Equivalence, Init}
use Rattle.f77_tree.specs.Places.{same_block}
use Rattle.program_units.specs.Units.{unit_at, runs}

abbrev pub is_equivalence_or_data : Stmt → Bool
is_equivalence_or_data (Equivalence groups) = true
is_equivalence_or_data (Init parts) = true
is_equivalence_or_data _ = false

-- those of a unit, if it runs
abbrev pub storage_of : List (List Labelled) → (k : ℕ) → ℕ
storage_of us k = cond (runs us k) (count_by (λ s. is_equivalence_or_data s.stmt) (unit_at us k)) 0

-- those of so many units behind the main program
abbrev pub storage_below : List (List Labelled) → (n : ℕ) → ℕ
storage_below us n = sum_by (storage_of us) (range_with_len 1 n)

-- a block of the second list that isn't one of the first
abbrev pub is_added_by : (main running : List (Option (List ℕ))) → Option (List ℕ) → Bool
is_added_by main running block = not (list_any (same_block block) main) && list_any (same_block block) running
