-- Lists of places by labels.
use Rattle.std.specs.Prelude.{ℕ, List, [], nat_eq, unwrap_or}
use Rattle.std.specs.Map.{lookup}

-- the places that are listed for a label: none where it has no list
abbrev pub listed : List (ℕ × List ℕ) → (label : ℕ) → List ℕ
listed lists label = unwrap_or (lookup (nat_eq label) lists) []
