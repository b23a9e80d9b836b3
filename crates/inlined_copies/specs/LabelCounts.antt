-- How many labels the copy of each unit has, counted once for all.
use Rattle.std.specs.Prelude.{◌≡◌, ℕ, List, min, sum_by, get_or}
use Rattle.f77_tree.specs.declared.statements.Labelled.{Labelled}
use Rattle.program_units.specs.Units.{unit_at}
use Rattle.program_units.specs.Widths.{labels}

abbrev pub count_at : (counts : List ℕ) → ℕ → ℕ
count_at counts k = get_or counts k 0

-- the labels of a unit's statements, where copies of units have so many
abbrev pub labels_of : List (List Labelled) → (counts : List ℕ) → (k : ℕ) → List Labelled → ℕ
labels_of us counts k stmts = sum_by (labels (count_at counts) us k) stmts

-- these are the counts of all units, each at most the limit
abbrev pub AreCounted : List (List Labelled) → (limit : ℕ) → (counts : List ℕ) → Type 0
AreCounted us limit counts = (k : ℕ) → count_at counts k ≡ min (labels_of us counts k (unit_at us k)) limit
