-- A unit by what its copy has of labels: so many of its own, and those of the units that it calls.
use Rattle.std.specs.Prelude.{ℕ, ◌==◌, min, if◌then◌else◌, List, map, length, sum_by, Option, Some, None}
use Rattle.std.specs.List.{range_with_len}
use Rattle.f77_tree.specs.declared.statements.Labelled.{Labelled}
use Rattle.program_units.specs.Units.{Call, call_in, unit_at}
use Rattle.program_units.specs.Widths.{is_kept}
use Rattle.program_units.specs.CallTable.{CallRow, callees}

abbrev pub own_labels_by : (label : ℕ) → Option Call → ℕ
own_labels_by label None = if label == 0 then 0 else 1
own_labels_by label (Some call) = 2

abbrev pub own_labels : (k : ℕ) → Labelled → ℕ
own_labels k s = if is_kept k s.stmt then own_labels_by s.label (call_in s.stmt) else 0

abbrev pub label_row : (limit : ℕ) → List (List Labelled) → (k : ℕ) → CallRow
label_row limit us k = record { own = min (sum_by (own_labels k) (unit_at us k)) limit; callees = callees us (unit_at us k) }

abbrev pub label_rows : (limit : ℕ) → List (List Labelled) → List CallRow
label_rows limit us = map (label_row limit us) (range_with_len 0 (length us))
