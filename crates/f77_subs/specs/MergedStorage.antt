-- EQUIVALENCE and DATA of subroutines as they are merged.
use Rattle.std.specs.Prelude.{ℕ, List, [], flat_map}
use Rattle.f77_tree.specs.declared.statements.Labelled.{Labelled}
use Rattle.f77_subs.specs.declared.merged_storage.StorageKind.{StorageKind}
use Rattle.f77_subs.specs.declared.merged_storage.StorageKind.TheVariants.{Equivalence, Data}
use Rattle.program_units.specs.Expansion.{data_for, equivalence_for, units_but_main}
use Rattle.program_units.specs.Units.{unit_at}

-- what is merged for a statement of the unit k, where those of this kind are
abbrev pub stored : StorageKind → List (List Labelled) → ℕ → Labelled → List Labelled
stored Equivalence us k s = equivalence_for us k s
stored Data us k s = data_for us k s

abbrev pub unit_storage : StorageKind → List (List Labelled) → ℕ → List Labelled
unit_storage kind us k = flat_map (stored kind us k) (unit_at us k)

-- what is merged for the statements of this kind of all subroutines that run
abbrev pub storage : StorageKind → List (List Labelled) → List Labelled
storage kind us = flat_map (unit_storage kind us) (units_but_main us)
