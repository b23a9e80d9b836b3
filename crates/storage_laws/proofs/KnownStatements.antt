-- The names of COMMON and EQUIVALENCE statements are in the table.
use Rattle.std.proofs.Common.{List}
use Rattle.f77_tree.specs.declared.statements.Labelled.{Labelled}
use Rattle.layout_rules.specs.Declarations.{parts_of, groups_of}
use Rattle.layout_rules.specs.Layout.{names_of}
use Rattle.layout_rules.specs.Standings.{AreKnown}
use Rattle.layout_rules.proofs.FlatParts.{each_part}
use Rattle.storage_laws.proofs.DeclaredKnown.{PartKnown, GroupKnown, all_commons-known, all_groups-known}

pub statements-known : (whole : List Labelled) → AreKnown (names_of whole) whole
statements-known whole = λ j s lt.
    (each_part (PartKnown whole) (λ t. parts_of t.stmt) whole (all_commons-known whole) j s lt, each_part (GroupKnown whole) (λ t. groups_of t.stmt) whole (all_groups-known whole) j s lt)
