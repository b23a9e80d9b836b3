-- The declarations of a program whose source has no fault of storage are well formed.
use Rattle.std.proofs.Common.{◌≡◌, Bool, List, None}
use Rattle.f77_tree.specs.declared.statements.Labelled.{Labelled}
use Rattle.f77_tree.specs.WellFormed.{AreDeclarations}
use Rattle.layout_rules.specs.Faults.{first_line}
use Rattle.layout_rules.specs.Layout.{names_of, placed_names, program}
use Rattle.layout_rules.specs.Source.{IsSource}
use Rattle.layout_rules.specs.StorageFaults.{has_wrong_storage}
use Rattle.storage_laws.proofs.DeclaredNames.{placed_names-infos, placed_names-differ}
use Rattle.storage_laws.proofs.DeclaredCommon.{all_commons-right, all_commons-once}
use Rattle.storage_laws.proofs.DeclaredMembers.{all_groups-right}
use Rattle.storage_laws.proofs.DeclaredData.{all_inits-right, all_inits-once}

pub program-AreDeclarations : (whole : List Labelled) (checked : Bool) → IsSource whole → first_line (has_wrong_storage (names_of whole) (placed_names whole) whole) whole ≡ None
    → AreDeclarations (program whole checked).names (program whole checked).commons (program whole checked).groups (program whole checked).inits
program-AreDeclarations whole checked source right = record {
  table = placed_names-infos whole source right;
  differ = placed_names-differ whole;
  common = all_commons-right whole source right;
  common_once = all_commons-once whole right;
  equivalence = all_groups-right whole source right;
  init = all_inits-right whole right source;
  given_once = all_inits-once whole right;
}
