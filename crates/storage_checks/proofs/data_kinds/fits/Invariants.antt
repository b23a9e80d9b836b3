use Rattle.std.proofs.Common.{◌≡◌, drop, map}
use Rattle.std.specs.List.{flat_map}
use Rattle.f77_tree.specs.InitialWords.{lit_kind}
use Rattle.layout_rules.specs.StorageFaults.{are_same_kinds}
use Rattle.storage_checks.specs.Runs.{all_constants, span_kinds}
use Rattle.storage_checks.proofs.data_kinds.fits.Given as goal

abbrev pub invariant-loop-span : goal.invariant-loop-span
invariant-loop-span l = are_same_kinds (flat_map span_kinds l.spans) (map lit_kind (all_constants l.values)) ≡ are_same_kinds (flat_map span_kinds (drop l.span-index l.spans)) (map lit_kind l.constants)
