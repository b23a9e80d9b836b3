-- The places of a program whose source has no fault of storage.
use Rattle.std.proofs.Common.{◌≡◌, ℕ, ◌<◌, Bool, List, None, arith}
use Rattle.f77_tree.specs.declared.statements.Labelled.{Labelled}
use Rattle.f77_tree.specs.Value.{dims_of}
use Rattle.f77_tree.specs.Places.{ArePlaces, IsWordOf, Linked, equations as equations_of}
use Rattle.layout_rules.specs.Faults.{first_line}
use Rattle.layout_rules.specs.Declarations.{all_commons, all_groups}
use Rattle.layout_rules.specs.Layout.{names_of, placed_names, program}
use Rattle.layout_rules.specs.Source.{IsSource}
use Rattle.layout_rules.specs.Storage.{equations, size_at}
use Rattle.layout_rules.specs.StorageFaults.{has_wrong_storage}
use Rattle.layout_rules.proofs.ElementCounts.{right-count}
use Rattle.storage_laws.proofs.DeclaredKnown.{all_commons-known, all_groups-known}
use Rattle.storage_laws.proofs.DeclaredCommon.{all_commons-once}
use Rattle.storage_laws.proofs.DeclaredEquations.{linked-within, sizes-exact, equations-agree}
use Rattle.layout_rules.proofs.RightDims.{right_dims}
use Rattle.storage_laws.proofs.RightStorage.{right_dims_of}
use Rattle.storage_laws.proofs.PlacedAlike.{places-alike}
use Rattle.storage_laws.proofs.PlacedProgram.{places-of, shared-of}

module _ (whole : List Labelled) (source : IsSource whole) (none : first_line (has_wrong_storage (names_of whole) (placed_names whole) whole) whole ≡ None) where
  some : (x : ℕ) → 0 < size_at (names_of whole) x
  some x =
      let count = right-count (dims_of (names_of whole) x) (right_dims (names_of whole) x (right_dims_of (names_of whole) (placed_names whole) whole none)) in
      omega (arith, count.0)

  pub program-ArePlaces : (checked : Bool) → ArePlaces (program whole checked).names (program whole checked).commons (equations_of (program whole checked).names (program whole checked).commons (program whole checked).groups) (program whole checked).words
  program-ArePlaces checked =
      let same = equations-agree whole none source in
      let are = places-of whole (λ x. (sizes-exact whole none x, some x)) (all_commons-known whole) (all_groups-known whole) (all_commons-once whole none) none in
      places-alike (placed_names whole) (all_commons whole) (equations (names_of whole) (all_commons whole) (all_groups whole)) (equations_of (placed_names whole) (all_commons whole) (all_groups whole)) (program whole checked).words same.to same.from are

  pub program-shared : (checked : Bool) (x y word : ℕ) → IsWordOf (program whole checked).names x word → IsWordOf (program whole checked).names y word → Linked (equations_of (program whole checked).names (program whole checked).commons (program whole checked).groups) x y
  program-shared checked x y word at_x at_y =
      let same = equations-agree whole none source in
      linked-within (equations (names_of whole) (all_commons whole) (all_groups whole)) (equations_of (placed_names whole) (all_commons whole) (all_groups whole)) same.to x y
      (shared-of whole (λ x. (sizes-exact whole none x, some x)) (all_commons-known whole) (all_groups-known whole) (all_commons-once whole none) none x y word at_x at_y)
