-- Each executable of a source without wrong types is one by itself, over the table of its names.
use Rattle.std.proofs.Common.{◌≡◌, ◌||◌, Bool, true, false, not, List, [], length, take, get_or, All, None}
use Rattle.std.specs.Prelude.{◌≤◌, sum_by}
use Rattle.std.proofs.lemmas.Bool.{or_parts, not-false}
use Rattle.std.proofs.lemmas.List.Elements.{All-weaker}
use Rattle.std.proofs.lemmas.Option.{slice_get-get_or}
use Rattle.f77_tree.specs.declared.programs.NameInfo.{NameInfo}
use Rattle.f77_tree.specs.declared.statements.Labelled.{Labelled}
use Rattle.f77_tree.specs.declared.programs.Exec.{Exec}
use Rattle.f77_tree.specs.Control.{targets_of}
use Rattle.f77_tree.specs.Operations.{HasFewOperations}
use Rattle.f77_tree.specs.WellFormed.{IsExecutable}
use Rattle.layout_rules.specs.Source.{IsSource}
use Rattle.layout_rules.specs.Faults.{first_line}
use Rattle.layout_rules.specs.Declarations.{is_array}
use Rattle.layout_rules.specs.Types.{is_well_kinded}
use Rattle.layout_rules.specs.TypeFaults.{types_twice, implies_twice, is_beside_none, has_wrong_type}
use Rattle.layout_rules.specs.Labels.{is_labelled_twice}
use Rattle.layout_rules.specs.Counts.{asks_too_much}
use Rattle.layout_rules.specs.Executables.{executables}
use Rattle.layout_rules.specs.Layout.{names_of, placed_names, program}
use Rattle.layout_rules.proofs.NameTable.{appearing-known}
use Rattle.form_laws.proofs.ProperCounts.{none_at, executables-few_operations, executables-few_targets}
use Rattle.form_laws.proofs.ProperLengths.{executables-few}
use Rattle.layout_rules.proofs.ProperPlaced.{placed_names-agrees, IsExecutable-placed}
use Rattle.form_laws.proofs.ProperExecutables.{Fits, executables-AllExecutable}

right_kinds : (names : List NameInfo) (above : List Labelled) (s : Labelled) → has_wrong_type names above s ≡ false → is_well_kinded names s.stmt ≡ true
right_kinds names above s h = not-false (is_well_kinded names s.stmt) (or_parts (types_twice above s || implies_twice above s || is_beside_none above s) (not (is_well_kinded names s.stmt)) h).1

-- ---- the whole

-- the statements of a source without wrong types fit the table of its names
pub source-AllFit : (whole : List Labelled) → IsSource whole → first_line (has_wrong_type (names_of whole)) whole ≡ None → All (λ s. Fits (names_of whole) (is_array whole) s.stmt) whole
source-AllFit whole source none =
    λ k d lt. record { reads = (source.trees k d lt).reads; known = appearing-known whole k d lt; kinds = right_kinds (names_of whole) (take k whole) (get_or whole k d) (none_at (has_wrong_type (names_of whole)) [] whole k (get_or whole k d) none (slice_get-get_or whole k d lt)) }

pub source-AllExecutable : (whole : List Labelled) (checked : Bool) → IsSource whole → first_line (has_wrong_type (names_of whole)) whole ≡ None → All (λ exec. IsExecutable (names_of whole) exec.kind) (executables (names_of whole) checked whole)
source-AllExecutable whole checked source none = executables-AllExecutable (names_of whole) checked (is_array whole) whole (source-AllFit whole source none)

-- ---- the program

-- each executable of the program is one by itself
pub program-each : (whole : List Labelled) (checked : Bool) → IsSource whole → first_line (has_wrong_type (names_of whole)) whole ≡ None → All (λ exec. IsExecutable (placed_names whole) exec.kind) (program whole checked).execs
program-each whole checked source none =
    All-weaker (λ (exec : Exec). IsExecutable (names_of whole) exec.kind) (λ exec. IsExecutable (placed_names whole) exec.kind) (λ exec. IsExecutable-placed (names_of whole) (placed_names whole) (placed_names-agrees whole) exec.kind)
    (executables (names_of whole) checked whole) (source-AllExecutable whole checked source none)

module _ (whole : List Labelled) (checked : Bool) (little : first_line (asks_too_much (names_of whole) checked whole) whole ≡ None) where
  pub program-HasFewOperations : HasFewOperations (program whole checked)
  program-HasFewOperations = executables-few_operations (names_of whole) checked whole little

  pub program-target_count : sum_by (λ exec. length (targets_of exec.kind)) (program whole checked).execs ≤ 4000
  program-target_count = executables-few_targets (names_of whole) checked whole little

  pub program-count : IsSource whole → first_line is_labelled_twice whole ≡ None → length (program whole checked).execs ≤ 20000
  program-count source once = executables-few (names_of whole) checked whole (λ k d lt. (source.trees k d lt).reads) source.few once little
