-- A block of a unit, against that of the first unit that has it, by what is kept of both.
use Rattle.std.proofs.Common.{◌≡◌, ℕ, ◌≤◌, Bool, true, false, not, List, [], length, Option, refl, sym, ap, ◌∙◌}
use Rattle.std.specs.Prelude.{unwrap_or}
use Rattle.std.specs.List.{position_or_len}
use Rattle.f77_tree.specs.declared.declarations.CommonPart.{CommonPart}
use Rattle.f77_tree.specs.declared.statements.Labelled.{Labelled}
use Rattle.layout_rules.specs.Declarations.{all_commons}
use Rattle.declared_names.specs.Described.{Described, described}
use Rattle.declared_names.specs.KeptDeclarations.{said_by}
use Rattle.unit_checks.specs.declared.block_names.BlockTable.{BlockTable}
use Rattle.unit_checks.specs.Alike.{are_alike_told}
use Rattle.program_units.specs.Entities.{block_list}
use Rattle.program_units.specs.Names.{has_block}
use Rattle.program_units.specs.Refusals.{are_alike, first_with}
use Rattle.program_units.specs.Units.{unit_at}
use Rattle.unit_checks.specs.BlockTables.{IsTableOfBlocks, found_names, has_part, is_mismatched_block, names_if, names_in}
use Rattle.unit_checks.proofs.AlikeOnes.{alike-told}
use Rattle.program_units.proofs.FirstPlaces.{first-at-place, place-few}
use Rattle.unit_checks.proofs.KeptBlocks.{none-here}

pub owner-inside : (us : List (List Labelled)) (block : Option (List ℕ)) → position_or_len (λ (u : List Labelled). has_block u block) us ≤ length us
owner-inside us block = place-few (λ (u : List Labelled). has_block u block) us

or-empty : (has : Bool) (names : List (List ℕ)) → (has ≡ false → names ≡ []) → unwrap_or (names_if has names) [] ≡ names
or-empty true names none = refl
or-empty false names none = sym (none refl)

list-is : (unit : List Labelled) (table : BlockTable) (block : Option (List ℕ)) → IsTableOfBlocks unit table → unwrap_or (found_names table.names block) [] ≡ block_list unit block
list-is unit table block is =
    let parts : List CommonPart = all_commons unit in
    ap (λ (o : Option (List (List ℕ))). unwrap_or o []) (is.kept.names block) ∙ or-empty (has_part parts block) (names_in parts block) (none-here parts block)

alike-by : (u v : List Labelled) (here there : BlockTable) (block : Option (List ℕ)) → IsTableOfBlocks u here → IsTableOfBlocks v there
    → are_alike_told (said_by here.declared) (said_by there.declared) (unwrap_or (found_names here.names block) []) (unwrap_or (found_names there.names block) []) ≡ are_alike u v (block_list u block) (block_list v block)
alike-by u v here there block a b =
    let xs : List (List ℕ) = unwrap_or (found_names here.names block) [] in
    let ys : List (List ℕ) = unwrap_or (found_names there.names block) [] in
    ap (λ (d : Described). are_alike_told d (said_by there.declared) xs ys) a.declared
    ∙ ap (λ (d : Described). are_alike_told (described u) d xs ys) b.declared
    ∙ ap (λ (names : List (List ℕ)). are_alike_told (described u) (described v) names ys) (list-is u here block a)
    ∙ ap (are_alike_told (described u) (described v) (block_list u block)) (list-is v there block b)
    ∙ alike-told u v (block_list u block) (block_list v block)

pub mismatched-by : (us : List (List Labelled)) (k owner : ℕ) (here there : BlockTable) (block : Option (List ℕ)) → IsTableOfBlocks (unit_at us k) here → IsTableOfBlocks (unit_at us owner) there
    → owner ≡ position_or_len (λ (u : List Labelled). has_block u block) us
    → not (are_alike_told (said_by here.declared) (said_by there.declared) (unwrap_or (found_names here.names block) []) (unwrap_or (found_names there.names block) [])) ≡ is_mismatched_block us (unit_at us k) block
mismatched-by us k owner here there block a b is =
    let u : List Labelled = unit_at us k in
    let first : unit_at us owner ≡ first_with us block = ap (unit_at us) is ∙ sym (first-at-place (λ (v : List Labelled). has_block v block) us) in
    ap not (alike-by u (unit_at us owner) here there block a b)
    ∙ ap (λ (v : List Labelled). not (are_alike u v (block_list u block) (block_list v block))) first
