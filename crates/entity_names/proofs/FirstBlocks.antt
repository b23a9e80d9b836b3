-- What the first unit with a block says of it.
use Rattle.std.proofs.Common.{◌≡◌, ℕ, ◌<◌, true, List, [], length, get_or, nat_lt, Option, Some, None, refl, sym, ap, ◌∙◌, arith}
use Rattle.std.specs.List.{slice_get}
use Rattle.std.specs.Option.{is_some}
use Rattle.std.proofs.lemmas.Bool.{ltb-true}
use Rattle.std.proofs.lemmas.Option.{slice_get-get_or}
use Rattle.f77_tree.specs.declared.statements.Labelled.{Labelled}
use Rattle.f77_tree.specs.Places.{same_block}
use Rattle.indexmap.specs.IndexMap.{get}
use Rattle.entity_names.specs.declared.unit_entities.UnitNames.{UnitNames}
use Rattle.program_units.specs.declared.entity.Entity.TheVariants.{InBlock}
use Rattle.program_units.specs.Entities.{block_list}
use Rattle.program_units.specs.Expansion.{block_size, declared_in}
use Rattle.program_units.specs.Names.{same_entity}
use Rattle.program_units.specs.Merged.{first_with_block}
use Rattle.entity_names.specs.UnitBlocks.{or_zero}
use Rattle.entity_names.specs.UnitEntities.{AreNamesOf, AreNamesOfAll}
use Rattle.program_units.specs.Units.{unit_at}
use Rattle.entity_names.proofs.KeptNames.{kept-at}
use Rattle.unit_laws.proofs.ManyBlocks.{is-first, no-first}

module _ (us : List (List Labelled)) (block : Option (List ℕ)) where
  pub size-first : (k : ℕ) → first_with_block us block ≡ Some k → block_size us block ≡ length (block_list (unit_at us k) block)
  size-first k is = let first = is-first block us k is in rw first.kept refl

  pub no-size : first_with_block us block ≡ None → block_size us block ≡ 0
  no-size none = rw (no-first block us none) refl

  pub none-inside : (place : ℕ) → nat_lt place (block_size us block) ≡ true → first_with_block us block ≡ None → ⊥
  none-inside place inside none =
      let below = ltb-true place (block_size us block) inside in
      let size = no-size none in
      omega (arith, below, size)

  pub in-first : (place k : ℕ) (name : List ℕ) → first_with_block us block ≡ Some k → slice_get (block_list (unit_at us k) block) place ≡ Some name → declared_in us (InBlock block place) ≡ (unit_at us k, name)
  in-first place k name is there = let first = is-first block us k is in rw (first.kept, there) refl

  pub first-inside : (k : ℕ) → first_with_block us block ≡ Some k → k < length us
  first-inside k is = (is-first block us k is).inside

module _ (us : List (List Labelled)) (table : List UnitNames) (all : AreNamesOfAll us table) (block : Option (List ℕ)) where
  pub table-inside : (k : ℕ) → first_with_block us block ≡ Some k → k < length table
  table-inside k is =
      let inside = first-inside us block k is in
      let count = all.count in
      omega (arith, inside, count)

  first-kept : (k : ℕ) (kept : UnitNames) → first_with_block us block ≡ Some k → kept ≡ get_or table k kept → AreNamesOf (unit_at us k) kept
  first-kept k kept is stands = kept-at us table k kept all (first-inside us block k is) stands

  pub size-kept : (k n : ℕ) (kept : UnitNames) → first_with_block us block ≡ Some k → kept ≡ get_or table k kept → n ≡ or_zero (get same_block kept.blocks.sizes block) → n ≡ block_size us block
  size-kept k n kept is stands many = many ∙ (first-kept k kept is stands).blocks.sizes block ∙ sym (size-first us block k is)

  pub name-there : (place k : ℕ) (kept : UnitNames) → first_with_block us block ≡ Some k → kept ≡ get_or table k kept → nat_lt place (block_size us block) ≡ true → is_some (get same_entity kept.blocks.names (InBlock block place)) ≡ true
  name-there place k kept is stands inside =
      let below = ltb-true place (block_size us block) inside in
      let size = size-first us block k is in
      ap is_some ((first-kept k kept is stands).blocks.names block place ∙ slice_get-get_or (block_list (unit_at us k) block) place [] (omega (arith, below, size)))

  pub name-kept : (place k : ℕ) (kept : UnitNames) (name : List ℕ) → first_with_block us block ≡ Some k → kept ≡ get_or table k kept → get same_entity kept.blocks.names (InBlock block place) ≡ Some name → (unit_at us k, name) ≡ declared_in us (InBlock block place)
  name-kept place k kept name is stands found = sym (in-first us block place k name is (sym ((first-kept k kept is stands).blocks.names block place) ∙ found))
