-- The table of the program has each entity that a unit places beside another.
use Rattle.std.proofs.Common.{◌≡◌, ℕ, suc, ◌<◌, true, All, List, [], length, get_or, Option, Some, arith}
use Rattle.std.specs.List.{slice_get}
use Rattle.std.proofs.lemmas.Option.{slice_get-get_or, slice_get_within}
use Rattle.list_laws.proofs.Members.{Member-from_Contains, Member-map}
use Rattle.list_laws.specs.Member.{Member}
use Rattle.f77_tree.specs.declared.declarations.Member.{Member as Named}
use Rattle.f77_tree.specs.declared.programs.NameInfo.{NameInfo}
use Rattle.f77_tree.specs.declared.statements.Labelled.{Labelled}
use Rattle.f77_tree.specs.Declarations.{IsCommonPart, IsGroup, index_of}
use Rattle.layout_rules.specs.Declarations.{all_commons, all_groups}
use Rattle.unit_laws.proofs.MainNames.{names_of_block}
use Rattle.program_units.specs.declared.entity.Entity.{Entity}
use Rattle.program_units.specs.declared.entity.Entity.TheVariants.{InBlock}
use Rattle.program_units.specs.Entities.{block_list, entity_of}
use Rattle.program_units.specs.Expansion.{member_for, members_for, whole_list}
use Rattle.program_units.specs.Names.{name_for}
use Rattle.program_units.specs.Storage.{Declares, Distance, neighbours, tied}
use Rattle.program_units.specs.Units.{runs, unit_at}
use Rattle.called_runs.proofs.EntityNames.{found-as}
use Rattle.called_runs.proofs.LinkedEntities.{block-known, member-known}
use Rattle.called_runs.proofs.ListedBlocks.{contains-at}

abbrev pub IsKnown : List (List Labelled) → List NameInfo → Entity → Type 0
IsKnown us names e = index_of names (name_for us e) < length names

module _ (us : List (List Labelled)) (names : List NameInfo)
    (once : (k : ℕ) (block : Option (List ℕ)) (i : ℕ) (x : List ℕ) → slice_get (block_list (unit_at us k) block) i ≡ Some x → entity_of us k x ≡ InBlock block i)
    (there : (k : ℕ) (block : Option (List ℕ)) (i : ℕ) (x : List ℕ) → runs us k ≡ true → slice_get (block_list (unit_at us k) block) i ≡ Some x → slice_get (names_of_block block (all_commons (whole_list us))) i ≡ Some (name_for us (InBlock block i)))
    (grouped : (k : ℕ) (group : List Named) → runs us k ≡ true → Member (all_groups (unit_at us k)) group → Member (all_groups (whole_list us)) (members_for us k group))
    (parts-known : All (IsCommonPart names) (all_commons (whole_list us)))
    (groups-known : All (IsGroup names) (all_groups (whole_list us))) where
  place-known : (k : ℕ) (block : Option (List ℕ)) (i : ℕ) (x : List ℕ) → runs us k ≡ true → slice_get (block_list (unit_at us k) block) i ≡ Some x → IsKnown us names (InBlock block i)
  place-known k block i x run at = block-known names (all_commons (whole_list us)) parts-known block i (name_for us (InBlock block i)) (there k block i x run at)

  group-known : (k i : ℕ) (group : List Named) (m : Named) → runs us k ≡ true → Member (all_groups (unit_at us k)) group → slice_get group i ≡ Some m → IsKnown us names (entity_of us k m.name)
  group-known k i group m run among at =
      let has = Member-map (member_for us k) group m (Member-from_Contains group m (contains-at group i m at)) in
      member-known names (all_groups (whole_list us)) groups-known (members_for us k group) (member_for us k m) (grouped k group run among) has

  pub both-known : (d : Distance) → Declares us d → IsKnown us names d.from × IsKnown us names d.to
  both-known _ (neighbours k i block x run is) =
      let xs = block_list (unit_at us k) block in
      let found = found-as us k x (InBlock block (suc i)) is in
      let far : suc i < length xs = slice_get_within xs (suc i) x found.1 in
      let near : i < length xs = omega (arith, far) in
      (place-known k block i (get_or xs i []) run (slice_get-get_or xs i [] near), place-known k block (suc i) x run found.1)
  both-known _ (tied k i group first m d run among head at far) =
      let here = Member-from_Contains (all_groups (unit_at us k)) group among in
      (group-known k 0 group first run here head, group-known k i group m run here at)
