-- The equations that the layout of storage solves are those that the declarations of the program give.
use Rattle.std.proofs.Common.{◌≡◌, ℕ, ◌⊎◌, ⊎_elim, ℤ, pos, ◌-ℤ◌, false, List, [], ◌∷◌, ◌++◌, map, get_or, All, Contains, Option, Some, None, refl, sym, ap, subst, ◌∙◌}
use Rattle.std.specs.Prelude.{flat_map}
use Rattle.std.proofs.lemmas.List.Elements.{All-contains, All-head, All-tail, All-map, Contains-get_or, Contains-append_left, Contains-append_right, Contains-append_cases}
use Rattle.f77_tree.specs.declared.declarations.Dim.{Dim}
use Rattle.f77_tree.specs.declared.declarations.Decl.{Decl}
use Rattle.f77_tree.specs.declared.declarations.CommonPart.{CommonPart}
use Rattle.f77_tree.specs.declared.declarations.Member.{Member}
use Rattle.f77_tree.specs.declared.programs.NameInfo.{NameInfo}
use Rattle.f77_tree.specs.declared.statements.Labelled.{Labelled}
use Rattle.f77_tree.specs.Value.{dims_of, size_of}
use Rattle.f77_tree.specs.Declarations.{index_of, member_index, member_offset, offset_of, AreWithin, IsMember, CommonOnce}
use Rattle.f77_tree.specs.Places.{Equation, Linked, block_names, neighbours, common_equations, equated, group_equations, equations}
use Rattle.layout_rules.specs.Faults.{first_line}
use Rattle.layout_rules.specs.Declarations.{all_commons, all_groups}
use Rattle.layout_rules.specs.Storage.{Standing, standings_of, standing_equations, size_at, member_distance, common_equations as common_solved, equated as equated_solved, group_equations as group_solved, equations as solved}
use Rattle.layout_rules.specs.StorageFaults.{are_wrong_dims, has_wrong_storage}
use Rattle.layout_rules.specs.Layout.{names_of, spots_of, placed_names}
use Rattle.layout_rules.specs.Source.{IsSource}
use Rattle.layout_rules.proofs.FlatParts.{of-part}
use Rattle.layout_rules.proofs.RightDims.{right_dims}
use Rattle.storage_laws.proofs.RightStorage.{right_dims_of}
use Rattle.layout_rules.proofs.ProperPlaced.{placed_names-agrees}
use Rattle.storage_laws.proofs.DeclaredForms.{All-flat_map}
use Rattle.storage_laws.proofs.DeclaredNames.{same_index as same_index_in}
use Rattle.storage_laws.proofs.DeclaredCommon.{all_commons-once}
use Rattle.storage_laws.proofs.DeclaredMembers.{all_groups-right}
use Rattle.storage_laws.proofs.DeclaredSizes.{size-exact, distance-exact}
use Rattle.storage_laws.proofs.DeclaredStandings.{names_standing, beyond, standing_equations-from, standing_equations-to}
use Rattle.storage_laws.proofs.PlacedBlocks.{placed-block_names}
use Rattle.storage_laws.proofs.PlacedEquations.{standings-once}
use Rattle.storage_laws.proofs.PlacedProgram.{placed-once}

-- the same equations, in some order
pub record HaveSameEquations (all others : List Equation) : Type 0 where
  pub to : (e : Equation) → Contains all e → Contains others e
  pub from : (e : Equation) → Contains others e → Contains all e

-- names that some equations link are linked by all that contain them
pub linked-within : (all others : List Equation) → ((e : Equation) → Contains all e → Contains others e) → (x y : ℕ) → Linked all x y → Linked others x y
linked-within all others within x y Linked.itself = Linked.itself
linked-within all others within x y (Linked.along e there more) = Linked.along e (within e there) (linked-within all others within e.to y more)
linked-within all others within x y (Linked.against e there more) = Linked.against e (within e there) (linked-within all others within e.from y more)

-- ---- lists

record IsInPart {S X : Type 0} (f : S → List X) (parts : List S) (x : X) : Type 0 where
  part : S
  among : Contains parts part
  there : Contains (f part) x

in_part : {S X : Type 0} (f : S → List X) (parts : List S) (x : X) → Contains (flat_map f parts) x → IsInPart f parts x
in_part f parts x there =
    All-contains (IsInPart f parts) (flat_map f parts) x (All-flat_map (IsInPart f parts) f parts (λ k d lt j e within. record { part = get_or parts k d; among = Contains-get_or parts k d lt; there = Contains-get_or _ j e within })) there

-- ---- COMMON

abbrev equation : ℕ → ℕ → ℤ → Equation
equation from to distance = record { from = from; to = to; distance = distance }

abbrev standing : Option (List ℕ) → ℕ → Standing
standing block name = record { block = block; name = name }

-- a part of COMMON tells the block
record IsToldBy (commons : List CommonPart) (block : Option (List ℕ)) : Type 0 where
  part : CommonPart
  among : Contains commons part
  same : part.block ≡ block

module _ (names placed : List NameInfo) (index : (name : List ℕ) → index_of placed name ≡ index_of names name) (sizes : (k : ℕ) → size_of (dims_of placed k) ≡ pos (size_at names k)) where
  neighbours-after : (x : ℕ) (xs : List ℕ) → neighbours placed (x ∷ xs) ≡ beyond names (Some x) xs
  neighbours-after x [] = refl
  neighbours-after x (y ∷ xs) =
      ap (λ (d : ℤ). equation x y d ∷ neighbours placed (y ∷ xs)) (sizes x) ∙ ap (λ (es : List Equation). equation x y (pos (size_at names x)) ∷ es) (neighbours-after y xs)

  neighbours-all : (xs : List ℕ) → neighbours placed xs ≡ beyond names None xs
  neighbours-all [] = refl
  neighbours-all (x ∷ xs) = neighbours-after x xs

  told_by : (commons : List CommonPart) → All (λ s. IsToldBy commons s.block) (flat_map (standings_of names) commons)
  told_by commons =
      All-flat_map (λ s. IsToldBy commons s.block) (standings_of names) commons
      (λ k d lt. All-map (λ (s : Standing). IsToldBy commons s.block) (λ (decl : Decl). standing _ (index_of names decl.name)) _ (λ j e within. record { part = _; among = Contains-get_or commons k d lt; same = refl }))

  module _ (commons : List CommonPart) (once : CommonOnce names commons) where
    abbrev of_block : CommonPart → List Equation
    of_block part = neighbours placed (block_names placed commons part.block)

    of_block-standing : (part : CommonPart) → of_block part ≡ beyond names None (names_standing part.block (flat_map (standings_of names) commons))
    of_block-standing part = neighbours-all (block_names placed commons part.block) ∙ ap (beyond names None) (placed-block_names names placed index part.block commons)

    all_standings : common_solved names commons ≡ standing_equations names [] (flat_map (standings_of names) commons)
    all_standings = ap (standing_equations names []) (standings-once names commons once)

    common-from : (e : Equation) → Contains (common_equations placed commons) e → Contains (common_solved names commons) e
    common-from e there =
        let one = in_part of_block commons e there in
        subst (λ (es : List Equation). Contains es e) (sym all_standings)
        (standing_equations-from names one.part.block (flat_map (standings_of names) commons) e (subst (λ (es : List Equation). Contains es e) (of_block-standing one.part) one.there))

    common-to : (e : Equation) → Contains (common_solved names commons) e → Contains (common_equations placed commons) e
    common-to e there =
        let all = flat_map (standings_of names) commons in
        let one = standing_equations-to names (IsToldBy commons) all e (told_by commons) (subst (λ (es : List Equation). Contains es e) all_standings there) in
        let here : Contains (beyond names None (names_standing one.told.part.block all)) e = subst (λ (block : Option (List ℕ)). Contains (beyond names None (names_standing block all)) e) (sym one.told.same) one.there in
        of-part of_block commons one.told.part e one.told.among (subst (λ (es : List Equation). Contains es e) (sym (of_block-standing one.told.part)) here)

  -- ---- EQUIVALENCE

  -- a member's distance counts exactly
  record IsExact (member : Member) : Type 0 where
    distance : member_offset placed member ≡ member_distance names member

  equated-same : (a b : Member) → IsExact a → IsExact b → equated placed a b ≡ equated_solved names a b
  equated-same a b is_a is_b =
      ap (λ (k : ℕ). equation k (member_index placed b) (member_offset placed a -ℤ member_offset placed b)) (index a.name)
      ∙ ap (λ (k : ℕ). equation (member_index names a) k (member_offset placed a -ℤ member_offset placed b)) (index b.name)
      ∙ ap (λ (z : ℤ). equation (member_index names a) (member_index names b) (z -ℤ member_offset placed b)) is_a.distance
      ∙ ap (λ (z : ℤ). equation (member_index names a) (member_index names b) (member_distance names a -ℤ z)) is_b.distance

  rest-same : (first : Member) (rest : List Member) → IsExact first → All IsExact rest → map (equated placed first) rest ≡ map (equated_solved names first) rest
  rest-same first [] is all = refl
  rest-same first (member ∷ rest) is all =
      ap (λ (e : Equation). e ∷ map (equated placed first) rest) (equated-same first member is (All-head IsExact member rest all))
      ∙ ap (λ (es : List Equation). equated_solved names first member ∷ es) (rest-same first rest is (All-tail IsExact member rest all))

  group-same : (group : List Member) → All IsExact group → group_equations placed group ≡ group_solved names group
  group-same [] all = refl
  group-same (first ∷ rest) all = rest-same first rest (All-head IsExact first rest all) (All-tail IsExact first rest all)

  groups-same : (groups : List (List Member)) → All (λ group. All IsExact group) groups → flat_map (group_equations placed) groups ≡ flat_map (group_solved names) groups
  groups-same [] all = refl
  groups-same (group ∷ groups) all =
      ap (λ (es : List Equation). es ++ flat_map (group_equations placed) groups) (group-same group (All-head (λ (g : List Member). All IsExact g) group groups all))
      ∙ ap (λ (es : List Equation). group_solved names group ++ es) (groups-same groups (All-tail (λ (g : List Member). All IsExact g) group groups all))

  -- ---- all of them

  same_equations : (commons : List CommonPart) (groups : List (List Member)) → CommonOnce names commons → All (λ group. All IsExact group) groups → HaveSameEquations (solved names commons groups) (equations placed commons groups)
  same_equations commons groups once exact =
      let here = flat_map (group_equations placed) groups in
      let there = flat_map (group_solved names) groups in
      let same : here ≡ there = groups-same groups exact in
      record {
        to = λ e is. ⊎_elim
            (λ common. Contains-append_left (common_equations placed commons) here e (common-to commons once e common))
            (λ group. Contains-append_right (common_equations placed commons) here e (subst (λ (es : List Equation). Contains es e) (sym same) group))
            (Contains-append_cases (common_solved names commons) there e is);
        from = λ e is. ⊎_elim
            (λ common. Contains-append_left (common_solved names commons) there e (common-from commons once e common))
            (λ group. Contains-append_right (common_solved names commons) there e (subst (λ (es : List Equation). Contains es e) same group))
            (Contains-append_cases (common_equations placed commons) here e is);
      }

-- ---- the declarations of a program

module _ (whole : List Labelled) (right : first_line (has_wrong_storage (names_of whole) (placed_names whole) whole) whole ≡ None) where
  abbrev table : List NameInfo
  table = names_of whole

  abbrev filled : List NameInfo
  filled = placed_names whole

  once : CommonOnce table (all_commons whole)
  once = placed-once table (spots_of whole) (all_commons whole) (all_commons-once whole right)

  right_at : (k : ℕ) → are_wrong_dims (dims_of table k) ≡ false
  right_at k = right_dims table k (right_dims_of table filled whole right)

  -- the sizes of names count exactly
  pub sizes-exact : (k : ℕ) → size_of (dims_of filled k) ≡ pos (size_at table k)
  sizes-exact k = ap size_of ((placed_names-agrees whole).dims k) ∙ size-exact (dims_of table k) (right_at k)

  -- and so do the distances of members
  pub member-exact : (member : Member) → IsMember filled member → member_offset filled member ≡ member_distance table member
  member-exact member is =
      let same : dims_of filled (member_index filled member) ≡ dims_of table (member_index table member) = (placed_names-agrees whole).dims (member_index filled member) ∙ ap (dims_of table) (same_index_in whole member.name) in
      let element : (member.subs ≡ []) ⊎ AreWithin (dims_of table (member_index table member)) member.subs = subst (λ (dims : List Dim). (member.subs ≡ []) ⊎ AreWithin dims member.subs) same is.element in
      ap (λ (dims : List Dim). offset_of dims member.subs) same ∙ distance-exact (dims_of table (member_index table member)) member.subs (right_at (member_index table member)) element

  -- the equations that the layout solves are those of the program
  pub equations-agree : IsSource whole → HaveSameEquations (solved table (all_commons whole) (all_groups whole)) (equations filled (all_commons whole) (all_groups whole))
  equations-agree source =
      same_equations table filled (same_index_in whole) sizes-exact (all_commons whole) (all_groups whole) once
      (λ k d lt j e within. record { distance = member-exact _ ((all_groups-right whole source right k d lt).members j e within) })
