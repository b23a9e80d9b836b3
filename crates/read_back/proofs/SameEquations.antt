-- The equations of storage that a printed program is read with are those of the program, in some order.
use Rattle.std.proofs.Common.{◌≡◌, ℕ, ⊎_elim, pos, Bool, true, false, List, [], ◌∷◌, map, All, Contains, Option, Some, None, refl, sym, ap, subst, ◌∙◌, arith}
use Rattle.std.specs.Prelude.{flat_map}
use Rattle.std.specs.List.{list_any}
use mathlib.Core.Path.{fun_ext}
use Rattle.std.proofs.lemmas.Bool.{cases_Bool}
use Rattle.std.proofs.lemmas.List.Elements.{Contains-append_left, Contains-append_right, Contains-append_cases}
use Rattle.list_laws.proofs.Members.{Member-from_Contains, Contains-from_Member, Member-flat_map, Member-flat_mapped, member_of_list_any}
use Rattle.f77_tree.specs.declared.declarations.CommonPart.{CommonPart}
use Rattle.f77_tree.specs.declared.declarations.Dim.{Dim}
use Rattle.f77_tree.specs.declared.declarations.Member.{Member}
use Rattle.f77_tree.specs.declared.programs.NameInfo.{NameInfo}
use Rattle.f77_tree.specs.Value.{dims_of, size_of}
use Rattle.f77_tree.specs.Declarations.{index_of, part_names, member_offset, CommonOnce, IsMember, IsGroup}
use Rattle.f77_tree.specs.Places.{Equation, same_block, block_names, neighbours, common_equations, equated, group_equations, equations}
use Rattle.f77_tree.proofs.AllLemmas.{All-first, All-rest}
use Rattle.f77_tree.proofs.NameLemmas.{same_block-same}
use Rattle.layout_rules.specs.Storage.{Standing, size_of as counted, standings, standings_of, standing_equations, size_at, member_distance, common_equations as common_solved, equated as equated_solved, group_equations as group_solved, equations as solved}
use Rattle.layout_rules.specs.StorageFaults.{are_wrong_dims}
use Rattle.storage_laws.proofs.DeclaredSizes.{size-exact, distance-exact}
use Rattle.storage_laws.proofs.DeclaredStandings.{names_standing, beyond, standing_equations-from, standing_equations-to}
use Rattle.storage_laws.proofs.PlacedBlocks.{block-names}
use Rattle.storage_laws.proofs.PlacedEquations.{standings-once}
use Rattle.read_back.proofs.BlockNames.{filter_nothing}

-- Two tables that know the same names with the same dimensions, none of which are wrong; and two listings of COMMON, whose blocks have the
-- same names in the same order.
pub record AreAlike (names table : List NameInfo) (commons parts : List CommonPart) : Type 0 where
  pub index : (name : List ℕ) → index_of table name ≡ index_of names name
  pub dims : (k : ℕ) → dims_of table k ≡ dims_of names k
  pub right : (k : ℕ) → are_wrong_dims (dims_of names k) ≡ false
  pub blocks : (block : Option (List ℕ)) → block_names names parts block ≡ block_names names commons block
  pub once : CommonOnce table parts

module _ (names table : List NameInfo) (commons parts : List CommonPart) (are : AreAlike names table commons parts) where
  sizes : (k : ℕ) → size_of (dims_of names k) ≡ pos (size_at table k)
  sizes k = size-exact (dims_of names k) (are.right k) ∙ ap (λ (dims : List Dim). pos (counted dims)) (sym (are.dims k))

  -- ---- COMMON

  neighbours-after : (x : ℕ) (xs : List ℕ) → neighbours names (x ∷ xs) ≡ beyond table (Some x) xs
  neighbours-after x [] = refl
  neighbours-after x (y ∷ xs) = grind (arith, sizes x, pos (size_at table x), neighbours-after y xs)

  neighbours-all : (xs : List ℕ) → neighbours names xs ≡ beyond table None xs
  neighbours-all [] = refl
  neighbours-all (x ∷ xs) = neighbours-after x xs

  abbrev all : List Standing
  all = flat_map (standings_of table) parts

  abbrev of_block : Option (List ℕ) → List Equation
  of_block block = neighbours names (block_names names commons block)

  names-of_block : (block : Option (List ℕ)) → names_standing block all ≡ block_names names commons block
  names-of_block block = grind (arith, block-names table block parts, fun_ext are.index)

  of_block-standing : (block : Option (List ℕ)) → of_block block ≡ beyond table None (names_standing block all)
  of_block-standing block = neighbours-all (block_names names commons block) ∙ ap (beyond table None) (sym (names-of_block block))

  all_standings : common_solved table parts ≡ standing_equations table [] all
  all_standings = ap (standing_equations table []) (standings-once table parts are.once)

  -- an equation of a block is one of COMMON
  in_common : (block : Option (List ℕ)) (e : Equation) → Contains (of_block block) e → Contains (common_equations names commons) e
  in_common block e there =
      let test : CommonPart → Bool = λ part. same_block part.block block in
      ⊎_elim
      (λ (some : list_any test commons ≡ true).
      let part = member_of_list_any test commons some in
      let here : Contains (of_block part.one.block) e = subst (λ (b : Option (List ℕ)). Contains (of_block b) e) (sym (same_block-same part.one.block block part.passes)) there in
      Contains-from_Member (common_equations names commons) e (Member-flat_map (λ (p : CommonPart). of_block p.block) commons part.one e part.among (Member-from_Contains (of_block part.one.block) e here)))
      (λ (none : list_any test commons ≡ false).
      let empty : Contains [] e = subst (λ (ps : List CommonPart). Contains (neighbours names (flat_map (part_names names) ps)) e) (filter_nothing test commons none) there in
      absurd (omega (arith, empty.1)))
      (cases_Bool (list_any test commons))

  common-to : (e : Equation) → Contains (common_solved table parts) e → Contains (common_equations names commons) e
  common-to e there =
      let one = standing_equations-to table (λ block. Unit {0}) all e (λ k d lt. tt) (subst (λ (es : List Equation). Contains es e) all_standings there) in
      in_common one.block e (subst (λ (es : List Equation). Contains es e) (sym (of_block-standing one.block)) one.there)

  common-from : (e : Equation) → Contains (common_equations names commons) e → Contains (common_solved table parts) e
  common-from e there =
      let one = Member-flat_mapped (λ (p : CommonPart). of_block p.block) commons e (Member-from_Contains (common_equations names commons) e there) in
      let here : Contains (of_block one.origin.block) e = Contains-from_Member (of_block one.origin.block) e one.has in
      subst (λ (es : List Equation). Contains es e) (sym all_standings)
      (standing_equations-from table one.origin.block all e (subst (λ (es : List Equation). Contains es e) (of_block-standing one.origin.block) here))

  -- ---- EQUIVALENCE

  distances : (m : Member) → IsMember names m → member_offset names m ≡ member_distance table m
  distances m is = grind (arith, distance-exact, pos)

  equated-same : (a b : Member) → IsMember names a → IsMember names b → equated names a b ≡ equated_solved table a b
  equated-same a b is_a is_b = grind (arith, distances a is_a, distances b is_b)

  rest-same : (first : Member) (rest : List Member) → IsMember names first → All (IsMember names) rest → map (equated names first) rest ≡ map (equated_solved table first) rest
  rest-same first [] is members = refl
  rest-same first (m ∷ rest) is members =
      grind (arith, equated-same first m is (All-first (IsMember names) m rest members), All-first (IsMember names) m rest members, rest-same first rest is (All-rest (IsMember names) m rest members), All-rest (IsMember names) m rest members)

  group-same : (group : List Member) → All (IsMember names) group → group_equations names group ≡ group_solved table group
  group-same [] members = refl
  group-same (first ∷ rest) members = rest-same first rest (All-first (IsMember names) first rest members) (All-rest (IsMember names) first rest members)

  groups-same : (groups : List (List Member)) → All (IsGroup names) groups → flat_map (group_equations names) groups ≡ flat_map (group_solved table) groups
  groups-same [] each = refl
  groups-same (group ∷ groups) each =
      grind (arith, group-same group (All-first (IsGroup names) group groups each).members, All-first (IsGroup names) group groups each, groups-same groups (All-rest (IsGroup names) group groups each), All-rest (IsGroup names) group groups each)

  -- ---- all of them

  pub equations-to : (groups : List (List Member)) → All (IsGroup names) groups → (e : Equation) → Contains (solved table parts groups) e → Contains (equations names commons groups) e
  equations-to groups each e there =
      grind (arith, Contains-append_left, common-to e, Contains-append_right, groups-same groups each, Contains-append_cases (common_solved table parts) (flat_map (group_solved table) groups) e there)

  pub equations-from : (groups : List (List Member)) → All (IsGroup names) groups → (e : Equation) → Contains (equations names commons groups) e → Contains (solved table parts groups) e
  equations-from groups each e there =
      grind (arith, Contains-append_left, common-from e, Contains-append_right, groups-same groups each, Contains-append_cases (common_equations names commons) (flat_map (group_equations names) groups) e there)

  -- the names of a block, as they stand in COMMON
  pub standing-names : (block : Option (List ℕ)) → names_standing block (standings table parts) ≡ block_names names commons block
  standing-names block = ap (names_standing block) (standings-once table parts are.once) ∙ names-of_block block
