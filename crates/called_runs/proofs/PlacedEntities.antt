-- In the program that a text comes to, entities are placed as the units declare them.
use Rattle.std.proofs.Common.{◌≡◌, ℕ, zero, suc, ◌<◌, Bool, true, false, List, [], ◌∷◌, length, get_or, map, flat_map, filter, Option, Some, None, inl, inr, ⊎_elim, refl, sym, ap, subst, ◌∙◌, arith, ℤ, pos, ◌+ℤ◌, ◌-ℤ◌, Contains}
use Rattle.std.specs.List.{list_any, slice_get}
use Rattle.std.specs.Option.{option_map}
use Rattle.std.proofs.lemmas.Bool.{cases_Bool}
use Rattle.std.proofs.lemmas.Int.{ints}
use Rattle.std.proofs.lemmas.Option.{slice_get-get_or, slice_get-map, slice_get_within}
use Rattle.list_laws.proofs.Members.{Contains-from_Member, Member-flat_map, Member-from_Contains, Member-left, Member-map, Member-right, member_of_list_any}
use Rattle.list_laws.specs.Member.{Member}
use Rattle.f77_tree.specs.declared.declarations.CommonPart.{CommonPart}
use Rattle.f77_tree.specs.declared.declarations.Dim.{Dim}
use Rattle.f77_tree.specs.declared.declarations.Member.{Member as Named}
use Rattle.f77_tree.specs.declared.programs.NameInfo.{NameInfo}
use Rattle.f77_tree.specs.declared.statements.Labelled.{Labelled}
use Rattle.f77_tree.specs.Declarations.{index_of, member_offset, offset_of}
use Rattle.f77_tree.specs.Places.{Equation, block_names, common_equations, equated, equations, group_equations, neighbours, same_block}
use Rattle.f77_tree.specs.Value.{dims_of as dims_at, place_of, size_of}
use Rattle.layout_rules.specs.Declarations.{all_commons, all_groups, dims_of}
use Rattle.layout_rules.specs.Types.{dims_named}
use Rattle.unit_laws.proofs.MainNames.{names_of_block}
use Rattle.unit_laws.proofs.OwnNames.{blocks-same}
use Rattle.program_units.specs.declared.entity.Entity.{Entity}
use Rattle.program_units.specs.declared.entity.Entity.TheVariants.{InBlock}
use Rattle.program_units.specs.Entities.{block_list, entity_of}
use Rattle.program_units.specs.Expansion.{declared_in, member_for, members_for, whole_list}
use Rattle.program_units.specs.Names.{name_for}
use Rattle.program_units.specs.Refusals.{has_wrong_dummy}
use Rattle.program_units.specs.Storage.{Declares, Distance, IsOfRun, neighbours as side_by_side, offset_in, size_in, tied}
use Rattle.program_units.specs.Units.{runs, unit_at}
use Rattle.called_runs.specs.PairedWords.{listed_spot}
use Rattle.called_runs.proofs.EntityNames.{found-as}
use Rattle.called_runs.proofs.ListedBlocks.{contains-at, of-none}
use Rattle.called_runs.proofs.Neighbours.{behind, neighbours-at}
use Rattle.called_runs.proofs.OnceInCommon.{indices-are}
use Rattle.called_runs.proofs.StoredNames.{block-stored, group-stored, stored-run}

-- ---- equations of COMMON

module _ (names : List NameInfo) (commons : List CommonPart) where
  index-at : (block : Option (List ℕ)) (i : ℕ) (n : List ℕ) → slice_get (names_of_block block commons) i ≡ Some n → slice_get (block_names names commons block) i ≡ Some (index_of names n)
  index-at block i n there =
      let own : CommonPart → Bool = λ part. same_block part.block block in
      ap (λ (ns : List ℕ). slice_get ns i) (indices-are names (filter own commons))
      ∙ slice_get-map (index_of names) (names_of_block block commons) i
      ∙ ap (option_map (index_of names)) there

  -- the name at an index of a block
  pub record IsNameAt (block : Option (List ℕ)) (i k : ℕ) : Type 0 where
    pub name : List ℕ
    pub there : slice_get (names_of_block block commons) i ≡ Some name
    pub is : index_of names name ≡ k

  pub name-at : (block : Option (List ℕ)) (i k : ℕ) → slice_get (block_names names commons block) i ≡ Some k → IsNameAt block i k
  name-at block i k there = by (slice_get (names_of_block block commons) i) refl
    where
      by : (o : Option (List ℕ)) → slice_get (names_of_block block commons) i ≡ o → IsNameAt block i k
      by None is =
          let own : CommonPart → Bool = λ part. same_block part.block block in
          let e : None ≡ Some k = sym (ap (λ (ns : List ℕ). slice_get ns i) (indices-are names (filter own commons)) ∙ slice_get-map (index_of names) (names_of_block block commons) i ∙ ap (option_map (index_of names)) is) ∙ there in
          absurd cc
      by (Some n) is =
          let e : Some (index_of names n) ≡ Some k = sym (index-at block i n is) ∙ there in
          record { name = n; there = is; is = cc }

  in-common : (block : Option (List ℕ)) (q : Equation) → Member (neighbours names (block_names names commons block)) q → Member (common_equations names commons) q
  in-common block q there =
      let own : CommonPart → Bool = λ part. same_block part.block block in
      let of : Option (List ℕ) → List Equation = λ b. neighbours names (block_names names commons b) in
      ⊎_elim
      (λ (some : list_any own commons ≡ true).
      let part = member_of_list_any own commons some in
      Member-flat_map (λ (p : CommonPart). of p.block) commons part.one q part.among (subst (λ (b : Option (List ℕ)). Member (of b) q) (sym (blocks-same part.one.block block part.passes)) there))
      (λ (none : list_any own commons ≡ false).
      let empty : Member [] q = subst (λ (ns : List ℕ). Member (neighbours names ns) q) (indices-are names (filter own commons) ∙ ap (map (index_of names)) (of-none block commons none)) there in
      absurd empty)
      (cases_Bool (list_any own commons))

-- ---- entities in the table

module _ (us : List (List Labelled)) (names : List NameInfo)
    (table : (x : List ℕ) → dims_named names x ≡ dims_of (whole_list us) x)
    (kept : (e : Entity) → IsOfRun us e → dims_of (whole_list us) (name_for us e) ≡ dims_of (declared_in us e).0 (declared_in us e).1)
    (own : (k : ℕ) (x : List ℕ) → dims_of (unit_at us k) x ≡ dims_of (declared_in us (entity_of us k x)).0 (declared_in us (entity_of us k x)).1)
    (right : (k place : ℕ) (s : Labelled) → slice_get (unit_at us k) place ≡ Some s → has_wrong_dummy (unit_at us k) s.stmt ≡ false) where
  abbrev commons : List CommonPart
  commons = all_commons (whole_list us)

  abbrev groups : List (List Named)
  groups = all_groups (whole_list us)

  abbrev all : List Equation
  all = equations names commons groups

  abbrev index : Entity → ℕ
  index e = index_of names (name_for us e)

  -- an entity has its size in the table
  pub size-run : (e : Entity) → IsOfRun us e → size_of (dims_at names (index e)) ≡ size_in us e
  size-run e run = ap size_of (table (name_for us e) ∙ kept e run)

  pub of-block : (k : ℕ) (block : Option (List ℕ)) (i : ℕ) (x : List ℕ) → runs us k ≡ true → slice_get (block_list (unit_at us k) block) i ≡ Some x → IsOfRun us (entity_of us k x)
  of-block k block i x run there = stored-run us k x (right k) run (block-stored (unit_at us k) block x (Member-from_Contains (block_list (unit_at us k) block) x (contains-at (block_list (unit_at us k) block) i x there)))

  pub of-group : (k : ℕ) (group : List Named) (m : Named) → runs us k ≡ true → Member (all_groups (unit_at us k)) group → Member group m → IsOfRun us (entity_of us k m.name)
  of-group k group m run among has = stored-run us k m.name (right k) run (group-stored (unit_at us k) group m.name among (Member-map (λ (n : Named). n.name) group m has))

  pub offset-run : (k : ℕ) (m : Named) → IsOfRun us (entity_of us k m.name) → member_offset names (member_for us k m) ≡ offset_in us k m
  offset-run k m run = ap (λ (dims : List Dim). offset_of dims m.subs) (table (name_for us (entity_of us k m.name)) ∙ kept (entity_of us k m.name) run ∙ sym (own k m.name))

  -- ---- distances

  module _ (once : (k : ℕ) (block : Option (List ℕ)) (i : ℕ) (x : List ℕ) → slice_get (block_list (unit_at us k) block) i ≡ Some x → entity_of us k x ≡ InBlock block i)
      (there : (k : ℕ) (block : Option (List ℕ)) (i : ℕ) (x : List ℕ) → runs us k ≡ true → slice_get (block_list (unit_at us k) block) i ≡ Some x → slice_get (names_of_block block commons) i ≡ Some (name_for us (InBlock block i)))
      (grouped : (k : ℕ) (group : List Named) → runs us k ≡ true → Member (all_groups (unit_at us k)) group → Member groups (members_for us k group))
      (equal : (q : Equation) → Contains all q → pos (place_of names q.to) ≡ (pos (place_of names q.from) +ℤ q.distance)) where
    in-front : (k i : ℕ) (block : Option (List ℕ)) (x : List ℕ) → runs us k ≡ true → entity_of us k x ≡ InBlock block (suc i) → pos (listed_spot us names (InBlock block (suc i))) ≡ (pos (listed_spot us names (InBlock block i)) +ℤ size_in us (InBlock block i))
    in-front k i block x run is =
        let xs = block_list (unit_at us k) block in
        let found = found-as us k x (InBlock block (suc i)) is in
        let far : suc i < length xs = slice_get_within xs (suc i) x found.1 in
        let near : i < length xs = omega (arith, far) in
        let y = get_or xs i [] in
        let before : slice_get xs i ≡ Some y = slice_get-get_or xs i [] near in
        let of_run : IsOfRun us (InBlock block i) = subst (IsOfRun us) (once k block i y before) (of-block k block i y run before) in
        let q = behind names (index (InBlock block i)) (index (InBlock block (suc i))) in
        let one = index-at names commons block i (name_for us (InBlock block i)) (there k block i y run before) in
        let two = index-at names commons block (suc i) (name_for us (InBlock block (suc i))) (there k block (suc i) x run found.1) in
        let among = in-common names commons block q (neighbours-at names (block_names names commons block) i (index (InBlock block i)) (index (InBlock block (suc i))) one two) in
        let holds = equal q (Contains-from_Member all q (Member-left (common_equations names commons) (flat_map (group_equations names) groups) q among)) in
        holds ∙ ap (λ (z : ℤ). pos (listed_spot us names (InBlock block i)) +ℤ z) (size-run (InBlock block i) of_run)

    equal-members : (k : ℕ) (first m : Named) (rest : List Named) → runs us k ≡ true → Member (all_groups (unit_at us k)) (first ∷ rest) → Member rest m → pos (listed_spot us names (entity_of us k m.name)) ≡ (pos (listed_spot us names (entity_of us k first.name)) +ℤ (offset_in us k first -ℤ offset_in us k m))
    equal-members k first m rest run among has =
        let a = member_for us k first in
        let b = member_for us k m in
        let q = equated names a b in
        let of_group : Member (group_equations names (members_for us k (first ∷ rest))) q = Member-map (equated names a) (map (member_for us k) rest) b (Member-map (member_for us k) rest m has) in
        let listed = Member-flat_map (group_equations names) groups (members_for us k (first ∷ rest)) q (grouped k (first ∷ rest) run among) of_group in
        let holds = equal q (Contains-from_Member all q (Member-right (common_equations names commons) (flat_map (group_equations names) groups) q listed)) in
        let one = offset-run k first (of-group k (first ∷ rest) first run among (inl refl)) in
        let two = offset-run k m (of-group k (first ∷ rest) m run among (inr has)) in
        holds
        ∙ ap (λ (z : ℤ). pos (listed_spot us names (entity_of us k first.name)) +ℤ (z -ℤ member_offset names b)) one
        ∙ ap (λ (z : ℤ). pos (listed_spot us names (entity_of us k first.name)) +ℤ (offset_in us k first -ℤ z)) two

    tie : (k i : ℕ) (group : List Named) (first m : Named) (d : ℤ) → runs us k ≡ true → Member (all_groups (unit_at us k)) group → slice_get group 0 ≡ Some first → slice_get group i ≡ Some m → (d +ℤ offset_in us k m) ≡ offset_in us k first
        → pos (listed_spot us names (entity_of us k m.name)) ≡ (pos (listed_spot us names (entity_of us k first.name)) +ℤ d)
    tie k i [] first m d run among head at far = let e : None ≡ Some first = head in absurd cc
    tie k zero (f ∷ rest) first m d run among head at far =
        let same : m ≡ first = let e : Some m ≡ Some first = sym at ∙ head in cc in
        let offsets : offset_in us k m ≡ offset_in us k first = ap (offset_in us k) same in
        let spots : pos (listed_spot us names (entity_of us k m.name)) ≡ pos (listed_spot us names (entity_of us k first.name)) = ap (λ (n : Named). pos (listed_spot us names (entity_of us k n.name))) same in
        omega (arith, ints, far, offsets, spots)
    tie k (suc i) (f ∷ rest) first m d run among head at far =
        let same : f ≡ first = let e : Some f ≡ Some first = head in cc in
        let has = Member-from_Contains rest m (contains-at rest i m at) in
        let holds = equal-members k first m rest run (subst (λ (n : Named). Member (all_groups (unit_at us k)) (n ∷ rest)) same among) has in
        omega (arith, ints, far, holds)

    pub distance : (d : Distance) → Declares us d → pos (listed_spot us names d.to) ≡ (pos (listed_spot us names d.from) +ℤ d.by)
    distance _ (side_by_side k i block x run is) = in-front k i block x run is
    distance _ (tied k i group first m d run among head at far) = tie k i group first m d run (Member-from_Contains (all_groups (unit_at us k)) group among) head at far
