-- In the program that a text comes to, entities share words only where the units link them.
use Rattle.std.proofs.Common.{◌≡◌, ℕ, suc, ◌<◌, Bool, true, false, inl, inr, List, [], ◌∷◌, length, map, flat_map, filter, All, Option, Some, ⊎_elim, refl, sym, ap, subst, ◌∙◌, arith, ℤ, pos, ◌+ℤ◌, ◌-ℤ◌, ◌<ℤ◌, Contains}
use Rattle.std.specs.List.{slice_get}
use Rattle.std.proofs.lemmas.Int.{ints}
use Rattle.std.proofs.lemmas.List.Elements.{All-contains}
use Rattle.list_laws.proofs.Members.{Contains-from_Member, Member-cases, Member-filtered, Member-flat_mapped, Member-from_Contains, Member-map, Member-mapped}
use Rattle.list_laws.specs.Member.{Member}
use Rattle.f77_tree.proofs.NameLemmas.{index_of-name}
use Rattle.f77_tree.specs.declared.declarations.CommonPart.{CommonPart}
use Rattle.f77_tree.specs.declared.declarations.Decl.{Decl}
use Rattle.f77_tree.specs.declared.declarations.Member.{Member as Named}
use Rattle.f77_tree.specs.declared.programs.NameInfo.{NameInfo}
use Rattle.f77_tree.specs.declared.statements.Labelled.{Labelled}
use Rattle.f77_tree.specs.Declarations.{IsCommonName, IsCommonPart, IsGroup, IsMember, index_of, member_index}
use Rattle.f77_tree.specs.Places.{Equation, IsWordOf as IsListedWord, Linked as AreTied, against as back_to, along as on_to, block_names, common_equations, equated, equations, group_equations, itself as at_once, neighbours, same_block}
use Rattle.layout_rules.specs.Declarations.{all_commons, all_groups, dims_of, groups_of}
use Rattle.layout_rules.specs.Types.{dims_named}
use Rattle.unit_laws.proofs.MainNames.{names_of_block}
use Rattle.program_units.specs.declared.entity.Entity.{Entity}
use Rattle.program_units.specs.declared.entity.Entity.TheVariants.{InBlock}
use Rattle.program_units.specs.Entities.{block_list, entity_of}
use Rattle.program_units.specs.Expansion.{declared_in, member_for, members_for, whole_list}
use Rattle.program_units.specs.Names.{name_for}
use Rattle.program_units.specs.Refusals.{has_wrong_dummy}
use Rattle.program_units.specs.Storage.{Declares, Distance, IsOfRun, IsWordOf, Linked, against, along, itself, neighbours as side_by_side, offset_in, size_in, tied}
use Rattle.program_units.specs.Units.{runs, unit_at}
use Rattle.called_runs.specs.PairedWords.{IsShown, listed_spot}
use Rattle.called_runs.proofs.ListedBlocks.{IsPlaceOf, contains-at}
use Rattle.called_runs.proofs.ListedParts.{IsPartOf}
use Rattle.called_runs.proofs.Neighbours.{neighbours-from}
use Rattle.called_runs.proofs.PlacedEntities.{name-at, of-block, of-group, size-run}
use Rattle.called_runs.proofs.StoredNames.{there-at}

-- ---- names that the table has

module _ (names : List NameInfo) where
  pub block-known : (commons : List CommonPart) → All (IsCommonPart names) commons → (block : Option (List ℕ)) (i : ℕ) (n : List ℕ) → slice_get (names_of_block block commons) i ≡ Some n → index_of names n < length names
  block-known commons all block i n there =
      let own : CommonPart → Bool = λ part. same_block part.block block in
      let one = Member-flat_mapped (λ (part : CommonPart). map (λ (decl : Decl). decl.name) part.decls) (filter own commons) n (Member-from_Contains (names_of_block block commons) n (contains-at (names_of_block block commons) i n there)) in
      let decl = Member-mapped (λ (decl : Decl). decl.name) one.origin.decls n one.has in
      let part = All-contains (IsCommonPart names) commons one.origin all (Contains-from_Member commons one.origin (Member-filtered own commons one.origin one.among).0) in
      let common = All-contains (IsCommonName names) one.origin.decls decl.origin part.names_known (Contains-from_Member one.origin.decls decl.origin decl.among) in
      subst (λ (x : List ℕ). index_of names x < length names) decl.is common.known

  pub member-known : (groups : List (List Named)) → All (IsGroup names) groups → (group : List Named) (m : Named) → Member groups group → Member group m → member_index names m < length names
  member-known groups all group m among has =
      let is = All-contains (IsGroup names) groups group all (Contains-from_Member groups group among) in
      (All-contains (IsMember names) group m is.members (Contains-from_Member group m has)).known

-- what an equation of the program tells, as the units declare it
record IsDeclared (us : List (List Labelled)) (names : List NameInfo) (q : Equation) : Type 0 where
  distance : Distance
  declares : Declares us distance
  from : index_of names (name_for us distance.from) ≡ q.from
  to : index_of names (name_for us distance.to) ≡ q.to
  from_run : IsOfRun us distance.from
  to_run : IsOfRun us distance.to
  from_known : q.from < length names
  to_known : q.to < length names

module _ (us : List (List Labelled)) (names : List NameInfo)
    (table : (x : List ℕ) → dims_named names x ≡ dims_of (whole_list us) x)
    (kept : (e : Entity) → IsOfRun us e → dims_of (whole_list us) (name_for us e) ≡ dims_of (declared_in us e).0 (declared_in us e).1)
    (own : (k : ℕ) (x : List ℕ) → dims_of (unit_at us k) x ≡ dims_of (declared_in us (entity_of us k x)).0 (declared_in us (entity_of us k x)).1)
    (right : (k place : ℕ) (s : Labelled) → slice_get (unit_at us k) place ≡ Some s → has_wrong_dummy (unit_at us k) s.stmt ≡ false)
    (once : (k : ℕ) (block : Option (List ℕ)) (i : ℕ) (x : List ℕ) → slice_get (block_list (unit_at us k) block) i ≡ Some x → entity_of us k x ≡ InBlock block i)
    (back : (block : Option (List ℕ)) (i : ℕ) (n : List ℕ) → slice_get (names_of_block block (all_commons (whole_list us))) i ≡ Some n → IsPlaceOf us block i × (n ≡ name_for us (InBlock block i)))
    (group-back : (group : List Named) → Member (all_groups (whole_list us)) group → IsPartOf us groups_of (members_for us) group)
    (parts-known : All (IsCommonPart names) (all_commons (whole_list us)))
    (groups-known : All (IsGroup names) (all_groups (whole_list us))) where
  abbrev commons : List CommonPart
  commons = all_commons (whole_list us)

  abbrev groups : List (List Named)
  groups = all_groups (whole_list us)

  abbrev all : List Equation
  all = equations names commons groups

  abbrev index : Entity → ℕ
  index e = index_of names (name_for us e)

  run-at : (block : Option (List ℕ)) (i : ℕ) → IsPlaceOf us block i → IsOfRun us (InBlock block i)
  run-at block i at = subst (IsOfRun us) (once at.unit block i at.name at.there) (of-block us names table kept own right at.unit block i at.name at.runs_it at.there)

  of-common : (q : Equation) → Member (common_equations names commons) q → IsDeclared us names q
  of-common q m =
      let part = Member-flat_mapped (λ (p : CommonPart). neighbours names (block_names names commons p.block)) commons q m in
      let block = part.origin.block in
      let next = neighbours-from names (block_names names commons block) q part.has in
      let a = name-at names commons block next.at q.from next.first in
      let b = name-at names commons block (suc next.at) q.to next.second in
      let one = back block next.at a.name a.there in
      let two = back block (suc next.at) b.name b.there in
      record {
        distance = record { from = InBlock block next.at; to = InBlock block (suc next.at); by = size_in us (InBlock block next.at) };
        declares = side_by_side two.0.unit next.at block two.0.name two.0.runs_it (once two.0.unit block (suc next.at) two.0.name two.0.there);
        from = ap (index_of names) (sym one.1) ∙ a.is;
        to = ap (index_of names) (sym two.1) ∙ b.is;
        from_run = run-at block next.at one.0;
        to_run = run-at block (suc next.at) two.0;
        from_known = subst (λ (k : ℕ). k < length names) a.is (block-known names commons parts-known block next.at a.name a.there);
        to_known = subst (λ (k : ℕ). k < length names) b.is (block-known names commons parts-known block (suc next.at) b.name b.there);
      }

  by-group : (q : Equation) (k : ℕ) (group listed : List Named) → runs us k ≡ true → Member (all_groups (unit_at us k)) group → members_for us k group ≡ listed → Member groups listed → Member (group_equations names (members_for us k group)) q → IsDeclared us names q
  by-group q k [] listed run among is there m = absurd m
  by-group q k (first ∷ rest) listed run among is there m =
      let a = member_for us k first in
      let image = Member-mapped (equated names a) (map (member_for us k) rest) q m in
      let other = Member-mapped (member_for us k) rest image.origin image.among in
      let n = other.origin in
      let made : equated names a (member_for us k n) ≡ q = ap (equated names a) other.is ∙ image.is in
      let at = there-at rest n other.among in
      let far = offset_in us k first -ℤ offset_in us k n in
      let sum : (far +ℤ offset_in us k n) ≡ offset_in us k first = omega (arith, ints) in
      let here : Member (members_for us k (first ∷ rest)) a = inl refl in
      let later : Member (members_for us k (first ∷ rest)) (member_for us k n) = inr (Member-map (member_for us k) rest n other.among) in
      let whole : Member groups (members_for us k (first ∷ rest)) = subst (λ (g : List Named). Member groups g) (sym is) there in
      record {
        distance = record { from = entity_of us k first.name; to = entity_of us k n.name; by = far };
        declares = tied k (suc at.0) (first ∷ rest) first n far run (Contains-from_Member (all_groups (unit_at us k)) (first ∷ rest) among) refl at.1 sum;
        from = ap (λ (e : Equation). e.from) made;
        to = ap (λ (e : Equation). e.to) made;
        from_run = of-group us names table kept own right k (first ∷ rest) first run among (inl refl);
        to_run = of-group us names table kept own right k (first ∷ rest) n run among (inr other.among);
        from_known = subst (λ (e : Equation). e.from < length names) made (member-known names groups groups-known (members_for us k (first ∷ rest)) a whole here);
        to_known = subst (λ (e : Equation). e.to < length names) made (member-known names groups groups-known (members_for us k (first ∷ rest)) (member_for us k n) whole later);
      }

  of-groups : (q : Equation) → Member (flat_map (group_equations names) groups) q → IsDeclared us names q
  of-groups q m =
      let one = Member-flat_mapped (group_equations names) groups q m in
      let unit = group-back one.origin one.among in
      by-group q unit.unit unit.part one.origin unit.runs_it unit.among unit.is one.among (subst (λ (g : List Named). Member (group_equations names g) q) (sym unit.is) one.has)

  declared : (q : Equation) → Contains all q → IsDeclared us names q
  declared q there = ⊎_elim (of-common q) (of-groups q) (Member-cases (common_equations names commons) (flat_map (group_equations names) groups) q (Member-from_Contains all q there))

  -- ---- links

  module _ (apart : (e f : Entity) → IsOfRun us e → IsOfRun us f → name_for us e ≡ name_for us f → e ≡ f) where
    one-entity : (e f : Entity) → IsShown us names e → IsShown us names f → index e ≡ index f → e ≡ f
    one-entity e f one two same =
        let mine = index_of-name names (name_for us e) one.known in
        let other = index_of-name names (name_for us f) two.known in
        let names_same : name_for us e ≡ name_for us f = cc in
        apart e f one.of_run two.of_run names_same

    shown-from : (q : Equation) (is : IsDeclared us names q) → IsShown us names (IsDeclared.distance is).from
    shown-from q is = record { of_run = IsDeclared.from_run is; known = subst (λ (k : ℕ). k < length names) (sym (IsDeclared.from is)) (IsDeclared.from_known is) }

    shown-to : (q : Equation) (is : IsDeclared us names q) → IsShown us names (IsDeclared.distance is).to
    shown-to q is = record { of_run = IsDeclared.to_run is; known = subst (λ (k : ℕ). k < length names) (sym (IsDeclared.to is)) (IsDeclared.to_known is) }

    to-linked : (x y : ℕ) → AreTied all x y → (e f : Entity) → IsShown us names e → IsShown us names f → index e ≡ x → index f ≡ y → Linked us e f
    to-linked x y at_once e f one two is_e is_f = subst (λ (g : Entity). Linked us e g) (one-entity e f one two (is_e ∙ sym is_f)) itself
    to-linked x y (on_to q here rest) e f one two is_e is_f =
        let is = declared q here in
        let same : e ≡ (IsDeclared.distance is).from = one-entity e (IsDeclared.distance is).from one (shown-from q is) (is_e ∙ sym (IsDeclared.from is)) in
        let more = to-linked q.to y rest (IsDeclared.distance is).to f (shown-to q is) two (IsDeclared.to is) is_f in
        subst (λ (g : Entity). Linked us g f) (sym same) (along (IsDeclared.distance is) (IsDeclared.declares is) more)
    to-linked x y (back_to q here rest) e f one two is_e is_f =
        let is = declared q here in
        let same : e ≡ (IsDeclared.distance is).to = one-entity e (IsDeclared.distance is).to one (shown-to q is) (is_e ∙ sym (IsDeclared.to is)) in
        let more = to-linked q.from y rest (IsDeclared.distance is).from f (shown-from q is) two (IsDeclared.from is) is_f in
        subst (λ (g : Entity). Linked us g f) (sym same) (against (IsDeclared.distance is) (IsDeclared.declares is) more)

    word-there : (e : Entity) (word : ℕ) → IsShown us names e → IsWordOf us (listed_spot us names) e word → IsListedWord names (index e) word
    word-there e word shown is = record { known = shown.known; begins = is.begins; ends = subst (λ (z : ℤ). pos word <ℤ (pos (listed_spot us names e) +ℤ z)) (sym (size-run us names table kept own right e shown.of_run)) is.ends }

    pub linked-apart : ((x y word : ℕ) → IsListedWord names x word → IsListedWord names y word → AreTied all x y) → (e f : Entity) (word : ℕ) → IsShown us names e → IsShown us names f → IsWordOf us (listed_spot us names) e word → IsWordOf us (listed_spot us names) f word → Linked us e f
    linked-apart shares e f word one two at_e at_f = to-linked (index e) (index f) (shares (index e) (index f) word (word-there e word one at_e) (word-there f word two at_f)) e f one two refl refl
