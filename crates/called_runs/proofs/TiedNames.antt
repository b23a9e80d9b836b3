-- The names of a copied statement are known in the table of a frame and in that of the program, as the same.
use Rattle.std.proofs.Common.{◌≡◌, ℕ, ◌<◌, Bool, true, List, [], length, map, flat_map, Some, sym, ap, subst, ◌∙◌, arith}
use Rattle.std.specs.Prelude.{bytes_eq, nat_lt}
use Rattle.std.specs.Cmp.Lexicographic.{nat_list_eq_equiv}
use Rattle.std.specs.List.{list_any, slice_get}
use Rattle.std.specs.Option.{option_map}
use Rattle.std.proofs.lemmas.List.{length-map}
use Rattle.std.proofs.lemmas.Option.{slice_get-map}
use Rattle.list_laws.proofs.Members.{Member-flat_map, Member-from_Contains, list_any_member}
use Rattle.list_laws.specs.Member.{Member}
use Rattle.f77_tree.specs.declared.declarations.Dim.{Dim}
use Rattle.f77_tree.specs.declared.programs.NameInfo.{NameInfo}
use Rattle.f77_tree.specs.declared.statements.Labelled.{Labelled}
use Rattle.f77_tree.specs.Declarations.{index_of}
use Rattle.f77_tree.specs.OtherPlaces.{DifferInPlaces}
use Rattle.f77_tree.specs.Value.{place_of, size_of}
use Rattle.layout_rules.proofs.NameTable.{appearing_index, appearing_kind, arrays_in_table, dims_in_table}
use Rattle.layout_rules.specs.Appearances.{appearing}
use Rattle.layout_rules.specs.Declarations.{dims_of, is_array, kind_of}
use Rattle.layout_rules.specs.Executables.{kind_or_integer}
use Rattle.layout_rules.specs.Labels.{is_executable}
use Rattle.layout_rules.specs.Layout.{names_of}
use Rattle.layout_rules.specs.Tables.{has_simple_inner}
use Rattle.layout_rules.specs.Types.{is_array_in, is_well_kinded}
use Rattle.copied_values.proofs.SameTrees.{same-dims, same-index, same-kind}
use Rattle.copied_values.specs.ChangedTables.{IsKnownAs}
use Rattle.program_units.proofs.StoredNames.{told-all}
use Rattle.program_units.specs.Copies.{Context, changes}
use Rattle.program_units.specs.declared.entity.Entity.{Entity}
use Rattle.program_units.specs.Entities.{stands_for}
use Rattle.program_units.specs.Expansion.{declared_in, whole_list}
use Rattle.program_units.specs.ListedCopies.{HasAt, piece_at}
use Rattle.program_units.specs.Names.{appearing_here, name_for, names_of_unit}
use Rattle.program_units.specs.Storage.{IsOfRun}
use Rattle.program_units.specs.Units.{stand_in, standing_in, unit_at}
use Rattle.called_runs.specs.DeclaredNames.{AreDeclaredAlike, IsDeclaredAs}
use Rattle.called_runs.specs.PairedWords.{IsPlacedAlike, listed_spot}
use Rattle.called_runs.proofs.KnownNames.{IsInList, in-list}
use Rattle.called_runs.proofs.ListedBlocks.{contains-at}
use Rattle.called_runs.proofs.StandingNames.{arrays-same, stood}

same-length : (names others : List NameInfo) → DifferInPlaces names others → length others ≡ length names
same-length names others differ =
    let bare : NameInfo → NameInfo = λ info. record info { place = 0 } in
    let lengths : length (map bare names) ≡ length (map bare others) = ap length differ in
    omega (arith, lengths, length-map names bare, length-map others bare)

module _ (us : List (List Labelled)) (c : Context) (own others : List NameInfo)
    (own_is : DifferInPlaces (names_of (standing_in (unit_at us c.unit))) own)
    (others_is : DifferInPlaces (names_of (whole_list us)) others)
    (stands : (x : List ℕ) → AreDeclaredAlike (standing_in (unit_at us c.unit)) (unit_at us c.unit) x x)
    (declared : (x : List ℕ) → IsDeclaredAs us (unit_at us c.unit) x (stands_for us c.unit c.arguments x))
    (run : (x : List ℕ) → list_any (bytes_eq x) (names_of_unit (unit_at us c.unit)) ≡ true → IsOfRun us (stands_for us c.unit c.arguments x))
    (kinds_kept : (e : Entity) → IsOfRun us e → kind_or_integer (kind_of (whole_list us) (name_for us e)) ≡ kind_or_integer (kind_of (declared_in us e).0 (declared_in us e).1))
    (dims_kept : (e : Entity) → IsOfRun us e → dims_of (whole_list us) (name_for us e) ≡ dims_of (declared_in us e).0 (declared_in us e).1)
    (named : (x : List ℕ) → (changes us c).name x ≡ name_for us (stands_for us c.unit c.arguments x))
    (at : ℕ → ℕ) (place : ℕ) (s : Labelled) (there : slice_get (unit_at us c.unit) place ≡ Some s) (has : HasAt (whole_list us) (at place) (piece_at us c place s))
    (does : is_executable s.stmt ≡ true) (inner : has_simple_inner (stand_in s.stmt) ≡ true) (kinds : is_well_kinded (names_of (standing_in (unit_at us c.unit))) (stand_in s.stmt) ≡ true)
    (x : List ℕ) (among : Member (appearing (is_array (unit_at us c.unit)) (stand_in s.stmt)) x) where
  abbrev unit : List Labelled
  unit = unit_at us c.unit

  abbrev stood_in : List Labelled
  stood_in = standing_in unit

  abbrev list : List Labelled
  list = whole_list us

  abbrev new : List ℕ
  new = (changes us c).name x

  abbrev e : Entity
  e = stands_for us c.unit c.arguments x

  in-unit : list_any (bytes_eq x) (names_of_unit unit) ≡ true
  in-unit =
      let all = flat_map (λ (t : Labelled). appearing_here (is_array unit) t.stmt) unit in
      let here = Member-flat_map (λ (t : Labelled). appearing_here (is_array unit) t.stmt) unit s x (Member-from_Contains unit s (contains-at unit place s there)) (stood (is_array unit) x s.stmt among) in
      told-all x [] all ∙ list_any_member (bytes_eq x) all x here (nat_list_eq_equiv.refl x)

  of-run : IsOfRun us e
  of-run = run x in-unit

  arrays : (y : List ℕ) → is_array unit y ≡ is_array_in (names_of stood_in) y
  arrays y = ap (λ (test : List ℕ → Bool). test y) (sym (arrays-same unit (λ z. (stands z).dims))) ∙ sym (arrays_in_table stood_in y)

  dims-new : dims_of list new ≡ dims_of unit x
  dims-new = ap (dims_of list) (named x) ∙ dims_kept e of-run ∙ sym (declared x).dims

  found : IsInList list new
  found = in-list us c (names_of stood_in) arrays x (λ is. ap (λ (dims : List Dim). nat_lt 0 (length dims)) dims-new ∙ is) at place s has does inner kinds among

  listed : list_any (bytes_eq new) (appearing (is_array list) found.statement.stmt) ≡ true
  listed = list_any_member (bytes_eq new) (appearing (is_array list) found.statement.stmt) new found.appears (nat_list_eq_equiv.refl new)

  abbrev standing_in_place : Labelled
  standing_in_place = record s { stmt = stand_in s.stmt }

  stood-at : slice_get stood_in place ≡ Some standing_in_place
  stood-at = slice_get-map (λ (t : Labelled). record t { stmt = stand_in t.stmt }) unit place ∙ ap (option_map (λ (t : Labelled). record t { stmt = stand_in t.stmt })) there

  told : list_any (bytes_eq x) (appearing (is_array stood_in) (stand_in s.stmt)) ≡ true
  told =
      ap (λ (test : List ℕ → Bool). list_any (bytes_eq x) (appearing test (stand_in s.stmt))) (arrays-same unit (λ z. (stands z).dims))
      ∙ list_any_member (bytes_eq x) (appearing (is_array unit) (stand_in s.stmt)) x among (nat_list_eq_equiv.refl x)

  known : index_of own x < length own
  known =
      let less = appearing_index stood_in place standing_in_place x stood-at told in
      let index = same-index (names_of stood_in) own own_is x in
      let many = same-length (names_of stood_in) own own_is in
      omega (arith, less, index, many)

  known-there : index_of others new < length others
  known-there =
      let less = appearing_index list found.place found.statement new found.stands listed in
      let index = same-index (names_of list) others others_is new in
      let many = same-length (names_of list) others others_is in
      omega (arith, less, index, many)

  pub known-as : IsKnownAs own others x new
  known-as = record {
    known = known;
    there = known-there;
    kinds = same-kind (names_of list) others others_is new ∙ appearing_kind list found.place found.statement new found.stands listed
        ∙ ap (λ (y : List ℕ). kind_or_integer (kind_of list y)) (named x) ∙ kinds_kept e of-run
        ∙ sym (ap kind_or_integer ((stands x).kinds ∙ (declared x).kinds))
        ∙ sym (appearing_kind stood_in place standing_in_place x stood-at told) ∙ sym (same-kind (names_of stood_in) own own_is x);
    dims = same-dims (names_of list) others others_is new ∙ dims_in_table list new ∙ dims-new ∙ sym (stands x).dims ∙ sym (dims_in_table stood_in x) ∙ sym (same-dims (names_of stood_in) own own_is x);
  }

  pub placed-alike : IsPlacedAlike us (listed_spot us others) c.unit c.arguments own others (changes us c) x
  placed-alike = record {
    known = known;
    shown = record { of_run = of-run; known = subst (λ (y : List ℕ). index_of others y < length others) (named x) known-there };
    size = ap size_of (same-dims (names_of stood_in) own own_is x ∙ dims_in_table stood_in x ∙ (stands x).dims ∙ (declared x).dims);
    place = ap (λ (y : List ℕ). place_of others (index_of others y)) (named x);
  }
