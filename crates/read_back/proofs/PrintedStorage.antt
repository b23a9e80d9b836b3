-- The storage that a printed program is read with is that of the program: its places are right, and each name has its own.
use Rattle.std.proofs.Common.{◌≡◌, ℕ, zero, suc, ◌+◌, ◌<◌, ⊎_elim, ℤ, pos, Bool, true, false, not, List, [], ◌∷◌, ◌++◌, length, map, take, drop, All, Contains, Option, Some, None, refl, sym, ap, subst, ◌∙◌, arith, append-nil, append_assoc}
use Rattle.std.specs.Prelude.{◌&&◌, filter, flat_map, slice_get, bytes_eq}
use Rattle.std.specs.List.{list_any}
use Rattle.std.proofs.lemmas.Int.{ints}
use Rattle.std.proofs.lemmas.List.Concat.{flat_map-append}
use Rattle.std.proofs.lemmas.List.Elements.{All-map, filter-append, Contains-append_left, Contains-append_right, Contains-append_cases}
use Rattle.list_laws.proofs.Members.{Member-from_Contains, Contains-from_Member, Member-filter, Member-map}
use Rattle.f77_tree.specs.declared.declarations.CommonPart.{CommonPart}
use Rattle.f77_tree.specs.declared.declarations.Decl.{Decl}
use Rattle.f77_tree.specs.declared.declarations.Member.{Member}
use Rattle.f77_tree.specs.declared.programs.NameInfo.{NameInfo}
use Rattle.f77_tree.specs.declared.programs.Program.{Program}
use Rattle.f77_tree.specs.declared.statements.Labelled.{Labelled}
use Rattle.f77_tree.specs.Declarations.{index_of, IsNameInfo, CommonOnce}
use Rattle.f77_tree.specs.OtherPlaces.{without_places, DifferInPlaces}
use Rattle.f77_tree.specs.Places.{Equation, Linked, block_names, IsFirstOfBlock, ArePlaces, equations}
use Rattle.f77_tree.specs.StatementGrammar.{WrittenStatement, statement_of}
use Rattle.f77_tree.specs.Value.{dims_of, dims_in, size_of, place_of}
use Rattle.f77_tree.proofs.AllLemmas.{All-get}
use Rattle.f77_tree.proofs.OnePlacing.{one-count, one-table}
use Rattle.layout_rules.specs.Declarations.{all_commons, all_groups, parts_of, groups_of}
use Rattle.layout_rules.specs.Faults.{first_line, has_repeat}
use Rattle.layout_rules.specs.Layout.{names_of, spots_of, placed_from, placed_names, word_count}
use Rattle.layout_rules.specs.Standings.{AreGroupsKnown}
use Rattle.layout_rules.specs.Storage.{Standing, standings, size_at, common_equations as common_solved, group_equations as group_solved, equations as solved}
use Rattle.layout_rules.specs.StorageFaults.{are_wrong_dims, is_equivalence, gives_places, has_wrong_places}
use Rattle.storage_laws.proofs.DeclaredCommon.{names_in_part, common_names-all, once_in_common}
use Rattle.storage_laws.proofs.DeclaredEquations.{linked-within}
use Rattle.storage_laws.proofs.DeclaredForms.{All-flat_map}
use Rattle.storage_laws.proofs.DeclaredKnown.{all_commons-known, all_groups-known}
use Rattle.storage_laws.proofs.DeclaredStandings.{is_of, name_of, names_standing}
use Rattle.storage_laws.proofs.DeclaredSizes.{size-exact}
use Rattle.layout_rules.proofs.ElementCounts.{right-count}
use Rattle.storage_laws.proofs.PlacedAlike.{places-alike}
use Rattle.storage_laws.proofs.PlacedEquations.{AreInTable, standings-in, standings-once, ends-in}
use Rattle.storage_laws.proofs.PlacedLinks.{length-spots}
use Rattle.storage_laws.proofs.PlacedProgram.{placed-is, places-are}
use Rattle.flat_programs.specs.declared.statements.FlatLine.{FlatLine}
use Rattle.flat_programs.specs.Declarations.{commons, group_statement, init_statement}
use Rattle.read_back.specs.PrintedArrays.{HasNoPrintedArrays}
use Rattle.read_back.specs.PrintedStatements.{CanBeText}
use Rattle.read_back.specs.SourceStatements.{statements_read}
use Rattle.read_back.proofs.BlockNames.{filter_nothing, block_again}
use Rattle.read_back.proofs.DeclaredEach.{mapped_each}
use Rattle.read_back.proofs.FirstFaults.{none_faulty}
use Rattle.read_back.proofs.GatheredParts.{of_written, none_written, gathered_of}
use Rattle.read_back.proofs.PrintedCommon.{all_common_once}
use Rattle.read_back.proofs.PrintedDimensions.{right_dims}
use Rattle.read_back.proofs.PrintedTable.{table_same}
use Rattle.read_back.proofs.PrintedTypes.{bare-index, bare-dims}
use Rattle.read_back.proofs.ReadDeclarations.{groups_same}
use Rattle.layout_rules.proofs.RightPlaces.{same_block-itself}
use Rattle.read_back.proofs.RightPlaces.{MeetRules, right_places}
use Rattle.read_back.proofs.SameEquations.{AreAlike, equations-to, equations-from, standing-names}
use Rattle.read_back.proofs.StatementParts.{HoldsOfRead}
use Rattle.std.proofs.lemmas.Grind.{elements}

-- ---- lists

-- what the statements give up to one of them, and what the later ones give
pub split_at : {X Y : Type 0} (f : X → List Y) (xs : List X) (k : ℕ) (x : X) → slice_get xs k ≡ Some x → flat_map f xs ≡ (flat_map f (take k xs) ++ f x) ++ flat_map f (drop (suc k) xs)
split_at f [] k x is = absurd cc
split_at f (y ∷ ys) zero x is = let same : y ≡ x = cc in ap (λ z. f z ++ flat_map f ys) same
split_at f (y ∷ ys) (suc k) x is = grind (arith, elements, append_assoc, split_at f ys k x is)

-- ---- names of blocks as they stand

named_in : (xs : List Standing) (s : Standing) → Contains xs s → Contains (names_standing s.block xs) s.name
named_in xs s there =
    let test = is_of s.block in
    Contains-from_Member (names_standing s.block xs) s.name
    (Member-map name_of (filter test xs) s (Member-filter test xs s (Member-from_Contains xs s there) (same_block-itself s.block)))

named_first : (seen rest : List Standing) (s : Standing) → list_any (is_of s.block) seen ≡ false → slice_get (names_standing s.block (seen ++ s ∷ rest)) 0 ≡ Some s.name
named_first seen rest s none = grind (arith, elements, is_of, name_of, filter-append, filter_nothing, same_block-itself)

-- ---- tables

without_placed : (names : List NameInfo) (k : ℕ) (infos : List NameInfo) (spots : _) → without_places (placed_from names spots k infos) ≡ without_places infos
without_placed names k [] spots = refl
without_placed names k (info ∷ infos) spots = ap (λ (rest : List NameInfo). record info { place = 0 } ∷ rest) (without_placed names (k + 1) infos spots)

without_twice : (names : List NameInfo) → without_places (without_places names) ≡ without_places names
without_twice [] = refl
without_twice (info ∷ names) = ap (λ (rest : List NameInfo). record info { place = 0 } ∷ rest) (without_twice names)

dims_placed : (names : List NameInfo) (k : ℕ) (infos : List NameInfo) (spots : _) (x : ℕ) → dims_of (placed_from names spots k infos) x ≡ dims_of infos x
dims_placed names k [] spots x = refl
dims_placed names k (info ∷ infos) spots zero = refl
dims_placed names k (info ∷ infos) spots (suc x) = dims_placed names (k + 1) infos spots x

no_parts : (names : List NameInfo) → HoldsOfRead (λ s. parts_of s ≡ []) names
no_parts names = grind (arith, elements)

-- ---- the whole program

module _ (q : Program) (flat : List FlatLine) (given : CanBeText q flat) (free : HasNoPrintedArrays q.names) where
  abbrev stmts : List Labelled
  stmts = statements_read q flat

  abbrev table : List NameInfo
  table = names_of stmts

  abbrev parts : List CommonPart
  parts = all_commons stmts

  parts_same : parts ≡ of_written parts_of (commons q.commons)
  parts_same =
      let NoPart : WrittenStatement → Type 0 = λ w. parts_of (statement_of w) ≡ [] in
      let groups_none = none_written parts_of (map group_statement q.groups) (mapped_each NoPart group_statement q.groups (λ group. refl)) in
      let inits_none = none_written parts_of (map init_statement q.inits) (mapped_each NoPart init_statement q.inits (λ part. refl)) in
      gathered_of parts_of q flat (λ info. refl) (no_parts q.names)
      ∙ ap (λ ps. of_written parts_of (commons q.commons) ++ (ps ++ of_written parts_of (map init_statement q.inits))) groups_none
      ∙ ap (λ ps. of_written parts_of (commons q.commons) ++ ps) inits_none
      ∙ append-nil (of_written parts_of (commons q.commons))

  dims_right : (k : ℕ) (found : Option NameInfo) → slice_get q.names k ≡ found → are_wrong_dims (dims_in found) ≡ false
  dims_right k None is = refl
  dims_right k (Some info) is = right_dims info.dims (All-get IsNameInfo q.names k info given.declarations.table is).dimensions

  abbrev IsInTable : List ℕ → Type 0
  IsInTable name = index_of table name < length table

  common_once : CommonOnce table parts
  common_once =
      let known : All IsInTable (flat_map names_in_part parts) = All-flat_map IsInTable names_in_part parts (λ k d lt. All-map IsInTable (λ (decl : Decl). decl.name) _ (all_commons-known stmts k d lt)) in
      once_in_common table parts known (ap (has_repeat bytes_eq []) (common_names-all stmts) ∙ all_common_once q flat given)

  alike : AreAlike q.names table q.commons parts
  alike = record {
    index = λ name. ap (λ (names : List NameInfo). index_of names name) (table_same q flat given free) ∙ bare-index q.names name;
    dims = λ k. ap (λ (names : List NameInfo). dims_of names k) (table_same q flat given free) ∙ bare-dims q.names k;
    right = λ k. dims_right k (slice_get q.names k) refl;
    blocks = λ block. ap (λ ps. block_names q.names ps block) parts_same ∙ block_again q.names q.commons block;
    once = common_once;
  }

  -- each block has the names that it had, in their order
  pub blocks_again : (block : Option (List ℕ)) → block_names q.names (all_commons (statements_read q flat)) block ≡ block_names q.names q.commons block
  blocks_again block = alike.blocks block

  known_groups : AreGroupsKnown table q.groups
  known_groups = subst (AreGroupsKnown table) (groups_same q flat given) (all_groups-known stmts)

  module _ (words : ℕ) (places : ArePlaces q.names q.commons (equations q.names q.commons q.groups) words) where
    abbrev place : ℕ → ℤ
    place x = pos (place_of q.names x)

    -- the equations of the first ones of the groups
    module _ (groups more : List (List Member)) (split : q.groups ≡ groups ++ more) where
      abbrev some : List Equation
      some = solved table parts groups

      some_of : (e : Equation) → Contains some e → Contains (solved table parts q.groups) e
      some_of e there =
          let front = common_solved table parts in
          let here = flat_map (group_solved table) groups in
          let whole = flat_map (group_solved table) q.groups in
          let longer : whole ≡ here ++ flat_map (group_solved table) more = ap (flat_map (group_solved table)) split ∙ flat_map-append (group_solved table) groups more in
          ⊎_elim
          (λ common. Contains-append_left front whole e common)
          (λ group. Contains-append_right front whole e (subst (λ (es : List Equation). Contains es e) (sym longer) (Contains-append_left here (flat_map (group_solved table) more) e group)))
          (Contains-append_cases front here e there)

      within : (e : Equation) → Contains some e → Contains (equations q.names q.commons q.groups) e
      within e there = equations-to q.names table q.commons parts alike q.groups given.declarations.equivalence e (some_of e there)

      link : (x y : ℕ) → Linked some x y → Linked (equations q.names q.commons q.groups) x y
      link = linked-within some (equations q.names q.commons q.groups) within

      standing : (block : Option (List ℕ)) → names_standing block (standings table parts) ≡ block_names q.names q.commons block
      standing = standing-names q.names table q.commons parts alike

      in_block : (s : Standing) → Contains (standings table parts) s → Contains (block_names q.names q.commons s.block) s.name
      in_block s there = subst (λ (ks : List ℕ). Contains ks s.name) (standing s.block) (named_in (standings table parts) s there)

      first_of : (seen rest : List Standing) (s : Standing) → standings table parts ≡ seen ++ s ∷ rest → list_any (is_of s.block) seen ≡ false → IsFirstOfBlock q.names q.commons s.name
      first_of seen rest s is none = record {
        block = s.block;
        first = ap (λ (ks : List ℕ). slice_get ks 0) (sym (standing s.block)) ∙ ap (λ (xs : List Standing). slice_get (names_standing s.block xs) 0) is ∙ named_first seen rest s none;
      }

      meet_rules : MeetRules place (length table) (standings table parts) some
      meet_rules = record {
        known = subst (AreInTable (length table)) (sym (standings-once table parts common_once)) (standings-in table (length table) parts (all_commons-known stmts));
        ends = λ e there. ends-in table parts q.groups (all_commons-known stmts) known_groups common_once e (some_of e there);
        holds = λ e there. places.equal e (within e there);
        blocks = λ s t at_s at_t linked. places.blocks s.block t.block s.name t.name (in_block s at_s) (in_block t at_t) (link s.name t.name linked);
        begins = λ seen rest s is none y linked. let least = places.extended s.name y (first_of seen rest s is none) (link s.name y linked) in omega (arith, ints, least);
      }

      pub right_groups : gives_places table stmts groups ≡ true
      right_groups = right_places place (length table) (standings table parts) some meet_rules

    -- no EQUIVALENCE makes the places wrong
    pub none_wrong_places : first_line (has_wrong_places (names_of (statements_read q flat)) (statements_read q flat)) (statements_read q flat) ≡ None
    none_wrong_places =
        none_faulty (has_wrong_places table stmts) stmts (λ k s is.
        let before = all_groups (take k stmts) ++ groups_of s.stmt in
        let later = flat_map (λ (t : Labelled). groups_of t.stmt) (drop (suc k) stmts) in
        let split : q.groups ≡ before ++ later = sym (groups_same q flat given) ∙ split_at (λ (t : Labelled). groups_of t.stmt) stmts k s is in
        ap (λ b. is_equivalence s.stmt && not b) (right_groups before later split) ∙ never (is_equivalence s.stmt))
      where
        never : (b : Bool) → (b && false) ≡ false
        never true = refl
        never false = refl

    -- ---- the places that are read

    abbrev all : List Equation
    all = solved table parts (all_groups stmts)

    sized : (x : ℕ) → (size_of (dims_of (placed_names stmts) x) ≡ pos (size_at table x)) × (0 < size_at table x)
    sized x =
        let same : dims_of (placed_names stmts) x ≡ dims_of table x = dims_placed table 0 table (spots_of stmts) x in
        let right : are_wrong_dims (dims_of table x) ≡ false = ap are_wrong_dims (alike.dims x) ∙ alike.right x in
        let count = right-count (dims_of table x) right in
        (ap size_of same ∙ size-exact (dims_of table x) right, omega (arith, count.0))

    places_read : ArePlaces (placed_names stmts) parts all (word_count stmts)
    places_read =
        let right : gives_places table stmts (all_groups stmts) ≡ true = right_groups (all_groups stmts) [] (sym (groups_same q flat given) ∙ sym (append-nil (all_groups stmts))) in
        let long = length-spots (length table) all (ends-in table parts (all_groups stmts) (all_commons-known stmts) (all_groups-known stmts) common_once) in
        places-are table (placed_names stmts) parts (all_groups stmts) (placed-is table (spots_of stmts) long sized) (all_commons-known stmts) (all_groups-known stmts) common_once right

    places_same : ArePlaces q.names q.commons all words
    places_same =
        let own = equations q.names q.commons q.groups in
        let same : solved table parts q.groups ≡ all = ap (solved table parts) (sym (groups_same q flat given)) in
        places-alike q.names q.commons own all words
        (λ e there. subst (λ (es : List Equation). Contains es e) same (equations-from q.names table q.commons parts alike q.groups given.declarations.equivalence e there))
        (λ e there. equations-to q.names table q.commons parts alike q.groups given.declarations.equivalence e (subst (λ (es : List Equation). Contains es e) (sym same) there))
        places

    differ : DifferInPlaces q.names (placed_names stmts)
    differ = grind (arith, elements, without_twice, table_same, without_placed)

    -- each name has the place that it had
    pub table_again : placed_names (statements_read q flat) ≡ q.names
    table_again = sym (one-table q.names (placed_names stmts) q.commons parts all words (word_count stmts) differ given.declarations.table places_same places_read)

    pub words_again : word_count (statements_read q flat) ≡ words
    words_again = sym (one-count q.names (placed_names stmts) q.commons parts all words (word_count stmts) differ given.declarations.table places_same places_read)
