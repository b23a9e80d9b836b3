-- COMMON of a source without faults of storage: its blocks, its names, and that no name stands there twice.
use Rattle.std.proofs.Common.{◌≡◌, ℕ, ◌<◌, ⊎_elim, inl, inr, List, [], ◌∷◌, ◌++◌, false, length, map, All, Option, Some, None, refl, sym, ap, ◌∙◌, arith}
use Rattle.std.specs.Prelude.{bytes_eq, flat_map, slice_get}
use Rattle.std.specs.Cmp.Lexicographic.{nat_list_eq_equiv}
use Rattle.std.proofs.lemmas.List.{map-append}
use Rattle.std.proofs.lemmas.List.Concat.{flat_map-append}
use Rattle.std.proofs.lemmas.List.Elements.{All-map}
use Rattle.f77_tree.specs.declared.declarations.Decl.{Decl}
use Rattle.f77_tree.specs.declared.declarations.CommonPart.{CommonPart}
use Rattle.f77_tree.specs.declared.programs.NameInfo.{NameInfo}
use Rattle.f77_tree.specs.declared.statements.Labelled.{Labelled}
use Rattle.f77_tree.specs.Value.{dims_of}
use Rattle.f77_tree.specs.Declarations.{index_of, part_names, IsCommonName, IsCommonPart, CommonOnce}
use Rattle.f77_tree.proofs.AllLemmas.{All-get}
use Rattle.f77_tree.proofs.NameLemmas.{index_of-name}
use Rattle.layout_rules.specs.Faults.{first_line, has_repeat}
use Rattle.layout_rules.specs.Declarations.{dims_of as dims_declared, parts_of, all_commons}
use Rattle.layout_rules.specs.Layout.{names_of, placed_names}
use Rattle.layout_rules.specs.Source.{IsSource}
use Rattle.layout_rules.specs.StorageFaults.{common_names, has_wrong_storage}
use Rattle.layout_rules.specs.ReadDeclarations.{IsReadPart}
use Rattle.layout_rules.proofs.NameTable.{dims_in_table, item-of_map}
use Rattle.layout_rules.proofs.StorageLines.{right_statement}
use Rattle.layout_rules.proofs.ProperPlaced.{placed_names-agrees}
use Rattle.storage_laws.proofs.DeclaredForms.{All-flat_map, all_commons-read}
use Rattle.storage_laws.proofs.DeclaredNames.{same_index}
use Rattle.layout_rules.proofs.DeclaredOnce.{one_place, once_in_all}
use Rattle.storage_laws.proofs.DeclaredKnown.{PartKnown, all_commons-known}
use Rattle.storage_laws.proofs.DeclaredDims.{HasDimsOf, all_commons-dims}

-- ---- names in the table with places

-- a name of the table is one of the table with places
pub known_placed : (whole : List Labelled) (name : List ℕ) → index_of (names_of whole) name < length (names_of whole) → index_of (placed_names whole) name < length (placed_names whole)
known_placed whole name known =
    let as_many = (placed_names-agrees whole).as_many in
    let same = same_index whole name in
    omega (arith, as_many, same, known)

-- its dimensions are those of the declarations
pub dims_placed : (whole : List Labelled) (name : List ℕ) → dims_of (placed_names whole) (index_of (placed_names whole) name) ≡ dims_declared whole name
dims_placed whole name =
    (placed_names-agrees whole).dims (index_of (placed_names whole) name) ∙ ap (dims_of (names_of whole)) (same_index whole name) ∙ dims_in_table whole name

-- ---- the parts

module _ (whole : List Labelled) where
  common_name : (decl : Decl) → index_of (names_of whole) decl.name < length (names_of whole) → HasDimsOf whole decl → IsCommonName (placed_names whole) decl
  common_name decl known dims = record {
    known = known_placed whole decl.name known;
    dimensions = ⊎_elim (λ (none : decl.dims ≡ []). inl none) (λ (own : decl.dims ≡ dims_declared whole decl.name). inr (own ∙ sym (dims_placed whole decl.name))) dims;
  }

  common_part : (part : CommonPart) → IsReadPart part → PartKnown whole part → All (HasDimsOf whole) part.decls → IsCommonPart (placed_names whole) part
  common_part part read known dims = record {
    block_name = read.block_name;
    some = read.some;
    names_known = λ k d lt. common_name _ (known k d lt) (dims k d lt);
  }

  pub all_commons-right : IsSource whole → first_line (has_wrong_storage (names_of whole) (placed_names whole) whole) whole ≡ None → All (IsCommonPart (placed_names whole)) (all_commons whole)
  all_commons-right source right k d lt =
      common_part _ (all_commons-read whole source.trees k d lt) (all_commons-known whole k d lt) (all_commons-dims (names_of whole) (placed_names whole) whole right k d lt)

-- ---- each name once

abbrev pub names_in_part : CommonPart → List (List ℕ)
names_in_part part = map (λ decl. decl.name) part.decls

pub common_names-all : (stmts : List Labelled) → flat_map names_in_part (all_commons stmts) ≡ flat_map (λ s. common_names s.stmt) stmts
common_names-all [] = refl
common_names-all (s ∷ stmts) = flat_map-append names_in_part (parts_of s.stmt) (all_commons stmts) ∙ ap (λ (names : List (List ℕ)). common_names s.stmt ++ names) (common_names-all stmts)

module _ (names : List NameInfo) where
  part_names-map : (decls : List Decl) → map (λ decl. index_of names decl.name) decls ≡ map (index_of names) (map (λ decl. decl.name) decls)
  part_names-map [] = refl
  part_names-map (decl ∷ decls) = ap (λ (ks : List ℕ). index_of names decl.name ∷ ks) (part_names-map decls)

  pub parts_names-map : (commons : List CommonPart) → flat_map (part_names names) commons ≡ map (index_of names) (flat_map names_in_part commons)
  parts_names-map [] = refl
  parts_names-map (part ∷ commons) =
      ap (λ (ks : List ℕ). ks ++ flat_map (part_names names) commons) (part_names-map part.decls)
      ∙ ap (λ (ks : List ℕ). map (index_of names) (names_in_part part) ++ ks) (parts_names-map commons)
      ∙ sym (map-append (index_of names) (names_in_part part) (flat_map names_in_part commons))

  abbrev name_in : Option NameInfo → List ℕ
  name_in None = []
  name_in (Some info) = info.name

  -- names of the table with one index are one name
  pub one_name : (a b : List ℕ) → index_of names a < length names → index_of names b < length names → index_of names a ≡ index_of names b → a ≡ b
  one_name a b known_a known_b same = sym (index_of-name names a known_a) ∙ ap (λ (k : ℕ). name_in (slice_get names k)) same ∙ index_of-name names b known_b

  pub once_in_common : (commons : List CommonPart) → All (λ name. index_of names name < length names) (flat_map names_in_part commons) → has_repeat bytes_eq [] (flat_map names_in_part commons) ≡ false → CommonOnce names commons
  once_in_common commons known once j k x at_j at_k =
      let all = flat_map names_in_part commons in
      let one = item-of_map (index_of names) all j x (sym (ap (λ (ks : List ℕ). slice_get ks j) (parts_names-map commons)) ∙ at_j) in
      let other = item-of_map (index_of names) all k x (sym (ap (λ (ks : List ℕ). slice_get ks k) (parts_names-map commons)) ∙ at_k) in
      let name_same : one.0 ≡ other.0 = one_name one.0 other.0 (All-get (λ name. index_of names name < length names) all j one.0 known one.1) (All-get (λ name. index_of names name < length names) all k other.0 known other.1) (one.2 ∙ sym other.2) in
      one_place bytes_eq nat_list_eq_equiv.refl [] all once j k other.0 (one.1 ∙ ap (λ (name : List ℕ). Some name) name_same) other.1

pub all_commons-once : (whole : List Labelled) → first_line (has_wrong_storage (names_of whole) (placed_names whole) whole) whole ≡ None → CommonOnce (placed_names whole) (all_commons whole)
all_commons-once whole right =
    let placed = placed_names whole in
    let known : All (λ name. index_of placed name < length placed) (flat_map names_in_part (all_commons whole)) =
    All-flat_map (λ name. index_of placed name < length placed) names_in_part (all_commons whole)
    (λ k d lt. All-map (λ name. index_of placed name < length placed) (λ (decl : Decl). decl.name) _ (λ j e within. known_placed whole _ (all_commons-known whole k d lt j e within))) in
    once_in_common placed (all_commons whole) known
    (ap (has_repeat bytes_eq []) (common_names-all whole)
    ∙ once_in_all bytes_eq (has_wrong_storage (names_of whole) placed whole) (λ s. common_names s.stmt) (λ above s clear. (right_statement (names_of whole) placed whole above s clear).common_once) [] whole right)
