-- The table of the names of a program: each has dimensions that a source can write, and their places change nothing of it.
use Rattle.std.proofs.Common.{◌≡◌, ℕ, zero, suc, ◌+◌, ◌&&◌, pos, ◌≤ℤ◌, Bool, true, false, not, cond, List, [], ◌∷◌, map, All, Some, None, refl, sym, ap, subst, ◌∙◌, arith}
use Rattle.std.specs.Prelude.{bytes_eq, int_lt, nat_lt, slice_get}
use Rattle.std.specs.List.{list_any}
use Rattle.std.proofs.lemmas.Bool.{or_parts, cond_both}
use Rattle.std.proofs.lemmas.Int.{ints}
use Rattle.std.proofs.lemmas.List.Elements.{All-nil, All-cons, All-head, All-tail, All-map}
use Rattle.f77_tree.specs.declared.declarations.Dim.{Dim}
use Rattle.f77_tree.specs.declared.declarations.Decl.{Decl}
use Rattle.f77_tree.specs.declared.programs.NameInfo.{NameInfo}
use Rattle.f77_tree.specs.declared.statements.Labelled.{Labelled}
use Rattle.f77_tree.specs.Name.{is_name}
use Rattle.f77_tree.specs.Value.{size_of}
use Rattle.f77_tree.specs.Declarations.{IsDim, AreDims, IsNameInfo, NamesDiffer, index_of, CanBeWritten}
use Rattle.layout_rules.specs.Faults.{first_line, first_answer, answer_or}
use Rattle.layout_rules.specs.Declarations.{all_declarators, has_dims, dims_told, dims_or_none}
use Rattle.layout_rules.specs.Appearances.{all_names}
use Rattle.layout_rules.specs.Storage.{Spot, elements, place_of}
use Rattle.layout_rules.specs.StorageFaults.{are_wrong_dims, has_wrong_storage}
use Rattle.layout_rules.specs.Layout.{name_info, names_of, spots_of, placed_from, placed_names}
use Rattle.layout_rules.specs.PlacedNames.{HasRightDims}
use Rattle.layout_rules.specs.Source.{IsSource}
use Rattle.layout_rules.specs.ReadDeclarations.{IsReadDims, IsReadDecl}
use Rattle.layout_rules.proofs.ElementCounts.{right-count, right-size}
use Rattle.storage_laws.proofs.RightStorage.{right_dims_of}
use Rattle.layout_rules.proofs.NameTable.{names_differ}
use Rattle.storage_laws.proofs.SymbolicNames.{table_symbolic}
use Rattle.storage_laws.proofs.DeclaredForms.{all_declarators-read}
use Rattle.layout_rules.proofs.FlatParts.{before_map, none-bad}

-- ---- dimensions

abbrev is_backwards : Dim → Bool
is_backwards dim = int_lt dim.hi dim.lo

are_bounds : (dims : List Dim) → All (λ dim. CanBeWritten dim.lo) dims → All (λ dim. CanBeWritten dim.hi) dims → list_any is_backwards dims ≡ false → All IsDim dims
are_bounds dims lower upper forward k d lt =
    let here = none-bad is_backwards dims forward k d lt in
    record { lower = lower k d lt; upper = upper k d lt; order = grind (arith, ints, here) }

-- dimensions of a source that aren't wrong
pub are_dims : (dims : List Dim) → IsReadDims dims → are_wrong_dims dims ≡ false → AreDims dims
are_dims dims read right =
    let size : size_of dims ≡ pos (elements dims) = right-size dims right in
    let most = (right-count dims right).1 in
    record {
      bounds = are_bounds dims read.lower read.upper (or_parts (list_any is_backwards dims) (nat_lt 262144 (elements dims)) right).0;
      dimensions = read.few;
      elements = subst (λ z. z ≤ℤ pos 262144) (sym size) (omega (arith, ints, most));
    }

-- ---- the table without places

no_dims : IsReadDims []
no_dims = record { lower = All-nil (λ (dim : Dim). CanBeWritten dim.lo); upper = All-nil (λ (dim : Dim). CanBeWritten dim.hi); few = omega arith }

-- the dimensions that declarators give to a name
read_told : (name : List ℕ) (decls : List Decl) → All IsReadDecl decls → IsReadDims (dims_or_none (first_answer (dims_told name) decls))
read_told name [] all = no_dims
read_told name (decl ∷ decls) all =
    cond_both (bytes_eq decl.name name && has_dims decl) (Some decl.dims) None (λ told. IsReadDims (dims_or_none (answer_or told (first_answer (dims_told name) decls))))
    (λ here. All-head IsReadDecl decl decls all) (λ later. read_told name decls (All-tail IsReadDecl decl decls all))

infos : (whole : List Labelled) → All IsReadDecl (all_declarators whole) → (names : List (List ℕ)) → All (λ info. is_name info.name ≡ true) (map (name_info whole) names) → All HasRightDims (map (name_info whole) names) → All IsNameInfo (map (name_info whole) names)
infos whole read names symbolic right =
    All-map IsNameInfo (name_info whole) names (λ k d lt. record {
      symbolic = before_map (λ (i : NameInfo). is_name i.name ≡ true) (name_info whole) names symbolic k d lt;
      dimensions = are_dims _ (read_told _ (all_declarators whole) read) (before_map HasRightDims (name_info whole) names right k d lt);
    })

-- ---- the table with places

module _ (names : List NameInfo) (spots : List Spot) where
  each_placed : (k : ℕ) (infos : List NameInfo) → All IsNameInfo infos → All IsNameInfo (placed_from names spots k infos)
  each_placed k [] all = All-nil IsNameInfo
  each_placed k (info ∷ infos) all =
      let is = All-head IsNameInfo info infos all in
      let rest = each_placed (k + 1) infos (All-tail IsNameInfo info infos all) in
      All-cons IsNameInfo _ (placed_from names spots (k + 1) infos) (record { symbolic = is.symbolic; dimensions = is.dimensions }) rest

  -- a line of the table without places
  record IsLine (infos : List NameInfo) (j : ℕ) (name : List ℕ) : Type 0 where
    info : NameInfo
    stands : slice_get infos j ≡ Some info
    same : info.name ≡ name

  line : (k : ℕ) (infos : List NameInfo) (j : ℕ) (a : NameInfo) → slice_get (placed_from names spots k infos) j ≡ Some a → IsLine infos j a.name
  line k [] j a at = absurd cc
  line k (info ∷ infos) zero a at = let is : record info { place = place_of names spots k } ≡ a = cc in record { info = info; stands = refl; same = ap (λ (i : NameInfo). i.name) is }
  line k (info ∷ infos) (suc j) a at =
      let later = line (k + 1) infos j a at in
      record { info = later.info; stands = later.stands; same = later.same }

  placed_differ : (k : ℕ) (infos : List NameInfo) → NamesDiffer infos → NamesDiffer (placed_from names spots k infos)
  placed_differ k infos differ i j a b at_i at_j same =
      let one = line k infos i a at_i in
      let other = line k infos j b at_j in
      differ i j one.info other.info one.stands other.stands (one.same ∙ same ∙ sym other.same)

  pub same_index_from : (k : ℕ) (infos : List NameInfo) (name : List ℕ) → index_of (placed_from names spots k infos) name ≡ index_of infos name
  same_index_from k [] name = refl
  same_index_from k (info ∷ infos) name = ap (λ (i : ℕ). cond (not (bytes_eq info.name name)) (1 + i) 0) (same_index_from (k + 1) infos name)

-- a name has the same index in both tables
pub same_index : (whole : List Labelled) (name : List ℕ) → index_of (placed_names whole) name ≡ index_of (names_of whole) name
same_index whole name = same_index_from (names_of whole) (spots_of whole) 0 (names_of whole) name

-- no name stands twice in the table of a program
pub placed_names-differ : (whole : List Labelled) → NamesDiffer (placed_names whole)
placed_names-differ whole = placed_differ (names_of whole) (spots_of whole) 0 (names_of whole) (names_differ whole)

module _ (whole : List Labelled) (source : IsSource whole) (right : first_line (has_wrong_storage (names_of whole) (placed_names whole) whole) whole ≡ None) where
  -- each name in the table is one that a source can declare
  pub names_of-infos : All IsNameInfo (names_of whole)
  names_of-infos = infos whole (all_declarators-read whole source.trees) (all_names whole) (table_symbolic whole source) (right_dims_of (names_of whole) (placed_names whole) whole right)

  pub placed_names-infos : All IsNameInfo (placed_names whole)
  placed_names-infos = each_placed (names_of whole) (spots_of whole) 0 (names_of whole) names_of-infos
