-- The table of the names of a program: no name stands twice, each name that appears stands in it, and a name's line has what
-- the declarations say of it.
use Rattle.std.proofs.Common.{◌≡◌, ℕ, zero, suc, ◌+◌, ◌<◌, Bool, true, false, not, ◌||◌, List, [], ◌∷◌, ◌++◌, length, map, fold, get_or, All, ⊎_elim, Some, None, refl, ap, sym, subst, ◌∙◌, arith}
use Rattle.std.specs.Prelude.{bytes_eq, cond, flat_map, nat_lt, slice_get}
use Rattle.std.specs.List.{list_any}
use Rattle.std.specs.Cmp.Lexicographic.{nat_list_eq_equiv}
use Rattle.std.proofs.lemmas.Bool.{or_parts, or_from, cond_both, cases_Bool, not-true, not-false}
use Rattle.std.proofs.lemmas.List.Folds.{list_any-append, list_any_at}
use Rattle.std.proofs.lemmas.Map.Steps.{list_any_congr}
use Rattle.std.proofs.lemmas.Option.{get_or_from_slice_get, slice_get_within, slice_get-get_or}
use Rattle.f77_tree.specs.declared.declarations.Decl.{Decl}
use Rattle.f77_tree.specs.declared.programs.NameInfo.{NameInfo}
use Rattle.f77_tree.specs.declared.statements.Labelled.{Labelled}
use Rattle.f77_tree.specs.declared.statements.Stmt.{Stmt}
use Rattle.f77_tree.specs.declared.statements.Stmt.TheVariants.{TypeOf, Dimension, Common}
use Rattle.f77_tree.specs.Declarations.{index_of, NamesDiffer}
use Rattle.f77_tree.specs.Value.{kind_in, dims_in}
use Rattle.f77_tree.proofs.NameLemmas.{bytes_eq-same}
use Rattle.layout_rules.specs.Appearances.{all_names, appearing, with_name}
use Rattle.layout_rules.specs.Declarations.{declarators, dims_of, dims_or_none, dims_told, is_array, kind_of}
use Rattle.layout_rules.specs.Executables.{kind_or_integer}
use Rattle.layout_rules.specs.Faults.{first_answer, answer_or, has_repeat}
use Rattle.layout_rules.specs.Layout.{name_info, names_of}
use Rattle.layout_rules.specs.Types.{dims_named, kind_named, is_array_in}
use Rattle.layout_rules.proofs.DeclaredOnce.{one_place}
use Rattle.layout_rules.proofs.FlatParts.{list_any-flat_map}
use Rattle.layout_rules.proofs.FirstLine.{first_answer-append, has_repeat-append}

abbrev has : List (List ℕ) → List ℕ → Bool
has names name = list_any (bytes_eq name) names

or_false : (a : Bool) → (a || false) ≡ a
or_false a = grind arith

-- ---- each name stands once

once_with : (seen : List (List ℕ)) (name : List ℕ) → has_repeat bytes_eq [] seen ≡ false → has_repeat bytes_eq [] (with_name seen name) ≡ false
once_with seen name once =
    cond_both (has seen name) seen (seen ++ name ∷ []) (λ names. has_repeat bytes_eq [] names ≡ false) (λ met. once)
    (λ absent. has_repeat-append bytes_eq [] seen (name ∷ []) ∙ or_from (has_repeat bytes_eq [] seen) (has seen name || false) once (or_false (has seen name) ∙ absent))

once_fold : (seen names : List (List ℕ)) → has_repeat bytes_eq [] seen ≡ false → has_repeat bytes_eq [] (fold with_name seen names) ≡ false
once_fold seen [] once = once
once_fold seen (name ∷ names) once = once_fold (with_name seen name) names (once_with seen name once)

-- an item of the images is that of an item
pub item-of_map : {X Y : Type 0} (f : X → Y) (xs : List X) (k : ℕ) (y : Y) → slice_get (map f xs) k ≡ Some y → (x : X) × (slice_get xs k ≡ Some x) × (f x ≡ y)
item-of_map f [] k y at = absurd cc
item-of_map f (x ∷ xs) zero y at = let is : f x ≡ y = cc in (x, refl, is)
item-of_map f (x ∷ xs) (suc k) y at = item-of_map f xs k y at

module _ (stmts : List Labelled) where
  abbrev lines : List (List ℕ) → List NameInfo
  lines names = map (name_info stmts) names

  pub names_differ : NamesDiffer (names_of stmts)
  names_differ j k a b at_j at_k same =
      let one = item-of_map (name_info stmts) (all_names stmts) j a at_j in
      let other = item-of_map (name_info stmts) (all_names stmts) k b at_k in
      let met : one.0 ≡ other.0 = ap (λ (i : NameInfo). i.name) one.2 ∙ same ∙ sym (ap (λ (i : NameInfo). i.name) other.2) in
      one_place bytes_eq nat_list_eq_equiv.refl [] (all_names stmts) (once_fold [] (flat_map (λ s. appearing (is_array stmts) s.stmt) stmts) refl) j k other.0 (one.1 ∙ ap (λ (n : List ℕ). Some n) met) other.1

-- ---- each name that appears is there

has_with : (seen : List (List ℕ)) (x name : List ℕ) → has (with_name seen x) name ≡ (has seen name || bytes_eq name x)
has_with seen x name =
    cond_both (has seen x) seen (seen ++ x ∷ []) (λ names. has names name ≡ (has seen name || bytes_eq name x))
    (λ met. ⊎_elim (λ same. let there = list_any_congr nat_list_eq_equiv name x seen same ∙ met in rw there refl) (λ other. sym (ap (λ b. has seen name || b) other ∙ or_false (has seen name))) (cases_Bool (bytes_eq name x)))
    (λ absent. list_any-append (bytes_eq name) seen (x ∷ []) ∙ ap (λ b. has seen name || b) (or_false (bytes_eq name x)))

has_fold : (seen names : List (List ℕ)) (name : List ℕ) → has (fold with_name seen names) name ≡ (has seen name || has names name)
has_fold seen [] name = sym (or_false (has seen name))
has_fold seen (x ∷ names) name =
    has_fold (with_name seen x) names name ∙ ap (λ b. b || has names name) (has_with seen x name) ∙ grind arith

has_part : {X : Type 0} (names : X → List (List ℕ)) (xs : List X) (j : ℕ) (x : X) (name : List ℕ) → slice_get xs j ≡ Some x → has (names x) name ≡ true → has (flat_map names xs) name ≡ true
has_part names xs j x name at there =
    list_any-flat_map (bytes_eq name) names xs ∙ list_any_at (λ y. has (names y) name) xs j x (slice_get_within xs j x at) (ap (λ y. has (names y) name) (get_or_from_slice_get xs j x x at) ∙ there)

module _ (stmts : List Labelled) where
  -- where a name stands, its line has what the declarations say of it
  line_at : (names : List (List ℕ)) (name : List ℕ) → has names name ≡ true → slice_get (lines stmts names) (index_of (lines stmts names) name) ≡ Some (name_info stmts name)
  line_at [] name there = absurd cc
  line_at (x ∷ names) name there =
      let k = index_of (lines stmts names) name in
      cond_both (not (bytes_eq x name)) (1 + k) 0 (λ i. slice_get (lines stmts (x ∷ names)) i ≡ Some (name_info stmts name))
      (λ other. let next : suc k ≡ 1 + k = omega arith in subst (λ (i : ℕ). slice_get (lines stmts (x ∷ names)) i ≡ Some (name_info stmts name)) next (line_at names name (sym (ap (λ b. b || has names name) (nat_list_eq_equiv.symm name x ∙ not-true (bytes_eq x name) other)) ∙ there)))
      (λ same. ap (λ n. Some (name_info stmts n)) (bytes_eq-same x name (not-false (bytes_eq x name) same)))

  -- a name that isn't there has no line
  no_line : (names : List (List ℕ)) (name : List ℕ) → has names name ≡ false → slice_get (lines stmts names) (index_of (lines stmts names) name) ≡ None
  no_line [] name absent = refl
  no_line (x ∷ names) name absent =
      let parts = or_parts (bytes_eq name x) (has names name) absent in
      let k = index_of (lines stmts names) name in
      let next : suc k ≡ 1 + k = omega arith in
      subst (λ (b : Bool). slice_get (lines stmts (x ∷ names)) (cond (not b) (1 + k) 0) ≡ None) (sym (nat_list_eq_equiv.symm x name ∙ parts.0))
      (subst (λ (i : ℕ). slice_get (lines stmts (x ∷ names)) i ≡ None) next (no_line names name parts.1))

  -- a name that appears in a statement
  abbrev Appears : List ℕ → Type 0
  Appears name = has (all_names stmts) name ≡ true

  appears : (j : ℕ) (s : Labelled) (name : List ℕ) → slice_get stmts j ≡ Some s → has (appearing (is_array stmts) s.stmt) name ≡ true → Appears name
  appears j s name at there =
      has_fold [] (flat_map (λ a. appearing (is_array stmts) a.stmt) stmts) name ∙ has_part (λ (a : Labelled). appearing (is_array stmts) a.stmt) stmts j s name at there

  -- its line
  pub appearing_line : (j : ℕ) (s : Labelled) (name : List ℕ) → slice_get stmts j ≡ Some s → has (appearing (is_array stmts) s.stmt) name ≡ true → slice_get (names_of stmts) (index_of (names_of stmts) name) ≡ Some (name_info stmts name)
  appearing_line j s name at there = line_at (all_names stmts) name (appears j s name at there)

  -- it stands in the table
  pub appearing_index : (j : ℕ) (s : Labelled) (name : List ℕ) → slice_get stmts j ≡ Some s → has (appearing (is_array stmts) s.stmt) name ≡ true → index_of (names_of stmts) name < length (names_of stmts)
  appearing_index j s name at there = slice_get_within (names_of stmts) (index_of (names_of stmts) name) (name_info stmts name) (appearing_line j s name at there)

  -- each name that appears is in the table
  pub appearing-known : All (λ s. All (λ name. index_of (names_of stmts) name < length (names_of stmts)) (appearing (is_array stmts) s.stmt)) stmts
  appearing-known j s lt k name within =
      let names = appearing (is_array stmts) (get_or stmts j s).stmt in
      let one = get_or names k name in
      appearing_index j (get_or stmts j s) one (slice_get-get_or stmts j s lt) (list_any_at (bytes_eq one) names k name within (nat_list_eq_equiv.refl one))

  pub appearing_kind : (j : ℕ) (s : Labelled) (name : List ℕ) → slice_get stmts j ≡ Some s → has (appearing (is_array stmts) s.stmt) name ≡ true → kind_named (names_of stmts) name ≡ kind_or_integer (kind_of stmts name)
  appearing_kind j s name at there = ap kind_in (appearing_line j s name at there)

-- ---- names with dimensions are there

undeclared : (decls : List Decl) (name : List ℕ) → has (map (λ decl. decl.name) decls) name ≡ false → first_answer (dims_told name) decls ≡ None
undeclared [] name absent = refl
undeclared (decl ∷ decls) name absent =
    let other : bytes_eq decl.name name ≡ false = nat_list_eq_equiv.symm decl.name name ∙ (or_parts (bytes_eq name decl.name) (has (map (λ d. d.name) decls) name) absent).0 in
    rw other (undeclared decls name ((or_parts (bytes_eq name decl.name) (has (map (λ d. d.name) decls) name) absent).1))

undeclared_flat : {X : Type 0} (names : X → List (List ℕ)) (decls : X → List Decl) (name : List ℕ) → ((x : X) → has (names x) name ≡ false → first_answer (dims_told name) (decls x) ≡ None) → (xs : List X) → has (flat_map names xs) name ≡ false → first_answer (dims_told name) (flat_map decls xs) ≡ None
undeclared_flat names decls name each [] absent = refl
undeclared_flat names decls name each (x ∷ xs) absent =
    let parts = or_parts (has (names x) name) (has (flat_map names xs) name) (sym (list_any-append (bytes_eq name) (names x) (flat_map names xs)) ∙ absent) in
    first_answer-append (dims_told name) (decls x) (flat_map decls xs)
    ∙ ap (λ told. answer_or told (first_answer (dims_told name) (flat_map decls xs))) (each x parts.0)
    ∙ undeclared_flat names decls name each xs parts.1

undeclared_in : (arrays : List ℕ → Bool) (stmt : Stmt) (name : List ℕ) → has (appearing arrays stmt) name ≡ false → first_answer (dims_told name) (declarators stmt) ≡ None
undeclared_in arrays (TypeOf kind decls) name absent = undeclared decls name absent
undeclared_in arrays (Dimension decls) name absent = undeclared decls name absent
undeclared_in arrays (Common parts) name absent = undeclared_flat (λ part. map (λ decl. decl.name) part.decls) (λ part. part.decls) name (λ part. undeclared part.decls name) parts absent
undeclared_in arrays _ name absent = refl

module _ (stmts : List Labelled) where
  dims_known : (name : List ℕ) (there : Bool) → has (all_names stmts) name ≡ there → dims_named (names_of stmts) name ≡ dims_of stmts name
  dims_known name true is = ap dims_in (line_at stmts (all_names stmts) name is)
  dims_known name false is =
      let none = undeclared_flat (λ s. appearing (is_array stmts) s.stmt) (λ s. declarators s.stmt) name (λ s. undeclared_in (is_array stmts) s.stmt name) stmts (sym (has_fold [] (flat_map (λ s. appearing (is_array stmts) s.stmt) stmts) name) ∙ is) in
      ap dims_in (no_line stmts (all_names stmts) name is) ∙ ap dims_or_none (sym none)

  -- the dimensions in the table are those of the declarations, of any name
  pub dims_in_table : (name : List ℕ) → dims_named (names_of stmts) name ≡ dims_of stmts name
  dims_in_table name = dims_known name (has (all_names stmts) name) refl

  pub arrays_in_table : (name : List ℕ) → is_array_in (names_of stmts) name ≡ is_array stmts name
  arrays_in_table name = ap (λ dims. nat_lt 0 (length dims)) (dims_in_table name)
