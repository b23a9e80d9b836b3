-- Where no name has dimensions twice, each declarator with dimensions gives its name the dimensions that the table has.
use Rattle.std.proofs.Common.{◌≡◌, ℕ, ◌⊎◌, Bool, true, false, cond, List, [], ◌∷◌, ◌++◌, length, map, All, Some, None, inl, inr, ⊎_elim, refl, sym, ap, subst, ◌∙◌, arith}
use Rattle.std.specs.Prelude.{bytes_eq, nat_lt, flat_map, filter}
use Rattle.std.specs.List.{list_any}
use Rattle.std.specs.Cmp.Lexicographic.{nat_list_eq_equiv}
use Rattle.std.proofs.lemmas.Bool.{or_parts, and_left, and_right, and_from, ltb-false, cases_Bool}
use Rattle.std.proofs.lemmas.List.{append_assoc, map-append}
use Rattle.std.proofs.lemmas.List.Elements.{All-nil, All-cons, All-weaker, filter-append}
use Rattle.f77_tree.specs.declared.declarations.Dim.{Dim}
use Rattle.f77_tree.specs.declared.declarations.Decl.{Decl}
use Rattle.f77_tree.specs.declared.declarations.CommonPart.{CommonPart}
use Rattle.f77_tree.specs.declared.programs.NameInfo.{NameInfo}
use Rattle.f77_tree.specs.declared.statements.Labelled.{Labelled}
use Rattle.f77_tree.specs.declared.statements.Stmt.{Stmt}
use Rattle.f77_tree.specs.declared.statements.Stmt.TheVariants.{Common}
use Rattle.layout_rules.specs.Faults.{first_line, first_answer, answer_or, has_repeat}
use Rattle.layout_rules.specs.Declarations.{declarators, all_declarators, has_dims, dims_told, dims_or_none, dims_of, parts_of, all_commons}
use Rattle.layout_rules.specs.StorageFaults.{array_names, dimensioned, has_wrong_storage}
use Rattle.layout_rules.proofs.FirstLine.{has_repeat-append}
use Rattle.layout_rules.proofs.StorageLines.{right_statement}
use Rattle.storage_laws.proofs.DeclaredForms.{All-flat_map}
use Rattle.layout_rules.proofs.FlatParts.{each_part}
use Rattle.layout_rules.proofs.DeclaredOnce.{once_in_all}

-- ---- declarators

array_names-append : (xs ys : List Decl) → array_names (xs ++ ys) ≡ array_names xs ++ array_names ys
array_names-append xs ys = ap (map (λ (decl : Decl). decl.name)) (filter-append has_dims xs ys) ∙ map-append (λ (decl : Decl). decl.name) (filter has_dims xs) (filter has_dims ys)

-- no declarator before it gives the name dimensions
told_here : (before rest : List Decl) (decl : Decl) → has_dims decl ≡ true → list_any (bytes_eq decl.name) (array_names before) ≡ false → dims_or_none (first_answer (dims_told decl.name) (before ++ decl ∷ rest)) ≡ decl.dims
told_here [] rest decl is none =
    ap (λ b. dims_or_none (answer_or (cond b (Some decl.dims) None) (first_answer (dims_told decl.name) rest))) (and_from (bytes_eq decl.name decl.name) (has_dims decl) (nat_list_eq_equiv.refl decl.name) is)
told_here (d ∷ before) rest decl is none =
    let later = first_answer (dims_told decl.name) (before ++ decl ∷ rest) in
    ⊎_elim
    (λ (has : has_dims d ≡ true).
    let parts = or_parts (bytes_eq decl.name d.name) (list_any (bytes_eq decl.name) (array_names before)) (sym (ap (λ b. list_any (bytes_eq decl.name) (map (λ (x : Decl). x.name) (cond b (d ∷ filter has_dims before) (filter has_dims before)))) has) ∙ none) in
    ap (λ b. dims_or_none (answer_or (cond b (Some d.dims) None) later)) (and_left (bytes_eq d.name decl.name) (has_dims d) (nat_list_eq_equiv.symm d.name decl.name ∙ parts.0)) ∙ told_here before rest decl is parts.1)
    (λ (has : has_dims d ≡ false).
    let absent = sym (ap (λ b. list_any (bytes_eq decl.name) (map (λ (x : Decl). x.name) (cond b (d ∷ filter has_dims before) (filter has_dims before)))) has) ∙ none in
    ap (λ b. dims_or_none (answer_or (cond b (Some d.dims) None) later)) (and_right (bytes_eq d.name decl.name) (has_dims d) has) ∙ told_here before rest decl is absent)
    (cases_Bool (has_dims d))

-- a declarator without dimensions, or with those that the declarators give its name
abbrev HasOwnDims : List Decl → Decl → Type 0
HasOwnDims decls decl = (decl.dims ≡ []) ⊎ (decl.dims ≡ dims_or_none (first_answer (dims_told decl.name) decls))

without_dims : (dims : List Dim) → nat_lt 0 (length dims) ≡ false → dims ≡ []
without_dims [] none = refl
without_dims (dim ∷ dims) none = let le = ltb-false 0 (length (dim ∷ dims)) none in absurd (omega (arith, le))

own_here : (before rest : List Decl) (decl : Decl) → has_repeat bytes_eq (array_names before) (array_names (decl ∷ [])) ≡ false → HasOwnDims (before ++ decl ∷ rest) decl
own_here before rest decl once = by (has_dims decl) refl once
  where
    by : (b : Bool) → has_dims decl ≡ b → has_repeat bytes_eq (array_names before) (map (λ d. d.name) (cond b (decl ∷ []) [])) ≡ false → HasOwnDims (before ++ decl ∷ rest) decl
    by true is none = inr (sym (told_here before rest decl is (or_parts (list_any (bytes_eq decl.name) (array_names before)) false none).0))
    by false is none = inl (without_dims decl.dims is)

own_dims : (before rest : List Decl) → has_repeat bytes_eq (array_names before) (array_names rest) ≡ false → All (HasOwnDims (before ++ rest)) rest
own_dims before [] once = All-nil (HasOwnDims (before ++ []))
own_dims before (decl ∷ rest) once =
    let split = array_names-append (decl ∷ []) rest in
    let parts = or_parts (has_repeat bytes_eq (array_names before) (array_names (decl ∷ []))) (has_repeat bytes_eq (array_names before ++ array_names (decl ∷ [])) (array_names rest))
    (sym (has_repeat-append bytes_eq (array_names before) (array_names (decl ∷ [])) (array_names rest)) ∙ sym (ap (has_repeat bytes_eq (array_names before)) split) ∙ once) in
    let later : has_repeat bytes_eq (array_names (before ++ decl ∷ [])) (array_names rest) ≡ false = ap (λ (names : List (List ℕ)). has_repeat bytes_eq names (array_names rest)) (array_names-append before (decl ∷ [])) ∙ parts.1 in
    All-cons (HasOwnDims (before ++ decl ∷ rest)) decl rest (own_here before rest decl parts.0)
    (subst (λ (decls : List Decl). All (HasOwnDims decls) rest) (append_assoc before (decl ∷ []) rest) (own_dims (before ++ decl ∷ []) rest later))

-- ---- all statements

array_names-all : (stmts : List Labelled) → array_names (all_declarators stmts) ≡ flat_map (λ s. dimensioned s.stmt) stmts
array_names-all [] = refl
array_names-all (s ∷ stmts) = array_names-append (declarators s.stmt) (all_declarators stmts) ∙ ap (λ (names : List (List ℕ)). dimensioned s.stmt ++ names) (array_names-all stmts)

-- each name in COMMON stands without dimensions, or with those of the statements
abbrev pub HasDimsOf : List Labelled → Decl → Type 0
HasDimsOf whole decl = (decl.dims ≡ []) ⊎ (decl.dims ≡ dims_of whole decl.name)

in_parts : (whole : List Labelled) (stmt : Stmt) → All (HasDimsOf whole) (declarators stmt) → All (λ part. All (HasDimsOf whole) part.decls) (parts_of stmt)
in_parts whole (Common parts) all = each_part (HasDimsOf whole) (λ (part : CommonPart). part.decls) parts all
in_parts whole _ all = All-nil (λ (part : CommonPart). All (HasDimsOf whole) part.decls)

pub all_commons-dims : (names placed : List NameInfo) (whole : List Labelled) → first_line (has_wrong_storage names placed whole) whole ≡ None → All (λ part. All (HasDimsOf whole) part.decls) (all_commons whole)
all_commons-dims names placed whole right =
    let once : has_repeat bytes_eq [] (array_names (all_declarators whole)) ≡ false =
    ap (has_repeat bytes_eq []) (array_names-all whole) ∙ once_in_all bytes_eq (has_wrong_storage names placed whole) (λ s. dimensioned s.stmt) (λ above s clear. (right_statement names placed whole above s clear).dims_once) [] whole right in
    let each = each_part (HasDimsOf whole) (λ (s : Labelled). declarators s.stmt) whole (own_dims [] (all_declarators whole) once) in
    All-flat_map (λ (part : CommonPart). All (HasDimsOf whole) part.decls) (λ (s : Labelled). parts_of s.stmt) whole
    (All-weaker (λ (s : Labelled). All (HasDimsOf whole) (declarators s.stmt)) (λ s. All (λ part. All (HasDimsOf whole) part.decls) (parts_of s.stmt)) (λ s. in_parts whole s.stmt) whole each)
