-- Tables that differ in places alone: expressions are resolved alike over them, and have the same kinds.
use Rattle.std.proofs.Common.{◌≡◌, ℕ, zero, suc, ◌+◌, Bool, not, ◌&&◌, cond, if◌then◌else◌, List, [], ◌∷◌, length, Some, None, find, bytes_eq, refl, sym, ap, ◌∙◌}
use Rattle.std.specs.Prelude.{nat_lt}
use Rattle.f77_tree.specs.declared.declarations.Dim.{Dim}
use Rattle.f77_tree.specs.declared.declarations.Kind.{Kind}
use Rattle.f77_tree.specs.declared.declarations.Kind.TheVariants.{Integer}
use Rattle.f77_tree.specs.declared.expressions.Access.{Access}
use Rattle.f77_tree.specs.declared.expressions.Expr.{Expr}
use Rattle.f77_tree.specs.declared.expressions.Expr.TheVariants.{Read, Apply}
use Rattle.f77_tree.specs.declared.programs.NameInfo.{NameInfo}
use Rattle.f77_tree.specs.declared.statements.RawExpr.{RawExpr, Row_of-RawExpr, end_of-RawExpr, more_of-RawExpr}
use Rattle.f77_tree.specs.declared.statements.RawExpr.TheVariants.{Int, Truth, Named, Call', Apply' as RawApply'}
use Rattle.f77_tree.specs.Declarations.{index_of}
use Rattle.f77_tree.specs.Kinds.{operand_kind}
use Rattle.f77_tree.specs.Line.{kind_of_op}
use Rattle.f77_tree.specs.OtherPlaces.{DifferInPlaces, without_places}
use Rattle.f77_tree.specs.Value.{dims_of, kind_of}
use Rattle.layout_rules.specs.Resolved.{access_of, in_dialect, intrinsic_call, resolved, resolved_call, resolved_row}
use Rattle.layout_rules.specs.Types.{count_of_row, dims_named, intrinsics, is_array_in, is_kind, is_row_of, kind_in, kind_named, kind_of_call}
use Rattle.std.proofs.lemmas.Grind.{elements}
use Rattle.std.proofs.Common.{arith}

bare-index : (names : List NameInfo) (name : List ℕ) → index_of (without_places names) name ≡ index_of names name
bare-index [] name = refl
bare-index (info ∷ names) name = ap (λ k. cond (not (bytes_eq info.name name)) (1 + k) 0) (bare-index names name)

bare-kind : (names : List NameInfo) (k : ℕ) → kind_of (without_places names) k ≡ kind_of names k
bare-kind [] k = refl
bare-kind (info ∷ names) zero = refl
bare-kind (info ∷ names) (suc k) = bare-kind names k

bare-dims : (names : List NameInfo) (k : ℕ) → dims_of (without_places names) k ≡ dims_of names k
bare-dims [] k = refl
bare-dims (info ∷ names) zero = refl
bare-dims (info ∷ names) (suc k) = bare-dims names k

module _ (names others : List NameInfo) (differ : DifferInPlaces names others) where
  pub same-index : (x : List ℕ) → index_of others x ≡ index_of names x
  same-index x = sym (bare-index others x) ∙ ap (λ (ns : List NameInfo). index_of ns x) (sym differ) ∙ bare-index names x

  kind-at : (k : ℕ) → kind_of others k ≡ kind_of names k
  kind-at k = sym (bare-kind others k) ∙ ap (λ (ns : List NameInfo). kind_of ns k) (sym differ) ∙ bare-kind names k

  dims-at : (k : ℕ) → dims_of others k ≡ dims_of names k
  dims-at k = sym (bare-dims others k) ∙ ap (λ (ns : List NameInfo). dims_of ns k) (sym differ) ∙ bare-dims names k

  pub same-kind : (x : List ℕ) → kind_named others x ≡ kind_named names x
  same-kind x = ap (kind_of others) (same-index x) ∙ kind-at (index_of names x)

  pub same-dims : (x : List ℕ) → dims_named others x ≡ dims_named names x
  same-dims x = ap (dims_of others) (same-index x) ∙ dims-at (index_of names x)

  pub same-array : (x : List ℕ) → is_array_in others x ≡ is_array_in names x
  same-array x = ap (λ (dims : List Dim). nat_lt 0 (length dims)) (same-dims x)

  -- ---- trees

  module _ (checked : Bool) where
    abbrev chosen : Bool → ℕ → List ℕ → List Expr → Expr
    chosen b k name args = if b then Read (record { name = k; subs = args }) else intrinsic_call checked (find (λ f. bytes_eq f.name name) intrinsics) args

    call-same : (name : List ℕ) (args : List Expr) → resolved_call others checked name args ≡ resolved_call names checked name args
    call-same name args = ap (λ b. chosen b (index_of others name) name args) (same-array name) ∙ ap (λ k. chosen (is_array_in names name) k name args) (same-index name)

    mutual
      pub trees-same : (e : RawExpr) → resolved others checked e ≡ resolved names checked e
      trees-same (Int z) = refl
      trees-same (Truth b) = refl
      trees-same (Named name) = ap (λ k. Read (record { name = k; subs = [] })) (same-index name)
      trees-same (Call' name shape args) = ap (resolved_call others checked name) (rows-same _ args) ∙ call-same name (resolved_row names checked args)
      trees-same (RawApply' op shape args) = ap (λ (es : List Expr). Apply (in_dialect checked op) es) (rows-same _ args)

      rows-same : (n : _) (row : Row_of-RawExpr n) → resolved_row others checked row ≡ resolved_row names checked row
      rows-same n end_of-RawExpr = refl
      rows-same n (more_of-RawExpr e rest) = ap (λ (x : Expr). x ∷ resolved_row others checked rest) (trees-same e) ∙ ap (λ (xs : List Expr). resolved names checked e ∷ xs) (rows-same _ rest)

    pub accesses-same : (e : RawExpr) → access_of others checked e ≡ access_of names checked e
    accesses-same (Int z) = refl
    accesses-same (Truth b) = refl
    accesses-same (Named name) = ap (λ k. let made : Access = record { name = k; subs = [] } in made) (same-index name)
    accesses-same (Call' name shape args) = grind (arith, elements, same-index, rows-same)
    accesses-same (RawApply' op shape args) = refl

  -- ---- kinds

  call-kind : (name : List ℕ) (count : ℕ) → kind_of_call others name count ≡ kind_of_call names name count
  call-kind name count = grind (arith, elements, same-array, same-dims, same-kind)

  mutual
    pub kinds-same : (e : RawExpr) → kind_in others e ≡ kind_in names e
    kinds-same (Int z) = refl
    kinds-same (Truth b) = refl
    kinds-same (Named name) = ap (λ b. if b then None else Some (kind_named others name)) (same-array name) ∙ ap (λ kind. if is_array_in names name then None else Some kind) (same-kind name)
    kinds-same (Call' name shape args) = ap (λ b. if b then kind_of_call others name (count_of_row args) else None) (row-kinds _ Integer args) ∙ ap (λ kind. if is_row_of names Integer args then kind else None) (call-kind name (count_of_row args))
    kinds-same (RawApply' op shape args) = ap (λ b. if b then Some (kind_of_op op) else None) (row-kinds _ (operand_kind op) args)

    row-kinds : (n : _) (kind : Kind) (row : Row_of-RawExpr n) → is_row_of others kind row ≡ is_row_of names kind row
    row-kinds n kind end_of-RawExpr = refl
    row-kinds n kind (more_of-RawExpr e rest) = ap (λ found. is_kind kind found && is_row_of others kind rest) (kinds-same e) ∙ ap (λ b. is_kind kind (kind_in names e) && b) (row-kinds _ kind rest)
