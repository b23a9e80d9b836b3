-- What the expressions of the statements that a printed program is read as are taken for, over the table without places.
use Rattle.std.proofs.Common.{◌≡◌, ◌==◌, ℕ, pos, Bool, true, false, cond, if◌then◌else◌, List, [], ◌∷◌, map, refl, sym, ap, ◌∙◌, ⊎_elim, Some, None}
use Rattle.std.specs.Prelude.{All, bytes_eq, find}
use Rattle.std.proofs.lemmas.Bool.Decides.{Decides-int_eq}
use Rattle.op_table.specs.declared.Op.{Op}
use Rattle.op_table.specs.declared.Op.TheVariants.{Truth}
use Rattle.f77_tree.specs.declared.expressions.Access.{Access}
use Rattle.f77_tree.specs.declared.expressions.Expr.{Expr}
use Rattle.f77_tree.specs.declared.expressions.Expr.TheVariants.{Const, Truth as IsTruth, Input, Read, Read', Apply, Apply'}
use Rattle.f77_tree.specs.declared.programs.Item.{Item}
use Rattle.f77_tree.specs.declared.programs.Item.TheVariants.{Value, Chars}
use Rattle.f77_tree.specs.declared.programs.NameInfo.{NameInfo}
use Rattle.f77_tree.specs.declared.statements.RawExpr.{RawExpr, Row_of-RawExpr, end_of-RawExpr, more_of-RawExpr}
use Rattle.f77_tree.specs.declared.statements.RawExpr.TheVariants.{Int, Truth as RawTruth, Named, Call', Apply' as RawApply'}
use Rattle.f77_tree.specs.Declarations.{NamesDiffer, index_of}
use Rattle.f77_tree.specs.Dialects.{HasDialect, ItemHasDialect}
use Rattle.f77_tree.specs.Execution.{words_taken, is_truth, count_if, row_inputs}
use Rattle.f77_tree.specs.Kinds.{is_written, IsProper, IsAssignment, IsOfKind, taken_as}
use Rattle.f77_tree.specs.OtherPlaces.{without_places}
use Rattle.f77_tree.specs.Value.{kind_of}
use Rattle.f77_tree.specs.WellFormed.{IsProperItem}
use Rattle.f77_tree.proofs.AllLemmas.{All-first, All-rest}
use Rattle.f77_expr.specs.Printing.{raw_form}
use Rattle.layout_rules.specs.Executables.{kind_or_integer}
use Rattle.layout_rules.specs.Resolved.{in_dialect, resolved_call, resolved, resolved_row, access_of, resolved_item, resolved_step, intrinsic_call}
use Rattle.layout_rules.specs.Types.{intrinsics, is_array_in, kind_in}
use Rattle.flat_programs.specs.Shown.{is_one}
use Rattle.read_back.specs.PrintedArrays.{HasNoPrintedArrays}
use Rattle.read_back.proofs.PrintedTrees.{printed_tree, printed_target}
use Rattle.read_back.proofs.PrintedTypes.{bare-index, array_same, kind_is}
use Rattle.read_back.proofs.ReadForms.{item_form, step_form}

-- ---- over a table without places

module _ (names : List NameInfo) (checked : Bool) where
  abbrev bare : List NameInfo
  bare = without_places names

  abbrev chosen : Bool → ℕ → List ℕ → List Expr → Expr
  chosen b k name args = if b then Read (record { name = k; subs = args }) else intrinsic_call checked (find (λ f. bytes_eq f.name name) intrinsics) args

  call_same : (name : List ℕ) (args : List Expr) → resolved_call bare checked name args ≡ resolved_call names checked name args
  call_same name args = ap (λ b. chosen b (index_of bare name) name args) (array_same names name) ∙ ap (λ k. chosen (is_array_in names name) k name args) (bare-index names name)

  mutual
    trees_same : (e : RawExpr) → resolved bare checked e ≡ resolved names checked e
    trees_same (Int z) = refl
    trees_same (RawTruth b) = refl
    trees_same (Named name) = ap (λ k. Read (record { name = k; subs = [] })) (bare-index names name)
    trees_same (Call' name shape args) = ap (resolved_call bare checked name) (rows_same args) ∙ call_same name (resolved_row names checked args)
    trees_same (RawApply' op shape args) = ap (λ (es : List Expr). Apply (in_dialect checked op) es) (rows_same args)

    rows_same : {m : _} (row : Row_of-RawExpr m) → resolved_row bare checked row ≡ resolved_row names checked row
    rows_same end_of-RawExpr = refl
    rows_same (more_of-RawExpr e rest) = ap (λ (x : Expr). x ∷ resolved_row bare checked rest) (trees_same e) ∙ ap (λ (xs : List Expr). resolved names checked e ∷ xs) (rows_same rest)

  access_same : (e : RawExpr) → access_of bare checked e ≡ access_of names checked e
  access_same (Int z) = refl
  access_same (RawTruth b) = refl
  access_same (Named name) = ap (λ k. let made : Access = record { name = k; subs = [] } in made) (bare-index names name)
  access_same (Call' name shape args) =
      ap (λ k. let made : Access = record { name = k; subs = resolved_row bare checked args } in made) (bare-index names name)
      ∙ ap (λ (es : List Expr). let made : Access = record { name = index_of names name; subs = es } in made) (rows_same args)
  access_same (RawApply' op shape args) = refl

  module _ (differ : NamesDiffer names) (free : HasNoPrintedArrays names) where
    pub tree_again : (e : Expr) → IsProper names e → HasDialect checked e → resolved bare checked (raw_form names e) ≡ e
    tree_again e proper dialect = trees_same (raw_form names e) ∙ printed_tree names checked differ free e proper dialect

    pub target_again : (target : Access) → IsProper names (Read target) → All (HasDialect checked) target.subs → access_of bare checked (raw_form names (Read target)) ≡ target
    target_again target proper dialect = access_same (raw_form names (Read target)) ∙ printed_target names checked differ free target proper dialect

    item_again : (item : Item) → IsProperItem names item → ItemHasDialect checked item → resolved_item bare checked (item_form names item) ≡ item
    item_again (Value e) proper dialect = ap Value (tree_again e proper dialect)
    item_again (Chars text) proper dialect = refl

    pub items_again : (items : List Item) → All (IsProperItem names) items → All (ItemHasDialect checked) items → map (resolved_item bare checked) (map (item_form names) items) ≡ items
    items_again [] proper dialect = refl
    items_again (item ∷ items) proper dialect =
        ap (λ i. i ∷ map (resolved_item bare checked) (map (item_form names) items)) (item_again item (All-first (IsProperItem names) item items proper) (All-first (ItemHasDialect checked) item items dialect))
        ∙ ap (λ is. item ∷ is) (items_again items (All-rest (IsProperItem names) item items proper) (All-rest (ItemHasDialect checked) item items dialect))

    one_is : (e : Expr) → is_one e ≡ true → Const (pos 1) ≡ e
    one_is (Const z) is = ap Const (sym ((Decides-int_eq z (pos 1)).0 is))
    one_is (IsTruth b) is = absurd cc
    one_is Input is = absurd cc
    one_is (Read' k shape subs) is = absurd cc
    one_is (Apply' op shape args) is = absurd cc

    step_if : (step : Expr) (one : Bool) → is_one step ≡ one → IsProper names step → HasDialect checked step → resolved_step bare checked (cond one None (Some (raw_form names step))) ≡ step
    step_if step true is proper dialect = one_is step is
    step_if step false is proper dialect = tree_again step proper dialect

    pub step_again : (step : Expr) → IsProper names step → HasDialect checked step → resolved_step bare checked (step_form names step) ≡ step
    step_again step proper dialect = step_if step (is_one step) refl proper dialect

    -- ---- READ

    not_truth : (op : Op) → is_written op ≡ true → is_truth op ≡ false
    not_truth Truth is = absurd cc
    not_truth op is = refl

    takes_none : (e : Expr) → IsProper names e → words_taken e ≡ 0
    takes_none (Const z) proper = refl
    takes_none (IsTruth b) proper = refl
    takes_none Input proper = absurd proper
    takes_none (Read' k shape subs) proper = refl
    takes_none (Apply' op shape args) proper = ap (λ b. count_if b (row_inputs args)) (not_truth op proper.0)

    -- a value that takes data is the next word, as the target takes it
    pub taken_again : (target : Access) (value : Expr) → IsAssignment names target value → (words_taken value == 1) ≡ true → taken_as (kind_or_integer (kind_in bare (raw_form names (Read target)))) ≡ value
    taken_again target value is takes =
        let kind : kind_in bare (raw_form names (Read target)) ≡ Some (kind_of names target.name) = kind_is names differ free (Read target) is.access in
        ap (λ found. taken_as (kind_or_integer found)) kind
        ∙ ⊎_elim
        (λ (of : IsOfKind names (kind_of names target.name) value). let e : false ≡ true = ap (λ n. n == 1) (sym (takes_none value of.proper)) ∙ takes in absurd cc)
        (λ (taken : value ≡ taken_as (kind_of names target.name)). sym taken)
        is.of_kind
