-- Resolved expressions, by the lists of their operands.
use Rattle.std.proofs.Common.{◌≡◌, ℕ, ◌∷◌, Bool, false, List, [], map, fold, if◌then◌else◌, Option, Some, None, option_map, refl, ap, ◌∙◌}
use Rattle.op_table.specs.declared.Op.{Op}
use Rattle.f77_tree.specs.declared.expressions.Access.{Access}
use Rattle.f77_tree.specs.declared.expressions.Expr.{Expr}
use Rattle.f77_tree.specs.declared.expressions.Expr.TheVariants.{Read, Apply as ApplyOf}
use Rattle.f77_tree.specs.declared.programs.NameInfo.{NameInfo}
use Rattle.f77_tree.specs.declared.statements.RawExpr.{RawExpr, Call, Apply, Row_of-RawExpr, end_of-RawExpr, more_of-RawExpr, items-the_row-RawExpr, items_hidden-the_row-RawExpr-0}
use Rattle.f77_tree.specs.Declarations.{index_of}
use Rattle.declared_names.specs.Functions.{intrinsic_named}
use Rattle.layout_rules.specs.Types.{Intrinsic, is_array_in}
use Rattle.layout_rules.specs.Resolved.{in_dialect, nested, intrinsic_call, resolved, resolved_row, resolved_call, access_of}
use Rattle.executable_lists.specs.Nested.{with_operand}
use Rattle.layout_rules.proofs.RawRows.{row_of}

resolved_row-items : (names : List NameInfo) (checked : Bool) (n : _) (row : Row_of-RawExpr n) → resolved_row names checked row ≡ map (resolved names checked) (items-the_row-RawExpr n row)
resolved_row-items names checked n end_of-RawExpr = refl
resolved_row-items names checked n (more_of-RawExpr e rest) = ap (λ (es : List Expr). resolved names checked e ∷ es) (resolved_row-items names checked _ rest)

pub resolved-Call : (names : List NameInfo) (checked : Bool) (name : List ℕ) (args : List RawExpr) → resolved names checked (Call name args) ≡ resolved_call names checked name (map (resolved names checked) args)
resolved-Call names checked name args =
    let row = row_of (Call name args) in
    ap (λ (es : List Expr). resolved_call names checked name es) (resolved_row-items names checked row.0 row.1 ∙ ap (map (resolved names checked)) (items_hidden-the_row-RawExpr-0 args))

pub resolved-Apply : (names : List NameInfo) (checked : Bool) (op : Op) (args : List RawExpr) → resolved names checked (Apply op args) ≡ ApplyOf (in_dialect checked op) (map (resolved names checked) args)
resolved-Apply names checked op args =
    let row = row_of (Apply op args) in
    ap (λ (es : List Expr). ApplyOf (in_dialect checked op) es) (resolved_row-items names checked row.0 row.1 ∙ ap (map (resolved names checked)) (items_hidden-the_row-RawExpr-0 args))

-- ---- operands pair by pair

nested-from : (op : Op) (a b : Expr) (rest : List Expr) → fold (λ e c. ApplyOf op (e ∷ c ∷ [])) (ApplyOf op (a ∷ b ∷ [])) rest ≡ ApplyOf op (fold (with_operand op) (a ∷ b ∷ []) rest)
nested-from op a b [] = refl
nested-from op a b (c ∷ rest) = nested-from op (ApplyOf op (a ∷ b ∷ [])) c rest

pub nested-fold : (op : Op) (args : List Expr) → nested op args ≡ ApplyOf op (fold (with_operand op) [] args)
nested-fold op [] = refl
nested-fold op (a ∷ []) = refl
nested-fold op (a ∷ b ∷ rest) = nested-from op a b rest

-- ---- intrinsic functions

intrinsic_call-by : (checked : Bool) (f : Option Intrinsic) (op : Op) (args : List Expr) → Some op ≡ option_map (λ f. f.op) f → intrinsic_call checked f args ≡ nested (in_dialect checked op) args
intrinsic_call-by checked None op args is = absurd cc
intrinsic_call-by checked (Some f) op args is = let same : f.op ≡ op = cc in ap (λ (o : Op). nested (in_dialect checked o) args) same

-- a name without dimensions that an intrinsic function has
pub resolved_call-intrinsic : (names : List NameInfo) (checked : Bool) (name : List ℕ) (args : List Expr) (op : Op) → is_array_in names name ≡ false → Some op ≡ option_map (λ f. f.op) (intrinsic_named name) → resolved_call names checked name args ≡ nested (in_dialect checked op) args
resolved_call-intrinsic names checked name args op scalar is =
    ap (λ (b : Bool). if b then Read (record { name = index_of names name; subs = args }) else intrinsic_call checked (intrinsic_named name) args) scalar ∙ intrinsic_call-by checked (intrinsic_named name) op args is

-- ---- accesses

pub access_of-Call : (names : List NameInfo) (checked : Bool) (name : List ℕ) (args : List RawExpr) → access_of names checked (Call name args) ≡ record { name = index_of names name; subs = map (resolved names checked) args }
access_of-Call names checked name args =
    let row = row_of (Call name args) in
    ap (λ (es : List Expr). let access : Access = record { name = index_of names name; subs = es } in access) (resolved_row-items names checked row.0 row.1 ∙ ap (map (resolved names checked)) (items_hidden-the_row-RawExpr-0 args))
