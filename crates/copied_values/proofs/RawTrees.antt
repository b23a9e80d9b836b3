-- Expressions as they are read, over the lists of their operands: what they are resolved to.
use Rattle.std.proofs.Common.{◌≡◌, ℕ, Bool, List, [], ◌∷◌, map, fold, refl, ap, ◌∙◌}
use Rattle.op_table.specs.declared.Op.{Op}
use Rattle.f77_tree.specs.declared.expressions.Access.{Access}
use Rattle.f77_tree.specs.declared.expressions.Expr.{Expr}
use Rattle.f77_tree.specs.declared.expressions.Expr.TheVariants.{Apply as ApplyOf}
use Rattle.f77_tree.specs.declared.programs.NameInfo.{NameInfo}
use Rattle.f77_tree.specs.declared.statements.RawExpr.{RawExpr, Call, Apply, Row_of-RawExpr, end_of-RawExpr, more_of-RawExpr, items-the_row-RawExpr, items_hidden-the_row-RawExpr-0}
use Rattle.f77_tree.specs.Declarations.{index_of}
use Rattle.layout_rules.specs.Resolved.{access_of, in_dialect, nested, resolved, resolved_call, resolved_row}
use Rattle.program_units.specs.Copies.{pairs}
use Rattle.layout_rules.proofs.RawRows.{row_of}
use Rattle.std.proofs.Common.{arith}

resolved_row-items : (names : List NameInfo) (checked : Bool) (n : _) (row : Row_of-RawExpr n) → resolved_row names checked row ≡ map (resolved names checked) (items-the_row-RawExpr n row)
resolved_row-items names checked n end_of-RawExpr = refl
resolved_row-items names checked n (more_of-RawExpr e rest) = ap (λ (es : List Expr). resolved names checked e ∷ es) (resolved_row-items names checked _ rest)

pub resolved-Call : (names : List NameInfo) (checked : Bool) (name : List ℕ) (args : List RawExpr) → resolved names checked (Call name args) ≡ resolved_call names checked name (map (resolved names checked) args)
resolved-Call names checked name args =
    let row = row_of (Call name args) in
    ap (λ (es : List Expr). resolved_call names checked name es) (resolved_row-items names checked row.0 row.1 ∙ ap (map (resolved names checked)) (items_hidden-the_row-RawExpr-0 args))

pub resolved-Apply : (names : List NameInfo) (checked : Bool) (op : Op) (args : List RawExpr) → resolved names checked (Apply op args) ≡ ApplyOf (in_dialect checked op) (map (resolved names checked) args)
resolved-Apply names checked op args =
    let row = row_of (Apply op args) in
    ap (λ (es : List Expr). ApplyOf (in_dialect checked op) es) (resolved_row-items names checked row.0 row.1 ∙ ap (map (resolved names checked)) (items_hidden-the_row-RawExpr-0 args))

pub access_of-Call : (names : List NameInfo) (checked : Bool) (name : List ℕ) (args : List RawExpr) → access_of names checked (Call name args) ≡ record { name = index_of names name; subs = map (resolved names checked) args }
access_of-Call names checked name args =
    let row = row_of (Call name args) in
    ap (λ (es : List Expr). let access : Access = record { name = index_of names name; subs = es } in access) (resolved_row-items names checked row.0 row.1 ∙ ap (map (resolved names checked)) (items_hidden-the_row-RawExpr-0 args))

-- ---- operands pair by pair

resolved-fold : (names : List NameInfo) (checked : Bool) (op : Op) (e : RawExpr) (rest : List RawExpr)
    → resolved names checked (fold (λ e c. Apply op (e ∷ c ∷ [])) e rest) ≡ fold (λ e c. ApplyOf (in_dialect checked op) (e ∷ c ∷ [])) (resolved names checked e) (map (resolved names checked) rest)
resolved-fold names checked op e [] = refl
resolved-fold names checked op e (c ∷ rest) =
    resolved-fold names checked op (Apply op (e ∷ c ∷ [])) rest
    ∙ ap (λ (x : Expr). fold (λ e c. ApplyOf (in_dialect checked op) (e ∷ c ∷ [])) x (map (resolved names checked) rest)) (resolved-Apply names checked op (e ∷ c ∷ []))

pub resolved-pairs : (names : List NameInfo) (checked : Bool) (op : Op) (args : List RawExpr) → resolved names checked (pairs op args) ≡ nested (in_dialect checked op) (map (resolved names checked) args)
resolved-pairs names checked op [] = resolved-Apply names checked op []
resolved-pairs names checked op (a ∷ []) = resolved-Apply names checked op (a ∷ [])
resolved-pairs names checked op (a ∷ b ∷ rest) =
    grind (arith, resolved-fold names checked op (Apply op (a ∷ b ∷ [])) rest, resolved-Apply names checked op (a ∷ b ∷ []))
