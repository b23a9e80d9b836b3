-- Operands and subscripts as lists.
use Rattle.std.proofs.Common.{◌≡◌, zero, suc, List, ◌∷◌, map, All, refl, ap, sym, subst, ◌∙◌, arith}
use mathlib.Core.Former.{Count}
use Rattle.op_table.specs.declared.Op.{Op}
use Rattle.f77_tree.specs.declared.expressions.Access.{Access}
use Rattle.f77_tree.specs.declared.expressions.Expr.{Expr, Apply, Apply', Read, Read', Row_of-Expr, end_of-Expr, more_of-Expr, items-the_row-Expr, items_hidden-the_row-Expr-0}
use Rattle.f77_tree.specs.declared.programs.NameInfo.{NameInfo}
use Rattle.f77_tree.specs.Kinds.{IsProper}
use Rattle.f77_tree.proofs.KindLemmas.{IsProper-operation, IsProper-element}
use Rattle.f77_expr.specs.Operands.{AreOperands, AreSubscripts}
use Rattle.f77_expr.specs.Constants.{HasConstants, HaveConstants}
use Rattle.f77_expr.specs.Printing.{plain, name_at, printed, row_printed, printed_operator, printed_access, form, row_forms, operator_form, access_form}

abbrev row_of : Expr → (n : Count) × Row_of-Expr n
row_of (Read' _ _ row) = (_, row)
row_of (Apply' _ _ row) = (_, row)
row_of _ = (_, end_of-Expr)

row_printed-items : (names : List NameInfo) (n : _) (row : Row_of-Expr n) → row_printed names row ≡ map (printed names) (items-the_row-Expr n row)
row_printed-items names n end_of-Expr = refl
row_printed-items names n (more_of-Expr e rest) = ap (λ ps. printed names e ∷ ps) (row_printed-items names _ rest)

-- an operator, over the list of its operands
pub printed-Apply : (names : List NameInfo) (op : Op) (args : List Expr) → printed names (Apply op args) ≡ printed_operator (plain op) (map (printed names) args)
printed-Apply names op args =
    let row = row_of (Apply op args) in
    ap (printed_operator (plain op)) (row_printed-items names row.0 row.1 ∙ ap (map (printed names)) (items_hidden-the_row-Expr-0 args))

-- an access, over the list of its subscripts
pub printed-Read : (names : List NameInfo) (access : Access) → printed names (Read access) ≡ printed_access (name_at names access.name) (map (printed names) access.subs)
printed-Read names access =
    let row = row_of (Read access) in
    ap (printed_access (name_at names access.name)) (row_printed-items names row.0 row.1 ∙ ap (map (printed names)) (items_hidden-the_row-Expr-0 access.subs))

-- ---- forms

row_forms-items : (names : List NameInfo) (n : _) (row : Row_of-Expr n) → row_forms names row ≡ map (form names) (items-the_row-Expr n row)
row_forms-items names n end_of-Expr = refl
row_forms-items names n (more_of-Expr e rest) = ap (λ fs. form names e ∷ fs) (row_forms-items names _ rest)

-- the form of an operator, over the list of its operands
pub form-Apply : (names : List NameInfo) (op : Op) (args : List Expr) → form names (Apply op args) ≡ operator_form (plain op) (map (form names) args)
form-Apply names op args =
    let row = row_of (Apply op args) in
    ap (operator_form (plain op)) (row_forms-items names row.0 row.1 ∙ ap (map (form names)) (items_hidden-the_row-Expr-0 args))

-- the form of an access, over the list of its subscripts
pub form-Read : (names : List NameInfo) (access : Access) → form names (Read access) ≡ access_form (name_at names access.name) (map (form names) access.subs)
form-Read names access =
    let row = row_of (Read access) in
    ap (access_form (name_at names access.name)) (row_forms-items names row.0 row.1 ∙ ap (map (form names)) (items_hidden-the_row-Expr-0 access.subs))

-- ---- constants

items-HaveConstants : (n : _) (row : Row_of-Expr n) → All HasConstants (items-the_row-Expr n row) → HaveConstants row
items-HaveConstants n end_of-Expr all = tt
items-HaveConstants n (more_of-Expr e rest) all = (all zero e (omega arith), items-HaveConstants _ rest (λ k d lt. all (suc k) d (omega (arith, lt))))

pub Apply-HasConstants : (op : Op) (args : List Expr) → All HasConstants args → HasConstants (Apply op args)
Apply-HasConstants op args all =
    let row = row_of (Apply op args) in
    items-HaveConstants row.0 row.1 (subst (λ (es : List Expr). All HasConstants es) (sym (items_hidden-the_row-Expr-0 args)) all)

pub Read-HasConstants : (access : Access) → All HasConstants access.subs → HasConstants (Read access)
Read-HasConstants access all =
    let row = row_of (Read access) in
    items-HaveConstants row.0 row.1 (subst (λ (es : List Expr). All HasConstants es) (sym (items_hidden-the_row-Expr-0 access.subs)) all)

-- ---- expressions of a program

pub operands_of : (names : List NameInfo) (op : Op) (args : List Expr) → IsProper names (Apply op args) → AreOperands names op args
operands_of names op args proper =
    let is = IsProper-operation names op args proper in
    record { written = is.written; as_many = is.as_many; each = λ k d lt. (is.operands k d lt).proper }

pub subscripts_of : (names : List NameInfo) (access : Access) → IsProper names (Read access) → AreSubscripts names access
subscripts_of names access proper =
    let is = IsProper-element names access proper in
    record { known = is.known; each = λ k d lt. (is.subscripts k d lt).proper }
