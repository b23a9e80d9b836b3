-- Counts of operations over lists of operands and subscripts.
use Rattle.std.proofs.Common.{◌≡◌, ◌+◌, ◌*◌, List, ap, sym, refl, ◌∙◌, arith}
use Rattle.std.specs.Prelude.{sum_by}
use Rattle.std.proofs.lemmas.List.Sums.{sum_by-cons}
use Rattle.op_table.specs.declared.Op.{Op}
use Rattle.f77_tree.specs.declared.expressions.Access.{Access}
use Rattle.f77_tree.specs.declared.expressions.Expr.{Expr, Read, Apply, Row_of-Expr, end_of-Expr, more_of-Expr, items-the_row-Expr, items_hidden-the_row-Expr-0}
use Rattle.f77_tree.specs.Value.{row_length}
use Rattle.f77_tree.specs.Operations.{operations, row_operations, access_operations}
use Rattle.f77_tree.proofs.ExpressionLemmas.{row_of}

row-sum : (n : _) (row : Row_of-Expr n) → row_operations row ≡ sum_by operations (items-the_row-Expr n row)
row-sum n end_of-Expr = refl
row-sum n (more_of-Expr e rest) = ap (λ k. operations e + k) (row-sum _ rest) ∙ sym (sum_by-cons operations e (items-the_row-Expr _ rest))

-- two operations more for each subscript
row-checked : (n : _) (row : Row_of-Expr n) → 2 * row_length row + row_operations row ≡ sum_by (λ e. 2 + operations e) (items-the_row-Expr n row)
row-checked n end_of-Expr = refl
row-checked n (more_of-Expr e rest) =
    let more = row-checked _ rest in
    let here = sum_by-cons (λ e. 2 + operations e) e (items-the_row-Expr _ rest) in
    omega (arith, more, here)

-- an operator takes one operation more than its operands
pub operations-Apply : (op : Op) (args : List Expr) → operations (Apply op args) ≡ 1 + sum_by operations args
operations-Apply op args =
    let row = row_of (Apply op args) in
    ap (λ k. 1 + k) (row-sum row.0 row.1 ∙ ap (λ (es : List Expr). sum_by operations es) (items_hidden-the_row-Expr-0 args))

-- a read takes those of its access
pub operations-Read : (access : Access) → operations (Read access) ≡ access_operations access
operations-Read access =
    let row = row_of (Read access) in
    let e = row-checked row.0 row.1 ∙ ap (λ (es : List Expr). sum_by (λ e. 2 + operations e) es) (items_hidden-the_row-Expr-0 access.subs) in
    omega (arith, e)
