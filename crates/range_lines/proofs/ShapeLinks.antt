-- What is known of operands, over lists.
use Rattle.std.proofs.Common.{◌≡◌, List, [], ◌∷◌, length, map, slice_get, Option, Some, refl, sym, ap, ◌∙◌, arith}
use Rattle.op_table.specs.declared.Op.{Op}
use Rattle.f77_tree.specs.declared.expressions.Expr.{Expr, Apply, Row_of-Expr, end_of-Expr, more_of-Expr, items-the_row-Expr, items_hidden-the_row-Expr-0}
use Rattle.f77_tree.proofs.ExpressionLemmas.{row_of}
use Rattle.range_lines.specs.Shapes.{term_of, row_terms, of_operands, combined, shape_of}
use Rattle.range_lines.specs.declared.shapes.Shape.{Shape}
use Rattle.range_lines.specs.declared.shapes.Term.{Term}

row_terms-items : (n : _) (row : Row_of-Expr n) → row_terms row ≡ map term_of (items-the_row-Expr n row)
row_terms-items n end_of-Expr = refl
row_terms-items n (more_of-Expr e rest) = ap (λ ts. term_of e ∷ ts) (row_terms-items _ rest)

-- the shape of an operator, over the list of its operands
pub shape-Apply : (op : Op) (args : List Expr) → shape_of (Apply op args) ≡ of_operands op (map term_of args)
shape-Apply op args =
    let row = row_of (Apply op args) in
    ap (of_operands op) (row_terms-items row.0 row.1 ∙ ap (map term_of) (items_hidden-the_row-Expr-0 args))

two_of : (op : Op) (args : List Expr) (a b : Expr) → length args ≡ 2 → slice_get args 0 ≡ Some a → slice_get args 1 ≡ Some b → of_operands op (map term_of args) ≡ combined op (term_of a) (term_of b)
two_of op [] a b is first second = absurd (omega (arith, is))
two_of op (x ∷ []) a b is first second = absurd (omega (arith, is))
two_of op (x ∷ y ∷ []) a b is first second =
    let is_a : x ≡ a = cc in
    let is_b : y ≡ b = cc in
    ap (λ (e : Expr). combined op (term_of e) (term_of y)) is_a ∙ ap (λ (e : Expr). combined op (term_of a) (term_of e)) is_b
two_of op (x ∷ y ∷ z ∷ more) a b is first second = absurd (omega (arith, is))

-- the shape of an operator at two operands
pub shape-two : (e : Expr) (op : Op) (args : List Expr) (a b : Expr) (x y : Term) (r : Option Shape) → e ≡ Apply op args → length args ≡ 2 → slice_get args 0 ≡ Some a → slice_get args 1 ≡ Some b → x ≡ term_of a → y ≡ term_of b → r ≡ combined op x y → r ≡ shape_of e
shape-two e op args a b x y r is two first second is_x is_y given =
    given
    ∙ ap (λ t. combined op t y) is_x
    ∙ ap (λ t. combined op (term_of a) t) is_y
    ∙ sym (two_of op args a b two first second)
    ∙ sym (shape-Apply op args)
    ∙ ap shape_of (sym is)
