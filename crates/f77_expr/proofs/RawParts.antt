-- Expressions as read are the same only where their arguments or operands are.
use Rattle.std.proofs.Common.{◌≡◌, List, ℕ, ap, sym, ◌∙◌}
use mathlib.Core.Former.{Count}
use Rattle.op_table.specs.declared.Op.{Op}
use Rattle.f77_tree.specs.declared.statements.RawExpr.{RawExpr, Call, Call', Apply, Apply', Row_of-RawExpr, end_of-RawExpr, items-the_row-RawExpr, items_hidden-the_row-RawExpr-0}

abbrev row_of : RawExpr → (n : Count) × Row_of-RawExpr n
row_of (Call' _ _ row) = (_, row)
row_of (Apply' _ _ row) = (_, row)
row_of _ = (_, end_of-RawExpr)

parts : RawExpr → List RawExpr
parts e = let row = row_of e in items-the_row-RawExpr row.0 row.1

parts-Call : (name : List ℕ) (es : List RawExpr) → parts (Call name es) ≡ es
unfolding parts
parts-Call name es = items_hidden-the_row-RawExpr-0 es

parts-Apply : (op : Op) (es : List RawExpr) → parts (Apply op es) ≡ es
unfolding parts
parts-Apply op es = items_hidden-the_row-RawExpr-0 es

pub same_arguments : (m n : List ℕ) (es fs : List RawExpr) → Call m es ≡ Call n fs → es ≡ fs
same_arguments m n es fs is = sym (parts-Call m es) ∙ ap parts is ∙ parts-Call n fs

pub same_operands : (o p : Op) (es fs : List RawExpr) → Apply o es ≡ Apply p fs → es ≡ fs
same_operands o p es fs is = sym (parts-Apply o es) ∙ ap parts is ∙ parts-Apply p fs
