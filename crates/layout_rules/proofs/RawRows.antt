-- Rows of expressions as they are read, as lists.
use Rattle.std.proofs.Common.{◌≡◌, ℕ, ◌&&◌, List, length, if◌then◌else◌, Some, None, refl, ap, ◌∙◌, arith}
use Rattle.std.specs.List.{list_all}
use mathlib.Core.Former.{Count}
use Rattle.op_table.specs.declared.Op.{Op}
use Rattle.f77_tree.specs.declared.declarations.Kind.{Kind}
use Rattle.f77_tree.specs.declared.declarations.Kind.TheVariants.{Integer}
use Rattle.f77_tree.specs.declared.programs.NameInfo.{NameInfo}
use Rattle.f77_tree.specs.declared.statements.RawExpr.{RawExpr, Call, Call', Apply, Apply', Row_of-RawExpr, end_of-RawExpr, more_of-RawExpr, items-the_row-RawExpr, items_hidden-the_row-RawExpr-0}
use Rattle.f77_tree.specs.Kinds.{operand_kind}
use Rattle.f77_tree.specs.Line.{kind_of_op}
use Rattle.layout_rules.specs.Types.{kind_in, is_row_of, is_of_kind, count_of_row, kind_of_call}

-- the row after a list of operands, arguments or subscripts
abbrev pub row_of : RawExpr → (n : Count) × Row_of-RawExpr n
row_of (Call' _ _ row) = (_, row)
row_of (Apply' _ _ row) = (_, row)
row_of _ = (_, end_of-RawExpr)

is_row_of-items : (names : List NameInfo) (kind : Kind) (n : _) (row : Row_of-RawExpr n) → is_row_of names kind row ≡ list_all (is_of_kind names kind) (items-the_row-RawExpr n row)
is_row_of-items names kind n end_of-RawExpr = refl
is_row_of-items names kind n (more_of-RawExpr e rest) = ap (λ b. is_of_kind names kind e && b) (is_row_of-items names kind _ rest)

pub count_of_row-items : (n : _) (row : Row_of-RawExpr n) → count_of_row row ≡ length (items-the_row-RawExpr n row)
count_of_row-items n end_of-RawExpr = refl
count_of_row-items n (more_of-RawExpr e rest) = let more = count_of_row-items _ rest in omega (arith, more)

pub kind_in-Call : (names : List NameInfo) (name : List ℕ) (args : List RawExpr) → kind_in names (Call name args) ≡ (if list_all (is_of_kind names Integer) args then kind_of_call names name (length args) else None)
kind_in-Call names name args =
    let row = row_of (Call name args) in
    let items = items_hidden-the_row-RawExpr-0 args in
    ap (λ b. if b then kind_of_call names name (count_of_row row.1) else None) (is_row_of-items names Integer row.0 row.1 ∙ ap (list_all (is_of_kind names Integer)) items)
    ∙ ap (λ n. if list_all (is_of_kind names Integer) args then kind_of_call names name n else None) (count_of_row-items row.0 row.1 ∙ ap length items)

pub kind_in-Apply : (names : List NameInfo) (op : Op) (args : List RawExpr) → kind_in names (Apply op args) ≡ (if list_all (is_of_kind names (operand_kind op)) args then Some (kind_of_op op) else None)
kind_in-Apply names op args =
    let row = row_of (Apply op args) in
    ap (λ b. if b then Some (kind_of_op op) else None) (is_row_of-items names (operand_kind op) row.0 row.1 ∙ ap (list_all (is_of_kind names (operand_kind op))) (items_hidden-the_row-RawExpr-0 args))
