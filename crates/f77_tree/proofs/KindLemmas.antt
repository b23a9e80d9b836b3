-- Expressions of a well-formed program: they fit its table of names, and their operands and subscripts are a list.
use Rattle.std.proofs.Common.{◌≡◌, zero, suc, ◌<◌, List, length, true, sym, ap, subst, ◌∙◌, arith}
use Rattle.std.specs.Prelude.{All}
use Rattle.op_table.specs.declared.Op.{Op}
use Rattle.op_table.specs.Operators.{arity_of}
use Rattle.f77_tree.specs.declared.declarations.Kind.{Kind}
use Rattle.f77_tree.specs.declared.declarations.Kind.TheVariants.{Integer}
use Rattle.f77_tree.specs.declared.expressions.Access.{Access}
use Rattle.f77_tree.specs.declared.expressions.Expr.{Expr, Row_of-Expr, end_of-Expr, more_of-Expr, items-the_row-Expr, items_hidden-the_row-Expr-0}
use Rattle.f77_tree.specs.declared.expressions.Expr.TheVariants.{Const, Truth, Input, Read, Apply, Read', Apply'}
use Rattle.f77_tree.specs.declared.programs.NameInfo.{NameInfo}
use Rattle.f77_tree.specs.Value.{dims_of, IsExpression, AllExpressions}
use Rattle.f77_tree.proofs.AllLemmas.{All-cons}
use Rattle.f77_tree.proofs.ExpressionLemmas.{row_of, row_length-items}
use Rattle.f77_tree.specs.Kinds.{IsProper, AllOfKind, IsOfKind, IsProperAccess, is_written, operand_kind}

-- ---- they fit the table

mutual
  -- an expression of a well-formed program has names, subscripts and operands as the table and the operators ask
  pub IsProper-expression : (names : List NameInfo) (e : Expr) → IsProper names e → IsExpression names e
  IsProper-expression names (Const z) is = tt
  IsProper-expression names (Truth b) is = tt
  IsProper-expression names Input is = tt
  IsProper-expression names (Read' name shape subs) is = (is.0, is.1, AllOfKind-expressions names Integer subs is.2)
  IsProper-expression names (Apply' op shape args) is = (is.1, AllOfKind-expressions names _ args is.2)

  AllOfKind-expressions : {m : _} (names : List NameInfo) (kind : Kind) (row : Row_of-Expr m) → AllOfKind names kind row → AllExpressions names row
  AllOfKind-expressions names kind end_of-Expr all = tt
  AllOfKind-expressions names kind (more_of-Expr e rest) all = (IsProper-expression names e all.0, AllOfKind-expressions names kind rest all.2)

-- ---- rows are lists

to_list : (names : List NameInfo) (kind : Kind) (n : _) (row : Row_of-Expr n) → AllOfKind names kind row → All (IsOfKind names kind) (items-the_row-Expr n row)
to_list names kind n end_of-Expr all = λ k d lt. absurd (omega (arith, lt))
to_list names kind n (more_of-Expr e rest) all = All-cons (IsOfKind names kind) e (items-the_row-Expr _ rest) (record { proper = all.0; of_kind = all.1 }) (to_list names kind _ rest all.2)

to_row : (names : List NameInfo) (kind : Kind) (n : _) (row : Row_of-Expr n) → All (IsOfKind names kind) (items-the_row-Expr n row) → AllOfKind names kind row
to_row names kind n end_of-Expr all = tt
to_row names kind n (more_of-Expr e rest) all =
    let head = all zero e (omega arith) in
    (head.proper, head.of_kind, to_row names kind _ rest (λ k d lt. all (suc k) d (omega (arith, lt))))

-- ---- operands

-- an operator of a well-formed program, over the list of its operands
pub record IsOperation (names : List NameInfo) (op : Op) (args : List Expr) : Type 0 where
  pub written : is_written op ≡ true
  pub as_many : length args ≡ arity_of op
  pub operands : All (IsOfKind names (operand_kind op)) args

pub IsProper-operation : (names : List NameInfo) (op : Op) (args : List Expr) → IsProper names (Apply op args) → IsOperation names op args
IsProper-operation names op args is =
    let row = row_of (Apply op args) in
    record {
      written = is.0;
      as_many = sym (row_length-items row.0 row.1 ∙ ap length (items_hidden-the_row-Expr-0 args)) ∙ is.1;
      operands = subst (λ (es : List Expr). All (IsOfKind names (operand_kind op)) es) (items_hidden-the_row-Expr-0 args) (to_list names (operand_kind op) row.0 row.1 is.2);
    }

pub operation-IsProper : (names : List NameInfo) (op : Op) (args : List Expr) → IsOperation names op args → IsProper names (Apply op args)
operation-IsProper names op args is =
    let row = row_of (Apply op args) in
    (is.written, (row_length-items row.0 row.1 ∙ ap length (items_hidden-the_row-Expr-0 args)) ∙ is.as_many, to_row names (operand_kind op) row.0 row.1 (subst (λ (es : List Expr). All (IsOfKind names (operand_kind op)) es) (sym (items_hidden-the_row-Expr-0 args)) is.operands))

-- ---- subscripts

-- an access of a well-formed program, over the list of its subscripts
pub record IsElement (names : List NameInfo) (access : Access) : Type 0 where
  pub known : access.name < length names
  pub as_many : length access.subs ≡ length (dims_of names access.name)
  pub subscripts : All (IsOfKind names Integer) access.subs

pub IsProper-element : (names : List NameInfo) (access : Access) → IsProperAccess names access → IsElement names access
IsProper-element names access is =
    let row = row_of (Read access) in
    record {
      known = is.0;
      as_many = sym (row_length-items row.0 row.1 ∙ ap length (items_hidden-the_row-Expr-0 access.subs)) ∙ is.1;
      subscripts = subst (λ (es : List Expr). All (IsOfKind names Integer) es) (items_hidden-the_row-Expr-0 access.subs) (to_list names Integer row.0 row.1 is.2);
    }

pub element-IsProper : (names : List NameInfo) (access : Access) → IsElement names access → IsProperAccess names access
element-IsProper names access is =
    let row = row_of (Read access) in
    (is.known, (row_length-items row.0 row.1 ∙ ap length (items_hidden-the_row-Expr-0 access.subs)) ∙ is.as_many, to_row names Integer row.0 row.1 (subst (λ (es : List Expr). All (IsOfKind names Integer) es) (sym (items_hidden-the_row-Expr-0 access.subs)) is.subscripts))
