-- The text of an expression of a program is the shortest that is read as its form.
use Rattle.std.proofs.Common.{◌≡◌, ◌≤◌, ℤ, pos, negsuc, nat_abs, ◌≤ℤ◌, List, length, ◌∙◌, arith}
use Rattle.std.specs.Prelude.{decimal}
use Rattle.f77_tree.specs.declared.declarations.Kind.{Kind}
use Rattle.f77_tree.specs.declared.expressions.Expr.{Expr, Row_of-Expr, end_of-Expr, more_of-Expr}
use Rattle.f77_tree.specs.declared.expressions.Expr.TheVariants.{Const, Truth, Input, Read', Apply'}
use Rattle.f77_tree.specs.declared.programs.NameInfo.{NameInfo}
use Rattle.f77_tree.specs.declared.statements.RawExpr.TheVariants.{Int, Truth as RawTruth}
use Rattle.f77_tree.specs.Grammar.{Written, IsGrammatical, spelling, reading, greatest_constant}
use Rattle.f77_tree.specs.Kinds.{IsProper, AllOfKind}
use Rattle.f77_expr.specs.Constants.{HasConstants, HaveConstants}
use Rattle.f77_expr.specs.Printing.{name_at, printed, row_printed, form, row_forms, printed_text, raw_form}
use Rattle.f77_expr.proofs.PrintedForms.{length-row_printed}
use Rattle.f77_expr.proofs.PrintedRows.{Rows, operator_keeps}
use Rattle.f77_expr.proofs.ShortOperators.{IsShort, number_least, truth_least, plain_short, access_short, operators_short}
use Rattle.f77_expr.proofs.ShortTexts.{IsLeast, shortest_alone}

constant_least : (z : ℤ) → pos 0 ≤ℤ z → nat_abs z ≤ greatest_constant → IsLeast (Written.number (decimal (nat_abs z))) (Int z)
constant_least (pos n) least le = number_least n (omega (arith, le))
constant_least (negsuc n) least le = absurd (omega (arith, least))

mutual
  short : (names : List NameInfo) (e : Expr) → IsProper names e → HasConstants e → IsShort (printed names e) (form names e)
  short names (Const z) proper small = plain_short (Written.number (decimal (nat_abs z))) (Int z) (constant_least z proper.least small)
  short names (Truth b) proper small = plain_short (Written.truth b) (RawTruth b) (truth_least b)
  short names Input proper small = elim proper [ ]
  short names (Read' k shape subs) proper small = access_short (name_at names k) (row_printed names subs) (row_forms names subs) (row_short names subs _ proper.2 small)
  short names (Apply' op shape args) proper small = operator_keeps IsShort operators_short op (row_printed names args) (row_forms names args) proper.0 (length-row_printed names args ∙ proper.1) (row_short names args _ proper.2 small)

  row_short : (names : List NameInfo) {m : _} (row : Row_of-Expr m) (kind : Kind) → AllOfKind names kind row → HaveConstants row → Rows IsShort (row_printed names row) (row_forms names row)
  row_short names end_of-Expr kind all small = tt
  row_short names (more_of-Expr e rest) kind all small = (short names e all.0 small.0, row_short names rest kind all.2 small.1)

-- no text that is read as the form is shorter
pub printed_is_shortest : (names : List NameInfo) (e : Expr) → IsProper names e → HasConstants e → (w : Written) → IsGrammatical w → reading w ≡ raw_form names e → length (printed_text names e) ≤ length (spelling w)
printed_is_shortest names e proper small w grammatical same = shortest_alone (printed names e).alone (raw_form names e) (short names e proper small).alone w grammatical same
