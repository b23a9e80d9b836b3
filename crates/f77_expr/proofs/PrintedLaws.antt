-- What is so of the text of each expression of a program.
use Rattle.std.proofs.Common.{◌≡◌, ◌≤◌, ℤ, pos, negsuc, nat_abs, List, length, arith}
use Rattle.std.proofs.lemmas.Int.{ints}
use Rattle.f77_tree.specs.declared.declarations.Kind.{Kind}
use Rattle.f77_tree.specs.declared.expressions.Expr.{Expr, Row_of-Expr, end_of-Expr, more_of-Expr}
use Rattle.f77_tree.specs.declared.expressions.Expr.TheVariants.{Const, Truth, Input, Read', Apply'}
use Rattle.f77_tree.specs.declared.programs.NameInfo.{NameInfo}
use Rattle.f77_tree.specs.Grammar.{Written, IsGrammatical, reading, spelling, greatest_constant}
use Rattle.f77_tree.specs.Kinds.{IsProper, AllOfKind, IsConstant}
use Rattle.f77_expr.specs.Constants.{HasConstants, HaveConstants}
use Rattle.f77_expr.specs.Parsing.{IsReadAs}
use Rattle.f77_expr.specs.Printing.{printed, printed_text, raw_form}
use Rattle.f77_expr.proofs.PrintedForms.{AreNames, agrees, printed_is_read}
use Rattle.f77_expr.proofs.PrintedLevels.{Writes}
use Rattle.f77_expr.proofs.ShortForms.{printed_is_shortest}

constant-small : (z : ℤ) → IsConstant z → nat_abs z ≤ greatest_constant
constant-small (pos n) is = let most = is.most in omega (arith, ints, most)
constant-small (negsuc n) is = let least = is.least in absurd (omega (arith, ints, least))

mutual
  -- a source can write the constants of an expression of a program
  proper-constants : (names : List NameInfo) (e : Expr) → IsProper names e → HasConstants e
  proper-constants names (Const z) proper = constant-small z proper
  proper-constants names (Truth b) proper = tt
  proper-constants names Input proper = tt
  proper-constants names (Read' k shape subs) proper = row-constants names subs _ proper.2
  proper-constants names (Apply' op shape args) proper = row-constants names args _ proper.2

  row-constants : (names : List NameInfo) {m : _} (row : Row_of-Expr m) (kind : Kind) → AllOfKind names kind row → HaveConstants row
  row-constants names end_of-Expr kind all = tt
  row-constants names (more_of-Expr e rest) kind all = (proper-constants names e all.0, row-constants names rest kind all.2)

module _ (names : List NameInfo) (e : Expr) (proper : IsProper names e) where
  pub proper-read : AreNames names → IsReadAs (printed_text names e) (raw_form names e)
  proper-read are = printed_is_read names are e proper (proper-constants names e proper)

  pub proper-writes : AreNames names → Writes (printed names e).alone (raw_form names e)
  proper-writes are = (agrees names are e proper (proper-constants names e proper)).alone

  pub proper-shortest : (w : Written) → IsGrammatical w → reading w ≡ raw_form names e → length (printed_text names e) ≤ length (spelling w)
  proper-shortest w grammatical same = printed_is_shortest names e proper (proper-constants names e proper) w grammatical same
