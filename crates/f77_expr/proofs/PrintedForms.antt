-- The text of an expression of a program is read as its form.
use Rattle.std.proofs.Common.{◌≡◌, ℕ, zero, suc, ◌≤◌, ◌<◌, ◌^◌, ℤ, pos, negsuc, nat_abs, ◌≤ℤ◌, true, List, [], ◌∷◌, length, All, refl, ap, ◌∙◌, arith}
use Rattle.std.specs.Prelude.{decimal}
use Rattle.std.proofs.lemmas.Bool.{le-ltb}
use Rattle.f77_tree.specs.declared.declarations.Kind.{Kind}
use Rattle.f77_tree.specs.declared.expressions.Expr.{Expr, Row_of-Expr, end_of-Expr, more_of-Expr}
use Rattle.f77_tree.specs.declared.expressions.Expr.TheVariants.{Const, Truth, Input, Read', Apply'}
use Rattle.f77_tree.specs.declared.programs.NameInfo.{NameInfo}
use Rattle.f77_tree.specs.declared.statements.RawExpr.TheVariants.{Int, Truth as RawTruth}
use Rattle.f77_tree.specs.Name.{is_name}
use Rattle.f77_tree.specs.Grammar.{Written, greatest_constant, number_of}
use Rattle.f77_tree.specs.Kinds.{IsProper, AllOfKind}
use Rattle.f77_tree.specs.Value.{row_length}
use Rattle.f77_expr.specs.Constants.{HasConstants, HaveConstants}
use Rattle.f77_expr.specs.Parsing.{IsReadAs}
use Rattle.f77_expr.specs.Printing.{name_at, printed, row_printed, form, row_forms, printed_text, raw_form}
use Rattle.f77_expr.proofs.PrintedNumbers.{is_number-decimal, number_of-decimal}
use Rattle.f77_expr.proofs.PrintedLevels.{Writes}
use Rattle.f77_expr.proofs.PrintedReadings.{Agrees, plain_agrees, access_agrees, operators_agree}
use Rattle.f77_expr.proofs.PrintedRows.{Rows, operator_keeps}

-- each name of the table is one
abbrev pub AreNames : List NameInfo → Type 0
AreNames names = All (λ info. is_name info.name ≡ true) names

is_name-at : (names : List NameInfo) → AreNames names → (k : ℕ) → k < length names → is_name (name_at names k) ≡ true
is_name-at [] are k lt = absurd (omega (arith, lt))
is_name-at (info ∷ names) are zero lt = are zero info (omega arith)
is_name-at (info ∷ names) are (suc k) lt = is_name-at names (λ j d h. are (suc j) d (omega (arith, h))) k (omega (arith, lt))

number_writes : (n : ℕ) → n ≤ greatest_constant → Writes (Written.number (decimal n)) (Int (pos n))
number_writes n le =
    let fits : n < 2 ^ 64 = omega (arith, le) in
    let is = number_of-decimal n fits in
    record {
      grammatical = is_number-decimal n fits;
      is = ap (λ m. Int (pos m)) is;
      constants = le-ltb greatest_constant (number_of (decimal n)) (omega (arith, is, le));
    }

constant_writes : (z : ℤ) → pos 0 ≤ℤ z → nat_abs z ≤ greatest_constant → Writes (Written.number (decimal (nat_abs z))) (Int z)
constant_writes (pos n) least le = number_writes n le
constant_writes (negsuc n) least le = absurd (omega (arith, least))

pub length-row_printed : (names : List NameInfo) {m : _} (row : Row_of-Expr m) → length (row_printed names row) ≡ row_length row
length-row_printed names end_of-Expr = refl
length-row_printed names (more_of-Expr e rest) = ap suc (length-row_printed names rest)

mutual
  pub agrees : (names : List NameInfo) → AreNames names → (e : Expr) → IsProper names e → HasConstants e → Agrees (printed names e) (form names e)
  agrees names are (Const z) proper small = plain_agrees (Written.number (decimal (nat_abs z))) (Int z) (constant_writes z proper.least small)
  agrees names are (Truth b) proper small = plain_agrees (Written.truth b) (RawTruth b) (record { grammatical = tt; is = refl; constants = refl })
  agrees names are Input proper small = elim proper [ ]
  agrees names are (Read' k shape subs) proper small = access_agrees (name_at names k) (row_printed names subs) (row_forms names subs) (is_name-at names are k proper.0) (row_agrees names are subs _ proper.2 small)
  agrees names are (Apply' op shape args) proper small = operator_keeps Agrees operators_agree op (row_printed names args) (row_forms names args) proper.0 (length-row_printed names args ∙ proper.1) (row_agrees names are args _ proper.2 small)

  row_agrees : (names : List NameInfo) → AreNames names → {m : _} (row : Row_of-Expr m) (kind : Kind) → AllOfKind names kind row → HaveConstants row → Rows Agrees (row_printed names row) (row_forms names row)
  row_agrees names are end_of-Expr kind all small = tt
  row_agrees names are (more_of-Expr e rest) kind all small = (agrees names are e all.0 small.0, row_agrees names are rest kind all.2 small.1)

-- the text is read as the form, and no constant in it is too great
pub printed_is_read : (names : List NameInfo) → AreNames names → (e : Expr) → IsProper names e → HasConstants e → IsReadAs (printed_text names e) (raw_form names e)
printed_is_read names are e proper small =
    let alone = (agrees names are e proper small).alone in
    record { written = (printed names e).alone; spells = record { grammatical = alone.grammatical; is = refl }; is = alone.is; constants = alone.constants }
