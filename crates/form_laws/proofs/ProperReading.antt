-- Expressions that are read from a text: constants that a source can write, and operators of the grammar at their operands.
use Rattle.std.proofs.Common.{◌≡◌, ℕ, ◌≤◌, pos, true, false, List, [], ◌∷◌, length, All, refl, sym, ap, subst, ◌∙◌, arith}
use Rattle.std.specs.Prelude.{nat_lt}
use Rattle.std.proofs.lemmas.List.Elements.{All-nil, All-cons, All-head, All-tail}
use Rattle.std.proofs.lemmas.Bool.{or_parts}
use Rattle.std.proofs.lemmas.Bool.Decides.{nat_tests}
use Rattle.std.proofs.lemmas.Int.{ints}
use Rattle.op_table.specs.declared.Op.{Op}
use Rattle.op_table.specs.declared.Op.TheVariants.{Add, Neg, Not}
use Rattle.op_table.specs.Operators.{arity_of}
use Rattle.f77_tree.specs.declared.statements.RawExpr.{RawExpr, Row_of-RawExpr, end_of-RawExpr, more_of-RawExpr, items-the_row-RawExpr, items_hidden-the_row-RawExpr-0}
use Rattle.f77_tree.specs.declared.statements.RawExpr.TheVariants.{Call, Apply}
use Rattle.f77_tree.specs.Kinds.{is_written, IsConstant}
use Rattle.f77_tree.specs.Grammar.{Written, Arguments, IsGrammatical, AreGrammatical, reading, readings, level, operator_level, left_level, number_of, greatest_constant, has_great_number, have_great_number}
use Rattle.layout_rules.specs.ReadExpressions.{IsReading, AllReadings}
use Rattle.layout_rules.proofs.RawRows.{row_of, count_of_row-items}

-- ---- rows are lists

items-readings : (n : _) (row : Row_of-RawExpr n) → All IsReading (items-the_row-RawExpr n row) → AllReadings row
items-readings n end_of-RawExpr all = tt
items-readings n (more_of-RawExpr e rest) all = (All-head IsReading e (items-the_row-RawExpr _ rest) all, items-readings _ rest (All-tail IsReading e (items-the_row-RawExpr _ rest) all))

IsReading-Call : (name : List ℕ) (args : List RawExpr) → All IsReading args → IsReading (Call name args)
IsReading-Call name args all =
    let row = row_of (Call name args) in
    items-readings row.0 row.1 (subst (λ (es : List RawExpr). All IsReading es) (sym (items_hidden-the_row-RawExpr-0 args)) all)

IsReading-Apply : (op : Op) (args : List RawExpr) → is_written op ≡ true → length args ≡ arity_of op → All IsReading args → IsReading (Apply op args)
IsReading-Apply op args written as_many all =
    let row = row_of (Apply op args) in
    let items = items_hidden-the_row-RawExpr-0 args in
    (written, count_of_row-items row.0 row.1 ∙ ap length items ∙ as_many, items-readings row.0 row.1 (subst (λ (es : List RawExpr). All IsReading es) (sym items) all))

-- ---- operators of the grammar

record IsBinary (op : Op) : Type 0 where
  low : operator_level op ≤ 8
  written : is_written op ≡ true
  two : 2 ≡ arity_of op

binary_operator : (op : Op) → left_level op ≤ 8 → IsBinary op
binary_operator Add h = record { low = omega arith; written = refl; two = refl }
binary_operator _ h = record { low = omega arith; written = grind arith; two = omega arith }

-- no expression of the grammar has a level above that of primaries
level_most : (w : Written) → IsGrammatical w → level w ≤ 8
level_most (Written.binary op a b) h = let below = level_most a h.0 in (binary_operator op (omega (arith, below, h.2))).low
level_most (Written.plus w) h = omega arith
level_most (Written.minus w) h = omega arith
level_most (Written.negation w) h = omega arith
level_most _ h = omega arith

-- ---- what is read is an expression

number : (digits : List ℕ) → nat_lt greatest_constant (number_of digits) ≡ false → IsConstant (pos (number_of digits))
number digits h =
    let few : number_of digits ≤ greatest_constant = grind (arith, nat_tests) in
    record { least = omega (arith, ints); most = omega (arith, ints) }

one : (e : RawExpr) → IsReading e → All IsReading (e ∷ [])
one e is = All-cons IsReading e [] is (All-nil IsReading)

mutual
  pub reading-IsReading : (w : Written) → IsGrammatical w → has_great_number w ≡ false → IsReading (reading w)
  reading-IsReading (Written.number digits) h few = number digits few
  reading-IsReading (Written.truth b) h few = tt
  reading-IsReading (Written.name n) h few = tt
  reading-IsReading (Written.call n arguments) h few = IsReading-Call n (readings arguments) (readings-AllReadings arguments h.1 few)
  reading-IsReading (Written.bracketed w) h few = reading-IsReading w h few
  reading-IsReading (Written.plus w) h few = reading-IsReading w h.0 few
  reading-IsReading (Written.minus w) h few = IsReading-Apply Neg (reading w ∷ []) refl refl (one (reading w) (reading-IsReading w h.0 few))
  reading-IsReading (Written.negation w) h few = IsReading-Apply Not (reading w ∷ []) refl refl (one (reading w) (reading-IsReading w h.0 few))
  reading-IsReading (Written.binary op a b) h few =
      let below = level_most a h.0 in
      let is : IsBinary op = binary_operator op (omega (arith, below, h.2)) in
      let parts = or_parts (has_great_number a) (has_great_number b) few in
      IsReading-Apply op (reading a ∷ reading b ∷ []) is.written is.two (All-cons IsReading (reading a) (reading b ∷ []) (reading-IsReading a h.0 parts.0) (one (reading b) (reading-IsReading b h.1 parts.1)))

  readings-AllReadings : (arguments : Arguments) → AreGrammatical arguments → have_great_number arguments ≡ false → All IsReading (readings arguments)
  readings-AllReadings (Arguments.last w) h few = one (reading w) (reading-IsReading w h few)
  readings-AllReadings (Arguments.before w more) h few =
      let parts = or_parts (has_great_number w) (have_great_number more) few in
      All-cons IsReading (reading w) (readings more) (reading-IsReading w h.0 parts.0) (readings-AllReadings more h.1 parts.1)
