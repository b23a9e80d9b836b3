-- Each form of printed text is the shortest, where its parts are.
use Rattle.std.proofs.Common.{◌≡◌, ℕ, ◌+◌, ◌<◌, ◌^◌, pos, Bool, List, [], ◌∷◌, ◌++◌, length, ap, ◌∙◌, arith, length-append}
use Rattle.std.specs.Prelude.{codes, decimal}
use Rattle.op_table.specs.declared.Op.{Op}
use Rattle.op_table.specs.declared.Op.TheVariants.{Neg, Not, Max, Min}
use Rattle.f77_tree.specs.declared.statements.RawExpr.{RawExpr}
use Rattle.f77_tree.specs.declared.statements.RawExpr.TheVariants.{Int, Truth, Named, Call, Apply}
use Rattle.f77_tree.specs.Grammar.{Written, Arguments, symbol, left_level, right_level, operator_level, spelling, spellings, truth_text, reading, readings, number_of}
use Rattle.f77_expr.specs.Printing.{Printed, Form, enclosed, and_last, not_listed, plain_form, forms_alone, listed, printed_access, access_form}
use Rattle.f77_expr.proofs.PrintedRows.{Rows, Keeps, KeepsTwo}
use Rattle.f77_expr.proofs.RawParts.{same_arguments, same_operands}
use Rattle.f77_expr.proofs.ShortNumbers.{decimal_shortest}
use Rattle.f77_expr.proofs.ShortTexts.{IsLeast, AreLeast, placed, and_last_least, shortest_arguments}

-- ---- constants and names

pub number_least : (n : ℕ) → n < 2 ^ 64 → IsLeast (Written.number (decimal n)) (Int (pos n))
number_least n fits (Written.number digits) core g same = let is : number_of digits ≡ n = cc in record { level_le = omega arith; longer = decimal_shortest n digits fits g is }
number_least n fits (Written.truth b) core g same = absurd cc
number_least n fits (Written.name x) core g same = absurd cc
number_least n fits (Written.call x arguments) core g same = absurd cc
number_least n fits (Written.bracketed v) core g same = elim core [ ]
number_least n fits (Written.plus v) core g same = elim core [ ]
number_least n fits (Written.minus v) core g same = absurd cc
number_least n fits (Written.negation v) core g same = absurd cc
number_least n fits (Written.binary op a b) core g same = absurd cc

pub truth_least : (b : Bool) → IsLeast (Written.truth b) (Truth b)
truth_least b (Written.number digits) core g same = absurd cc
truth_least b (Written.truth c) core g same = let is : c ≡ b = cc in let as_long = ap (λ x. length (truth_text x)) is in record { level_le = omega arith; longer = omega (arith, as_long) }
truth_least b (Written.name x) core g same = absurd cc
truth_least b (Written.call x arguments) core g same = absurd cc
truth_least b (Written.bracketed v) core g same = elim core [ ]
truth_least b (Written.plus v) core g same = elim core [ ]
truth_least b (Written.minus v) core g same = absurd cc
truth_least b (Written.negation v) core g same = absurd cc
truth_least b (Written.binary op a c) core g same = absurd cc

name_least : (name : List ℕ) → IsLeast (Written.name name) (Named name)
name_least name (Written.number digits) core g same = absurd cc
name_least name (Written.truth b) core g same = absurd cc
name_least name (Written.name x) core g same = let is : x ≡ name = cc in let as_long = ap length is in record { level_le = omega arith; longer = omega (arith, as_long) }
name_least name (Written.call x arguments) core g same = absurd cc
name_least name (Written.bracketed v) core g same = elim core [ ]
name_least name (Written.plus v) core g same = elim core [ ]
name_least name (Written.minus v) core g same = absurd cc
name_least name (Written.negation v) core g same = absurd cc
name_least name (Written.binary op a b) core g same = absurd cc

-- ---- calls

length-call : (name : List ℕ) (arguments : Arguments) → length (spelling (Written.call name arguments)) ≡ length name + 1 + length (spellings arguments) + 1
length-call name arguments = length-append (name ++ codes "(" ++ spellings arguments) (codes ")") ∙ ap (λ n. n + 1) (length-append (name ++ codes "(") (spellings arguments) ∙ ap (λ n. n + length (spellings arguments)) (length-append name (codes "(")))

call_least : (name : List ℕ) (arguments : Arguments) (es : List RawExpr) → AreLeast arguments es → IsLeast (Written.call name arguments) (Call name es)
call_least name arguments es all (Written.number digits) core g same = absurd cc
call_least name arguments es all (Written.truth b) core g same = absurd cc
call_least name arguments es all (Written.name x) core g same = absurd cc
call_least name arguments es all (Written.call x others) core g same =
    let is : x ≡ name = cc in
    let are = same_arguments x name (readings others) es same in
    let as_long = ap length is in
    let rest = shortest_arguments arguments es all others g.1 are in
    let here = length-call name arguments in
    let there = length-call x others in
    record { level_le = omega arith; longer = omega (arith, as_long, rest, here, there) }
call_least name arguments es all (Written.bracketed v) core g same = elim core [ ]
call_least name arguments es all (Written.plus v) core g same = elim core [ ]
call_least name arguments es all (Written.minus v) core g same = absurd cc
call_least name arguments es all (Written.negation v) core g same = absurd cc
call_least name arguments es all (Written.binary op a b) core g same = absurd cc

-- ---- operators

minus_least : (w : Written) (e : RawExpr) → IsLeast w e → IsLeast (Written.minus (enclosed 6 w)) (Apply Neg (e ∷ []))
minus_least w e least (Written.number digits) core g same = absurd cc
minus_least w e least (Written.truth b) core g same = absurd cc
minus_least w e least (Written.name x) core g same = absurd cc
minus_least w e least (Written.call x arguments) core g same = absurd cc
minus_least w e least (Written.bracketed v) core g same = elim core [ ]
minus_least w e least (Written.plus v) core g same = elim core [ ]
minus_least w e least (Written.minus v) core g same =
    let operands = same_operands Neg Neg (reading v ∷ []) (e ∷ []) same in
    let is : reading v ≡ e = cc in
    let inner = placed w e least 6 v g.0 g.1 is in
    let here = length-append (codes "-") (spelling (enclosed 6 w)) in
    let there = length-append (codes "-") (spelling v) in
    record { level_le = omega arith; longer = omega (arith, inner, here, there) }
minus_least w e least (Written.negation v) core g same = absurd cc
minus_least w e least (Written.binary op a b) core g same = let operands = same_operands op Neg (reading a ∷ reading b ∷ []) (e ∷ []) same in absurd cc

negation_least : (w : Written) (e : RawExpr) → IsLeast w e → IsLeast (Written.negation (enclosed 4 w)) (Apply Not (e ∷ []))
negation_least w e least (Written.number digits) core g same = absurd cc
negation_least w e least (Written.truth b) core g same = absurd cc
negation_least w e least (Written.name x) core g same = absurd cc
negation_least w e least (Written.call x arguments) core g same = absurd cc
negation_least w e least (Written.bracketed v) core g same = elim core [ ]
negation_least w e least (Written.plus v) core g same = elim core [ ]
negation_least w e least (Written.minus v) core g same = absurd cc
negation_least w e least (Written.negation v) core g same =
    let operands = same_operands Not Not (reading v ∷ []) (e ∷ []) same in
    let is : reading v ≡ e = cc in
    let inner = placed w e least 4 v g.0 g.1 is in
    let here = length-append (codes ".NOT.") (spelling (enclosed 4 w)) in
    let there = length-append (codes ".NOT.") (spelling v) in
    record { level_le = omega arith; longer = omega (arith, inner, here, there) }
negation_least w e least (Written.binary op a b) core g same = let operands = same_operands op Not (reading a ∷ reading b ∷ []) (e ∷ []) same in absurd cc

length-binary : (op : Op) (a b : Written) → length (spelling (Written.binary op a b)) ≡ length (spelling a) + length (symbol op) + length (spelling b)
length-binary op a b = length-append (spelling a ++ symbol op) (spelling b) ∙ ap (λ n. n + length (spelling b)) (length-append (spelling a) (symbol op))

binary_least : (op : Op) (w x : Written) (e f : RawExpr) → IsLeast w e → IsLeast x f → IsLeast (Written.binary op (enclosed (left_level op) w) (enclosed (right_level op) x)) (Apply op (e ∷ f ∷ []))
binary_least op w x e f least also (Written.number digits) core g same = absurd cc
binary_least op w x e f least also (Written.truth b) core g same = absurd cc
binary_least op w x e f least also (Written.name n) core g same = absurd cc
binary_least op w x e f least also (Written.call n arguments) core g same = absurd cc
binary_least op w x e f least also (Written.bracketed v) core g same = elim core [ ]
binary_least op w x e f least also (Written.plus v) core g same = elim core [ ]
binary_least op w x e f least also (Written.minus v) core g same = let operands = same_operands Neg op (reading v ∷ []) (e ∷ f ∷ []) same in absurd cc
binary_least op w x e f least also (Written.negation v) core g same = let operands = same_operands Not op (reading v ∷ []) (e ∷ f ∷ []) same in absurd cc
binary_least op w x e f least also (Written.binary o a b) core g same =
    let is : o ≡ op = cc in
    let operands = same_operands o op (reading a ∷ reading b ∷ []) (e ∷ f ∷ []) same in
    let is_a : reading a ≡ e = cc in
    let is_b : reading b ≡ f = cc in
    let left = ap left_level is in
    let right = ap right_level is in
    let levels = ap operator_level is in
    let symbols = ap (λ y. length (symbol y)) is in
    let first = placed w e least (left_level op) a g.0 (omega (arith, left, g.2)) is_a in
    let second = placed x f also (right_level op) b g.1 (omega (arith, right, g.3)) is_b in
    let here = length-binary op (enclosed (left_level op) w) (enclosed (right_level op) x) in
    let there = length-binary o a b in
    record { level_le = omega (arith, levels); longer = omega (arith, first, second, here, there, symbols) }

-- ---- printed expressions

-- each text of it is the shortest
pub record IsShort (p : Printed) (f : Form) : Type 0 where
  pub alone : IsLeast p.alone f.alone
  pub in_max : AreLeast p.in_max f.in_max
  pub in_min : AreLeast p.in_min f.in_min

pub plain_short : (w : Written) (e : RawExpr) → IsLeast w e → IsShort (not_listed w) (plain_form e)
plain_short w e least = record { alone = least; in_max = least; in_min = least }

listed_least : (p : Printed) (ps : List Printed) (f : Form) (fs : List Form) → IsShort p f → Rows IsShort ps fs → AreLeast (listed p ps) (forms_alone (f ∷ fs))
listed_least p [] f [] first rest = first.alone
listed_least p [] f (g ∷ fs) first rest = elim rest [ ]
listed_least p (q ∷ ps) f [] first rest = elim rest [ ]
listed_least p (q ∷ ps) f (g ∷ fs) first rest = (first.alone, listed_least q ps g fs rest.0 rest.1)

pub access_short : (name : List ℕ) (ps : List Printed) (fs : List Form) → Rows IsShort ps fs → IsShort (printed_access name ps) (access_form name fs)
access_short name [] [] rows = plain_short (Written.name name) _ (name_least name)
access_short name [] (f ∷ fs) rows = elim rows [ ]
access_short name (p ∷ ps) [] rows = elim rows [ ]
access_short name (p ∷ ps) (f ∷ fs) rows = plain_short (Written.call name (listed p ps)) _ (call_least name (listed p ps) (forms_alone (f ∷ fs)) (listed_least p ps f fs rows.0 rows.1))

pair_least : (p q : Printed) (f g : Form) → IsShort p f → IsShort q g → AreLeast (Arguments.before p.alone (Arguments.last q.alone)) (f.alone ∷ g.alone ∷ [])
pair_least p q f g is also = (is.alone, also.alone)

max_short : KeepsTwo IsShort Max
max_short p q f g is also =
    let all = and_last_least p.in_max f.in_max q.alone g.alone is.in_max also.alone in
    let call = call_least (codes "MAX") (and_last p.in_max q.alone) (f.in_max ++ (g.alone ∷ [])) all in
    record { alone = call; in_max = all; in_min = call }

min_short : KeepsTwo IsShort Min
min_short p q f g is also =
    let all = and_last_least p.in_min f.in_min q.alone g.alone is.in_min also.alone in
    let call = call_least (codes "MIN") (and_last p.in_min q.alone) (f.in_min ++ (g.alone ∷ [])) all in
    record { alone = call; in_max = call; in_min = all }

pub operators_short : Keeps IsShort
operators_short = record {
  minus = λ p f is. plain_short _ _ (minus_least p.alone f.alone is.alone);
  negation = λ p f is. plain_short _ _ (negation_least p.alone f.alone is.alone);
  abs = λ p f is. plain_short _ _ (call_least (codes "ABS") (Arguments.last p.alone) (f.alone ∷ []) is.alone);
  remainder = λ p q f g is also. plain_short _ _ (call_least (codes "MOD") (Arguments.before p.alone (Arguments.last q.alone)) (f.alone ∷ g.alone ∷ []) (pair_least p q f g is also));
  sign = λ p q f g is also. plain_short _ _ (call_least (codes "SIGN") (Arguments.before p.alone (Arguments.last q.alone)) (f.alone ∷ g.alone ∷ []) (pair_least p q f g is also));
  max = max_short;
  min = min_short;
  binary = λ op p q f g left right is also. plain_short _ _ (binary_least op p.alone q.alone f.alone g.alone is.alone also.alone);
}
