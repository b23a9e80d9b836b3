-- Printed expressions are read as the forms that a source has of them.
use Rattle.std.proofs.Common.{◌≡◌, ℕ, ◌≤◌, ◌||◌, Bool, true, false, List, [], ◌∷◌, ◌++◌, refl, ap, subst, ◌∙◌, arith}
use Rattle.std.specs.Prelude.{codes}
use Rattle.op_table.specs.declared.Op.{Op}
use Rattle.op_table.specs.declared.Op.TheVariants.{Neg, Not, Mod, Abs, Sign, Max, Min}
use Rattle.f77_tree.specs.declared.statements.RawExpr.{RawExpr}
use Rattle.f77_tree.specs.declared.statements.RawExpr.TheVariants.{Call, Apply}
use Rattle.f77_tree.specs.Name.{is_name}
use Rattle.f77_tree.specs.Grammar.{Written, Arguments, left_level, right_level, AreGrammatical, reading, readings, has_great_number, have_great_number}
use Rattle.f77_expr.specs.Printing.{Printed, Form, enclosed, and_last, not_listed, plain_form, printed_one, printed_two, operator_form, forms_alone, listed, printed_access, access_form}
use Rattle.f77_expr.proofs.PrintedRows.{Rows, Keeps}
use Rattle.f77_expr.proofs.PrintedLevels.{Writes, writes_enclosed, level-enclosed}

-- arguments that are read as these, without a constant that is too great
pub record WriteAll (arguments : Arguments) (es : List RawExpr) : Type 0 where
  pub grammatical : AreGrammatical arguments
  pub are : readings arguments ≡ es
  pub constants : have_great_number arguments ≡ false

-- an expression is read as its form, alone and among arguments
pub record Agrees (p : Printed) (f : Form) : Type 0 where
  pub alone : Writes p.alone f.alone
  pub in_max : WriteAll p.in_max f.in_max
  pub in_min : WriteAll p.in_min f.in_min

-- ---- arguments

neither : {b c : Bool} → b ≡ false → c ≡ false → (b || c) ≡ false
neither b c = rw (b, c) refl

last_writes : (w : Written) (e : RawExpr) → Writes w e → WriteAll (Arguments.last w) (e ∷ [])
last_writes w e writes = record { grammatical = writes.grammatical; are = ap (λ x. x ∷ []) writes.is; constants = writes.constants }

before_writes : (w : Written) (e : RawExpr) (more : Arguments) (es : List RawExpr) → Writes w e → WriteAll more es → WriteAll (Arguments.before w more) (e ∷ es)
before_writes w e more es first rest = record {
  grammatical = (first.grammatical, rest.grammatical);
  are = ap (λ x. x ∷ readings more) first.is ∙ ap (λ xs. e ∷ xs) rest.are;
  constants = neither first.constants rest.constants;
}

left_false : (b c : Bool) → (b || c) ≡ false → b ≡ false
left_false false c is = refl
left_false true c is = absurd cc

right_false : (b c : Bool) → (b || c) ≡ false → c ≡ false
right_false false c is = is
right_false true c is = absurd cc

one_more : (arguments : Arguments) (w : Written) (e : RawExpr) → AreGrammatical arguments → have_great_number arguments ≡ false → Writes w e → WriteAll (and_last arguments w) (readings arguments ++ (e ∷ []))
one_more (Arguments.last a) w e all none writes = before_writes a (reading a) (Arguments.last w) (e ∷ []) (record { grammatical = all; is = refl; constants = none }) (last_writes w e writes)
one_more (Arguments.before a more) w e all none writes =
    let first : Writes a (reading a) = record { grammatical = all.0; is = refl; constants = left_false (has_great_number a) (have_great_number more) none } in
    before_writes a (reading a) (and_last more w) (readings more ++ (e ∷ [])) first (one_more more w e all.1 (right_false (has_great_number a) (have_great_number more) none) writes)

and_last_writes : (arguments : Arguments) (es : List RawExpr) (w : Written) (e : RawExpr) → WriteAll arguments es → Writes w e → WriteAll (and_last arguments w) (es ++ (e ∷ []))
and_last_writes arguments es w e all writes =
    let P : List RawExpr → Type 0 = λ xs. WriteAll (and_last arguments w) (xs ++ (e ∷ [])) in
    subst P all.are (one_more arguments w e all.grammatical all.constants writes)

listed_writes : (p : Printed) (ps : List Printed) (f : Form) (fs : List Form) → Agrees p f → Rows Agrees ps fs → WriteAll (listed p ps) (forms_alone (f ∷ fs))
listed_writes p [] f [] first rest = last_writes p.alone f.alone first.alone
listed_writes p [] f (g ∷ fs) first rest = elim rest [ ]
listed_writes p (q ∷ ps) f [] first rest = elim rest [ ]
listed_writes p (q ∷ ps) f (g ∷ fs) first rest = before_writes p.alone f.alone (listed q ps) (forms_alone (g ∷ fs)) first.alone (listed_writes q ps g fs rest.0 rest.1)

-- ---- what is not listed among the arguments of a MAX or a MIN

pub plain_agrees : (w : Written) (e : RawExpr) → Writes w e → Agrees (not_listed w) (plain_form e)
plain_agrees w e writes = record { alone = writes; in_max = last_writes w e writes; in_min = last_writes w e writes }

call_writes : (name : List ℕ) (arguments : Arguments) (es : List RawExpr) → is_name name ≡ true → WriteAll arguments es → Writes (Written.call name arguments) (Call name es)
call_writes name arguments es named all = record { grammatical = (named, all.grammatical); is = ap (Call name) all.are; constants = all.constants }

-- a scalar, or an array element
pub access_agrees : (name : List ℕ) (ps : List Printed) (fs : List Form) → is_name name ≡ true → Rows Agrees ps fs → Agrees (printed_access name ps) (access_form name fs)
access_agrees name [] [] named rows = plain_agrees (Written.name name) _ (record { grammatical = named; is = refl; constants = refl })
access_agrees name [] (f ∷ fs) named rows = elim rows [ ]
access_agrees name (p ∷ ps) [] named rows = elim rows [ ]
access_agrees name (p ∷ ps) (f ∷ fs) named rows = plain_agrees (Written.call name (listed p ps)) _ (call_writes name (listed p ps) (forms_alone (f ∷ fs)) named (listed_writes p ps f fs rows.0 rows.1))

-- ---- operators with one operand

minus_agrees : (p : Printed) (f : Form) → Agrees p f → Agrees (printed_one Neg p) (operator_form Neg (f ∷ []))
minus_agrees p f is =
    let a = writes_enclosed 6 p.alone f.alone is.alone in
    plain_agrees _ _ (record { grammatical = (a.grammatical, level-enclosed 6 p.alone (omega arith)); is = ap (λ e. Apply Neg (e ∷ [])) a.is; constants = a.constants })

negation_agrees : (p : Printed) (f : Form) → Agrees p f → Agrees (printed_one Not p) (operator_form Not (f ∷ []))
negation_agrees p f is =
    let a = writes_enclosed 4 p.alone f.alone is.alone in
    plain_agrees _ _ (record { grammatical = (a.grammatical, level-enclosed 4 p.alone (omega arith)); is = ap (λ e. Apply Not (e ∷ [])) a.is; constants = a.constants })

abs_agrees : (p : Printed) (f : Form) → Agrees p f → Agrees (printed_one Abs p) (operator_form Abs (f ∷ []))
abs_agrees p f is = plain_agrees _ _ (call_writes (codes "ABS") _ _ refl (last_writes p.alone f.alone is.alone))

-- ---- operators with two operands

binary_agrees : (op : Op) (p q : Printed) (f g : Form) → left_level op ≤ 8 → right_level op ≤ 8 → Agrees p f → Agrees q g → Agrees (not_listed (Written.binary op (enclosed (left_level op) p.alone) (enclosed (right_level op) q.alone))) (plain_form (Apply op (f.alone ∷ g.alone ∷ [])))
binary_agrees op p q f g left right is also =
    let a = writes_enclosed (left_level op) p.alone f.alone is.alone in
    let b = writes_enclosed (right_level op) q.alone g.alone also.alone in
    plain_agrees _ _ (record {
      grammatical = (a.grammatical, b.grammatical, level-enclosed (left_level op) p.alone left, level-enclosed (right_level op) q.alone right);
      is = ap (λ e. Apply op (e ∷ reading (enclosed (right_level op) q.alone) ∷ [])) a.is ∙ ap (λ e. Apply op (f.alone ∷ e ∷ [])) b.is;
      constants = neither a.constants b.constants;
    })

pair_writes : (p q : Printed) (f g : Form) → Agrees p f → Agrees q g → WriteAll (Arguments.before p.alone (Arguments.last q.alone)) (f.alone ∷ g.alone ∷ [])
pair_writes p q f g is also = before_writes p.alone f.alone (Arguments.last q.alone) (g.alone ∷ []) is.alone (last_writes q.alone g.alone also.alone)

mod_agrees : (p q : Printed) (f g : Form) → Agrees p f → Agrees q g → Agrees (printed_two Mod p q) (operator_form Mod (f ∷ g ∷ []))
mod_agrees p q f g is also = plain_agrees _ _ (call_writes (codes "MOD") _ _ refl (pair_writes p q f g is also))

sign_agrees : (p q : Printed) (f g : Form) → Agrees p f → Agrees q g → Agrees (printed_two Sign p q) (operator_form Sign (f ∷ g ∷ []))
sign_agrees p q f g is also = plain_agrees _ _ (call_writes (codes "SIGN") _ _ refl (pair_writes p q f g is also))

max_agrees : (p q : Printed) (f g : Form) → Agrees p f → Agrees q g → Agrees (printed_two Max p q) (operator_form Max (f ∷ g ∷ []))
max_agrees p q f g is also =
    let all = and_last_writes p.in_max f.in_max q.alone g.alone is.in_max also.alone in
    let call = call_writes (codes "MAX") (and_last p.in_max q.alone) (f.in_max ++ (g.alone ∷ [])) refl all in
    record { alone = call; in_max = all; in_min = last_writes _ _ call }

min_agrees : (p q : Printed) (f g : Form) → Agrees p f → Agrees q g → Agrees (printed_two Min p q) (operator_form Min (f ∷ g ∷ []))
min_agrees p q f g is also =
    let all = and_last_writes p.in_min f.in_min q.alone g.alone is.in_min also.alone in
    let call = call_writes (codes "MIN") (and_last p.in_min q.alone) (f.in_min ++ (g.alone ∷ [])) refl all in
    record { alone = call; in_max = last_writes _ _ call; in_min = all }

-- ---- operators at their operands

pub operators_agree : Keeps Agrees
operators_agree = record {
  minus = minus_agrees;
  negation = negation_agrees;
  abs = abs_agrees;
  remainder = mod_agrees;
  sign = sign_agrees;
  max = max_agrees;
  min = min_agrees;
  binary = binary_agrees;
}
