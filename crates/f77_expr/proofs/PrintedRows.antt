-- Facts on operators at their operands, as they are printed, from such facts on the operands.
use Rattle.std.proofs.Common.{◌≡◌, ◌≤◌, true, List, [], ◌∷◌, length, arith}
use Rattle.op_table.specs.declared.Op.{Op}
use Rattle.op_table.specs.declared.Op.TheVariants.{Add, Sub, Mul, Div, Pow, Neg, Lt, Le, Eq, Ne, Ge, Gt, Not, And, Or, Eqv, Neqv, Mod, Abs, Sign, Max, Min, Truth, Bound, Place, Three, Pick, Step, AddChecked, SubChecked, MulChecked, NegChecked, AbsChecked, PowChecked}
use Rattle.op_table.specs.Operators.{arity_of}
use Rattle.f77_tree.specs.declared.statements.RawExpr.TheVariants.{Apply}
use Rattle.f77_tree.specs.Grammar.{Written, left_level, right_level}
use Rattle.f77_tree.specs.Kinds.{is_written}
use Rattle.f77_expr.specs.Printing.{Printed, Form, enclosed, not_listed, plain_form, printed_one, printed_two, printed_operator, operator_form, plain}

-- a fact on each printed expression and its form
abbrev pub Rows : (Printed → Form → Type 0) → List Printed → List Form → Type 0
Rows R [] [] = Unit {0}
Rows R (p ∷ ps) (f ∷ fs) = R p f × Rows R ps fs
Rows R [] (f ∷ fs) = ⊥
Rows R (p ∷ ps) [] = ⊥

-- a fact that an operator at one operand or at two has where the operands have it
abbrev pub KeepsOne : (Printed → Form → Type 0) → Op → Type 0
KeepsOne R op = (p : Printed) (f : Form) → R p f → R (printed_one op p) (operator_form op (f ∷ []))

abbrev pub KeepsTwo : (Printed → Form → Type 0) → Op → Type 0
KeepsTwo R op = (p q : Printed) (f g : Form) → R p f → R q g → R (printed_two op p q) (operator_form op (f ∷ g ∷ []))

-- an operator between its operands, and the places of those
abbrev pub KeepsBinary : (Printed → Form → Type 0) → Type 0
KeepsBinary R = (op : Op) (p q : Printed) (f g : Form) → left_level op ≤ 8 → right_level op ≤ 8 → R p f → R q g → R (not_listed (Written.binary op (enclosed (left_level op) p.alone) (enclosed (right_level op) q.alone))) (plain_form (Apply op (f.alone ∷ g.alone ∷ [])))

pub record Keeps (R : Printed → Form → Type 0) : Type 0 where
  pub minus : KeepsOne R Neg
  pub negation : KeepsOne R Not
  pub abs : KeepsOne R Abs
  pub remainder : KeepsTwo R Mod
  pub sign : KeepsTwo R Sign
  pub max : KeepsTwo R Max
  pub min : KeepsTwo R Min
  pub binary : KeepsBinary R

by_one : (R : Printed → Form → Type 0) (op : Op) → KeepsOne R op → (ps : List Printed) (fs : List Form) → length ps ≡ 1 → Rows R ps fs → R (printed_operator op ps) (operator_form op fs)
by_one R op one [] fs len rows = absurd (omega (arith, len))
by_one R op one (p ∷ []) [] len rows = elim rows [ ]
by_one R op one (p ∷ []) (f ∷ []) len rows = one p f rows.0
by_one R op one (p ∷ []) (f ∷ g ∷ fs) len rows = elim rows.1 [ ]
by_one R op one (p ∷ q ∷ ps) fs len rows = absurd (omega (arith, len))

by_two : (R : Printed → Form → Type 0) (op : Op) → KeepsTwo R op → (ps : List Printed) (fs : List Form) → length ps ≡ 2 → Rows R ps fs → R (printed_operator op ps) (operator_form op fs)
by_two R op two [] fs len rows = absurd (omega (arith, len))
by_two R op two (p ∷ []) fs len rows = absurd (omega (arith, len))
by_two R op two (p ∷ q ∷ []) [] len rows = elim rows [ ]
by_two R op two (p ∷ q ∷ []) (f ∷ []) len rows = elim rows.1 [ ]
by_two R op two (p ∷ q ∷ []) (f ∷ g ∷ []) len rows = two p q f g rows.0 rows.1.0
by_two R op two (p ∷ q ∷ []) (f ∷ g ∷ h ∷ fs) len rows = elim rows.1.1 [ ]
by_two R op two (p ∷ q ∷ r ∷ ps) fs len rows = absurd (omega (arith, len))

-- an operator at as many operands as it takes
pub operator_keeps : (R : Printed → Form → Type 0) → Keeps R → (op : Op) (ps : List Printed) (fs : List Form) → is_written op ≡ true → length ps ≡ arity_of op → Rows R ps fs → R (printed_operator (plain op) ps) (operator_form (plain op) fs)
operator_keeps R keeps Neg ps fs written len rows = by_one R Neg keeps.minus ps fs len rows
operator_keeps R keeps NegChecked ps fs written len rows = by_one R Neg keeps.minus ps fs len rows
operator_keeps R keeps Not ps fs written len rows = by_one R Not keeps.negation ps fs len rows
operator_keeps R keeps Abs ps fs written len rows = by_one R Abs keeps.abs ps fs len rows
operator_keeps R keeps AbsChecked ps fs written len rows = by_one R Abs keeps.abs ps fs len rows
operator_keeps R keeps Mod ps fs written len rows = by_two R Mod keeps.remainder ps fs len rows
operator_keeps R keeps Sign ps fs written len rows = by_two R Sign keeps.sign ps fs len rows
operator_keeps R keeps Max ps fs written len rows = by_two R Max keeps.max ps fs len rows
operator_keeps R keeps Min ps fs written len rows = by_two R Min keeps.min ps fs len rows
operator_keeps R keeps Truth ps fs written len rows = absurd cc
operator_keeps R keeps Bound ps fs written len rows = absurd cc
operator_keeps R keeps Place ps fs written len rows = absurd cc
operator_keeps R keeps Three ps fs written len rows = absurd cc
operator_keeps R keeps Pick ps fs written len rows = absurd cc
operator_keeps R keeps Step ps fs written len rows = absurd cc
operator_keeps R keeps Add ps fs written len rows = by_two R Add (λ p q f g. keeps.binary Add p q f g (omega arith) (omega arith)) ps fs len rows
operator_keeps R keeps Sub ps fs written len rows = by_two R Sub (λ p q f g. keeps.binary Sub p q f g (omega arith) (omega arith)) ps fs len rows
operator_keeps R keeps Mul ps fs written len rows = by_two R Mul (λ p q f g. keeps.binary Mul p q f g (omega arith) (omega arith)) ps fs len rows
operator_keeps R keeps Div ps fs written len rows = by_two R Div (λ p q f g. keeps.binary Div p q f g (omega arith) (omega arith)) ps fs len rows
operator_keeps R keeps Pow ps fs written len rows = by_two R Pow (λ p q f g. keeps.binary Pow p q f g (omega arith) (omega arith)) ps fs len rows
operator_keeps R keeps Lt ps fs written len rows = by_two R Lt (λ p q f g. keeps.binary Lt p q f g (omega arith) (omega arith)) ps fs len rows
operator_keeps R keeps Le ps fs written len rows = by_two R Le (λ p q f g. keeps.binary Le p q f g (omega arith) (omega arith)) ps fs len rows
operator_keeps R keeps Eq ps fs written len rows = by_two R Eq (λ p q f g. keeps.binary Eq p q f g (omega arith) (omega arith)) ps fs len rows
operator_keeps R keeps Ne ps fs written len rows = by_two R Ne (λ p q f g. keeps.binary Ne p q f g (omega arith) (omega arith)) ps fs len rows
operator_keeps R keeps Ge ps fs written len rows = by_two R Ge (λ p q f g. keeps.binary Ge p q f g (omega arith) (omega arith)) ps fs len rows
operator_keeps R keeps Gt ps fs written len rows = by_two R Gt (λ p q f g. keeps.binary Gt p q f g (omega arith) (omega arith)) ps fs len rows
operator_keeps R keeps And ps fs written len rows = by_two R And (λ p q f g. keeps.binary And p q f g (omega arith) (omega arith)) ps fs len rows
operator_keeps R keeps Or ps fs written len rows = by_two R Or (λ p q f g. keeps.binary Or p q f g (omega arith) (omega arith)) ps fs len rows
operator_keeps R keeps Eqv ps fs written len rows = by_two R Eqv (λ p q f g. keeps.binary Eqv p q f g (omega arith) (omega arith)) ps fs len rows
operator_keeps R keeps Neqv ps fs written len rows = by_two R Neqv (λ p q f g. keeps.binary Neqv p q f g (omega arith) (omega arith)) ps fs len rows
operator_keeps R keeps AddChecked ps fs written len rows = by_two R Add (λ p q f g. keeps.binary Add p q f g (omega arith) (omega arith)) ps fs len rows
operator_keeps R keeps SubChecked ps fs written len rows = by_two R Sub (λ p q f g. keeps.binary Sub p q f g (omega arith) (omega arith)) ps fs len rows
operator_keeps R keeps MulChecked ps fs written len rows = by_two R Mul (λ p q f g. keeps.binary Mul p q f g (omega arith) (omega arith)) ps fs len rows
operator_keeps R keeps PowChecked ps fs written len rows = by_two R Pow (λ p q f g. keeps.binary Pow p q f g (omega arith) (omega arith)) ps fs len rows
