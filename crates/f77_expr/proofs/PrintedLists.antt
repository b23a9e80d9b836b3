-- The lists of arguments of a MAX or a MIN.
use Rattle.std.proofs.Common.{◌≡◌, true, false, List, [], ◌∷◌, ◌++◌, length, map, refl, ap, sym, ◌∙◌, arith, append_assoc}
use Rattle.std.proofs.lemmas.List.{length-map}
use Rattle.std.specs.Prelude.{codes}
use Rattle.op_table.specs.declared.Op.{Op}
use Rattle.op_table.specs.declared.Op.TheVariants.{Add, Sub, Mul, Div, Pow, Neg, Lt, Le, Eq, Ne, Ge, Gt, Not, And, Or, Eqv, Neqv, Mod, Abs, Sign, Max, Min, Truth, Bound, Place, Three, Pick, Step, AddChecked, SubChecked, MulChecked, NegChecked, AbsChecked, PowChecked}
use Rattle.op_table.specs.Operators.{arity_of}
use Rattle.f77_tree.specs.declared.expressions.Expr.{Expr, Apply}
use Rattle.f77_tree.specs.declared.programs.NameInfo.{NameInfo}
use Rattle.f77_tree.specs.Grammar.{Written, Arguments, spelling, spellings}
use Rattle.f77_tree.specs.Kinds.{is_written, IsProper}
use Rattle.f77_tree.proofs.KindLemmas.{IsProper-operation}
use Rattle.f77_expr.specs.declared.extremes.Extreme.{Extreme}
use Rattle.f77_expr.specs.declared.extremes.Extreme.TheVariants.{Greatest, Least}
use Rattle.f77_expr.specs.Appending.{listed_in, is_operator}
use Rattle.f77_expr.specs.Printing.{Printed, not_listed, and_last, printed_one, printed_two, printed_operator, plain, printed}
use Rattle.f77_expr.proofs.PrintedItems.{printed-Apply}

-- an expression that gives itself alone to a list
abbrev GivesItself : Extreme → Printed → Type 0
GivesItself x p = listed_in x p ≡ Arguments.last p.alone

itself : (x : Extreme) (w : Written) → GivesItself x (not_listed w)
itself Greatest w = refl
itself Least w = refl

by_one : (x : Extreme) (op : Op) → ((p : Printed) → GivesItself x (printed_one op p)) → (ps : List Printed) → length ps ≡ 1 → GivesItself x (printed_operator op ps)
by_one x op one [] len = absurd (omega (arith, len))
by_one x op one (p ∷ []) len = one p
by_one x op one (p ∷ q ∷ ps) len = absurd (omega (arith, len))

by_two : (x : Extreme) (op : Op) → ((p q : Printed) → GivesItself x (printed_two op p q)) → (ps : List Printed) → length ps ≡ 2 → GivesItself x (printed_operator op ps)
by_two x op two [] len = absurd (omega (arith, len))
by_two x op two (p ∷ []) len = absurd (omega (arith, len))
by_two x op two (p ∷ q ∷ []) len = two p q
by_two x op two (p ∷ q ∷ r ∷ ps) len = absurd (omega (arith, len))

other_gives : (x : Extreme) (op : Op) (ps : List Printed) → is_operator x op ≡ false → is_written op ≡ true → length ps ≡ arity_of op → GivesItself x (printed_operator (plain op) ps)
other_gives Greatest Max ps is_not written len = absurd cc
other_gives Least Max ps is_not written len = by_two Least Max (λ p q. refl) ps len
other_gives Greatest Min ps is_not written len = by_two Greatest Min (λ p q. refl) ps len
other_gives Least Min ps is_not written len = absurd cc
other_gives x Add ps is_not written len = by_two x Add (λ p q. itself x _) ps len
other_gives x Sub ps is_not written len = by_two x Sub (λ p q. itself x _) ps len
other_gives x Mul ps is_not written len = by_two x Mul (λ p q. itself x _) ps len
other_gives x Div ps is_not written len = by_two x Div (λ p q. itself x _) ps len
other_gives x Pow ps is_not written len = by_two x Pow (λ p q. itself x _) ps len
other_gives x Lt ps is_not written len = by_two x Lt (λ p q. itself x _) ps len
other_gives x Le ps is_not written len = by_two x Le (λ p q. itself x _) ps len
other_gives x Eq ps is_not written len = by_two x Eq (λ p q. itself x _) ps len
other_gives x Ne ps is_not written len = by_two x Ne (λ p q. itself x _) ps len
other_gives x Ge ps is_not written len = by_two x Ge (λ p q. itself x _) ps len
other_gives x Gt ps is_not written len = by_two x Gt (λ p q. itself x _) ps len
other_gives x And ps is_not written len = by_two x And (λ p q. itself x _) ps len
other_gives x Or ps is_not written len = by_two x Or (λ p q. itself x _) ps len
other_gives x Eqv ps is_not written len = by_two x Eqv (λ p q. itself x _) ps len
other_gives x Neqv ps is_not written len = by_two x Neqv (λ p q. itself x _) ps len
other_gives x AddChecked ps is_not written len = by_two x Add (λ p q. itself x _) ps len
other_gives x SubChecked ps is_not written len = by_two x Sub (λ p q. itself x _) ps len
other_gives x MulChecked ps is_not written len = by_two x Mul (λ p q. itself x _) ps len
other_gives x PowChecked ps is_not written len = by_two x Pow (λ p q. itself x _) ps len
other_gives x Mod ps is_not written len = by_two x Mod (λ p q. itself x _) ps len
other_gives x Sign ps is_not written len = by_two x Sign (λ p q. itself x _) ps len
other_gives x Neg ps is_not written len = by_one x Neg (λ p. itself x _) ps len
other_gives x NegChecked ps is_not written len = by_one x Neg (λ p. itself x _) ps len
other_gives x Not ps is_not written len = by_one x Not (λ p. itself x _) ps len
other_gives x Abs ps is_not written len = by_one x Abs (λ p. itself x _) ps len
other_gives x AbsChecked ps is_not written len = by_one x Abs (λ p. itself x _) ps len
other_gives x Truth ps is_not written len = absurd cc
other_gives x Bound ps is_not written len = absurd cc
other_gives x Place ps is_not written len = absurd cc
other_gives x Three ps is_not written len = absurd cc
other_gives x Pick ps is_not written len = absurd cc
other_gives x Step ps is_not written len = absurd cc

-- another operator than this one is listed as itself
pub listed_alone : (x : Extreme) (op : Op) (args : List Expr) (names : List NameInfo) → is_operator x op ≡ false → IsProper names (Apply op args) → GivesItself x (printed names (Apply op args))
listed_alone x op args names is_not proper =
    let operation = IsProper-operation names op args proper in
    ap (listed_in x) (printed-Apply names op args) ∙ other_gives x op (map (printed names) args) is_not operation.written (length-map args (printed names) ∙ operation.as_many) ∙ ap (λ p. Arguments.last p.alone) (sym (printed-Apply names op args))

-- one argument more stands after a comma
pub spellings-and_last : (arguments : Arguments) (w : Written) → spellings (and_last arguments w) ≡ spellings arguments ++ codes "," ++ spelling w
spellings-and_last (Arguments.last a) w = refl
spellings-and_last (Arguments.before a more) w = rw (spellings-and_last more w) (simp append_assoc)
