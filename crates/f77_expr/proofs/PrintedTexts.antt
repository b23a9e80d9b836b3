-- Texts of operands and arguments.
use Rattle.std.proofs.Common.{◌≡◌, ℕ, ◌+◌, ◌<◌, ◌≤◌, true, List, [], ◌∷◌, ◌++◌, length, get_or, map, take, All, refl, ap, sym, subst, ◌∙◌, arith, append_assoc, length-take-le}
use Rattle.std.specs.Prelude.{codes}
use Rattle.std.proofs.Math.Dec.{leb-zero}
use Rattle.std.proofs.lemmas.List.{length-map, map-append, take_more}
use Rattle.std.proofs.lemmas.List.Elements.{All-append}
use Rattle.op_table.specs.declared.Op.{Op}
use Rattle.op_table.specs.declared.Op.TheVariants.{Add, Sub, Mul, Div, Pow, Neg, Lt, Le, Eq, Ne, Ge, Gt, Not, And, Or, Eqv, Neqv, Mod, Abs, Sign, Max, Min, Truth, Bound, Place, Three, Pick, Step, AddChecked, SubChecked, MulChecked, NegChecked, AbsChecked, PowChecked}
use Rattle.op_table.specs.Operators.{arity_of}
use Rattle.f77_tree.specs.declared.expressions.Expr.{Expr}
use Rattle.f77_tree.specs.Grammar.{Written, level, spelling, spellings}
use Rattle.f77_tree.specs.Kinds.{is_written}
use Rattle.f77_expr.specs.declared.extremes.Extreme.{Extreme}
use Rattle.f77_expr.specs.declared.extremes.Extreme.TheVariants.{Greatest, Least}
use Rattle.f77_expr.specs.Appending.{arguments_text, listed_in, operator_of}
use Rattle.f77_expr.specs.Operands.{printed_level}
use Rattle.f77_expr.specs.Printing.{Printed, enclosed, and_last, listed, plain, printed_one, printed_two, printed_operator}
use Rattle.f77_expr.proofs.Appends.{all_one}
use Rattle.f77_expr.proofs.PrintedLists.{spellings-and_last}

-- ---- arguments

listed_more : (p : Printed) (ps : List Printed) (q : Printed) → spellings (listed p (ps ++ (q ∷ []))) ≡ spellings (listed p ps) ++ codes "," ++ spelling q.alone
listed_more p [] q = refl
listed_more p (r ∷ ps) q = rw (listed_more r ps q) (simp append_assoc)

arguments_more : (ps : List Printed) (q : Printed) → 0 < length ps → arguments_text (ps ++ (q ∷ [])) ≡ arguments_text ps ++ codes "," ++ spelling q.alone
arguments_more [] q some = absurd (omega (arith, some))
arguments_more (p ∷ ps) q some = listed_more p ps q

-- one argument more
pub arguments_next : (f : Expr → Printed) (args : List Expr) (k : ℕ) (e : Expr) → 1 ≤ k → k < length args → e ≡ get_or args k e → arguments_text (map f (take (k + 1) args)) ≡ arguments_text (map f (take k args)) ++ codes "," ++ spelling (f e).alone
arguments_next f args k e some lt is =
    let prefix : take (k + 1) args ≡ take k args ++ (e ∷ []) = take_more args k e lt ∙ ap (λ x. take k args ++ (x ∷ [])) (sym is) in
    let len : length (map f (take k args)) ≡ k = length-map (take k args) f ∙ length-take-le k args (omega (arith, lt)) in
    ap (λ es. arguments_text (map f es)) prefix ∙ ap arguments_text (map-append f (take k args) (e ∷ [])) ∙ arguments_more (map f (take k args)) (f e) (omega (arith, len, some))

pub all_next : (P : Expr → Type 0) (args : List Expr) (k : ℕ) (e : Expr) → k < length args → e ≡ get_or args k e → All P (take k args) → P e → All P (take (k + 1) args)
all_next P args k e lt is all here =
    let prefix : take k args ++ (e ∷ []) ≡ take (k + 1) args = sym (take_more args k e lt ∙ ap (λ x. take k args ++ (x ∷ [])) (sym is)) in
    subst (All P) prefix (All-append P (take k args) (e ∷ []) all (all_one P e here))

-- ---- lists of MAX and MIN

pub arity-extreme : (x : Extreme) → arity_of (operator_of x) ≡ 2
arity-extreme Greatest = refl
arity-extreme Least = refl

listed_two : (x : Extreme) (p q : Printed) → listed_in x (printed_operator (plain (operator_of x)) (p ∷ q ∷ [])) ≡ and_last (listed_in x p) q.alone
listed_two Greatest p q = refl
listed_two Least p q = refl

pub spellings-listed_two : (x : Extreme) (p q : Printed) → spellings (listed_in x p) ++ codes "," ++ spelling q.alone ≡ spellings (listed_in x (printed_operator (plain (operator_of x)) (p ∷ q ∷ [])))
spellings-listed_two x p q = sym (ap spellings (listed_two x p q) ∙ spellings-and_last (listed_in x p) q.alone)

-- ---- levels

-- at level 0 nothing needs brackets
pub enclosed-zero : (w : Written) → enclosed 0 w ≡ w
enclosed-zero w = rw (leb-zero (level w)) refl

abbrev HasLevel : Op → Printed → Type 0
HasLevel op p = printed_level op ≡ level p.alone

by_one : (op : Op) → ((p : Printed) → HasLevel op (printed_one op p)) → (ps : List Printed) → length ps ≡ 1 → HasLevel op (printed_operator op ps)
by_one op one [] len = absurd (omega (arith, len))
by_one op one (p ∷ []) len = one p
by_one op one (p ∷ q ∷ ps) len = absurd (omega (arith, len))

by_two : (op : Op) → ((p q : Printed) → HasLevel op (printed_two op p q)) → (ps : List Printed) → length ps ≡ 2 → HasLevel op (printed_operator op ps)
by_two op two [] len = absurd (omega (arith, len))
by_two op two (p ∷ []) len = absurd (omega (arith, len))
by_two op two (p ∷ q ∷ []) len = two p q
by_two op two (p ∷ q ∷ r ∷ ps) len = absurd (omega (arith, len))

-- the level of an operator at its operands
pub level-operator : (op : Op) (ps : List Printed) → is_written op ≡ true → length ps ≡ arity_of op → HasLevel (plain op) (printed_operator (plain op) ps)
level-operator Add ps written len = by_two Add (λ p q. refl) ps len
level-operator Sub ps written len = by_two Sub (λ p q. refl) ps len
level-operator Mul ps written len = by_two Mul (λ p q. refl) ps len
level-operator Div ps written len = by_two Div (λ p q. refl) ps len
level-operator Pow ps written len = by_two Pow (λ p q. refl) ps len
level-operator Lt ps written len = by_two Lt (λ p q. refl) ps len
level-operator Le ps written len = by_two Le (λ p q. refl) ps len
level-operator Eq ps written len = by_two Eq (λ p q. refl) ps len
level-operator Ne ps written len = by_two Ne (λ p q. refl) ps len
level-operator Ge ps written len = by_two Ge (λ p q. refl) ps len
level-operator Gt ps written len = by_two Gt (λ p q. refl) ps len
level-operator And ps written len = by_two And (λ p q. refl) ps len
level-operator Or ps written len = by_two Or (λ p q. refl) ps len
level-operator Eqv ps written len = by_two Eqv (λ p q. refl) ps len
level-operator Neqv ps written len = by_two Neqv (λ p q. refl) ps len
level-operator AddChecked ps written len = by_two Add (λ p q. refl) ps len
level-operator SubChecked ps written len = by_two Sub (λ p q. refl) ps len
level-operator MulChecked ps written len = by_two Mul (λ p q. refl) ps len
level-operator PowChecked ps written len = by_two Pow (λ p q. refl) ps len
level-operator Mod ps written len = by_two Mod (λ p q. refl) ps len
level-operator Sign ps written len = by_two Sign (λ p q. refl) ps len
level-operator Max ps written len = by_two Max (λ p q. refl) ps len
level-operator Min ps written len = by_two Min (λ p q. refl) ps len
level-operator Neg ps written len = by_one Neg (λ p. refl) ps len
level-operator NegChecked ps written len = by_one Neg (λ p. refl) ps len
level-operator Not ps written len = by_one Not (λ p. refl) ps len
level-operator Abs ps written len = by_one Abs (λ p. refl) ps len
level-operator AbsChecked ps written len = by_one Abs (λ p. refl) ps len
level-operator Truth ps written len = absurd cc
level-operator Bound ps written len = absurd cc
level-operator Place ps written len = absurd cc
level-operator Three ps written len = absurd cc
level-operator Pick ps written len = absurd cc
level-operator Step ps written len = absurd cc
