-- What the crates above may use of the operators' values.
use Rattle.std.proofs.Common.{◌≡◌, ℤ, pos, ◌+ℤ◌, ◌-ℤ◌, ◌*ℤ◌, ◌≤ℤ◌, Bool, true, false, List, [], ◌∷◌, Option, Some, None, Result, Ok, Err, refl, ap, subst, ◌∙◌, w32, arith}
use Rattle.std.specs.Prelude.{is_ok, is_err, int_lt, ◌||◌, if◌then◌else◌}
use Rattle.std.specs.Option.{option_map, option_and_then}
use Rattle.std.specs.Result.{result_ok}
use Rattle.std.proofs.lemmas.Int.{SFits-int_wrap, int_wrap_fits, ints}
use Rattle.op_table.specs.declared.Op.{Op}
use Rattle.op_table.specs.declared.Op.TheVariants.{Truth, Bound, Place, Step}
use Rattle.op_table.specs.declared.Trap.{Trap}
use Rattle.op_table.specs.declared.Trap.TheVariants.{Subscript, Step as NoStep}
use Rattle.op_table.specs.Words.{IsWord, wrapped, is_true, truth}
use Rattle.op_table.specs.Operators.{applied, unary, binary, ternary, in_a_word}
use Rattle.op_table.specs.Known.{all_known, folded, MayAllBe, CanTrap}
use Rattle.op_table.proofs.Powers.{int_eq-no}

-- ---- every row

word-wrapped : (r : Result ℤ Trap) (v : ℤ) → in_a_word r ≡ Ok v → IsWord v
word-wrapped (Ok z) v e = let is : wrapped z ≡ v = cc in subst IsWord is (SFits-int_wrap w32 z)
word-wrapped (Err trap) v e = let no : Err trap ≡ Ok v = e in absurd cc

-- a value is a word
pub applied-word : (op : Op) (args : List ℤ) (v : ℤ) → applied op args ≡ Ok v → IsWord v
unfolding applied
applied-word op [] v e = let is : pos 0 ≡ v = cc in subst IsWord is (omega (arith, ints))
applied-word op (a ∷ []) v e = word-wrapped (unary op a) v e
applied-word op (a ∷ b ∷ []) v e = word-wrapped (binary op a b) v e
applied-word op (a ∷ b ∷ c ∷ []) v e = word-wrapped (ternary op a b c) v e
applied-word op (a ∷ b ∷ c ∷ d ∷ more) v e = let is : pos 0 ≡ v = cc in subst IsWord is (omega (arith, ints))

-- known operands are what the operands may be
pub known_may : (known : List (Option ℤ)) (args : List ℤ) → all_known known ≡ Some args → MayAllBe known args
known_may [] args e = let is : [] ≡ args = cc in subst (MayAllBe []) is tt
known_may (None ∷ known) args e = let no : None ≡ Some args = e in absurd cc
known_may (Some x ∷ known) args e = by (λ more f. known_may known more f) (all_known known) refl e
  where
    by : ((more : List ℤ) → all_known known ≡ Some more → MayAllBe known more) → (o : Option (List ℤ)) → all_known known ≡ o → option_map (λ more. x ∷ more) o ≡ Some args → MayAllBe (Some x ∷ known) args
    by rest None f h = let no : None ≡ Some args = h in absurd cc
    by rest (Some more) f h = let is : x ∷ more ≡ args = cc in subst (MayAllBe (Some x ∷ known)) is (refl, rest more f)

-- a known value is the operator's at the known operands
pub record IsKnownValue (op : Op) (known : List (Option ℤ)) (v : ℤ) : Type 0 where
  pub args : List ℤ
  pub are_known : all_known known ≡ Some args
  pub value : applied op args ≡ Ok v

pub folded-some : (op : Op) (known : List (Option ℤ)) (v : ℤ) → folded op known ≡ Some v → IsKnownValue op known v
unfolding folded
folded-some op known v = by (all_known known) refl
  where
    at : (args : List ℤ) (r : Result ℤ Trap) → all_known known ≡ Some args → applied op args ≡ r → result_ok r ≡ Some v → IsKnownValue op known v
    at args (Ok z) f g h = let is : z ≡ v = cc in record { args = args; are_known = f; value = g ∙ ap (λ y. Ok y) is }
    at args (Err trap) f g h = let no : None ≡ Some v = h in absurd cc

    by : (o : Option (List ℤ)) → all_known known ≡ o → option_and_then (λ args. result_ok (applied op args)) o ≡ Some v → IsKnownValue op known v
    by None f h = let no : None ≡ Some v = h in absurd cc
    by (Some args) f h = at args (applied op args) f refl h

pub some-folded : (op : Op) (known : List (Option ℤ)) (args : List ℤ) (v : ℤ) → all_known known ≡ Some args → applied op args ≡ Ok v → folded op known ≡ Some v
unfolding folded
some-folded op known args v e h = ap (option_and_then (λ xs. result_ok (applied op xs))) e ∙ ap result_ok h

-- an operator that cannot trap has a value at all that its operands may be
pub cannot_trap : (op : Op) (known : List (Option ℤ)) (args : List ℤ) → (CanTrap op known → ⊥) → MayAllBe known args → is_ok (applied op args) ≡ true
cannot_trap op known args h may = by (applied op args) refl
  where
    by : (r : Result ℤ Trap) → applied op args ≡ r → is_ok r ≡ true
    by (Ok v) e = refl
    by (Err trap) e = absurd (h (record { args = args; words = may; traps = ap is_err e }))

-- ---- rows that other definitions are made of

truth-word : (b : Bool) → IsWord (truth b)
truth-word true = omega (arith, ints)
truth-word false = omega (arith, ints)

pub applied-Truth : (a : ℤ) → applied Truth (a ∷ []) ≡ Ok (truth (is_true a))
unfolding applied unary
applied-Truth a = ap (λ z. Ok z) (int_wrap_fits w32 (truth (is_true a)) (truth-word (is_true a)))

pub applied-Step-zero : applied Step (pos 0 ∷ []) ≡ Err NoStep
unfolding applied unary
applied-Step-zero = refl

pub applied-Step : (a : ℤ) → IsWord a → (a ≡ pos 0 → ⊥) → applied Step (a ∷ []) ≡ Ok a
unfolding applied unary
applied-Step a w h = ap (λ b. in_a_word (if b then Err NoStep else Ok a)) (int_eq-no a (pos 0) h) ∙ ap (λ z. Ok z) (int_wrap_fits w32 a w)

pub applied-Place : (p d size : ℤ) → IsWord (p +ℤ d *ℤ size) → applied Place (p ∷ d ∷ size ∷ []) ≡ Ok (p +ℤ d *ℤ size)
unfolding applied ternary
applied-Place p d size w = ap (λ z. Ok z) (int_wrap_fits w32 (p +ℤ d *ℤ size) w)

pub applied-Bound : (v low high : ℤ) → low ≤ℤ v → v ≤ℤ high → applied Bound (v ∷ low ∷ high ∷ []) ≡ Ok (wrapped (v -ℤ low))
unfolding applied ternary
applied-Bound v low high g h = by (int_lt v low) (int_lt high v) refl refl
  where
    by : (p q : Bool) → int_lt v low ≡ p → int_lt high v ≡ q → in_a_word (if p || q then Err Subscript else Ok (v -ℤ low)) ≡ Ok (wrapped (v -ℤ low))
    by true q e f = absurd (omega (arith, ints))
    by false true e f = absurd (omega (arith, ints))
    by false false e f = refl
