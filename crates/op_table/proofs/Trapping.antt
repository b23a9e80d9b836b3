-- When an operator traps at some words that its operands may be.
use Rattle.std.proofs.Common.{◌≡◌, ℕ, ◌^◌, ◌<◌, ◌≤◌, ◌⊎◌, inl, inr, ⊎_elim, ◌↔◌, ℤ, pos, negsuc, neg_ℤ, ◌+ℤ◌, ◌-ℤ◌, ◌*ℤ◌, ◌<ℤ◌, ◌≤ℤ◌, Bool, true, false, List, [], ◌∷◌, Option, Some, None, Result, Ok, Err, refl, sym, ap, subst, ◌∙◌, w32, to_z, of_z, arith, suc, zero}
use Rattle.std.specs.Prelude.{T, not, nat_eq, if◌then◌else◌, ◌||◌, ◌==◌, ◌%◌, int_div, unwrap_or, is_err, IsTrue, int_lt, unsigned_abs}
use Rattle.std.specs.Ordering.{int_eq}
use Rattle.std.proofs.lemmas.Int.{ints}
use Rattle.std.proofs.lemmas.Bool.Decides.{Decides-int_eq, Decides-eqb}
use Rattle.op_table.specs.declared.Op.{Op}
use Rattle.op_table.specs.declared.Op.TheVariants.{Div, Pow, Mod, Bound, Step, AddChecked, SubChecked, MulChecked, NegChecked, AbsChecked, PowChecked}
use Rattle.op_table.specs.declared.Trap.{Trap}
use Rattle.op_table.specs.declared.Trap.TheVariants.{Divide, Subscript, Step as NoStep, Overflow}
use Rattle.op_table.specs.Words.{IsWord, is_word}
use Rattle.op_table.specs.Operators.{applied, unary, binary, ternary, in_a_word, checked, quotient, remainder, offset, power, raised, raised_checked, absolute, can_trap}
use Rattle.op_table.specs.Known.{MayBe, MayAllBe, CanTrap, MayBeBelow}
use Rattle.std.proofs.Math.Nat.{one-le-pow, pow-le-pow_left, pow-suc}
use lib.IntN.{*ℤ_comm}
use Rattle.op_table.proofs.Powers.{unsigned_abs-power, power-one, power-minus_one, two-le-pow, inverse-zero, inverse-one, inverse-minus_one}
use Rattle.op_table.proofs.Rows.{is_word-word, word-is_word, not_word-is_word, word-unsigned_abs, bits_back}

-- ---- operands one by one

is_err-in_a_word : (r : Result ℤ Trap) → is_err (in_a_word r) ≡ is_err r
is_err-in_a_word (Ok z) = refl
is_err-in_a_word (Err e) = refl

pub record TrapsAtOne (op : Op) (a : Option ℤ) : Type 0 where
  x : ℤ
  may_x : MayBe a x
  traps : is_err (unary op x) ≡ true

pub record TrapsAtTwo (op : Op) (a b : Option ℤ) : Type 0 where
  x : ℤ
  y : ℤ
  may_x : MayBe a x
  may_y : MayBe b y
  traps : is_err (binary op x y) ≡ true

pub record TrapsAtThree (op : Op) (a b c : Option ℤ) : Type 0 where
  x : ℤ
  y : ℤ
  z : ℤ
  may_x : MayBe a x
  may_y : MayBe b y
  may_z : MayBe c z
  traps : is_err (ternary op x y z) ≡ true

one_at : (op : Op) (a : Option ℤ) (args : List ℤ) → MayAllBe (a ∷ []) args → is_err (applied op args) ≡ true → TrapsAtOne op a
unfolding applied
one_at op a [] may e = absurd may
one_at op a (x ∷ []) may e = record { x = x; may_x = may.0; traps = sym (is_err-in_a_word (unary op x)) ∙ e }
one_at op a (x ∷ y ∷ more) may e = absurd may.1

two_at : (op : Op) (a b : Option ℤ) (args : List ℤ) → MayAllBe (a ∷ b ∷ []) args → is_err (applied op args) ≡ true → TrapsAtTwo op a b
unfolding applied
two_at op a b [] may e = absurd may
two_at op a b (x ∷ []) may e = absurd may.1
two_at op a b (x ∷ y ∷ []) may e = record { x = x; y = y; may_x = may.0; may_y = may.1.0; traps = sym (is_err-in_a_word (binary op x y)) ∙ e }
two_at op a b (x ∷ y ∷ z ∷ more) may e = absurd may.1.1

three_at : (op : Op) (a b c : Option ℤ) (args : List ℤ) → MayAllBe (a ∷ b ∷ c ∷ []) args → is_err (applied op args) ≡ true → TrapsAtThree op a b c
unfolding applied
three_at op a b c [] may e = absurd may
three_at op a b c (x ∷ []) may e = absurd may.1
three_at op a b c (x ∷ y ∷ []) may e = absurd may.1.1
three_at op a b c (x ∷ y ∷ z ∷ []) may e = record { x = x; y = y; z = z; may_x = may.0; may_y = may.1.0; may_z = may.1.1.0; traps = sym (is_err-in_a_word (ternary op x y z)) ∙ e }
three_at op a b c (x ∷ y ∷ z ∷ u ∷ more) may e = absurd may.1.1.1

pub one_can : (op : Op) (a : Option ℤ) → TrapsAtOne op a ↔ CanTrap op (a ∷ [])
unfolding applied
one_can op a = (λ t. record { args = t.x ∷ []; words = (t.may_x, tt); traps = is_err-in_a_word (unary op t.x) ∙ t.traps }, λ t. one_at op a t.args t.words t.traps)

pub two_can : (op : Op) (a b : Option ℤ) → TrapsAtTwo op a b ↔ CanTrap op (a ∷ b ∷ [])
unfolding applied
two_can op a b = (λ t. record { args = t.x ∷ t.y ∷ []; words = (t.may_x, (t.may_y, tt)); traps = is_err-in_a_word (binary op t.x t.y) ∙ t.traps }, λ t. two_at op a b t.args t.words t.traps)

pub three_can : (op : Op) (a b c : Option ℤ) → TrapsAtThree op a b c ↔ CanTrap op (a ∷ b ∷ c ∷ [])
unfolding applied
three_can op a b c =
    (λ t. record { args = t.x ∷ t.y ∷ t.z ∷ []; words = (t.may_x, (t.may_y, (t.may_z, tt))); traps = is_err-in_a_word (ternary op t.x t.y t.z) ∙ t.traps }, λ t. three_at op a b c t.args t.words t.traps)

-- ---- operators that never trap

unary_total : (op : Op) (a : ℤ) → can_trap op ≡ false → is_err (unary op a) ≡ false
unfolding unary
unary_total Step a e = let no : true ≡ false = e in absurd cc
unary_total NegChecked a e = let no : true ≡ false = e in absurd cc
unary_total AbsChecked a e = let no : true ≡ false = e in absurd cc
unary_total _ a e = refl

binary_total : (op : Op) (a b : ℤ) → can_trap op ≡ false → is_err (binary op a b) ≡ false
unfolding binary
binary_total Div a b e = let no : true ≡ false = e in absurd cc
binary_total Mod a b e = let no : true ≡ false = e in absurd cc
binary_total Pow a b e = let no : true ≡ false = e in absurd cc
binary_total AddChecked a b e = let no : true ≡ false = e in absurd cc
binary_total SubChecked a b e = let no : true ≡ false = e in absurd cc
binary_total MulChecked a b e = let no : true ≡ false = e in absurd cc
binary_total PowChecked a b e = let no : true ≡ false = e in absurd cc
binary_total _ a b e = refl

ternary_total : (op : Op) (a b c : ℤ) → can_trap op ≡ false → is_err (ternary op a b c) ≡ false
unfolding ternary
ternary_total Bound a b c e = let no : true ≡ false = e in absurd cc
ternary_total _ a b c e = refl

pub applied_total : (op : Op) (args : List ℤ) → can_trap op ≡ false → is_err (applied op args) ≡ false
unfolding applied
applied_total op [] e = refl
applied_total op (a ∷ []) e = is_err-in_a_word (unary op a) ∙ unary_total op a e
applied_total op (a ∷ b ∷ []) e = is_err-in_a_word (binary op a b) ∙ binary_total op a b e
applied_total op (a ∷ b ∷ c ∷ []) e = is_err-in_a_word (ternary op a b c) ∙ ternary_total op a b c e
applied_total op (a ∷ b ∷ c ∷ d ∷ more) e = refl

pub never_can : (op : Op) (known : List (Option ℤ)) → can_trap op ≡ false → CanTrap op known → ⊥
never_can op known e t = let no : true ≡ false = sym t.traps ∙ applied_total op t.args e in cc

-- ---- what an operand may be

abbrev pub least : Option ℤ → ℤ
least k = unwrap_or k (negsuc 2147483647)

abbrev pub greatest : Option ℤ → ℤ
greatest k = unwrap_or k (pos 2147483647)

least-le : (k : Option ℤ) (x : ℤ) → MayBe k x → least k ≤ℤ x
least-le None x may = omega (arith, ints)
least-le (Some y) x may = omega (arith, ints)

le-greatest : (k : Option ℤ) (x : ℤ) → MayBe k x → x ≤ℤ greatest k
le-greatest None x may = omega (arith, ints)
le-greatest (Some y) x may = omega (arith, ints)

least_may : (k : Option ℤ) → MayBe k (least k)
least_may None = omega (arith, ints)
least_may (Some y) = refl

greatest_may : (k : Option ℤ) → MayBe k (greatest k)
greatest_may None = omega (arith, ints)
greatest_may (Some y) = refl

T-true : (b : Bool) → T b → b ≡ true
T-true true t = refl
T-true false t = absurd t

-- ---- operators that trap at a zero

quotient-err : (a b : ℤ) → is_err (quotient a b) ≡ true → b ≡ pos 0
quotient-err a b = by (int_eq b (pos 0)) refl
  where
    by : (t : Bool) → int_eq b (pos 0) ≡ t → is_err (if t then Err Divide else Ok (int_div a b)) ≡ true → b ≡ pos 0
    by true e h = (Decides-int_eq b (pos 0)).0 e
    by false e h = let no : false ≡ true = h in absurd cc

remainder-err : (a b : ℤ) → is_err (remainder a b) ≡ true → b ≡ pos 0
remainder-err a b = by (int_eq b (pos 0)) refl
  where
    by : (t : Bool) → int_eq b (pos 0) ≡ t → is_err (if t then Err Divide else Ok (a -ℤ int_div a b *ℤ b)) ≡ true → b ≡ pos 0
    by true e h = (Decides-int_eq b (pos 0)).0 e
    by false e h = let no : false ≡ true = h in absurd cc

step-err : (a : ℤ) → is_err (unary Step a) ≡ true → a ≡ pos 0
unfolding unary
step-err a = by (int_eq a (pos 0)) refl
  where
    by : (t : Bool) → int_eq a (pos 0) ≡ t → is_err (if t then Err NoStep else Ok a) ≡ true → a ≡ pos 0
    by true e h = (Decides-int_eq a (pos 0)).0 e
    by false e h = let no : false ≡ true = h in absurd cc

pub step_can : (a : Option ℤ) → MayBe a (pos 0) ↔ TrapsAtOne Step a
unfolding unary
step_can a = (λ may. record { x = pos 0; may_x = may; traps = refl }, λ t. subst (MayBe a) (step-err t.x t.traps) t.may_x)

pub div_can : (a b : Option ℤ) → MayBe b (pos 0) ↔ TrapsAtTwo Div a b
unfolding binary
div_can a b = (λ may. record { x = least a; y = pos 0; may_x = least_may a; may_y = may; traps = refl }, λ t. subst (MayBe b) (quotient-err t.x t.y t.traps) t.may_y)

pub mod_can : (a b : Option ℤ) → MayBe b (pos 0) ↔ TrapsAtTwo Mod a b
unfolding binary
mod_can a b = (λ may. record { x = least a; y = pos 0; may_x = least_may a; may_y = may; traps = refl }, λ t. subst (MayBe b) (remainder-err t.x t.y t.traps) t.may_y)

-- ---- powers

some-pow : (x n : ℕ) → 1 ≤ x → x ^ n ≡ 0 → ⊥
some-pow x n h e = omega (arith, one-le-pow n x h)

power-eq-zero : (a : ℤ) (n : ℕ) → power a n ≡ pos 0 → a ≡ pos 0
power-eq-zero (pos zero) n e = refl
power-eq-zero (pos (suc m)) n e = absurd (some-pow (suc m) n (omega arith) (sym (unsigned_abs-power (pos (suc m)) n) ∙ ap unsigned_abs e))
power-eq-zero (negsuc m) n e = absurd (some-pow (suc m) n (omega arith) (sym (unsigned_abs-power (negsuc m) n) ∙ ap unsigned_abs e))

zero-raised : (y : ℤ) → y <ℤ pos 0 → is_err (raised (pos 0) y) ≡ true
zero-raised (pos n) h = absurd (omega (arith, ints))
zero-raised (negsuc n) h = ap is_err (inverse-zero (suc n) (omega arith))

raised-err : (x y : ℤ) → is_err (raised x y) ≡ true → (x ≡ pos 0) × (y <ℤ pos 0)
raised-err x (pos n) e = let no : false ≡ true = e in absurd cc
raised-err x (negsuc n) e = (power-eq-zero x (suc n) (quotient-err (pos 1) (power x (suc n)) e), omega (arith, ints))

pub pow_can : (a b : Option ℤ) → (MayBe a (pos 0) × MayBeBelow b (Some (pos 0))) ↔ TrapsAtTwo Pow a b
unfolding binary
pow_can a b = (
  λ h. record { x = pos 0; y = h.1.low; may_x = h.0; may_y = h.1.may_be_low; traps = zero-raised h.1.low (subst (λ z. h.1.low <ℤ z) h.1.may_be_high h.1.below) },
  λ t. let e = raised-err t.x t.y t.traps in (subst (MayBe a) e.0 t.may_x, record { low = t.y; high = pos 0; may_be_low = t.may_y; may_be_high = refl; below = e.1 }),
)

-- ---- subscripts

offset-below : (v low high : ℤ) → v <ℤ low → is_err (offset v low high) ≡ true
offset-below v low high h = ap (λ b. is_err (if b || int_lt high v then Err Subscript else Ok (v -ℤ low))) (T-true (int_lt v low) h.lt)

offset-above : (v low high : ℤ) → high <ℤ v → is_err (offset v low high) ≡ true
offset-above v low high h = ap (λ b. is_err (if int_lt v low || b then Err Subscript else Ok (v -ℤ low))) (T-true (int_lt high v) h.lt) ∙ by (int_lt v low)
  where
    by : (b : Bool) → is_err (if b || true then Err Subscript else Ok (v -ℤ low)) ≡ true
    by true = refl
    by false = refl

offset-err : (v low high : ℤ) → is_err (offset v low high) ≡ true → (v <ℤ low) ⊎ (high <ℤ v)
offset-err v low high = by (int_lt v low) (int_lt high v) refl refl
  where
    by : (p q : Bool) → int_lt v low ≡ p → int_lt high v ≡ q → is_err (if p || q then Err Subscript else Ok (v -ℤ low)) ≡ true → (v <ℤ low) ⊎ (high <ℤ v)
    by true q e f h = inl (omega (arith, ints))
    by false true e f h = inr (omega (arith, ints))
    by false false e f h = let no : false ≡ true = h in absurd cc

pub bound_can : (v low high : Option ℤ) → (MayBeBelow v low ⊎ MayBeBelow high v) ↔ TrapsAtThree Bound v low high
unfolding ternary
bound_can v low high = (
  λ h. ⊎_elim
      (λ (m : MayBeBelow v low). record { x = m.low; y = m.high; z = least high; may_x = m.may_be_low; may_y = m.may_be_high; may_z = least_may high; traps = offset-below m.low m.high (least high) m.below })
      (λ (m : MayBeBelow high v). record { x = m.high; y = least low; z = m.low; may_x = m.may_be_high; may_y = least_may low; may_z = m.may_be_low; traps = offset-above m.high (least low) m.low m.below })
      h,
  λ t. ⊎_elim
      (λ (below : t.x <ℤ t.y). inl (record { low = t.x; high = t.y; may_be_low = t.may_x; may_be_high = t.may_y; below = below }))
      (λ (above : t.z <ℤ t.x). inr (record { low = t.z; high = t.x; may_be_low = t.may_z; may_be_high = t.may_x; below = above }))
      (offset-err t.x t.y t.z t.traps),
)

-- ---- the checked dialect

-- overflow comes just where the number is no word
checked-err : (z : ℤ) → is_err (checked z) ≡ true → IsWord z → ⊥
checked-err z e w = let no : false ≡ true = sym (ap (λ b. is_err (if b then Ok z else Err Overflow)) (word-is_word z w)) ∙ e in cc

not_word-checked : (z : ℤ) → (IsWord z → ⊥) → is_err (checked z) ≡ true
not_word-checked z h = ap (λ b. is_err (if b then Ok z else Err Overflow)) (not_word-is_word z h)

-- a test that does not fail
falls_to : (b : Bool) → (b ≡ false → ⊥) → b ≡ true
falls_to true h = refl
falls_to false h = absurd (h refl)

word-checked : (z : ℤ) → is_err (checked z) ≡ false → IsWord z
word-checked z e = is_word-word z (falls_to (is_word z) (λ f. let no : true ≡ false = sym (ap (λ b. is_err (if b then Ok z else Err Overflow)) f) ∙ e in cc))

between : (x y z : ℤ) → x ≤ℤ y → y ≤ℤ z → IsWord x → IsWord z → IsWord y
between x y z h g f k = omega (arith, ints)

pub add_high : (a b : Option ℤ) → is_err (binary AddChecked (greatest a) (greatest b)) ≡ true → TrapsAtTwo AddChecked a b
add_high a b e = record { x = greatest a; y = greatest b; may_x = greatest_may a; may_y = greatest_may b; traps = e }

pub add_else : (a b : Option ℤ) → is_err (binary AddChecked (least a) (least b)) ≡ false → TrapsAtTwo AddChecked a b → is_err (binary AddChecked (greatest a) (greatest b)) ≡ true
unfolding binary
add_else a b e t = not_word-checked (greatest a +ℤ greatest b) (λ w.
    let below_x = least-le a t.x t.may_x in
    let below_y = least-le b t.y t.may_y in
    let above_x = le-greatest a t.x t.may_x in
    let above_y = le-greatest b t.y t.may_y in
    checked-err (t.x +ℤ t.y) t.traps (between (least a +ℤ least b) (t.x +ℤ t.y) (greatest a +ℤ greatest b) (omega (arith, ints)) (omega (arith, ints)) (word-checked (least a +ℤ least b) e) w))

pub sub_high : (a b : Option ℤ) → is_err (binary SubChecked (greatest a) (least b)) ≡ true → TrapsAtTwo SubChecked a b
sub_high a b e = record { x = greatest a; y = least b; may_x = greatest_may a; may_y = least_may b; traps = e }

pub sub_else : (a b : Option ℤ) → is_err (binary SubChecked (least a) (greatest b)) ≡ false → TrapsAtTwo SubChecked a b → is_err (binary SubChecked (greatest a) (least b)) ≡ true
unfolding binary
sub_else a b e t = not_word-checked (greatest a -ℤ least b) (λ w.
    let below_x = least-le a t.x t.may_x in
    let below_y = least-le b t.y t.may_y in
    let above_x = le-greatest a t.x t.may_x in
    let above_y = le-greatest b t.y t.may_y in
    checked-err (t.x -ℤ t.y) t.traps (between (least a -ℤ greatest b) (t.x -ℤ t.y) (greatest a -ℤ least b) (omega (arith, ints)) (omega (arith, ints)) (word-checked (least a -ℤ greatest b) e) w))

pub neg_can : (a : Option ℤ) → is_err (unary NegChecked (least a)) ≡ true ↔ TrapsAtOne NegChecked a
unfolding unary
neg_can a = (λ e. record { x = least a; may_x = least_may a; traps = e }, λ t. by a t.x t.may_x t.traps)
  where
    by : (a : Option ℤ) (x : ℤ) → MayBe a x → is_err (checked (neg_ℤ x)) ≡ true → is_err (checked (neg_ℤ (least a))) ≡ true
    by None x may e = refl
    by (Some y) x may e = subst (λ z. is_err (checked (neg_ℤ z)) ≡ true) may e

pub abs_can : (a : Option ℤ) → is_err (unary AbsChecked (least a)) ≡ true ↔ TrapsAtOne AbsChecked a
unfolding unary
abs_can a = (λ e. record { x = least a; may_x = least_may a; traps = e }, λ t. by a t.x t.may_x t.traps)
  where
    by : (a : Option ℤ) (x : ℤ) → MayBe a x → is_err (checked (absolute x)) ≡ true → is_err (checked (absolute (least a))) ≡ true
    by None x may e = refl
    by (Some y) x may e = subst (λ z. is_err (checked (absolute z)) ≡ true) may e

-- a factor that keeps the least word a word keeps each word one
keeps_words : (k y : ℤ) → IsWord (k *ℤ negsuc 2147483647) → IsWord y → IsWord (k *ℤ y)
keeps_words (pos zero) y w f = omega (arith, ints)
keeps_words (pos (suc zero)) y w f = omega (arith, ints)
keeps_words (pos (suc (suc n))) y w f = absurd (omega (arith, ints))
keeps_words (negsuc n) y w f = absurd (omega (arith, ints))

pub mul_can : (a b : Option ℤ) → is_err (binary MulChecked (least a) (least b)) ≡ true ↔ TrapsAtTwo MulChecked a b
unfolding binary
mul_can a b = (λ e. record { x = least a; y = least b; may_x = least_may a; may_y = least_may b; traps = e }, λ t. by a b t.x t.y t.may_x t.may_y t.traps)
  where
    by : (a b : Option ℤ) (x y : ℤ) → MayBe a x → MayBe b y → is_err (checked (x *ℤ y)) ≡ true → is_err (checked (least a *ℤ least b)) ≡ true
    by None None x y may_x may_y e = refl
    by (Some k) None x y may_x may_y e = not_word-checked (k *ℤ negsuc 2147483647) (λ w.
        checked-err (x *ℤ y) e (subst (λ z. IsWord (z *ℤ y)) (sym may_x) (keeps_words k y w may_y)))
    by None (Some k) x y may_x may_y e = not_word-checked (negsuc 2147483647 *ℤ k) (λ w.
        checked-err (x *ℤ y) e (subst IsWord (*ℤ_comm y x) (subst (λ z. IsWord (z *ℤ x)) (sym may_y) (keeps_words k x (subst IsWord (*ℤ_comm (negsuc 2147483647) k) w) may_x))))
    by (Some k) (Some j) x y may_x may_y e = subst (λ z. is_err (checked (k *ℤ z)) ≡ true) may_y (subst (λ z. is_err (checked (z *ℤ y)) ≡ true) may_x e)

-- ---- checked powers

too_large : (z : ℤ) → 2 ^ 31 < unsigned_abs z → is_err (checked z) ≡ true
too_large z h = not_word-checked z (λ w. absurd (omega (arith, word-unsigned_abs z w)))

-- 32 factors that are each 2 or more, or -2 or less
large_power : (a : ℤ) → 2 ≤ unsigned_abs a → 2 ^ 31 < unsigned_abs (power a 32)
large_power a h = let many : 2 ^ 32 ≤ unsigned_abs a ^ 32 = pow-le-pow_left h 32 in omega (arith, unsigned_abs-power a 32)

-- two factors or more that are each the least word
least_power : (n : ℕ) → 2 ^ 31 < unsigned_abs (power (negsuc 2147483647) (suc (suc n)))
least_power n = omega (arith, unsigned_abs-power (negsuc 2147483647) (suc (suc n)), pow-suc 2147483648 (suc n), two-le-pow 2147483648 n (omega arith))

pub powc_base : (k : ℤ) → (k ≡ pos 1 → ⊥) → (k ≡ negsuc 0 → ⊥) → TrapsAtTwo PowChecked (Some k) None
unfolding binary
powc_base (pos zero) one minus_one = record { x = pos 0; y = negsuc 0; may_x = refl; may_y = omega (arith, ints); traps = ap is_err (inverse-zero 1 (omega arith)) }
powc_base (pos (suc zero)) one minus_one = absurd (one refl)
powc_base (pos (suc (suc n))) one minus_one = record { x = pos (suc (suc n)); y = pos 32; may_x = refl; may_y = omega (arith, ints); traps = too_large (power (pos (suc (suc n))) 32) (large_power (pos (suc (suc n))) (omega arith)) }
powc_base (negsuc zero) one minus_one = absurd (minus_one refl)
powc_base (negsuc (suc n)) one minus_one = record { x = negsuc (suc n); y = pos 32; may_x = refl; may_y = omega (arith, ints); traps = too_large (power (negsuc (suc n)) 32) (large_power (negsuc (suc n)) (omega arith)) }

one-raised : (y : ℤ) → is_err (raised_checked (pos 1) y) ≡ false
one-raised (pos n) = ap (λ z. is_err (checked z)) (power-one n)
one-raised (negsuc n) = ap is_err (inverse-one (suc n))

minus_one-raised : (y : ℤ) → is_err (raised_checked (negsuc 0) y) ≡ false
minus_one-raised (pos n) = ap (λ z. is_err (checked z)) (power-minus_one n) ∙ by (n % 2 == 0)
  where
    by : (even : Bool) → is_err (checked (if even then pos 1 else negsuc 0)) ≡ false
    by true = refl
    by false = refl
minus_one-raised (negsuc n) = ap is_err (inverse-minus_one (suc n))

pub powc_one : TrapsAtTwo PowChecked (Some (pos 1)) None → ⊥
unfolding binary
powc_one t = let no : true ≡ false = sym t.traps ∙ ap (λ x. is_err (raised_checked x t.y)) t.may_x ∙ one-raised t.y in cc

pub powc_minus_one : TrapsAtTwo PowChecked (Some (negsuc 0)) None → ⊥
unfolding binary
powc_minus_one t = let no : true ≡ false = sym t.traps ∙ ap (λ x. is_err (raised_checked x t.y)) t.may_x ∙ minus_one-raised t.y in cc

pub powc_exponent : (k : ℤ) → (k ≡ pos 0 → ⊥) → (k ≡ pos 1 → ⊥) → TrapsAtTwo PowChecked None (Some k)
unfolding binary
powc_exponent (pos zero) none one = absurd (none refl)
powc_exponent (pos (suc zero)) none one = absurd (one refl)
powc_exponent (pos (suc (suc n))) none one = record { x = negsuc 2147483647; y = pos (suc (suc n)); may_x = omega (arith, ints); may_y = refl; traps = too_large (power (negsuc 2147483647) (suc (suc n))) (least_power n) }
powc_exponent (negsuc n) none one = record { x = pos 0; y = negsuc n; may_x = omega (arith, ints); may_y = refl; traps = ap is_err (inverse-zero (suc n) (omega arith)) }

pub powc_exponent_zero : TrapsAtTwo PowChecked None (Some (pos 0)) → ⊥
unfolding binary power
powc_exponent_zero t = let no : true ≡ false = sym t.traps ∙ ap (λ y. is_err (raised_checked t.x y)) t.may_y in cc

one_factor : (x : ℤ) → x *ℤ pos 1 ≡ x
one_factor x = omega (arith, ints)

pub powc_exponent_one : TrapsAtTwo PowChecked None (Some (pos 1)) → ⊥
unfolding binary power
powc_exponent_one t =
    let is : is_err (checked (t.x *ℤ pos 1)) ≡ true = sym (ap (λ y. is_err (raised_checked t.x y)) t.may_y) ∙ t.traps in
    checked-err t.x (sym (ap (λ z. is_err (checked z)) (one_factor t.x)) ∙ is) t.may_x

pub powc_any : TrapsAtTwo PowChecked None None
unfolding binary
powc_any = record { x = pos 0; y = negsuc 0; may_x = omega (arith, ints); may_y = omega (arith, ints); traps = ap is_err (inverse-zero 1 (omega arith)) }

-- what a row's function answers is an error just where the row over whole numbers is
pub one_err : (op : Op) (a x : ℤ) (r : Result ℤ Trap) → IsWord x → a ≡ x → r ≡ applied op (to_z w32 (of_z w32 x) ∷ []) → is_err r ≡ is_err (unary op a)
unfolding applied
one_err op a x r f e h = ap is_err h ∙ is_err-in_a_word (unary op (to_z w32 (of_z w32 x))) ∙ ap (λ z. is_err (unary op z)) (bits_back x f ∙ sym e)

pub two_err : (op : Op) (a b x y : ℤ) (r : Result ℤ Trap) → IsWord x → IsWord y → a ≡ x → b ≡ y → r ≡ applied op (to_z w32 (of_z w32 x) ∷ to_z w32 (of_z w32 y) ∷ []) → is_err r ≡ is_err (binary op a b)
unfolding applied
two_err op a b x y r f g e d h =
    ap is_err h ∙ is_err-in_a_word (binary op (to_z w32 (of_z w32 x)) (to_z w32 (of_z w32 y)))
    ∙ ap (λ z. is_err (binary op z (to_z w32 (of_z w32 y)))) (bits_back x f ∙ sym e) ∙ ap (λ z. is_err (binary op a z)) (bits_back y g ∙ sym d)

pub through : {P Q R : Type 0} → P ↔ Q → Q ↔ R → P ↔ R
through f g = (λ p. g.0 (f.0 p), λ r. f.1 (g.1 r))

-- a test that has another's answer
pub test_is : {P : Type 0} (r s : Bool) → r ≡ s → (s ≡ true ↔ P) → IsTrue r ↔ P
test_is r s e f = (λ h. f.0 (sym e ∙ h), λ p. e ∙ f.1 p)

pub true-false : {P : Type 0} {b : Bool} → b ≡ true → b ≡ false → P
true-false e f = let no : true ≡ false = sym e ∙ f in absurd cc

-- a test that two numbers differ
pub differ_test : {P : Type 0} (x y : ℕ) → ((x ≡ y → ⊥) → P) → (x ≡ y → P → ⊥) → IsTrue (not (nat_eq x y)) ↔ P
differ_test {P} x y f g = by (nat_eq x y) refl
  where
    by : (b : Bool) → nat_eq x y ≡ b → IsTrue (not b) ↔ P
    by true e = (λ h. let no : false ≡ true = h in absurd cc, λ p. absurd (g ((Decides-eqb x y).0 e) p))
    by false e = (λ h. f (λ same. true-false ((Decides-eqb x y).1 same) e), λ p. refl)

size_one : (k : ℤ) → unsigned_abs k ≡ 1 → (k ≡ pos 1) ⊎ (k ≡ negsuc 0)
size_one (pos n) e = inl (ap pos e)
size_one (negsuc n) e = inr (ap negsuc (omega arith))

pub base_test : (k : ℤ) (n : ℕ) → n ≡ unsigned_abs k → IsTrue (not (nat_eq n 1)) ↔ TrapsAtTwo PowChecked (Some k) None
base_test k n is = differ_test n 1
    (λ differ. powc_base k (λ e. differ (is ∙ ap unsigned_abs e)) (λ e. differ (is ∙ ap unsigned_abs e)))
    (λ same t. ⊎_elim
    (λ (e : k ≡ pos 1). powc_one (subst (λ z. TrapsAtTwo PowChecked (Some z) None) e t))
    (λ (e : k ≡ negsuc 0). powc_minus_one (subst (λ z. TrapsAtTwo PowChecked (Some z) None) e t))
    (size_one k (sym is ∙ same)))

pub exponent_test : (k : ℤ) → IsWord k → (of_z w32 k ≡ 0 → ⊥) → IsTrue (not (nat_eq (of_z w32 k) 1)) ↔ TrapsAtTwo PowChecked None (Some k)
exponent_test k f some = differ_test (of_z w32 k) 1
    (λ differ. powc_exponent k (λ e. some (ap (of_z w32) e)) (λ e. differ (ap (of_z w32) e)))
    (λ same t. powc_exponent_one (subst (λ z. TrapsAtTwo PowChecked None (Some z)) (sym (bits_back k f) ∙ ap (to_z w32) same) t))

pub exponent_zero_test : (k : ℤ) → IsWord k → of_z w32 k ≡ 0 → IsTrue (not (nat_eq (of_z w32 k) 0)) ↔ TrapsAtTwo PowChecked None (Some k)
exponent_zero_test k f none = differ_test (of_z w32 k) 0
    (λ differ. absurd (differ none))
    (λ same t. powc_exponent_zero (subst (λ z. TrapsAtTwo PowChecked None (Some z)) (sym (bits_back k f) ∙ ap (to_z w32) same) t))
