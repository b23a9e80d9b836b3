-- Names, letters, numbers, labels, repeats, constants and expressions that are kept.
use Rattle.std.proofs.Common.{◌≡◌, ◌≤◌, ◌==◌, ℕ, ℤ, Bool, true, false, ◌||◌, List, [], ◌∷◌, codes, length, Some, None, if◌then◌else◌, ⊎_elim, refl, sym, ap, subst, ◌∙◌, arith}
use Rattle.std.specs.Prelude.{pos, ◌-ℤ◌, min, nat_lt, drop, take_while}
use Rattle.std.proofs.Math.Bool.{or_assoc, or_comm}
use Rattle.std.proofs.lemmas.Bool.{or_parts, or_right, cases_lt, lt-ltb, le-ltb, ltb-false, eqb-true}
use Rattle.f77_tree.specs.Name.{is_figure}
use Rattle.f77_tree.specs.Grammar.{Written, number_of, has_great_number}
use Rattle.f77_tree.specs.declared.declarations.Lit.TheVariants.{Int, Truth}
use Rattle.f77_tree.specs.declared.declarations.InitValue.{InitValue}
use Rattle.f77_tree.specs.StatementGrammar.{Sign, signed_value, is_great, is_bad_label, WrittenConstant, constant_is_great, value_is_bad}
use Rattle.f77_expr.specs.Answers.{kept}
use Rattle.f77_expr.specs.Reader.{Reads, read_as, after_prefix, this_or}
use Rattle.f77_parse.specs.Parts.{number_at, name_at, letter_at, signed_at, truth_at, constant_at, value_after, value_begun, value_at, unsigned, expression_at_start}
use Rattle.f77_parse.specs.Keeping.{Keeps, keep_then, where_prefix, kept_plain, skipped, wanted, name_kept, letter_kept, number_kept, kept_expression, expression_kept, is_great_number, constant_in, is_no_label, label_in, is_no_repeat, repeat_in, label_kept, signed_kept, truth_kept, constant_kept, some_constants, value_kept}
use Rattle.f77_parse.specs.KeptValues.{or_zero, kept_label, kept_number, kept_signed, kept_constant, is_bad_repeat, kept_value}
use Rattle.f77_parse.proofs.FollowLemmas.{told, never_bad, no_flag, plain_told, as_told, prefix_told, wanted_told, if_told, eq_flip}

-- ---- names, letters and expressions

pub name_told : (bad : Bool) (text : List ℕ) → name_kept bad text ≡ told (λ (name : List ℕ). name) never_bad bad (name_at text)
unfolding name_kept
name_told bad text = plain_told (λ name. name) bad (name_at text)

pub letter_told : (bad : Bool) (text : List ℕ) → letter_kept bad text ≡ told (λ (c : ℕ). c) never_bad bad (letter_at text)
unfolding letter_kept
letter_told bad text = plain_told (λ c. c) bad (letter_at text)

pub expression_told : (bad : Bool) (text : List ℕ) → expression_kept bad text ≡ told kept has_great_number bad (expression_at_start text)
unfolding expression_kept
expression_told bad text = by (expression_at_start text)
  where
    by : (x : Reads Written) → kept_expression bad x ≡ told kept has_great_number bad x
    by None = refl
    by (Some (w, rest)) = refl

-- ---- a number is kept up to one more than the greatest constant

great_kept : (n : ℕ) → is_great_number (min n 2147483648) ≡ nat_lt 2147483647 n
great_kept n = ⊎_elim (λ less. lt-ltb 2147483647 (min n 2147483648) (omega arith) ∙ sym (lt-ltb 2147483647 n less)) (λ more. le-ltb 2147483647 (min n 2147483648) (omega arith) ∙ sym (le-ltb 2147483647 n more)) (cases_lt 2147483647 n)

small_kept : (n : ℕ) → n ≤ 2147483648 → min n 2147483648 ≡ n
small_kept n h = omega arith

or_zero_same : (b : Bool) (m n : ℕ) → (b ≡ false → m ≡ n) → or_zero b m ≡ or_zero b n
or_zero_same true m n same = refl
or_zero_same false m n same = same refl

value_in : (n : ℕ) → constant_in (min n 2147483648) ≡ or_zero (nat_lt 2147483647 n) n
value_in n =
    ap (λ (b : Bool). or_zero b (min n 2147483648)) (great_kept n)
    ∙ or_zero_same (nat_lt 2147483647 n) (min n 2147483648) n (λ small. small_kept n (omega (arith, ltb-false 2147483647 n small)))

no_label : (n : ℕ) → is_no_label (min n 2147483648) ≡ ((n == 0) || nat_lt 99999 n)
no_label n = ⊎_elim
    (λ great. or_right (min n 2147483648 == 0) (nat_lt 99999 (min n 2147483648)) (lt-ltb 99999 (min n 2147483648) (omega arith)) ∙ sym (or_right (n == 0) (nat_lt 99999 n) (lt-ltb 99999 n (omega arith))))
    (λ small. ap is_no_label (small_kept n (omega arith)))
    (cases_lt 2147483647 n)

label_value : (n : ℕ) → label_in (min n 2147483648) ≡ or_zero ((n == 0) || nat_lt 99999 n) n
label_value n =
    ap (λ (b : Bool). or_zero b (min n 2147483648)) (no_label n)
    ∙ or_zero_same ((n == 0) || nat_lt 99999 n) (min n 2147483648) n (λ small. small_kept n (omega (arith, ltb-false 99999 n (or_parts (n == 0) (nat_lt 99999 n) small).1)))

no_repeat : (n : ℕ) → is_no_repeat (min n 2147483648) ≡ (nat_lt 2147483647 n || (n == 0))
no_repeat n = ⊎_elim
    (λ great. or_right (min n 2147483648 == 0) (nat_lt 2147483647 (min n 2147483648)) (lt-ltb 2147483647 (min n 2147483648) (omega arith)) ∙ sym (ap (λ (b : Bool). b || (n == 0)) (lt-ltb 2147483647 n (omega arith))))
    (λ small. ap is_no_repeat (small_kept n (omega arith)) ∙ or_comm (n == 0) (nat_lt 2147483647 n))
    (cases_lt 2147483647 n)

repeat_value : (n : ℕ) → repeat_in (min n 2147483648) ≡ or_zero (nat_lt 2147483647 n || (n == 0)) n
repeat_value n =
    ap (λ (b : Bool). or_zero b (min n 2147483648)) (no_repeat n)
    ∙ or_zero_same (nat_lt 2147483647 n || (n == 0)) (min n 2147483648) n (λ small. small_kept n (omega (arith, ltb-false 2147483647 n (or_parts (nat_lt 2147483647 n) (n == 0) small).0)))

-- ---- labels

pub label_told : (bad : Bool) (text : List ℕ) → label_kept bad text ≡ told kept_label is_bad_label bad (number_at text)
unfolding label_kept number_kept
label_told bad text = by (number_at text)
  where
    by : (x : Reads (List ℕ)) → keep_then (kept_plain (λ digits. min (number_of digits) 2147483648) bad x) (λ n bad_now rest. Some (label_in n, bad_now || is_no_label n, rest)) ≡ told kept_label is_bad_label bad x
    by None = refl
    by (Some (digits, rest)) =
        ap (λ (n : ℕ). Some (n, bad || is_no_label (min (number_of digits) 2147483648), rest)) (label_value (number_of digits))
        ∙ ap (λ (b : Bool). Some (kept_label digits, bad || b, rest)) (no_label (number_of digits))

-- ---- signed numbers

-- a sign before digits
with_sign : (sign : Sign) (g : ℕ → ℤ) → ((n : ℕ) → g n ≡ signed_value sign (constant_in n)) → (bad : Bool) (text : List ℕ) → keep_then (number_kept bad text) (λ n bad_now rest. Some (g n, bad_now || is_great_number n, rest)) ≡ told kept_signed (λ n. is_great n.digits) bad (read_as (λ digits. record { sign = sign; digits = digits }) (number_at text))
unfolding number_kept
with_sign sign g same bad text = by (number_at text)
  where
    by : (x : Reads (List ℕ)) → keep_then (kept_plain (λ digits. min (number_of digits) 2147483648) bad x) (λ n bad_now rest. Some (g n, bad_now || is_great_number n, rest)) ≡ told kept_signed (λ n. is_great n.digits) bad (read_as (λ digits. record { sign = sign; digits = digits }) x)
    by None = refl
    by (Some (digits, rest)) =
        ap (λ (z : ℤ). Some (z, bad || is_great_number (min (number_of digits) 2147483648), rest)) (same (min (number_of digits) 2147483648) ∙ ap (signed_value sign) (value_in (number_of digits)))
        ∙ ap (λ (b : Bool). Some (signed_value sign (kept_number digits), bad || b, rest)) (great_kept (number_of digits))

pub signed_told : (bad : Bool) (text : List ℕ) → signed_kept bad text ≡ told kept_signed (λ n. is_great n.digits) bad (signed_at text)
unfolding signed_kept
signed_told bad [] = with_sign Sign.No_sign (λ n. pos (constant_in n)) (λ n. refl) bad []
signed_told bad (c ∷ text) =
    subst (λ (b : Bool). Signed (c == 43) (c == 45) b (43 == c)) (eq_flip c 45)
    (subst (λ (b : Bool). Signed (c == 43) (c == 45) (c == 45) b) (eq_flip c 43)
    (by (c == 43) (c == 45) (λ plus minus. absurd (omega (arith, eqb-true c 43 plus, eqb-true c 45 minus)))))
  where
    Signed : Bool → Bool → Bool → Bool → Type 0
    Signed plus minus minus_kept plus_kept =
        let sign : Sign × List ℕ = if plus then (Sign.Plus_sign, text) else (if minus then (Sign.Minus_sign, text) else (Sign.No_sign, c ∷ text)) in
        where_prefix (if minus_kept then Some text else None)
        (λ beyond. keep_then (number_kept bad beyond) (λ n bad_now rest. Some (pos 0 -ℤ pos (constant_in n), bad_now || is_great_number n, rest)))
        (keep_then (number_kept bad (skipped (if plus_kept then Some text else None) (c ∷ text))) (λ n bad_now rest. Some (pos (constant_in n), bad_now || is_great_number n, rest)))
        ≡ told kept_signed (λ n. is_great n.digits) bad (read_as (λ digits. record { sign = sign.0; digits = digits }) (number_at sign.1))

    by : (plus minus : Bool) → (plus ≡ true → minus ≡ true → ⊥) → Signed plus minus minus plus
    by true true not_both = absurd (not_both refl refl)
    by true false not_both = with_sign Sign.Plus_sign (λ n. pos (constant_in n)) (λ n. refl) bad text
    by false true not_both = with_sign Sign.Minus_sign (λ n. pos 0 -ℤ pos (constant_in n)) (λ n. refl) bad text
    by false false not_both = with_sign Sign.No_sign (λ n. pos (constant_in n)) (λ n. refl) bad (c ∷ text)

-- ---- constants

truth_told : (bad : Bool) (text : List ℕ) → truth_kept bad text ≡ told (λ (b : Bool). b) never_bad bad (truth_at text)
unfolding truth_kept
truth_told bad text =
    prefix_told (λ b. b) never_bad bad (λ prefix. this_or true prefix (this_or false (after_prefix (codes ".FALSE.") text) None)) (λ rest. Some (true, bad, rest)) (keep_then (wanted (codes ".FALSE.") bad text) (λ found bad_now rest. Some (false, bad_now, rest))) (after_prefix (codes ".TRUE.") text)
    (λ rest. no_flag true bad rest)
    (wanted_told (λ b. b) never_bad bad (λ prefix. this_or false prefix None) (λ found bad_now rest. Some (false, bad_now, rest)) (codes ".FALSE.") bad text refl (λ rest. no_flag false bad rest))

number_constant : (bad : Bool) (text : List ℕ) → keep_then (signed_kept bad text) (λ z bad_now rest. Some (Int z, bad_now, rest)) ≡ told kept_constant constant_is_great bad (read_as (λ n. WrittenConstant.Whole n) (signed_at text))
number_constant bad text = as_told kept_signed (λ n. is_great n.digits) bad kept_constant constant_is_great bad (λ n. WrittenConstant.Whole n) (λ z. Int z) (signed_at text) (signed_kept bad text) (signed_told bad text) (λ n. refl) (λ n. refl)

truth_constant : (bad : Bool) (text : List ℕ) → keep_then (truth_kept bad text) (λ b bad_now rest. Some (Truth b, bad_now, rest)) ≡ told kept_constant constant_is_great bad (read_as (λ b. WrittenConstant.Logical_value b) (truth_at text))
truth_constant bad text = as_told (λ (b : Bool). b) never_bad bad kept_constant constant_is_great bad (λ b. WrittenConstant.Logical_value b) (λ b. Truth b) (truth_at text) (truth_kept bad text) (truth_told bad text) (λ b. refl) (λ b. refl)

constant_told : (bad : Bool) (text : List ℕ) → constant_kept bad text ≡ told kept_constant constant_is_great bad (constant_at text)
unfolding constant_kept
constant_told bad [] = number_constant bad []
constant_told bad (c ∷ text) =
    if_told kept_constant constant_is_great bad (c == 46) (read_as (λ b. WrittenConstant.Logical_value b) (truth_at (c ∷ text))) (read_as (λ n. WrittenConstant.Whole n) (signed_at (c ∷ text)))
    (keep_then (truth_kept bad (c ∷ text)) (λ b bad_now rest. Some (Truth b, bad_now, rest))) (keep_then (signed_kept bad (c ∷ text)) (λ z bad_now rest. Some (Int z, bad_now, rest)))
    (truth_constant bad (c ∷ text)) (number_constant bad (c ∷ text))

-- ---- values of DATA

-- a constant that is alone
constant_alone : (bad : Bool) (text : List ℕ) → some_constants 1 bad text ≡ told kept_value value_is_bad bad (read_as (λ constant. record { times = None; constant = constant }) (constant_at text))
constant_alone bad text =
    as_told kept_constant constant_is_great bad kept_value value_is_bad bad (λ constant. record { times = None; constant = constant }) (λ constant. record { times = 1; value = constant }) (constant_at text) (constant_kept bad text) (constant_told bad text)
    (λ constant. refl) (λ constant. refl)

-- a constant after a repeat
repeated : (digits : List ℕ) (bad : Bool) (text : List ℕ) → some_constants (repeat_in (min (number_of digits) 2147483648)) (bad || is_no_repeat (min (number_of digits) 2147483648)) text ≡ told kept_value value_is_bad bad (read_as (λ constant. record { times = Some digits; constant = constant }) (constant_at text))
repeated digits bad text =
    ap (λ (times : ℕ). some_constants times (bad || is_no_repeat (min (number_of digits) 2147483648)) text) (repeat_value (number_of digits))
    ∙ ap (λ (b : Bool). some_constants (or_zero (is_bad_repeat digits) (number_of digits)) (bad || b) text) (no_repeat (number_of digits))
    ∙ as_told kept_constant constant_is_great (bad || is_bad_repeat digits) kept_value value_is_bad bad (λ constant. record { times = Some digits; constant = constant }) (λ constant. record { times = or_zero (is_bad_repeat digits) (number_of digits); value = constant }) (constant_at text) (constant_kept (bad || is_bad_repeat digits) text) (constant_told (bad || is_bad_repeat digits) text)
    (λ constant. refl) (λ constant. or_assoc bad (is_bad_repeat digits) (constant_is_great constant))

-- digits that are the constant
digits_alone : (digits : List ℕ) (bad : Bool) (rest : List ℕ) → ◌≡◌ {A = Keeps InitValue} (Some (record { times = 1; value = Int (pos (constant_in (min (number_of digits) 2147483648))) }, bad || is_great_number (min (number_of digits) 2147483648), rest)) (told kept_value value_is_bad bad (Some (record { times = None; constant = WrittenConstant.Whole (unsigned digits) }, rest)))
digits_alone digits bad rest =
    ap (λ (n : ℕ). Some (record { times = 1; value = Int (pos n) }, bad || is_great_number (min (number_of digits) 2147483648), rest)) (value_in (number_of digits))
    ∙ ap (λ (b : Bool). Some (record { times = 1; value = Int (pos (kept_number digits)) }, bad || b, rest)) (great_kept (number_of digits))

pub value_told : (bad : Bool) (text : List ℕ) → value_kept bad text ≡ told kept_value value_is_bad bad (value_at text)
unfolding value_kept number_kept
value_told bad text = by (nat_lt 0 (length digits))
  where
    digits : List ℕ
    digits = take_while is_figure text

    after_number : ℕ → Bool → List ℕ → Keeps InitValue
    after_number n bad_now rest =
        where_prefix (after_prefix (codes "*") rest)
        (λ beyond. some_constants (repeat_in n) (bad_now || is_no_repeat n) beyond)
        (Some (record { times = 1; value = Int (pos (constant_in n)) }, bad_now || is_great_number n, rest))

    by : (some : Bool) → let number : Reads (List ℕ) = if some then Some (digits, drop (length digits) text) else None in (if some then keep_then (kept_plain (λ digits. min (number_of digits) 2147483648) bad number) after_number else some_constants 1 bad text) ≡ told kept_value value_is_bad bad (value_begun text number)
    by true =
        let rest : List ℕ = drop (length digits) text in
        let n = min (number_of digits) 2147483648 in
        prefix_told kept_value value_is_bad bad (λ prefix. value_after digits rest prefix) (λ beyond. some_constants (repeat_in n) (bad || is_no_repeat n) beyond) (Some (record { times = 1; value = Int (pos (constant_in n)) }, bad || is_great_number n, rest)) (after_prefix (codes "*") rest)
        (λ next. repeated digits bad next)
        (digits_alone digits bad rest)
    by false = constant_alone bad text
