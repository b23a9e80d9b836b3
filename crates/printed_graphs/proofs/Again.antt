-- What was printed is read again: words and numbers.
use Rattle.std.proofs.Common.{◌≡◌, ℕ, ◌+◌, ◌-◌, ◌*◌, ◌/◌, ◌%◌, ◌^◌, ◌<◌, ◌≤◌, Bool, true, false, cond, ltb, List, [], ◌∷◌, ◌++◌, Option, Some, None, refl, sym, ap, ◌∙◌, append_assoc, arith, inl, inr}
use Rattle.std.specs.Char.{is_ascii_digit}
use Rattle.std.specs.Fmt.{decimal}
use Rattle.std.proofs.lemmas.Bool.{cases_eq, eq-eqb, ne_eqb, lt-ltb, le-leb, le-ltb, and_right, and_from}
use Rattle.std.proofs.lemmas.Fmt.{decimal_by_steps}
use Rattle.printed_graphs.specs.Reading.{after_word, digit_at, digits_on, long_number_at, number_at, after_number, after_short}

-- ---- words

pub word_again : (word rest : List ℕ) → after_word word (word ++ rest) ≡ Some rest
unfolding after_word
word_again [] rest = refl
word_again (c ∷ word) rest = rw (eq-eqb c c refl) (word_again word rest)

-- a word that a text doesn't begin with
pub word_missing : (word text : List ℕ) → ((rest : List ℕ) → text ≡ word ++ rest → ⊥) → after_word word text ≡ None
unfolding after_word
word_missing [] text none = absurd (none text refl)
word_missing (c ∷ word) [] none = refl
word_missing (c ∷ word) (d ∷ text) none =
    elim (cases_eq c d) [
      | inl same ↦ rw (eq-eqb c d same) (word_missing word text (λ rest e. none rest (ap (λ r. d ∷ r) e ∙ ap (λ x. x ∷ (word ++ rest)) (sym same))))
      | inr apart ↦ rw (ne_eqb c d apart) refl
    ]

-- ---- digits

pub is_digit : (d : ℕ) → d < 10 → is_ascii_digit (48 + d) ≡ true
is_digit d small = and_from _ _ (le-leb 48 (48 + d) (omega arith)) (le-leb (48 + d) 57 (omega arith))

pub digit_again : (d : ℕ) (rest : List ℕ) → d < 10 → digit_at ((48 + d) ∷ rest) ≡ Some (d, rest)
unfolding digit_at
digit_again d rest small =
    let back : 48 + d - 48 ≡ d = omega arith in
    rw (is_digit d small) (ap (λ n. Some (n, rest)) back)

-- no digit begins where none is at the front
no_digit : {A : Type 0} (b : Bool) (x : A) → cond b (Some x) None ≡ None → b ≡ false
no_digit true x e = absurd cc
no_digit false x e = refl

pub digits_end : (n : ℕ) (text : List ℕ) → digit_at text ≡ None → digits_on n text ≡ Some (n, text)
unfolding digit_at digits_on
digits_end n [] end = refl
digits_end n (c ∷ text) end = rw (and_right (ltb 0 n) (is_ascii_digit c) (no_digit (is_ascii_digit c) (c - 48, text) end)) refl

-- a zero is a number by itself
pub digits_zero : (text : List ℕ) → digits_on 0 text ≡ Some (0, text)
unfolding digits_on
digits_zero [] = refl
digits_zero (c ∷ text) = refl

more_by : (n c d m limit : ℕ) (text : List ℕ) → c - 48 ≡ d → m ≡ n * 10 + d → m < limit → cond (ltb (n * 10 + (c - 48)) limit) (digits_on (n * 10 + (c - 48)) text) None ≡ digits_on m text
more_by n c d m limit text value total fits =
    let same : n * 10 + (c - 48) ≡ m = omega arith in
    rw (same, lt-ltb m limit fits) refl

-- the next digit
pub digits_more : (n d m : ℕ) (text : List ℕ) → 0 < n → d < 10 → m ≡ n * 10 + d → m < 2 ^ 64 → digits_on n ((48 + d) ∷ text) ≡ digits_on m text
unfolding digits_on
digits_more n d m text some small total fits =
    let value : 48 + d - 48 ≡ d = omega arith in
    rw (lt-ltb 0 n some, is_digit d small) (more_by n (48 + d) d m (2 ^ 64) text value total fits)

-- a digit that makes the number too long
over_by : (n c d limit : ℕ) (text : List ℕ) → c - 48 ≡ d → limit ≤ n * 10 + d → cond (ltb (n * 10 + (c - 48)) limit) (digits_on (n * 10 + (c - 48)) text) None ≡ None
over_by n c d limit text value over =
    let same : n * 10 + (c - 48) ≡ n * 10 + d = omega arith in
    rw (same, le-ltb (n * 10 + d) limit over) refl

pub digits_over : (n d : ℕ) (text : List ℕ) → 0 < n → d < 10 → 2 ^ 64 ≤ n * 10 + d → digits_on n ((48 + d) ∷ text) ≡ None
unfolding digits_on
digits_over n d text some small over =
    let value : 48 + d - 48 ≡ d = omega arith in
    rw (lt-ltb 0 n some, is_digit d small) (over_by n (48 + d) d (2 ^ 64) text value over)

-- ---- numbers

abbrev GoesOn : ℕ → List ℕ → Type 0
GoesOn n digits = n < 2 ^ 64 → (rest : List ℕ) → long_number_at (digits ++ rest) ≡ digits_on n rest

one_digit : (n : ℕ) → n < 10 → GoesOn n ((48 + n) ∷ [])
unfolding long_number_at
one_digit n small fits rest = rw (digit_again n rest small) refl

one_more : (n : ℕ) (digits : List ℕ) → 10 ≤ n → GoesOn (n / 10) digits → GoesOn n (digits ++ ((48 + n % 10) ∷ []))
one_more n digits ten front fits rest =
    let within : n / 10 < 2 ^ 64 = omega arith in
    let some : 0 < n / 10 = omega arith in
    let small : n % 10 < 10 = omega arith in
    let total : n ≡ n / 10 * 10 + n % 10 = omega arith in
    ap long_number_at (append_assoc digits ((48 + n % 10) ∷ []) rest)
    ∙ front within ((48 + n % 10) ∷ rest)
    ∙ digits_more (n / 10) (n % 10) n rest some small total fits

pub long_number_again : (n : ℕ) (rest : List ℕ) → n < 2 ^ 64 → digit_at rest ≡ None → long_number_at (decimal n ++ rest) ≡ Some (n, rest)
long_number_again n rest fits end = decimal_by_steps GoesOn one_digit one_more n fits fits rest ∙ digits_end n rest end

pub number_again : (n : ℕ) (rest : List ℕ) → n < 2 ^ 32 → digit_at rest ≡ None → number_at (decimal n ++ rest) ≡ Some (n, rest)
unfolding number_at
number_again n rest fits end =
    let long : n < 2 ^ 64 = omega arith in
    rw (long_number_again n rest long end, lt-ltb n (2 ^ 32) fits) refl

pub after_number_again : (n : ℕ) (rest : List ℕ) → n < 2 ^ 32 → digit_at rest ≡ None → after_number n (decimal n ++ rest) ≡ Some rest
unfolding after_number
after_number_again n rest fits end = rw (number_again n rest fits end, eq-eqb n n refl) refl

pub after_short_again : (n : ℕ) (rest : List ℕ) → n < 2 ^ 32 → digit_at rest ≡ None → after_short (decimal n ++ rest) ≡ Some rest
unfolding after_short
after_short_again n rest fits end = rw (number_again n rest fits end) refl

-- ---- as the loop over digits goes

pub no_first : (text : List ℕ) → None ≡ digit_at text → None ≡ long_number_at text
unfolding long_number_at
no_first text none =
    let missing : digit_at text ≡ None = sym none in
    rw missing refl

pub from_first : (d n : ℕ) (text rest : List ℕ) → n ≡ d → Some (d, rest) ≡ digit_at text → digits_on n rest ≡ long_number_at text
unfolding long_number_at
from_first d n text rest same first =
    let found : digit_at text ≡ Some (d, rest) = sym first in
    rw (found, same) refl

pub from_next : (n d m : ℕ) (text rest : List ℕ) (whole : Option (ℕ × List ℕ)) → text ≡ (48 + d) ∷ rest → 0 < n → d < 10 → m ≡ n * 10 + d → m < 2 ^ 64 → digits_on n text ≡ whole → digits_on m rest ≡ whole
from_next n d m text rest whole next some small total fits so_far = sym (ap (digits_on n) next ∙ digits_more n d m rest some small total fits) ∙ so_far

pub at_over : (n d : ℕ) (text rest : List ℕ) (whole : Option (ℕ × List ℕ)) → text ≡ (48 + d) ∷ rest → 0 < n → d < 10 → 2 ^ 64 ≤ n * 10 + d → digits_on n text ≡ whole → None ≡ whole
at_over n d text rest whole next some small over so_far = sym (ap (digits_on n) next ∙ digits_over n d rest some small over) ∙ so_far

pub at_end : (n : ℕ) (text : List ℕ) (whole : Option (ℕ × List ℕ)) → None ≡ digit_at text → digits_on n text ≡ whole → Some (n, text) ≡ whole
at_end n text whole end so_far = sym (digits_end n text (sym end)) ∙ so_far

pub at_zero : (n : ℕ) (text : List ℕ) (whole : Option (ℕ × List ℕ)) → n ≡ 0 → digits_on n text ≡ whole → Some (n, text) ≡ whole
at_zero n text whole none so_far = sym (ap (λ m. digits_on m text) none ∙ digits_zero text ∙ ap (λ m. Some (m, text)) (sym none)) ∙ so_far
