-- Words of 64 bits as sets of numbers.
use Rattle.std.proofs.Common.{◌≡◌, ◌≢◌, ℕ, zero, ◌+◌, ◌-◌, ◌*◌, ◌/◌, ◌%◌, ◌^◌, ◌<◌, ◌≤◌, min, Bool, true, false, ◌||◌, ◌&&◌, ◌==◌, List, length, not, get_or, set, replicate, refl, ap, ◌∙◌, sym, ⊎_elim, arith, bit_and, bit_or, get_or-set_same, get_or-set_other, div-le_self, Option, Some, None, MatchOption}
use Rattle.std.proofs.lemmas.Nat.Bits.{bit_at-zero, bit_at_and, bit_at_or, bit_at_set_same, bit_at_set_other, bit_at-trailing_zeros, bit_at-lt, bit_at_above, bit_at_not}
use Rattle.std.proofs.lemmas.List.{get_or_past, get_or-replicate, length-replicate}
use Rattle.std.proofs.lemmas.Bool.{cases_eq, cases_lt}
use Rattle.std.proofs.lemmas.Bool.Decides.{nat_tests}
use Rattle.std.proofs.lemmas.Nat.{shr-shr}
use Rattle.std.specs.Int.Bits.{and_lt}
use Rattle.std.specs.Int.{bit_not}
use Rattle.std.specs.Int.{bit_at, trailing_zeros, w64}
use Rattle.class_set.specs.Members.{bit_of, IsNext, IsLast, IsLeast, IsPast, IsLowest, IsClear, first_above}

-- a blank word has no bit
blank : (i : ℕ) → (bit_at 0 i == 1) ≡ false
blank i = rw bit_at-zero refl

-- past the words there is no member
pub bit_of-past : (words : List ℕ) (k : ℕ) → length words ≤ k / 64 → bit_of words k ≡ false
unfolding bit_of
bit_of-past words k past = rw (get_or_past words (k / 64) 0 past) (blank (k % 64))

get_or-zeros : (n i : ℕ) → get_or (replicate n zero) i zero ≡ zero
get_or-zeros n i = ⊎_elim
    (λ (h : i < n). get_or-replicate n i zero zero h)
    (λ (h : n ≤ i). get_or_past (replicate n zero) i zero (rw length-replicate h))
    (cases_lt i n)

pub bit_of-blank : (n k : ℕ) → bit_of (replicate n 0) k ≡ false
unfolding bit_of
bit_of-blank n k = rw (get_or-zeros n (k / 64)) (blank (k % 64))

-- a bit that is set, beside the others of its word
set_bit : (word n k : ℕ) → n < 64 → k < 64 → (bit_at (bit_or word (1 * 2 ^ n % 18446744073709551616)) k == 1) ≡ (k == n || (bit_at word k == 1))
set_bit word n k n_within k_within = ⊎_elim
    (λ (h : k ≡ n). let e : bit_at (bit_or word (1 * 2 ^ n % 18446744073709551616)) k ≡ 1 = rw h (bit_at_set_same w64 word n n_within) in grind (arith, nat_tests))
    (λ (h : k ≢ n). let e : bit_at (bit_or word (1 * 2 ^ n % 18446744073709551616)) k ≡ bit_at word k = bit_at_set_other w64 word n n_within k h in grind (arith, nat_tests))
    (cases_eq k n)

pub bit_of-set : (words : List ℕ) (n k : ℕ) → n / 64 < length words → bit_of (set words (n / 64) (bit_or (get_or words (n / 64) 0) (1 * 2 ^ (n % 64) % 18446744073709551616))) k ≡ (k == n || bit_of words k)
unfolding bit_of
bit_of-set words n k within = ⊎_elim
    (λ (h : k / 64 ≡ n / 64).
    let same = set_bit (get_or words (n / 64) 0) (n % 64) (k % 64) (omega arith) (omega arith) in
    let e : (k % 64 == n % 64) ≡ (k == n) = grind (arith, nat_tests) in
    rw h (rw get_or-set_same (rw e at same)))
    (λ (h : k / 64 ≢ n / 64).
    let e : (k == n) ≡ false = grind (arith, nat_tests) in
    rw (get_or-set_other, e) refl)
    (cases_eq (k / 64) (n / 64))

-- the bits of either word
pub or_bit : (a b k : ℕ) → (bit_at (bit_or a b) k == 1) ≡ ((bit_at a k == 1) || (bit_at b k == 1))
or_bit a b k =
    let e = bit_at_or a b k in
    let a_low = bit_at-lt a k in
    let b_low = bit_at-lt b k in
    grind (arith, nat_tests)

pub bit_of-or : (words others united : List ℕ) (k : ℕ) → get_or united (k / 64) 0 ≡ bit_or (get_or words (k / 64) 0) (get_or others (k / 64) 0) → bit_of united k ≡ (bit_of words k || bit_of others k)
unfolding bit_of
bit_of-or words others united k e = rw e (or_bit (get_or words (k / 64) 0) (get_or others (k / 64) 0) (k % 64))

-- a bit of the word without its low bits
shifted : (word first i : ℕ) → bit_at (word / 2 ^ first) i ≡ bit_at word (first + i)
shifted word first i = ap (λ x. x % 2) (shr-shr word first i)

pub IsClear-shifted : (word first : ℕ) → word / 2 ^ first ≡ 0 → IsClear word first
IsClear-shifted word first none k above =
    let e : first + (k - first) ≡ k = omega arith in
    let bit = shifted word first (k - first) in
    ap (bit_at word) (sym e) ∙ sym bit ∙ ap (λ x. bit_at x (k - first)) none ∙ bit_at-zero (k - first)

pub IsLowest-shifted : (word first : ℕ) → word < 2 ^ 64 → 0 < word / 2 ^ first → IsLowest word first (first + trailing_zeros w64 (word / 2 ^ first))
IsLowest-shifted word first fits some =
    let rest_fits : word / 2 ^ first < 2 ^ 64 = omega (arith, div-le_self word (2 ^ first)) in
    let z = trailing_zeros w64 (word / 2 ^ first) in
    let found = bit_at-trailing_zeros w64 (word / 2 ^ first) some rest_fits in
    let is_set : bit_at word (first + z) ≡ 1 = sym (shifted word first z) ∙ found.1 in
    record {
      set = is_set;
      from = omega arith;
      within = ⊎_elim
          (λ (h : first + z < 64). h)
          (λ (h : 64 ≤ first + z). absurd (omega (arith, is_set, bit_at_above word 64 (first + z) fits h)))
          (cases_lt (first + z) 64);
      lowest = λ k above below.
          let e : first + (k - first) ≡ k = omega arith in
          ap (bit_at word) (sym e) ∙ sym (shifted word first (k - first)) ∙ found.2 (k - first) (omega arith);
    }

-- a member is a bit of its word
bit_of-at : (words : List ℕ) (at bit : ℕ) → bit < 64 → bit_of words (64 * at + bit) ≡ (bit_at (get_or words at 0) bit == 1)
unfolding bit_of
bit_of-at words at bit within =
    let word : (64 * at + bit) / 64 ≡ at = omega arith in
    let place : (64 * at + bit) % 64 ≡ bit = omega arith in
    rw (word, place) refl

-- no member stands in a word without bits from a place on
passes_word : (words : List ℕ) (at low k : ℕ) → low < 64 → IsClear (get_or words at 0) low → 64 * at + low ≤ k → k < 64 * (at + 1) → bit_of words k ≡ false
passes_word words at low k in_word clear from below =
    let e : 64 * at + (k - 64 * at) ≡ k = omega arith in
    let none : bit_at (get_or words at 0) (k - 64 * at) ≡ 0 = clear (k - 64 * at) (omega arith) in
    ap (bit_of words) (sym e) ∙ bit_of-at words at (k - 64 * at) (omega arith) ∙ ap (λ x. x == 1) none

-- no member stands from first up to a place in a word
abbrev pub Passed : List ℕ → (first at low : ℕ) → Type 0
Passed words first at low = (k : ℕ) → first ≤ k → k < 64 * at + low → bit_of words k ≡ false

pub Passed-word : (words : List ℕ) (first at low : ℕ) → low < 64 → Passed words first at low → IsClear (get_or words at 0) low → Passed words first (at + 1) 0
Passed-word words first at low in_word passed clear k from below = ⊎_elim
    (λ (h : k < 64 * at + low). passed k from h)
    (λ (h : 64 * at + low ≤ k). passes_word words at low k in_word clear h (omega arith))
    (cases_lt k (64 * at + low))

pub IsPast-end : (words : List ℕ) (first at low : ℕ) → length words ≤ at → Passed words first at low → IsPast (bit_of words) first
IsPast-end words first at low end passed k from = ⊎_elim
    (λ (h : k < 64 * at + low). passed k from h)
    (λ (h : 64 * at + low ≤ k). bit_of-past words k (omega arith))
    (cases_lt k (64 * at + low))

pub IsLeast-found : (words : List ℕ) (first at low bit : ℕ) → low < 64 → first ≤ 64 * at + low → Passed words first at low → IsLowest (get_or words at 0) low bit → IsLeast (bit_of words) first (64 * at + bit)
IsLeast-found words first at low bit in_word begin passed found =
    let from_low : low ≤ bit = found.from in
    let within : bit < 64 = found.within in
    record {
      member = bit_of-at words at bit found.within ∙ ap (λ x. x == 1) found.set;
      from = omega arith;
      least = λ k from below. ⊎_elim
          (λ (h : k < 64 * at + low). passed k from h)
          (λ (h : 64 * at + low ≤ k).
          let e : 64 * at + (k - 64 * at) ≡ k = omega arith in
          let none : bit_at (get_or words at 0) (k - 64 * at) ≡ 0 = found.lowest (k - 64 * at) (omega arith) (omega arith) in
          ap (bit_of words) (sym e) ∙ bit_of-at words at (k - 64 * at) (omega arith) ∙ ap (λ x. x == 1) none)
          (cases_lt k (64 * at + low));
    }

module _ (p : ℕ → Bool) where
  IsNext-least : (n : Option ℕ) (m : ℕ) → IsLeast p (first_above n) m → IsNext p n m
  IsNext-least None m found = record { member = found.member; above = tt; least = λ k above below. found.least k (omega arith) below }
  IsNext-least (Some n) m found = record { member = found.member; above = omega (arith, found.from); least = λ k above below. found.least k (omega arith) below }

  IsLast-past : (n : Option ℕ) → IsPast p (first_above n) → IsLast p n
  IsLast-past None past k above = past k (omega arith)
  IsLast-past (Some n) past k above = past k (omega arith)

  pub next_from_least : (n r : Option ℕ) → MatchOption r (IsPast p (first_above n)) (IsLeast p (first_above n)) → MatchOption r (IsLast p n) (IsNext p n)
  next_from_least n None past = IsLast-past n past
  next_from_least n (Some m) found = IsNext-least n m found

-- a number that is a member of both
pub record Common (words others : List ℕ) : Type 0 where
  pub number : ℕ
  pub first : bit_of words number ≡ true
  pub second : bit_of others number ≡ true

pub common_bit : (words others : List ℕ) (at : ℕ) → bit_and (get_or words at 0) (get_or others at 0) ≢ 0 → get_or words at 0 < 2 ^ 64 → get_or others at 0 < 2 ^ 64 → Common words others
common_bit words others at some fits others_fit =
    let a = get_or words at 0 in
    let b = get_or others at 0 in
    let found = bit_at-trailing_zeros w64 (bit_and a b) (omega arith) (and_lt 64 a b fits others_fit) in
    let z = trailing_zeros w64 (bit_and a b) in
    let both : min (bit_at a z) (bit_at b z) ≡ 1 = sym (bit_at_and a b z) ∙ found.1 in
    let in_a : bit_at a z ≡ 1 = omega (arith, both, bit_at-lt a z) in
    let in_b : bit_at b z ≡ 1 = omega (arith, both, bit_at-lt b z) in
    record {
      number = 64 * at + z;
      first = bit_of-at words at z found.0 ∙ ap (λ x. x == 1) in_a;
      second = bit_of-at others at z found.0 ∙ ap (λ x. x == 1) in_b;
    }

set_bits : (a b k : ℕ) → bit_and a b ≡ 0 → (bit_at a k == 1) ≡ true → (bit_at b k == 1) ≡ true → ⊥
set_bits a b k none in_a in_b =
    let zero_bit : min (bit_at a k) (bit_at b k) ≡ 0 = sym (bit_at_and a b k) ∙ ap (λ x. bit_at x k) none ∙ bit_at-zero k in
    grind (arith, nat_tests)

pub no_common : (words others : List ℕ) (k : ℕ) → bit_and (get_or words (k / 64) 0) (get_or others (k / 64) 0) ≡ 0 → bit_of words k ≡ true → bit_of others k ≡ true → ⊥
unfolding bit_of
no_common words others k none first second = set_bits (get_or words (k / 64) 0) (get_or others (k / 64) 0) (k % 64) none first second

pub no_common_past : (words : List ℕ) (k : ℕ) → length words ≤ k / 64 → bit_of words k ≡ true → ⊥
no_common_past words k past first =
    let none = bit_of-past words k past in
    cc

-- past both there is nothing to unite
pub or_past : (words others : List ℕ) (at : ℕ) → length words ≤ at → length others ≤ at → get_or words at 0 ≡ bit_or (get_or words at 0) (get_or others at 0)
or_past words others at past others_past = rw (get_or_past words at 0 past, get_or_past others at 0 others_past) refl

-- the bits of both words
and_bit : (a b k : ℕ) → (bit_at (bit_and a b) k == 1) ≡ ((bit_at a k == 1) && (bit_at b k == 1))
and_bit a b k =
    let e = bit_at_and a b k in
    let a_low = bit_at-lt a k in
    let b_low = bit_at-lt b k in
    grind (arith, nat_tests)

-- the bits of a word that the other lacks
not_bit : (b k : ℕ) → b < 2 ^ 64 → k < 64 → (bit_at (bit_not w64 b) k == 1) ≡ not (bit_at b k == 1)
not_bit b k fits within =
    let e = bit_at_not w64 b k fits within in
    let b_low = bit_at-lt b k in
    grind (arith, nat_tests)

pub bit_of-and : (words others shared : List ℕ) (k : ℕ) → get_or shared (k / 64) 0 ≡ bit_and (get_or words (k / 64) 0) (get_or others (k / 64) 0) → bit_of shared k ≡ (bit_of words k && bit_of others k)
unfolding bit_of
bit_of-and words others shared k e = rw e (and_bit (get_or words (k / 64) 0) (get_or others (k / 64) 0) (k % 64))

pub bit_of-minus : (words others left : List ℕ) (k : ℕ) → get_or others (k / 64) 0 < 2 ^ 64 → get_or left (k / 64) 0 ≡ bit_and (get_or words (k / 64) 0) (bit_not w64 (get_or others (k / 64) 0)) → bit_of left k ≡ (bit_of words k && not (bit_of others k))
unfolding bit_of
bit_of-minus words others left k fits e =
    rw e (and_bit (get_or words (k / 64) 0) (bit_not w64 (get_or others (k / 64) 0)) (k % 64)
    ∙ ap (λ b. (bit_at (get_or words (k / 64) 0) (k % 64) == 1) && b) (not_bit (get_or others (k / 64) 0) (k % 64) fits (omega arith)))

-- past the words there is nothing to keep
pub bit_of-kept : (words left : List ℕ) (k : ℕ) (kept : Bool) → length words ≤ k / 64 → get_or left (k / 64) 0 ≡ get_or words (k / 64) 0 → bit_of left k ≡ (bit_of words k && kept)
unfolding bit_of
bit_of-kept words left k kept past e = rw (e, get_or_past words (k / 64) 0 past, blank (k % 64)) refl
