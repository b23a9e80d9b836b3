-- Bits of words.
use Rattle.std.proofs.Common.{◌≡◌, ℕ, ◌-◌, ◌^◌, ◌<◌, true, false, not, ◌&&◌, ◌||◌, ◌==◌, refl, ap, ◌∙◌, arith, bit_and, bit_or}
use Rattle.std.proofs.lemmas.Nat.Bits.{bit_at-zero, bit_at_and, bit_at_or, bit_at_not, bit_at-lt, bit_at_ones}
use Rattle.std.proofs.lemmas.Bool.Decides.{nat_tests}
use Rattle.std.specs.Int.{bit_at, w64}
use Rattle.redundancy.specs.Available.{has_bit}

pub or_bit : (a b k : ℕ) → has_bit (bit_or a b) k ≡ (has_bit a k || has_bit b k)
or_bit a b k =
    let e = bit_at_or a b k in
    let a_low = bit_at-lt a k in
    let b_low = bit_at-lt b k in
    grind (arith, nat_tests)

and_bit : (a b k : ℕ) → has_bit (bit_and a b) k ≡ (has_bit a k && has_bit b k)
and_bit a b k =
    let e = bit_at_and a b k in
    let a_low = bit_at-lt a k in
    let b_low = bit_at-lt b k in
    grind (arith, nat_tests)

not_bit : (a k : ℕ) → a < 2 ^ 64 → k < 64 → has_bit (18446744073709551615 - a) k ≡ not (has_bit a k)
not_bit a k fits within =
    let e : bit_at (18446744073709551615 - a) k ≡ 1 - bit_at a k = bit_at_not w64 a k fits within in
    let a_low = bit_at-lt a k in
    grind (arith, nat_tests)

pub after_bit : (computes kills missing k : ℕ) → computes < 2 ^ 64 → k < 64 → has_bit (bit_or kills (bit_and missing (18446744073709551615 - computes))) k ≡ (has_bit kills k || (has_bit missing k && not (has_bit computes k)))
after_bit computes kills missing k fits within =
    or_bit kills (bit_and missing (18446744073709551615 - computes)) k
    ∙ ap (λ x. has_bit kills k || x) (and_bit missing (18446744073709551615 - computes) k ∙ ap (λ x. has_bit missing k && x) (not_bit computes k fits within))

pub zero_bit : (k : ℕ) → has_bit 0 k ≡ false
zero_bit k = rw bit_at-zero refl

pub full_bit : (k : ℕ) → k < 64 → has_bit 18446744073709551615 k ≡ true
full_bit k within = ap (λ x. x == 1) (bit_at_ones 64 k within)
