-- Numbers read digit by digit.
use Rattle.std.proofs.Common.{◌≡◌, ℕ, ◌+◌, ◌-◌, ◌*◌, ◌<◌, min, List, [], ◌∷◌, ◌++◌, length, get_or, take, refl, sym, ap, ◌∙◌, arith}
use Rattle.std.proofs.lemmas.List.{take_more}
use Rattle.f77_tree.specs.Grammar.{decimal_after, number_of}

-- one more digit
decimal_after-last : (n : ℕ) (digits : List ℕ) (d : ℕ) → decimal_after n (digits ++ d ∷ []) ≡ 10 * decimal_after n digits + (d - 48)
decimal_after-last n [] d = refl
decimal_after-last n (c ∷ digits) d = decimal_after-last (10 * n + (c - 48)) digits d

pub number-more : (digits : List ℕ) (i d : ℕ) → i < length digits → number_of (take (i + 1) digits) ≡ 10 * number_of (take i digits) + (get_or digits i d - 48)
number-more digits i d lt = ap number_of (take_more digits i d lt) ∙ decimal_after-last 0 (take i digits) (get_or digits i d)

bounded-after : (n d m r : ℕ) → m ≡ min n 2147483648 → r ≡ min (10 * m + d) 2147483648 → r ≡ min (10 * n + d) 2147483648
bounded-after n d m r was is = omega arith

-- a number that stands still above the greatest constant, after one more digit
pub bounded-more : (digits : List ℕ) (i d m r : ℕ) → i < length digits → m ≡ min (number_of (take i digits)) 2147483648 → r ≡ min (10 * m + (get_or digits i d - 48)) 2147483648 → r ≡ min (number_of (take (i + 1) digits)) 2147483648
bounded-more digits i d m r lt was is =
    bounded-after (number_of (take i digits)) (get_or digits i d - 48) m r was is ∙ ap (λ n. min n 2147483648) (sym (number-more digits i d lt))
