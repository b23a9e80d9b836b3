-- The greatest number of a list, and what is marked in one.
use Rattle.std.proofs.Common.{◌≡◌, ℕ, ◌+◌, ◌<◌, List, [], ◌∷◌, ◌++◌, length, map, take, get_or, max, ap, sym, ◌∙◌, arith}
use Rattle.std.proofs.lemmas.List.{map-append, take_more}
use Rattle.trace_profiles.specs.Rounds.{greatest}

pub greatest_more : (ns : List ℕ) (n : ℕ) → greatest (ns ++ n ∷ []) ≡ max (greatest ns) n
greatest_more [] n = omega arith
greatest_more (m ∷ ns) n = let rest = greatest_more ns n in omega (arith, rest)

pub newest_more : {X : Type 0} (f : X → ℕ) (xs : List X) (k newest next : ℕ) (d : X) → k < length xs → newest ≡ greatest (map f (take k xs)) → next ≡ max newest (f (get_or xs k d)) → next ≡ greatest (map f (take (k + 1) xs))
newest_more f xs k newest next d lt was is =
    is
    ∙ ap (λ n. max n (f (get_or xs k d))) was
    ∙ sym (ap (λ ys. greatest (map f ys)) (take_more xs k d lt) ∙ ap greatest (map-append f (take k xs) (get_or xs k d ∷ [])) ∙ greatest_more (map f (take k xs)) (f (get_or xs k d)))
