-- Lists that are gone through by taking the last item of their reverse.
use Rattle.std.proofs.Common.{◌≡◌, ℕ, zero, suc, ◌+◌, ◌<◌, List, [], ◌∷◌, ◌++◌, drop, length, reverse, Some, sym, ap, ◌∙◌, arith}
use Rattle.std.specs.Prelude.{slice_get}
use Rattle.std.proofs.lemmas.List.{reverse-append}

module _ {X : Type 0} where
  -- what stands at the first place of a rest
  pub record StandsFirst (xs : List X) (k : ℕ) (x : X) (rest : List X) : Type 0 where
    pub item : slice_get xs k ≡ Some x
    pub within : k < length xs
    pub others : drop (k + 1) xs ≡ rest

  stands-first : (xs : List X) (k : ℕ) (x : X) (rest : List X) → drop k xs ≡ x ∷ rest → StandsFirst xs k x rest
  stands-first [] zero x rest is = absurd cc
  stands-first [] (suc k) x rest is = absurd cc
  stands-first (y ∷ xs) zero x rest is =
      let parts : (y ≡ x) × (xs ≡ rest) = (cc, cc) in
      record { item = ap Some parts.0; within = omega arith; others = parts.1 }
  stands-first (y ∷ xs) (suc k) x rest is =
      let below = stands-first xs k x rest is in
      let e : suc (k + 1) ≡ suc k + 1 = omega arith in
      let less = below.within in
      record { item = below.item; within = omega (arith, less); others = ap (λ n. drop n (y ∷ xs)) (sym e) ∙ below.others }

  -- the last item of the reverse of a rest is its first one
  pub next-turned : (xs : List X) (k : ℕ) (x : X) (old new : List X) → drop k xs ≡ reverse old → old ≡ new ++ x ∷ [] → StandsFirst xs k x (reverse new)
  next-turned xs k x old new is popped = stands-first xs k x (reverse new) (is ∙ ap reverse popped ∙ reverse-append new (x ∷ []))
