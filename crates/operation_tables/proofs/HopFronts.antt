-- A list of which the front is mapped, and the rest isn't yet.
use Rattle.std.proofs.Common.{◌≡◌, ◌+◌, ◌<◌, ◌≤◌, ℕ, zero, suc, List, [], ◌∷◌, length, map, set, get_or, refl, ap, ◌∙◌, arith}

module _ {X : Type 0} (f : X → X) where
  abbrev pub front_mapped : ℕ → List X → List X
  front_mapped zero xs = xs
  front_mapped (suc j) [] = []
  front_mapped (suc j) (x ∷ xs) = f x ∷ front_mapped j xs

  -- the next item isn't mapped
  pub front_at : (j : ℕ) (xs : List X) (d : X) → get_or (front_mapped j xs) j d ≡ get_or xs j d
  front_at zero xs d = refl
  front_at (suc j) [] d = refl
  front_at (suc j) (x ∷ xs) d = front_at j xs d

  next_by : (j : ℕ) (xs : List X) (d : X) → j < length xs → set (front_mapped j xs) j (f (get_or xs j d)) ≡ front_mapped (suc j) xs
  next_by zero [] d low = absurd (omega (arith, low))
  next_by zero (x ∷ xs) d low = refl
  next_by (suc j) [] d low = absurd (omega (arith, low))
  next_by (suc j) (x ∷ xs) d low = ap (λ rest. f x ∷ rest) (next_by j xs d (omega (arith, low)))

  pub front_next : (j : ℕ) (xs : List X) (d : X) → j < length xs → set (front_mapped j xs) j (f (get_or xs j d)) ≡ front_mapped (j + 1) xs
  front_next j xs d low = let more : suc j ≡ j + 1 = omega arith in next_by j xs d low ∙ ap (λ k. front_mapped k xs) more

  pub front_end : (j : ℕ) (xs : List X) → length xs ≤ j → front_mapped j xs ≡ map f xs
  front_end zero [] low = refl
  front_end zero (x ∷ xs) low = absurd (omega (arith, low))
  front_end (suc j) [] low = refl
  front_end (suc j) (x ∷ xs) low = ap (λ rest. f x ∷ rest) (front_end j xs (omega (arith, low)))
