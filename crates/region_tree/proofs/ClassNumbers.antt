-- No class has a greater number than the edges in it.
use Rattle.std.proofs.Common.{◌≡◌, ◌≢◌, ℕ, zero, suc, ◌+◌, ◌<◌, ◌≤◌, ◌⊎◌, List, [], ◌∷◌, length, take, get_or, refl, sym, subst, inl, inr, ⊎_elim, arith}
use Rattle.std.proofs.lemmas.Bool.{cases_eq, cases_order}
use Rattle.closed_walks.specs.Graph.{Graph, edge_count}
use Rattle.closed_walks.specs.Numbering.{fresh, IsNumbering}

fresh_below : (xs : List ℕ) (n : ℕ) → ((i : ℕ) → i < length xs → get_or xs i 0 < n) → fresh xs ≤ n
fresh_below [] n each = omega arith
fresh_below (x ∷ xs) n each =
    let first : x < n = each zero (omega arith) in
    let rest : fresh xs ≤ n = fresh_below xs n (λ i within. each (suc i) (omega arith)) in
    omega (arith, first, rest)

-- a lower edge of the class, if there is one
record IsLower (classes : List ℕ) (k x : ℕ) : Type 0 where
  pub edge : ℕ
  pub below : edge < k
  pub same : get_or classes edge 0 ≡ x

lower : (classes : List ℕ) (k x : ℕ) → IsLower classes k x ⊎ ((d : ℕ) → d < k → get_or classes d 0 ≢ x)
lower classes zero x = inr (λ d below. absurd (omega (arith, below)))
lower classes (suc k) x = ⊎_elim
    (λ (l : IsLower classes k x). inl (record { edge = l.edge; below = omega (arith, l.below); same = l.same }))
    (λ none. ⊎_elim
    (λ (here : get_or classes k 0 ≡ x). inl (record { edge = k; below = omega arith; same = here }))
    (λ (other : get_or classes k 0 ≢ x). inr (λ d below. ⊎_elim
    (λ (same : d ≡ k). subst (λ e. get_or classes e 0 ≢ x) (sym same) other)
    (⊎_elim (λ (l : d < k). none d l) (λ (l : k < d). absurd (omega arith)))
    (cases_order d k)))
    (cases_eq (get_or classes k 0) x))
    (lower classes k x)

module _ (g : Graph) (classes : List ℕ) (numbering : IsNumbering g classes) where
  class_up_to : (n e : ℕ) → e < n → e < edge_count g → get_or classes e 0 ≤ e
  class_up_to zero e below edge = absurd (omega (arith, below))
  class_up_to (suc n) e below edge = ⊎_elim
      (λ (l : IsLower classes e (get_or classes e 0)).
      let less : l.edge < e = l.below in
      let rest : get_or classes l.edge 0 ≤ l.edge = class_up_to n l.edge (omega (arith, less, below)) (omega (arith, less, edge)) in
      let same = l.same in
      omega (arith, less, rest, same))
      (λ none.
      let fresh_is : get_or classes e 0 ≡ fresh (take e classes) = numbering.lowest e edge none in
      let long : length (take e classes) ≡ e = length_take e classes (omega (arith, edge, numbering.edges)) in
      let few : fresh (take e classes) ≤ e = fresh_below (take e classes) e (λ i within.
      let inside : i < e = omega (arith, within, long) in
      let rest : get_or classes i 0 ≤ i = class_up_to n i (omega (arith, inside, below)) (omega (arith, inside, edge)) in
      let same : get_or (take e classes) i 0 ≡ get_or classes i 0 = get_or_take e classes i inside in
      omega (arith, inside, rest, same)) in
      omega (arith, fresh_is, few))
      (lower classes e (get_or classes e 0))
    where
      length_take : (n : ℕ) (xs : List ℕ) → n ≤ length xs → length (take n xs) ≡ n
      length_take zero xs within = refl
      length_take (suc n) [] within = absurd (omega (arith, within))
      length_take (suc n) (x ∷ xs) within = let rest = length_take n xs (omega arith) in omega (arith, rest)

      get_or_take : (n : ℕ) (xs : List ℕ) (i : ℕ) → i < n → get_or (take n xs) i 0 ≡ get_or xs i 0
      get_or_take zero xs i within = absurd (omega (arith, within))
      get_or_take (suc n) [] i within = refl
      get_or_take (suc n) (x ∷ xs) zero within = refl
      get_or_take (suc n) (x ∷ xs) (suc i) within = get_or_take n xs i (omega arith)

  pub class_below : (e : ℕ) → e < edge_count g → get_or classes e 0 < edge_count g
  class_below e edge = let most : get_or classes e 0 ≤ e = class_up_to (e + 1) e (omega arith) edge in omega (arith, most, edge)
