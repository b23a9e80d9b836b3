-- How many edges touch the nodes: an edge has two ends.
use Rattle.std.proofs.Common.{◌≡◌, ◌≢◌, ℕ, zero, suc, ◌+◌, ◌*◌, ◌<◌, ◌≤◌, Bool, true, false, ◌==◌, ◌||◌, if◌then◌else◌, List, [], ◌∷◌, length, get_or, sum, refl, ap, subst, ⊎_elim, arith}
use Rattle.std.proofs.lemmas.Bool.{cases_eq, eq-eqb, ne_eqb}
use Rattle.std.proofs.lemmas.List.Sums.{sum_by-cons}
use Rattle.closed_walks.specs.Graph.{Graph, edge_count, from, to, touches, touching_below, edges_at}
use Rattle.std.proofs.lemmas.Grind.{elements}

-- one, where the test passes
abbrev one_if : Bool → ℕ
one_if b = if b then 1 else 0

one_of_two : (x y : Bool) → one_if (x || y) ≤ one_if x + one_if y
one_of_two h h2 = grind arith

-- how often a number is among the n from `first` on
spots : (a first n : ℕ) → ℕ
spots a first zero = 0
spots a first (suc n) = one_if (a == first) + spots a (suc first) n

spots-past : (a first n : ℕ) → a < first → spots a first n ≡ 0
unfolding spots
spots-past a first zero past = refl
spots-past a first (suc n) past = grind (arith, spots-past a (suc first) n, ne_eqb a first)

spots-one : (a first n : ℕ) → spots a first n ≤ 1
unfolding spots
spots-one a first zero = omega arith
spots-one a first (suc n) = ⊎_elim
    (λ (same : a ≡ first).
    let here = ap one_if (eq-eqb a first same) in
    let rest = spots-past a (suc first) n (omega (arith, same)) in
    omega (arith, here, rest))
    (λ (apart : a ≢ first).
    let here = ap one_if (ne_eqb a first apart) in
    let rest = spots-one a (suc first) n in
    omega (arith, here, rest))
    (cases_eq a first)

module _ (g : Graph) where
  -- over the n nodes from `first` on: which an edge touches, and how many of the edges below k touch each
  touched : (k first n : ℕ) → ℕ
  touched k first zero = 0
  touched k first (suc n) = one_if (touches g first k) + touched k (suc first) n

  degrees : (k first n : ℕ) → ℕ
  degrees k first zero = 0
  degrees k first (suc n) = length (touching_below g first k) + degrees k (suc first) n

  touched-ends : (k first n : ℕ) → touched k first n ≤ spots (from g k) first n + spots (to g k) first n
  unfolding touched spots
  touched-ends k first zero = omega arith
  touched-ends k first (suc n) = grind (arith, touched-ends k (suc first) n, one_of_two (from g k == first) (to g k == first))

  length-if : (b : Bool) (k : ℕ) → length (if b then k ∷ [] else []) ≡ one_if b
  length-if true k = refl
  length-if false k = refl

  degrees-none : (first n : ℕ) → degrees 0 first n ≡ 0
  unfolding degrees
  degrees-none first zero = refl
  degrees-none first (suc n) = let rest = degrees-none (suc first) n in omega (arith, rest)

  degrees-more : (k first n : ℕ) → degrees (suc k) first n ≡ degrees k first n + touched k first n
  unfolding degrees touched
  degrees-more k first zero = refl
  degrees-more k first (suc n) = grind (arith, elements, length-if, degrees-more k (suc first) n)

  degrees-few : (k first n : ℕ) → degrees k first n ≤ 2 * k
  degrees-few zero first n = let none = degrees-none first n in omega (arith, none)
  degrees-few (suc k) first n = grind (arith, elements, degrees-more, touched-ends, spots-one, degrees-few k first n)

  sum-degrees : (counts : List ℕ) (first : ℕ) → ((i : ℕ) → i < length counts → get_or counts i 0 ≤ length (edges_at g (first + i))) → sum counts ≤ degrees (edge_count g) first (length counts)
  unfolding degrees edges_at
  sum-degrees [] first each = omega arith
  sum-degrees (c ∷ counts) first each =
      let rest = sum-degrees counts (suc first) (λ i within. let e : first + suc i ≡ suc first + i = omega arith in subst (λ x. get_or counts i 0 ≤ length (touching_below g x (edge_count g))) e (each (suc i) (omega arith))) in
      let none : first + 0 ≡ first = omega arith in
      let here : c ≤ length (touching_below g first (edge_count g)) = subst (λ x. c ≤ length (touching_below g x (edge_count g))) none (each 0 (omega arith)) in
      let total : sum (c ∷ counts) ≡ c + sum counts = sum_by-cons (λ x. x) c counts in
      omega (arith, rest, here, total)

  -- Where no node has a count above the number of its edges, the counts are at most two for each edge.
  pub sum-edges_at : (counts : List ℕ) → ((node : ℕ) → node < length counts → get_or counts node 0 ≤ length (edges_at g node)) → sum counts ≤ 2 * edge_count g
  sum-edges_at counts each = grind (arith, sum-degrees counts 0, degrees-few (edge_count g) 0 (length counts))
