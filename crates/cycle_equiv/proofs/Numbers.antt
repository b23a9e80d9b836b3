-- The numbering of classes, as far as it has come.
use Rattle.std.proofs.Common.{◌≡◌, ◌≢◌, ℕ, zero, suc, ◌+◌, ◌<◌, ◌≤◌, ◌⊎◌, max, List, [], ◌∷◌, ◌++◌, length, get_or, take, sym, ap, ◌∙◌, inl, inr, ⊎_elim, arith}
use Rattle.std.proofs.lemmas.Bool.{cases_order, cases_eq}
use Rattle.std.proofs.lemmas.List.{length-take, get_or-take}
use Rattle.std.proofs.lemmas.Grind.{same_number_lists}
use Rattle.closed_walks.specs.Graph.{Graph, edge_count}
use Rattle.closed_walks.specs.Numbering.{fresh, IsNumbering}

pub fresh-push : (xs : List ℕ) (x : ℕ) → fresh (xs ++ x ∷ []) ≡ max (fresh xs) (x + 1)
fresh-push [] x = omega arith
fresh-push (y ∷ xs) x = let rest = fresh-push xs x in omega (arith, rest)

-- no other edge below has its number
abbrev pub IsFirst : List ℕ → ℕ → Type 0
IsFirst classes e = (d : ℕ) → d < e → get_or classes d 0 ≢ get_or classes e 0

-- ---- there is one numbering

-- a lower edge has this edge's number, or none
pub record HasLower (classes : List ℕ) (e : ℕ) : Type 0 where
  pub edge : ℕ
  pub lower : edge < e
  pub same : get_or classes edge 0 ≡ get_or classes e 0

lower_below : (classes : List ℕ) (e k : ℕ) → k ≤ e → HasLower classes e ⊎ ((d : ℕ) → d < k → get_or classes d 0 ≢ get_or classes e 0)
lower_below classes e zero few = inr (λ d h. absurd (omega (arith, h)))
lower_below classes e (suc k) few = ⊎_elim
    (λ found. inl found)
    (λ none. ⊎_elim
    (λ (same : get_or classes k 0 ≡ get_or classes e 0). inl (record { edge = k; lower = few; same = same }))
    (λ (differs : get_or classes k 0 ≢ get_or classes e 0). inr (λ d h. ⊎_elim
    (λ (l : d < k). none d l)
    (λ (same : d ≡ k). rw same differs)
    (below_suc d k h)))
    (cases_eq (get_or classes k 0) (get_or classes e 0)))
    (lower_below classes e k (omega arith))
  where
    below_suc : (d k : ℕ) → d < suc k → (d < k) ⊎ (d ≡ k)
    below_suc d k h = ⊎_elim (λ same. inr same) (⊎_elim (λ l. inl l) (λ m. absurd (omega arith))) (cases_order d k)

cases_lower : (classes : List ℕ) (e : ℕ) → HasLower classes e ⊎ IsFirst classes e
cases_lower classes e = lower_below classes e e (omega arith)

module _ (g : Graph) (classes others : List ℕ) (one : IsNumbering g classes) (two : IsNumbering g others) where
  -- the numbers of two edges are equal in both numberings or in none
  same_both : (a b : ℕ) → a < edge_count g → b < edge_count g → get_or classes a 0 ≡ get_or classes b 0 → get_or others a 0 ≡ get_or others b 0
  same_both a b a_edge b_edge same = (two.same a b a_edge b_edge).1 ((one.same a b a_edge b_edge).0 same)

  same_back : (a b : ℕ) → a < edge_count g → b < edge_count g → get_or others a 0 ≡ get_or others b 0 → get_or classes a 0 ≡ get_or classes b 0
  same_back a b a_edge b_edge same = (one.same a b a_edge b_edge).1 ((two.same a b a_edge b_edge).0 same)

  same_prefixes : (e : ℕ) → e ≤ edge_count g → ((d : ℕ) → d < e → get_or classes d 0 ≡ get_or others d 0) → take e classes ≡ take e others
  same_prefixes e few same =
      let c_len : length (take e classes) ≡ e = omega (arith, length-take e classes, one.edges) in
      let o_len : length (take e others) ≡ e = omega (arith, length-take e others, two.edges) in
      same_number_lists (take e classes) (take e others) (c_len ∙ sym o_len)
      (λ k h. let below : k < e = omega (arith, c_len) in get_or-take e classes k 0 below ∙ same k below ∙ sym (get_or-take e others k 0 below))

  next_same : (e : ℕ) → e < edge_count g → ((d : ℕ) → d < e → get_or classes d 0 ≡ get_or others d 0) → get_or classes e 0 ≡ get_or others e 0
  next_same e edge same = ⊎_elim
      (λ (l : HasLower classes e).
      let lower = l.lower in
      sym l.same ∙ same l.edge l.lower ∙ same_both l.edge e (omega arith) edge l.same)
      (λ (first : IsFirst classes e).
      let other_first : IsFirst others e = λ d h equal. first d h (same_back d e (omega arith) edge equal) in
      one.lowest e edge first ∙ ap fresh (same_prefixes e (omega arith) same) ∙ sym (two.lowest e edge other_first))
      (cases_lower classes e)

  all_same : (e : ℕ) → e ≤ edge_count g → (d : ℕ) → d < e → get_or classes d 0 ≡ get_or others d 0
  all_same zero few d h = absurd (omega (arith, h))
  all_same (suc e) few d h = ⊎_elim
      (λ (same : d ≡ e). rw same (next_same e few (all_same e (omega arith))))
      (⊎_elim
      (λ (l : d < e). all_same e (omega arith) d l)
      (λ (m : e < d). absurd (omega arith)))
      (cases_order d e)

  pub IsNumbering-one : classes ≡ others
  IsNumbering-one = same_number_lists classes others (one.edges ∙ sym two.edges) (λ k h. all_same (edge_count g) (omega arith) k (omega (arith, one.edges)))
