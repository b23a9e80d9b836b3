-- The edges that touch a node, in the order of their numbers.
use Rattle.std.proofs.Common.{◌≡◌, ℕ, zero, suc, ◌+◌, ◌<◌, ◌≤◌, Bool, true, false, cond, ◌==◌, List, [], ◌∷◌, ◌++◌, length, get_or, ap, sym, ◌∙◌, refl, arith, subst, ⊎_elim}
use Rattle.std.proofs.lemmas.Bool.{cases_Bool, cases_lt, cases_order, or_left, or_right, eq-eqb, false≢true, false_from_ne_true}
use Rattle.std.proofs.lemmas.List.{append-nil, get_or_append_left, get_or_push, length_push, length-append, get_or_default}
use Rattle.std.proofs.lemmas.List.Folds.{list_any_at, list_any_none}
use Rattle.std.proofs.lemmas.List.Sums.{position_or_len_is, passes_at_first}
use Rattle.std.specs.List.{list_any, position_or_len}
use Rattle.closed_walks.specs.Graph.{Graph, edge_count, from, to, touches, touching_below, edges_at}

module _ (g : Graph) (x : ℕ) where
  -- one number more, which touches the node or doesn't
  touching_yes : (n : ℕ) → touches g x n ≡ true → touching_below g x (suc n) ≡ touching_below g x n ++ n ∷ []
  touching_yes n is = ap (λ b. touching_below g x n ++ cond b (n ∷ []) []) is

  touching_no : (n : ℕ) → touches g x n ≡ false → touching_below g x (suc n) ≡ touching_below g x n
  touching_no n is = ap (λ b. touching_below g x n ++ cond b (n ∷ []) []) is ∙ append-nil (touching_below g x n)

  touching_exists : (n i : ℕ) → i < length (touching_below g x n) → get_or (touching_below g x n) i 0 < n
  touching_exists zero i l = absurd (omega (arith, l))
  touching_exists (suc n) i l =
      let xs = touching_below g x n in
      ⊎_elim
      (λ (yes' : touches g x n ≡ true).
      let e = touching_yes n yes' in
      let count : length (touching_below g x (suc n)) ≡ length xs + 1 = ap length e ∙ length_push xs n in
      subst (λ (ys : List ℕ). get_or ys i 0 < suc n) (sym e)
      (⊎_elim
      (λ (prefix : i < length xs). let below = touching_exists n i prefix in let same = get_or_append_left xs (n ∷ []) 0 i prefix in omega (arith, below, same))
      (λ (last : length xs ≤ i). let same : get_or (xs ++ n ∷ []) i 0 ≡ n = get_or_push xs n 0 i (omega (arith, last, l, count)) in omega (arith, same))
      (cases_lt i (length xs))))
      (λ (no' : touches g x n ≡ false).
      let e = touching_no n no' in
      let below = touching_exists n i (subst (λ (ys : List ℕ). i < length ys) e l) in
      let same = ap (λ (ys : List ℕ). get_or ys i 0) e in
      omega (arith, below, same))
      (cases_Bool (touches g x n))

  touching_rises : (n i j : ℕ) → i < j → j < length (touching_below g x n) → get_or (touching_below g x n) i 0 < get_or (touching_below g x n) j 0
  touching_rises zero i j less l = absurd (omega (arith, l))
  touching_rises (suc n) i j less l =
      let xs = touching_below g x n in
      ⊎_elim
      (λ (yes' : touches g x n ≡ true).
      let e = touching_yes n yes' in
      let count : length (touching_below g x (suc n)) ≡ length xs + 1 = ap length e ∙ length_push xs n in
      subst (λ (ys : List ℕ). get_or ys i 0 < get_or ys j 0) (sym e)
      (⊎_elim
      (λ (prefix : j < length xs).
      let below = touching_rises n i j less prefix in
      omega (arith, below, get_or_append_left xs (n ∷ []) 0 i (omega (arith, less, prefix)), get_or_append_left xs (n ∷ []) 0 j prefix))
      (λ (last : length xs ≤ j).
      let here : i < length xs = omega (arith, less, last, l, count) in
      let same : get_or (xs ++ n ∷ []) j 0 ≡ n = get_or_push xs n 0 j (omega (arith, last, l, count)) in
      omega (arith, same, touching_exists n i here, get_or_append_left xs (n ∷ []) 0 i here))
      (cases_lt j (length xs))))
      (λ (no' : touches g x n ≡ false).
      let e = touching_no n no' in
      let below = touching_rises n i j less (subst (λ (ys : List ℕ). j < length ys) e l) in
      subst (λ (ys : List ℕ). get_or ys i 0 < get_or ys j 0) (sym e) below)
      (cases_Bool (touches g x n))

  -- where an edge stands
  pub record StandsIn (xs : List ℕ) (e : ℕ) : Type 0 where
    pub place : ℕ
    pub exists : place < length xs
    pub is : get_or xs place 0 ≡ e

  stands_more : (xs ys : List ℕ) (e : ℕ) → StandsIn xs e → StandsIn (xs ++ ys) e
  stands_more xs ys e s = record { place = s.place; exists = omega (arith, s.exists, length-append xs ys); is = get_or_append_left xs ys 0 s.place s.exists ∙ s.is }

  touching_stands : (n e : ℕ) → e < n → touches g x e ≡ true → StandsIn (touching_below g x n) e
  touching_stands zero e l t = absurd (omega (arith, l))
  touching_stands (suc n) e l t =
      let xs = touching_below g x n in
      ⊎_elim
      (λ (same : e ≡ n).
      let at : touches g x n ≡ true = subst (λ m. touches g x m ≡ true) same t in
      subst (λ (ys : List ℕ). StandsIn ys e) (sym (touching_yes n at))
      (record { place = length xs; exists = omega (arith, length_push xs n); is = get_or_push xs n 0 (length xs) refl ∙ sym same }))
      (⊎_elim
      (λ (less : e < n). stands_more xs (cond (touches g x n) (n ∷ []) []) e (touching_stands n e less t))
      (λ (more : n < e). absurd (omega (arith, l, more))))
      (cases_order e n)

  -- ---- edges with an end at the node

  pub at_edge : (i : ℕ) → i < length (edges_at g x) → get_or (edges_at g x) i 0 < edge_count g
  unfolding edges_at
  at_edge i l = touching_exists (edge_count g) i l

  pub edges_rise : (i j : ℕ) → i < j → j < length (edges_at g x) → get_or (edges_at g x) i 0 < get_or (edges_at g x) j 0
  unfolding edges_at
  edges_rise i j less l = touching_rises (edge_count g) i j less l

  pub stands_from : (e : ℕ) → e < edge_count g → from g e ≡ x → StandsIn (edges_at g x) e
  unfolding edges_at
  stands_from e l is = touching_stands (edge_count g) e l (or_left (from g e == x) (to g e == x) (eq-eqb (from g e) x is))

  pub stands_to : (e : ℕ) → e < edge_count g → to g e ≡ x → StandsIn (edges_at g x) e
  unfolding edges_at
  stands_to e l is = touching_stands (edge_count g) e l (or_right (from g e == x) (to g e == x) (eq-eqb (to g e) x is))

  -- a test that an edge passes only where it comes to the node
  module _ (test : ℕ × ℕ → Bool) where
    pub any_found : (i : ℕ) → i < length (edges_at g x) → test (get_or g.edges (get_or (edges_at g x) i 0) (0, 0)) ≡ true → list_any test g.edges ≡ true
    any_found i l passes = list_any_at test g.edges (get_or (edges_at g x) i 0) (0, 0) (at_edge i l) passes

    module _ (stands : (e : ℕ) → e < edge_count g → test (get_or g.edges e (0, 0)) ≡ true → StandsIn (edges_at g x) e) where
      fails_at : (e : ℕ) → e < edge_count g → ((i : ℕ) → i < length (edges_at g x) → test (get_or g.edges (get_or (edges_at g x) i 0) (0, 0)) ≡ false) → test (get_or g.edges e (0, 0)) ≡ false
      fails_at e l none = grind (arith, false_from_ne_true (test (get_or g.edges e (0, 0))))

      pub any_none : ((i : ℕ) → i < length (edges_at g x) → test (get_or g.edges (get_or (edges_at g x) i 0) (0, 0)) ≡ false) → list_any test g.edges ≡ false
      any_none none = list_any_none test g.edges (λ k d l. ap test (get_or_default g.edges k d (0, 0) l) ∙ fails_at k l none)

      pub first_found : (i : ℕ) → i < length (edges_at g x) → test (get_or g.edges (get_or (edges_at g x) i 0) (0, 0)) ≡ true
          → ((k : ℕ) → k < i → test (get_or g.edges (get_or (edges_at g x) k 0) (0, 0)) ≡ false)
          → get_or (edges_at g x) i 0 ≡ position_or_len test g.edges
      first_found i l passes before = grind (arith, position_or_len_is test g.edges, at_edge i l, false_from_ne_true, edges_rise i)

      pub first_missing : position_or_len test g.edges < edge_count g → ((i : ℕ) → i < length (edges_at g x) → test (get_or g.edges (get_or (edges_at g x) i 0) (0, 0)) ≡ false) → ⊥
      first_missing some none = false≢true (sym (fails_at (position_or_len test g.edges) some none) ∙ passes_at_first test g.edges (0, 0) some)
