-- The edges that touch a node.
use Rattle.std.proofs.Common.{◌≡◌, ℕ, zero, suc, ◌+◌, ◌<◌, ◌≤◌, ◌⊎◌, Bool, true, false, ◌==◌, if◌then◌else◌, List, [], ◌∷◌, ◌++◌, length, get_or, drop, refl, sym, subst, inl, inr, ⊎_elim, arith, add-one, drop-cons, length-append}
use Rattle.std.proofs.lemmas.Bool.{cases_Bool, cases_order, cases_lt, or_left, eq-eqb}
use Rattle.std.proofs.lemmas.List.{drop_all, get_or_append_left, get_or_push, append-nil}
use Rattle.closed_walks.specs.Graph.{Graph, edge_count, from, to, touches, touching_below, edges_at}
use Rattle.closed_walks.specs.Walk.{Holds}
use Rattle.closed_walks.proofs.Walks.{Holds-left, Holds-right, Holds-append}

-- a list with one item more, where a test passes
module _ (test : Bool) (k e : ℕ) where
  Holds-if : test ≡ true → k ≡ e → Holds (if test then k ∷ [] else []) e
  Holds-if passes same = rw passes (inl same)

  if-Holds : Holds (if test then k ∷ [] else []) e → (test ≡ true) × (k ≡ e)
  if-Holds holds = grind arith

module _ (g : Graph) (node : ℕ) where
  Holds-touching : (k e : ℕ) → e < k → touches g node e ≡ true → Holds (touching_below g node k) e
  Holds-touching zero e below touched = absurd (omega (arith, below))
  Holds-touching (suc k) e below touched = ⊎_elim
      (λ (same : e ≡ k).
      Holds-right (touching_below g node k) (if touches g node k then k ∷ [] else []) e
      (Holds-if (touches g node k) k e (subst (λ x. touches g node x ≡ true) same touched) (sym same)))
      (⊎_elim
      (λ (l : e < k). Holds-left (touching_below g node k) (if touches g node k then k ∷ [] else []) e (Holds-touching k e l touched))
      (λ (l : k < e). absurd (omega arith)))
      (cases_order e k)

  touching-Holds : (k e : ℕ) → Holds (touching_below g node k) e → (e < k) × (touches g node e ≡ true)
  touching-Holds zero e holds = absurd holds
  touching-Holds (suc k) e holds = ⊎_elim
      (λ (h : Holds (touching_below g node k) e). let rest = touching-Holds k e h in let l : e < k = rest.0 in (omega arith, rest.1))
      (λ (h : Holds (if touches g node k then k ∷ [] else []) e).
      let there = if-Holds (touches g node k) k e h in
      let same : k ≡ e = there.1 in
      (omega arith, subst (λ x. touches g node x ≡ true) same there.0))
      (Holds-append (touching_below g node k) (if touches g node k then k ∷ [] else []) e holds)

  -- an edge that touches the node is one of its edges, and each of these touches it
  pub Holds-edges_at : (e : ℕ) → e < edge_count g → touches g node e ≡ true → Holds (edges_at g node) e
  unfolding edges_at
  Holds-edges_at e edge touched = Holds-touching (edge_count g) e edge touched

  pub edges_at-Holds : (e : ℕ) → Holds (edges_at g node) e → (e < edge_count g) × (touches g node e ≡ true)
  unfolding edges_at
  edges_at-Holds e holds = touching-Holds (edge_count g) e holds

  pub Holds-edges_at-from : (e : ℕ) → e < edge_count g → from g e ≡ node → Holds (edges_at g node) e
  Holds-edges_at-from e edge begins = Holds-edges_at e edge (or_left (from g e == node) (to g e == node) (eq-eqb (from g e) node begins))

-- what stands at a place of a list is one of it
pub Holds-at : (xs : List ℕ) (k : ℕ) → k < length xs → Holds xs (get_or xs k 0)
Holds-at [] k within = absurd (omega (arith, within))
Holds-at (x ∷ xs) zero within = inl refl
Holds-at (x ∷ xs) (suc k) within = inr (Holds-at xs k (omega arith))

-- what stands from a place on is the item there, or stands after it
pub Holds-drop : (xs : List ℕ) (k x : ℕ) → k < length xs → Holds (drop k xs) x → (get_or xs k 0 ≡ x) ⊎ Holds (drop (k + 1) xs) x
Holds-drop xs k x within holds = rw (add-one k) (subst (λ ys. Holds ys x) (drop-cons xs k 0 within) holds)

pub Holds-drop_end : (xs : List ℕ) (k x : ℕ) → length xs ≤ k → Holds (drop k xs) x → ⊥
Holds-drop_end xs k x end holds = subst (λ ys. Holds ys x) (drop_all k xs end) holds

-- an item of a node's edges is an edge
pub edge_exists : (g : Graph) (node : ℕ) (edges : List ℕ) (k : ℕ) → edges ≡ edges_at g node → k < length edges → get_or edges k 0 < edge_count g
edge_exists g node edges k is within = (edges_at-Holds g node (get_or edges k 0) (subst (λ xs. Holds xs (get_or edges k 0)) is (Holds-at edges k within))).0

-- ---- the edges of a node rise

-- each item is below the ones after it
abbrev pub IsRising : List ℕ → Type 0
IsRising xs = (i j : ℕ) → i < j → j < length xs → get_or xs i 0 < get_or xs j 0

-- a number above all items of a rising list goes at its end
IsRising-push : (xs : List ℕ) (x : ℕ) → IsRising xs → ((y : ℕ) → Holds xs y → y < x) → IsRising (xs ++ x ∷ [])
IsRising-push xs x rises below i j less within =
    let len = length-append xs (x ∷ []) in
    let before : i < length xs = omega arith in
    ⊎_elim
    (λ (h : j < length xs). rw (get_or_append_left xs (x ∷ []) 0 i before, get_or_append_left xs (x ∷ []) 0 j h) (rises i j less h))
    (λ (h : length xs ≤ j).
    let last : length xs ≡ j = omega arith in
    rw (get_or_append_left xs (x ∷ []) 0 i before, get_or_push xs x 0 j last) (below (get_or xs i 0) (Holds-at xs i before)))
    (cases_lt j (length xs))

module _ (g : Graph) (node : ℕ) where
  touching-rises : (k : ℕ) → IsRising (touching_below g node k)
  touching-rises zero = λ i j less within. absurd (omega (arith, within))
  touching-rises (suc k) = ⊎_elim
      (λ (passes : touches g node k ≡ true). rw passes (IsRising-push (touching_below g node k) k (touching-rises k) (λ y holds. (touching-Holds g node k y holds).0)))
      (λ (fails : touches g node k ≡ false). rw (fails, append-nil) (touching-rises k))
      (cases_Bool (touches g node k))

  pub edges_at-rising : IsRising (edges_at g node)
  unfolding edges_at
  edges_at-rising = touching-rises (edge_count g)
