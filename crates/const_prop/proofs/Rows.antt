-- Rows of numbers, and what they hold.
use Rattle.std.proofs.Common.{◌≡◌, ℕ, zero, suc, ◌+◌, ◌<◌, ◌≤◌, Bool, true, false, ◌==◌, ◌||◌, List, [], ◌∷◌, ◌++◌, length, get_or, filter, Some, slice_get, refl, sym, ap, ◌∙◌, inl, inr, ⊎_elim, arith, append-nil}
use Rattle.std.proofs.lemmas.Bool.{cases_Bool, eqb-true}
use Rattle.std.proofs.lemmas.List.Elements.{filter-append}
use Rattle.std.specs.List.{range_with_len}
use Rattle.class_set.specs.ClassSet.{holds}
use Rattle.class_set.specs.declared.ClassSet.{ClassSet}
use Rattle.closed_walks.specs.Graph.{Graph, edge_count, from, to, touches, touching_below, edges_at}
use Rattle.closed_walks.specs.Walk.{Holds}
use Rattle.cfg_build.specs.Passes.{outs}
use Rattle.dep_routing.specs.Touch.{touches_in}
use Rattle.list_laws.proofs.Ranges.{range_last}

pub touches-at : {W : ℕ} (sets : List (ClassSet W)) (node line : ℕ) (s : ClassSet W) → slice_get sets node ≡ Some s → touches_in sets node line ≡ holds s line
touches-at [] node line s is = absurd cc
touches-at (x ∷ sets) zero line s is = let same : x ≡ s = cc in ap (λ y. holds y line) same
touches-at (x ∷ sets) (suc node) line s is = touches-at sets node line s is

or_false : (a b : Bool) → (a || b) ≡ false → a ≡ false
or_false true b e = absurd cc
or_false false b e = refl

module _ (g : Graph) (node : ℕ) where
  abbrev leaves : ℕ → Bool
  leaves e = from g e == node

  -- of the edges that touch a node those that leave it
  touching-outs : (k : ℕ) → filter leaves (touching_below g node k) ≡ filter leaves (range_with_len 0 k)
  touching-outs zero = refl
  touching-outs (suc k) =
      let h = touching-outs k in
      let last : filter leaves (range_with_len 0 (suc k)) ≡ filter leaves (range_with_len 0 k) ++ filter leaves (k ∷ []) =
      ap (filter leaves) (range_last 0 k) ∙ filter-append leaves (range_with_len 0 k) ((0 + k) ∷ []) ∙ ap (λ n. filter leaves (range_with_len 0 k) ++ filter leaves (n ∷ [])) (omega arith)
      in
      ⊎_elim
      (λ (yes' : touches g node k ≡ true). rw yes' (filter-append leaves (touching_below g node k) (k ∷ []) ∙ ap (λ xs. xs ++ filter leaves (k ∷ [])) h ∙ sym last))
      (λ (no' : touches g node k ≡ false).
      let out : leaves k ≡ false = or_false (leaves k) (to g k == node) no' in
      let here : filter leaves (k ∷ []) ≡ [] = rw out refl in
      rw no' (ap (filter leaves) (append-nil (touching_below g node k)) ∙ h ∙ sym (append-nil (filter leaves (range_with_len 0 k))) ∙ ap (λ xs. filter leaves (range_with_len 0 k) ++ xs) (sym here) ∙ sym last))
      (cases_Bool (touches g node k))

  pub edges-outs : filter leaves (edges_at g node) ≡ outs g node
  unfolding edges_at
  edges-outs = touching-outs (edge_count g)

first-or-rest : (test : ℕ → Bool) (x : ℕ) (xs : List ℕ) → test x ≡ true → ((i : ℕ) → i < length (filter test xs) → (test (get_or (filter test xs) i 0) ≡ true) × Holds xs (get_or (filter test xs) i 0)) → (i : ℕ) → i < length (x ∷ filter test xs) → (test (get_or (x ∷ filter test xs) i 0) ≡ true) × Holds (x ∷ xs) (get_or (x ∷ filter test xs) i 0)
first-or-rest test x xs is rest zero l = (is, inl refl)
first-or-rest test x xs is rest (suc i) l = let h = rest i (omega arith) in (h.0, inr h.1)

-- what a filter lets through passes its test, and stands in the list
pub filter-at : (test : ℕ → Bool) (xs : List ℕ) (i : ℕ) → i < length (filter test xs) → (test (get_or (filter test xs) i 0) ≡ true) × Holds xs (get_or (filter test xs) i 0)
filter-at test [] i l = absurd (omega (arith, l))
filter-at test (x ∷ xs) i l = ⊎_elim
    (λ (is : test x ≡ true). rw is (first-or-rest test x xs is (filter-at test xs) i (rw is at l)))
    (λ (is_not : test x ≡ false). let rest = filter-at test xs i (rw is_not at l) in rw is_not (rest.0, inr rest.1))
    (cases_Bool (test x))

range-holds : (a n e : ℕ) → Holds (range_with_len a n) e → (a ≤ e) × (e < a + n)
range-holds a zero e h = absurd h
range-holds a (suc n) e (inl same) = (omega arith, omega arith)
range-holds a (suc n) e (inr h) = let l = range-holds (a + 1) n e h in let l0 = l.0 in let l1 = l.1 in (omega arith, omega arith)

-- each out-edge is an edge that leaves the piece
pub outs-edge : (g : Graph) (node i : ℕ) → i < length (outs g node) → (get_or (outs g node) i 0 < edge_count g) × (from g (get_or (outs g node) i 0) ≡ node)
outs-edge g node i l =
    let h = filter-at (λ e. from g e == node) (range_with_len 0 (edge_count g)) i l in
    let r = range-holds 0 (edge_count g) (get_or (outs g node) i 0) h.1 in
    let r1 = r.1 in
    (omega arith, eqb-true (from g (get_or (outs g node) i 0)) node h.0)
