-- The k-th edge of a node is the one with k edges of lower numbers at the node.
use Rattle.std.proofs.Common.{◌≡◌, ℕ, Bool, zero, suc, ◌<◌, ◌≤◌, true, false, if◌then◌else◌, [], ◌∷◌, length, get_or, slice_get, Option, Some, None, refl, sym, ◌∙◌, subst, ⊎_elim, arith, length-append}
use Rattle.std.proofs.lemmas.Bool.{cases_lt, cases_Bool}
use Rattle.std.proofs.lemmas.List.{get_or_append_left, get_or_push}
use Rattle.std.proofs.lemmas.Option.{slice_get_within, get_or_from_slice_get, slice_get-get_or}
use Rattle.closed_walks.specs.Graph.{Graph, edge_count, touches, touching_below, edges_at}
use Rattle.closed_walks.specs.EdgeEnd.{edge_end}
use Rattle.closed_walks.specs.declared.digraph.EdgeEnd.TheVariants.{Edge, NoMore}
use Rattle.cycle_equiv.specs.Walking.{earlier}
use Rattle.cycle_equiv.proofs.Steps.{earlier_less}

length_if : (b : Bool) (k : ℕ) → length (if b then k ∷ [] else []) ≤ 1
length_if true k = omega arith
length_if false k = omega arith

pub record IsEdgeAt (g : Graph) (x k e n : ℕ) : Type 0 where
  pub edge : e < n
  pub touched : touches g x e ≡ true
  pub rank : earlier g x e ≡ k

module _ (g : Graph) (x : ℕ) where
  below_at : (n k : ℕ) → k < length (touching_below g x n) → IsEdgeAt g x k (get_or (touching_below g x n) k 0) n
  below_at zero k few = absurd (omega (arith, few))
  below_at (suc n) k few = ⊎_elim
      (λ (old : k < length (touching_below g x n)).
      let rest = below_at n k old in
      let edge = rest.edge in
      rw (get_or_append_left (touching_below g x n) (if touches g x n then n ∷ [] else []) 0 k old)
      (record { edge = omega (arith, edge); touched = rest.touched; rank = rest.rank }))
      (λ (new : length (touching_below g x n) ≤ k).
      let long = length-append (touching_below g x n) (if touches g x n then n ∷ [] else []) in
      ⊎_elim
      (λ (passes : touches g x n ≡ true).
      let one : length (if touches g x n then n ∷ [] else []) ≡ 1 = rw passes refl in
      let last : length (touching_below g x n) ≡ k = omega (arith, new, few, long, one) in
      rw (passes, get_or_push (touching_below g x n) n 0 k last) (record { edge = omega arith; touched = passes; rank = last }))
      (λ (fails : touches g x n ≡ false).
      let none : length (if touches g x n then n ∷ [] else []) ≡ 0 = rw fails refl in
      absurd (omega (arith, new, few, long, none)))
      (cases_Bool (touches g x n)))
      (cases_lt k (length (touching_below g x n)))

  -- the edge that is answered
  pub edge_at_some : (k e : ℕ) → slice_get (edges_at g x) k ≡ Some e → IsEdgeAt g x k e (edge_count g)
  unfolding edges_at
  edge_at_some k e some = subst (λ d. IsEdgeAt g x k d (edge_count g)) (get_or_from_slice_get (edges_at g x) k e 0 some)
      (below_at (edge_count g) k (slice_get_within (edges_at g x) k e some))

  -- where none is answered, all edges of the node stand before
  pub edge_at_none : (k e : ℕ) → slice_get (edges_at g x) k ≡ None → e < edge_count g → touches g x e ≡ true → earlier g x e < k
  unfolding edges_at
  edge_at_none k e none edge touched =
      let less = earlier_less g x e (edge_count g) touched edge in
      ⊎_elim
      (λ (within : k < length (edges_at g x)).
      let some = slice_get-get_or (edges_at g x) k 0 within in
      absurd (let both : Some (get_or (edges_at g x) k 0) ≡ None = sym some ∙ none in cc))
      (λ (past : length (edges_at g x) ≤ k). omega (arith, less, past))
      (cases_lt k (length (edges_at g x)))

-- fewer edges stand before an edge than its number
pub earlier_few : (g : Graph) (x e : ℕ) → earlier g x e ≤ e
earlier_few g x zero = omega arith
earlier_few g x (suc e) = grind (arith, earlier_few g x e, length-append (touching_below g x e), length_if (touches g x e) e)

-- what an answer says
pub answered_edge : (o : Option ℕ) (e : ℕ) → Edge e ≡ edge_end o → o ≡ Some e
answered_edge None e same = absurd cc
answered_edge (Some d) e same = cc

pub answered_none : (o : Option ℕ) → NoMore ≡ edge_end o → o ≡ None
answered_none None same = refl
answered_none (Some d) same = absurd cc
