-- What loops over the edges of a node find.
use Rattle.std.proofs.Common.{◌≡◌, ◌↔◌, ℕ, ◌<◌, Bool, true, false, ◌&&◌, ◌==◌, List, length, get_or, sym, subst}
use Rattle.std.proofs.lemmas.Bool.{and_parts, eqb-true}
use Rattle.std.specs.List.{list_any, position_or_len}
use Rattle.closed_walks.specs.Graph.{Graph, IsGraph, edge_count, edges_at, from, to}
use Rattle.closed_walks.specs.Reaching.{reaches}
use Rattle.cfg_build.proofs.BuildingEdges.{StandsIn, at_edge, stands_from, stands_to, any_found, any_none, first_found, first_missing}
use Rattle.cfg_build.proofs.BuildingHolds.{same_Bool}
use Rattle.cfg_build.proofs.ReachedNodes.{IsTold, Reaches}
use Rattle.std.proofs.Common.{arith}

module _ (g : Graph) (x : ℕ) (items : List ℕ) (are : items ≡ edges_at g x) where
  pub exists : (i : ℕ) → i < length items → get_or items i 0 < edge_count g
  exists i l = subst (λ (xs : List ℕ). get_or xs i 0 < edge_count g) (sym are) (at_edge g x i (subst (λ (xs : List ℕ). i < length xs) are l))

  within : (i : ℕ) → i < length items → i < length (edges_at g x)
  within i l = subst (λ (xs : List ℕ). i < length xs) are l

  -- ---- the first edge that leaves the node

  abbrev leaves : ℕ × ℕ → Bool
  leaves e = e.0 == x

  out_stands : (e : ℕ) → e < edge_count g → leaves (get_or g.edges e (0, 0)) ≡ true → StandsIn g x (edges_at g x) e
  unfolding from
  out_stands e l passes = stands_from g x e l (eqb-true (from g e) x passes)

  pub out_found : (i : ℕ) → i < length items → (from g (get_or items i 0) == x) ≡ true → ((k : ℕ) → k < i → (from g (get_or items k 0) == x) ≡ false) → get_or items i 0 ≡ position_or_len (λ e. e.0 == x) g.edges
  unfolding from
  out_found i l passes before = grind (arith, first_found g x leaves out_stands i (within i l), out_stands, within i l)

  pub out_missing : position_or_len (λ e. e.0 == x) g.edges < edge_count g → ((k : ℕ) → k < length items → (from g (get_or items k 0) == x) ≡ false) → ⊥
  unfolding from
  out_missing some none = grind (arith, first_missing g x leaves out_stands some, out_stands)

  -- ---- the first edge that comes to the node

  abbrev comes : ℕ × ℕ → Bool
  comes e = e.1 == x

  in_stands : (e : ℕ) → e < edge_count g → comes (get_or g.edges e (0, 0)) ≡ true → StandsIn g x (edges_at g x) e
  unfolding to
  in_stands e l passes = stands_to g x e l (eqb-true (to g e) x passes)

  pub in_found : (i : ℕ) → i < length items → (to g (get_or items i 0) == x) ≡ true → ((k : ℕ) → k < i → (to g (get_or items k 0) == x) ≡ false) → get_or items i 0 ≡ position_or_len (λ e. e.1 == x) g.edges
  unfolding to
  in_found i l passes before = grind (arith, first_found g x comes in_stands i (within i l), in_stands, within i l)

  pub in_missing : position_or_len (λ e. e.1 == x) g.edges < edge_count g → ((k : ℕ) → k < length items → (to g (get_or items k 0) == x) ≡ false) → ⊥
  unfolding to
  in_missing some none = grind (arith, first_missing g x comes in_stands some, in_stands)

  -- ---- an edge that comes to the node from one that passes a test

  module _ (passes : ℕ → Bool) where
    abbrev comes_from : ℕ × ℕ → Bool
    comes_from e = (e.1 == x) && passes e.0

    test_stands : (e : ℕ) → e < edge_count g → comes_from (get_or g.edges e (0, 0)) ≡ true → StandsIn g x (edges_at g x) e
    unfolding from to
    test_stands e l is = stands_to g x e l (eqb-true (to g e) x (and_parts (to g e == x) (passes (from g e)) is).0)

    pub test_found : (i : ℕ) → i < length items → ((to g (get_or items i 0) == x) && passes (from g (get_or items i 0))) ≡ true → list_any (λ e. (e.1 == x) && passes e.0) g.edges ≡ true
    unfolding from to
    test_found i l is = any_found g x comes_from i (within i l) (subst (λ (xs : List ℕ). ((to g (get_or xs i 0) == x) && passes (from g (get_or xs i 0))) ≡ true) are is)

    pub test_missing : ((k : ℕ) → k < length items → ((to g (get_or items k 0) == x) && passes (from g (get_or items k 0))) ≡ false) → list_any (λ e. (e.1 == x) && passes e.0) g.edges ≡ false
    unfolding from to
    test_missing none = grind (arith, any_none g x comes_from test_stands, test_stands)

-- the mark of a node tells whether it is reached
pub mark_told : IsTold → (g : Graph) (x : ℕ) (marks : List Bool) → IsGraph g → x < g.nodes → ((v : ℕ) → (get_or marks v false ≡ true) ↔ Reaches g x v) → (v : ℕ) → get_or marks v false ≡ reaches g x v
mark_told told g x marks sound node marked v = grind (arith, same_Bool (get_or marks v false) (reaches g x v))
