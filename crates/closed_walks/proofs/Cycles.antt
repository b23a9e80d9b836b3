-- Cycle equivalence by undirected cycles: in a strongly connected graph two edges are cycle equivalent exactly where no cycle
-- has just one of them.
use Rattle.std.proofs.Common.{◌≡◌, ◌≢◌, ℕ, ◌<◌, ◌↔◌, Bool, true, false, List, [], ◌∷◌, map, refl, sym, ap, subst, inl, inr, ⊎_elim}
use Rattle.std.proofs.lemmas.Bool.{cases_eq}
use Rattle.closed_walks.specs.Graph.{Graph, IsGraph, edge_count, from, to}
use Rattle.closed_walks.specs.Walk.{Walk, Holds, Reach, only, IsStrong, IsCycleEquivalent, IsCut}
use Rattle.closed_walks.specs.Cycle.{Step, edge_of, leaves, comes_to, UndirectedWalk, AllDiffer, IsCycle, AreOnSameCycles}
use Rattle.closed_walks.proofs.Walks.{cases_Holds}
use Rattle.closed_walks.proofs.Classes.{not_held, equivalent_same, IsCycleEquivalent-closed}
use Rattle.closed_walks.proofs.Cuts.{side, class_cut}
use Rattle.closed_walks.proofs.Simple.{IsSimplyReached, Reach-simple}
use Rattle.std.proofs.Common.{arith}

-- the edges of these steps
abbrev edges_of : List Step → List ℕ
edges_of w = map edge_of w

module _ (g : Graph) where
  -- ---- a cycle takes both edges of a cut, or neither

  module _ (test : ℕ → Bool) (a b : ℕ) (others : (e : ℕ) → e < edge_count g → e ≢ a → e ≢ b → test (from g e) ≡ test (to g e)) where
    over_step : (s : Step) → edge_of s < edge_count g → edge_of s ≢ a → edge_of s ≢ b → test (leaves g s) ≡ test (comes_to g s)
    over_step (e, true) edge not_a not_b = others e edge not_a not_b
    over_step (e, false) edge not_a not_b = sym (others e edge not_a not_b)

    -- without either edge the steps stay on one side
    same_side : (u v : ℕ) (w : List Step) → UndirectedWalk g u w v → (Holds (edges_of w) a → ⊥) → (Holds (edges_of w) b → ⊥) → test u ≡ test v
    same_side u v [] leads no_a no_b = ap test leads
    same_side u v (s ∷ w) leads no_a no_b = grind (arith, over_step s leads.0, same_side (comes_to g s) v w leads.2)

    crossing : test (from g a) ≢ test (to g a) → (s : Step) → edge_of s ≡ a → test (leaves g s) ≡ test (comes_to g s) → ⊥
    crossing crosses (e, true) same equal = crosses (subst (λ x. test (from g x) ≡ test (to g x)) same equal)
    crossing crosses (e, false) same equal = crosses (sym (subst (λ x. test (to g x) ≡ test (from g x)) same equal))

    -- with the one edge once, and without the other, they come to the other side
    other_side : test (from g a) ≢ test (to g a) → (u v : ℕ) (w : List Step) → UndirectedWalk g u w v → AllDiffer (edges_of w) → Holds (edges_of w) a → (Holds (edges_of w) b → ⊥) → test u ≡ test v → ⊥
    other_side crosses u v [] leads differ holds no_b equal = holds
    other_side crosses u v (s ∷ w) leads differ (inl same) no_b equal = grind (arith, same_side (comes_to g s) v w leads.2, crossing crosses s same)
    other_side crosses u v (s ∷ w) leads differ (inr holds) no_b equal =
        grind (arith, over_step s leads.0, other_side crosses (comes_to g s) v w leads.2 differ.1 holds)

    both_on : test (from g a) ≢ test (to g a) → (w : List Step) → IsCycle g w → Holds (edges_of w) a → Holds (edges_of w) b
    both_on crosses [] cycle holds = absurd holds
    both_on crosses (s ∷ w) cycle holds =
        grind (arith, other_side crosses (leaves g s) (leaves g s) (s ∷ w) cycle.closed cycle.edges holds, cases_Holds (edges_of (s ∷ w)) b)

  pub cut_cycles : (test : ℕ → Bool) (a b : ℕ) → IsCut g test a b → AreOnSameCycles g a b
  cut_cycles test a b cut w cycle = (
    both_on test a b cut.others cut.first w cycle,
    both_on test b a (λ e edge not_b not_a. cut.others e edge not_a not_b) cut.second w cycle,
  )

  pub class_cycles : IsGraph g → IsStrong g → (a b : ℕ) → a < edge_count g → b < edge_count g → IsCycleEquivalent g a b → AreOnSameCycles g a b
  class_cycles sound strong a b a_edge b_edge same w cycle = ⊎_elim
      (λ (equal : a ≡ b). subst (λ x. Holds (edges_of w) a ↔ Holds (edges_of w) x) equal (λ h. h, λ h. h))
      (λ (apart : a ≢ b). cut_cycles (side g a b) a b (class_cut g sound strong a b a_edge b_edge apart same) w cycle)
      (cases_eq a b)

  -- ---- a closed walk without an edge has a cycle in it

  -- the edges taken in their directions
  abbrev forwards : List ℕ → List Step
  forwards [] = []
  forwards (e ∷ w) = (e, true) ∷ forwards w

  edges_forwards : (w : List ℕ) → edges_of (forwards w) ≡ w
  edges_forwards [] = refl
  edges_forwards (e ∷ w) = ap (λ x. e ∷ x) (edges_forwards w)

  leaves_forwards : (w : List ℕ) → map (leaves g) (forwards w) ≡ map (from g) w
  leaves_forwards [] = refl
  leaves_forwards (e ∷ w) = ap (λ x. from g e ∷ x) (leaves_forwards w)

  walk_forwards : (u v : ℕ) (w : List ℕ) → Walk g u w v → UndirectedWalk g u (forwards w) v
  walk_forwards u v [] leads = leads
  walk_forwards u v (e ∷ w) leads = (leads.0, leads.1, walk_forwards (to g e) v w leads.2)

  Holds-map : (f : ℕ → ℕ) (w : List ℕ) (e : ℕ) → Holds w e → Holds (map f w) (f e)
  Holds-map f [] e holds = holds
  Holds-map f (d ∷ w) e (inl same) = inl (ap f same)
  Holds-map f (d ∷ w) e (inr holds) = inr (Holds-map f w e holds)

  -- edges that begin at different nodes are different
  AllDiffer-map : (f : ℕ → ℕ) (w : List ℕ) → AllDiffer (map f w) → AllDiffer w
  AllDiffer-map f [] differ = tt
  AllDiffer-map f (e ∷ w) differ = (λ holds. differ.0 (Holds-map f w e holds), AllDiffer-map f w differ.1)

  -- an edge, and back to where it begins by a walk that passes no node twice
  around : (a : ℕ) → a < edge_count g → (avoided : ℕ → Bool) (r : IsSimplyReached g avoided (to g a) (from g a)) → IsCycle g (forwards (a ∷ r.walk))
  around a edge avoided r =
      grind (arith, walk_forwards (to g a) (from g a) r.walk r.leads, edges_forwards (a ∷ r.walk), AllDiffer-map (from g) (a ∷ r.walk), leaves_forwards (a ∷ r.walk))

  not_around : (a b : ℕ) → a < edge_count g → a ≢ b → ((w : List Step) → IsCycle g w → Holds (edges_of w) a → Holds (edges_of w) b) → Reach g (only b) (to g a) (from g a) → ⊥
  not_around a b edge apart each way =
      let r : IsSimplyReached g (only b) (to g a) (from g a) = Reach-simple g (only b) (to g a) (from g a) way in
      let on : Holds (edges_of (forwards (a ∷ r.walk))) b = each (forwards (a ∷ r.walk)) (around a edge (only b) r) (inl refl) in
      ⊎_elim apart (not_held r.walk b r.avoids) (subst (λ x. Holds x b) (edges_forwards (a ∷ r.walk)) on)

  pub cycles_class : (a b : ℕ) → a < edge_count g → b < edge_count g → AreOnSameCycles g a b → IsCycleEquivalent g a b
  cycles_class a b a_edge b_edge each = ⊎_elim
      (λ (equal : a ≡ b). equivalent_same g a b equal)
      (λ (apart : a ≢ b). IsCycleEquivalent-closed g a b
      (not_around a b a_edge apart (λ w cycle. (each w cycle).0))
      (not_around b a b_edge (λ same. apart (sym same)) (λ w cycle. (each w cycle).1)))
      (cases_eq a b)

  -- In a strongly connected graph two edges are cycle equivalent exactly where no cycle has just one of them.
  pub class_is_cycles : IsGraph g → IsStrong g → (a b : ℕ) → a < edge_count g → b < edge_count g → IsCycleEquivalent g a b ↔ AreOnSameCycles g a b
  class_is_cycles sound strong a b a_edge b_edge = (class_cycles sound strong a b a_edge b_edge, cycles_class a b a_edge b_edge)
