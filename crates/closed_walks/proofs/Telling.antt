-- The test for whether a node is reached from another.
use Rattle.std.proofs.Common.{◌≡◌, ℕ, zero, suc, ◌<◌, ◌≤◌, ◌↔◌, Bool, true, ◌==◌, ◌&&◌, List, [], ◌∷◌, length, subst, ⊎_elim, arith}
use Rattle.std.proofs.lemmas.Bool.{cases_order, or_cases, or_left, or_right, and_from, eqb-true, eq-eqb, false≢true}
use Rattle.closed_walks.specs.Graph.{Graph, IsGraph, edge_count, from, to}
use Rattle.closed_walks.specs.Walk.{Walk, Reach, no_edge}
use Rattle.closed_walks.specs.Reaching.{any_below, reaches_within, reaches}
use Rattle.closed_walks.proofs.Reaching.{stay, along_first, kept}
use Rattle.closed_walks.proofs.Simple.{Reach-simple, simple_length}

-- a number below k that passes the test
record Passes (k : ℕ) (test : ℕ → Bool) : Type 0 where
  pub number : ℕ
  pub below : number < k
  pub passes : test number ≡ true

any_below-passes : (k : ℕ) (test : ℕ → Bool) → any_below k test ≡ true → Passes k test
any_below-passes zero test h = absurd (false≢true h)
any_below-passes (suc k) test h = ⊎_elim
    (λ (old : any_below k test ≡ true). let p : Passes k test = any_below-passes k test old in record { number = p.number; below = omega (arith, p.below); passes = p.passes })
    (λ (here : test k ≡ true). record { number = k; below = omega arith; passes = here })
    (or_cases (any_below k test) (test k) h)

passes-any_below : (k : ℕ) (test : ℕ → Bool) (e : ℕ) → e < k → test e ≡ true → any_below k test ≡ true
passes-any_below zero test e below here = absurd (omega (arith, below))
passes-any_below (suc k) test e below here = ⊎_elim
    (λ (same : e ≡ k). or_right (any_below k test) (test k) (subst (λ x. test x ≡ true) same here))
    (⊎_elim
    (λ (l : e < k). or_left (any_below k test) (test k) (passes-any_below k test e l here))
    (λ (l : k < e). absurd (omega arith)))
    (cases_order e k)

module _ (g : Graph) where
  Reach-within_most : (most u v : ℕ) → reaches_within most g u v ≡ true → Reach g no_edge u v
  Reach-within_most zero u v test = stay g no_edge u v (eqb-true u v test)
  Reach-within_most (suc most) u v test =
      grind (arith, stay g no_edge, eqb-true, any_below-passes (edge_count g), along_first g no_edge, Reach-within_most most)

  within_most : (most u v : ℕ) (w : List ℕ) → Walk g u w v → length w ≤ most → reaches_within most g u v ≡ true
  within_most zero u v [] leads few = eq-eqb u v leads
  within_most (suc most) u v [] leads few = or_left (u == v) (any_below (edge_count g) (λ e. (from g e == u) && reaches_within most g (to g e) v)) (eq-eqb u v leads)
  within_most zero u v (e ∷ w) leads few = absurd (omega (arith, few))
  within_most (suc most) u v (e ∷ w) leads few =
      or_right (u == v) (any_below (edge_count g) (λ e. (from g e == u) && reaches_within most g (to g e) v))
      (passes-any_below (edge_count g) (λ e. (from g e == u) && reaches_within most g (to g e) v) e leads.0
      (and_from (from g e == u) (reaches_within most g (to g e) v) (eq-eqb (from g e) u leads.1)
      (within_most most (to g e) v w leads.2 (omega arith))))

  module _ (sound : IsGraph g) where
    -- what is reached from a node is a node
    reached_node : (u v : ℕ) → u < g.nodes → Reach g no_edge u v → v < g.nodes
    reached_node u v node way = kept g no_edge (λ n. n < g.nodes) (λ e edge free h. sound.ends e edge) u v way node

    pub told : (u v : ℕ) → u < g.nodes → (reaches g u v ≡ true) ↔ Reach g no_edge u v
    unfolding reaches
    told u v node =
        grind (arith, Reach-within_most g.nodes u v, Reach-simple g no_edge u v, simple_length g sound u v, reached_node u v node, within_most g.nodes u v)
