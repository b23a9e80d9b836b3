-- A test for whether a node is reached from another without some edges. It lets the nodes that a way may pass grow one by one.
use Rattle.std.proofs.Common.{◌≡◌, ℕ, zero, suc, ◌<◌, ◌≤◌, ◌⊎◌, Bool, true, false, not, ◌&&◌, ◌||◌, ◌==◌, List, [], ◌∷◌, refl, subst, ⊎_elim, arith}
use Rattle.std.proofs.lemmas.Bool.{cases_order, or_cases, or_left, or_right, and_parts, and_from, not_from_false, not-true, eqb-true, eq-eqb, false≢true}
use Rattle.closed_walks.specs.Graph.{Graph, IsGraph, edge_count, from, to}
use Rattle.closed_walks.specs.Walk.{Walk, Avoids, Reach}
use Rattle.closed_walks.proofs.Reaching.{stay, join, along}
use Rattle.std.proofs.lemmas.Grind.{elements}

module _ (g : Graph) (avoided : ℕ → Bool) where
  -- the edge leads from u to v, and isn't avoided
  leads_over : (e u v : ℕ) → Bool
  leads_over e u v = (from g e == u) && (to g e == v) && not (avoided e)

  -- one of the edges below k does
  abbrev steps_below : (k u v : ℕ) → Bool
  steps_below zero u v = false
  steps_below (suc k) u v = steps_below k u v || leads_over k u v

  -- a way from u to v passes between its ends only nodes below k
  abbrev passes_below : (k u v : ℕ) → Bool
  passes_below zero u v = (u == v) || steps_below (edge_count g) u v
  passes_below (suc k) u v = passes_below k u v || (passes_below k u k && passes_below k k v)

  -- ---- what passes is reached

  Reach-over : (e u v : ℕ) → e < edge_count g → leads_over e u v ≡ true → Reach g avoided u v
  unfolding leads_over
  Reach-over e u v edge test = grind (arith, eqb-true (from g e) u, eqb-true (to g e) v, not-true (avoided e), along g avoided e edge)

  Reach-steps : (k u v : ℕ) → k ≤ edge_count g → steps_below k u v ≡ true → Reach g avoided u v
  Reach-steps zero u v some test = absurd (false≢true test)
  Reach-steps (suc k) u v some test = ⊎_elim
      (λ (h : steps_below k u v ≡ true). Reach-steps k u v (omega arith) h)
      (λ (h : leads_over k u v ≡ true). Reach-over k u v some h)
      (or_cases (steps_below k u v) (leads_over k u v) test)

  Reach-passes : (k u v : ℕ) → passes_below k u v ≡ true → Reach g avoided u v
  Reach-passes zero u v test = grind (arith, stay, eqb-true, Reach-steps)
  Reach-passes (suc k) u v test = ⊎_elim
      (λ (h : passes_below k u v ≡ true). Reach-passes k u v h)
      (λ (h : (passes_below k u k && passes_below k k v) ≡ true).
      let parts = and_parts (passes_below k u k) (passes_below k k v) h in
      join g avoided u k v (Reach-passes k u k parts.0) (Reach-passes k k v parts.1))
      (or_cases (passes_below k u v) (passes_below k u k && passes_below k k v) test)

  -- ---- what is reached passes

  over_edge : (e : ℕ) → avoided e ≡ false → leads_over e (from g e) (to g e) ≡ true
  unfolding leads_over
  over_edge e free = grind (arith, elements, and_from, eq-eqb, not_from_false)

  steps_edge : (k e : ℕ) → e < k → avoided e ≡ false → steps_below k (from g e) (to g e) ≡ true
  steps_edge zero e below free = absurd (omega (arith, below))
  steps_edge (suc k) e below free = ⊎_elim
      (λ (h : e ≡ k). or_right (steps_below k (from g e) (to g e)) (leads_over k (from g e) (to g e)) (subst (λ x. leads_over x (from g e) (to g e) ≡ true) h (over_edge e free)))
      (λ (h : (e < k) ⊎ (k < e)). ⊎_elim
      (λ (l : e < k). or_left (steps_below k (from g e) (to g e)) (leads_over k (from g e) (to g e)) (steps_edge k e l free))
      (λ (l : k < e). absurd (omega arith))
      h)
      (cases_order e k)

  passes_more : (k u v : ℕ) → passes_below k u v ≡ true → passes_below (suc k) u v ≡ true
  passes_more k u v test = or_left (passes_below k u v) (passes_below k u k && passes_below k k v) test

  passes_through : (k u v : ℕ) → passes_below k u k ≡ true → passes_below k k v ≡ true → passes_below (suc k) u v ≡ true
  passes_through k u v first second = or_right (passes_below k u v) (passes_below k u k && passes_below k k v) (and_from (passes_below k u k) (passes_below k k v) first second)

  passes_edge : (k e : ℕ) → e < edge_count g → avoided e ≡ false → passes_below k (from g e) (to g e) ≡ true
  passes_edge zero e edge free = or_right (from g e == to g e) (steps_below (edge_count g) (from g e) (to g e)) (steps_edge (edge_count g) e edge free)
  passes_edge (suc k) e edge free = passes_more k (from g e) (to g e) (passes_edge k e edge free)

  passes_itself : (k u : ℕ) → passes_below k u u ≡ true
  passes_itself zero u = or_left (u == u) (steps_below (edge_count g) u u) (eq-eqb u u refl)
  passes_itself (suc k) u = passes_more k u u (passes_itself k u)

  -- where a way comes to the new node: at its end, or before
  to_new : (k u : ℕ) → passes_below (suc k) u k ≡ true → passes_below k u k ≡ true
  to_new k u test = ⊎_elim (λ h. h) (λ h. (and_parts (passes_below k u k) (passes_below k k k) h).0) (or_cases (passes_below k u k) (passes_below k u k && passes_below k k k) test)

  from_new : (k v : ℕ) → passes_below (suc k) k v ≡ true → passes_below k k v ≡ true
  from_new k v test = ⊎_elim (λ h. h) (λ h. (and_parts (passes_below k k k) (passes_below k k v) h).1) (or_cases (passes_below k k v) (passes_below k k k && passes_below k k v) test)

  -- two ways that meet at a node that may be passed are one
  passes_joined : (k u x v : ℕ) → x < k → passes_below k u x ≡ true → passes_below k x v ≡ true → passes_below k u v ≡ true
  passes_joined zero u x v below first second = absurd (omega (arith, below))
  passes_joined (suc k) u x v below first second = ⊎_elim
      (λ (h : x ≡ k).
      passes_through k u v
      (to_new k u (subst (λ n. passes_below (suc k) u n ≡ true) h first))
      (from_new k v (subst (λ n. passes_below (suc k) n v ≡ true) h second)))
      (λ (h : (x < k) ⊎ (k < x)). ⊎_elim
      (λ (l : x < k). ⊎_elim
      (λ (a : passes_below k u x ≡ true). ⊎_elim
      (λ (b : passes_below k x v ≡ true). passes_more k u v (passes_joined k u x v l a b))
      (λ b. let p = and_parts (passes_below k x k) (passes_below k k v) b in passes_through k u v (passes_joined k u x k l a p.0) p.1)
      (or_cases (passes_below k x v) (passes_below k x k && passes_below k k v) second))
      (λ a. let p = and_parts (passes_below k u k) (passes_below k k x) a in ⊎_elim
      (λ (b : passes_below k x v ≡ true). passes_through k u v p.0 (passes_joined k k x v l p.1 b))
      (λ b. let q = and_parts (passes_below k x k) (passes_below k k v) b in passes_through k u v p.0 q.1)
      (or_cases (passes_below k x v) (passes_below k x k && passes_below k k v) second))
      (or_cases (passes_below k u x) (passes_below k u k && passes_below k k x) first))
      (λ (l : k < x). absurd (omega arith))
      h)
      (cases_order x k)

  passes_on : IsGraph g → (u v : ℕ) (w : List ℕ) → Walk g u w v → Avoids avoided w → passes_below g.nodes u v ≡ true
  passes_on sound u v [] leads avoids = subst (λ n. passes_below g.nodes u n ≡ true) leads (passes_itself g.nodes u)
  passes_on sound u v (e ∷ w) leads avoids =
      subst (λ n. passes_below g.nodes n v ≡ true) leads.1
      (passes_joined g.nodes (from g e) (to g e) v (sound.ends e leads.0) (passes_edge g.nodes e leads.0 avoids.0) (passes_on sound (to g e) v w leads.2 avoids.1))

  -- ---- the test

  -- whether v is reached from u without the edges that are avoided
  pub reaches : (u v : ℕ) → Bool
  reaches u v = passes_below g.nodes u v

  pub Reach-reaches : (u v : ℕ) → reaches u v ≡ true → Reach g avoided u v
  unfolding reaches
  Reach-reaches u v test = Reach-passes g.nodes u v test

  pub reaches-Reach : IsGraph g → (u v : ℕ) → Reach g avoided u v → reaches u v ≡ true
  unfolding reaches
  reaches-Reach sound u v r = passes_on sound u v r.walk r.leads r.avoids

  pub cases_Reach : IsGraph g → (u v : ℕ) → Reach g avoided u v ⊎ (Reach g avoided u v → ⊥)
  cases_Reach sound u v = grind (arith, Reach-reaches, reaches-Reach sound)
