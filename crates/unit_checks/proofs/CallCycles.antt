-- A unit calls itself, through any number of calls, exactly where it stands on a cycle of the graph of CALLs.
use Rattle.std.proofs.Common.{◌≡◌, ℕ, zero, suc, ◌+◌, ◌<◌, ◌==◌, ◌⊎◌, ◌↔◌, Bool, true, false, ◌||◌, List, [], ◌∷◌, length, replicate, slice_index_or, inl, inr, refl, sym, subst, ◌∙◌, arith}
use Rattle.std.proofs.lemmas.Bool.{eq-eqb, eqb-true}
use Rattle.std.proofs.lemmas.Bool.Decides.{same_from_decides}
use Rattle.closed_walks.specs.Graph.{Graph, edge_count, from, to}
use Rattle.closed_walks.specs.Walk.{Walk, Avoids}
use Rattle.closed_walks.specs.Cycling.{IsOnCycle}
use Rattle.f77_tree.specs.declared.statements.Labelled.{Labelled}
use Rattle.program_units.specs.Units.{calls, reaches}
use Rattle.unit_checks.specs.CallGraph.{call_graph}
use Rattle.program_units.proofs.Counting.{or-left, or-right}
use Rattle.program_units.proofs.CallReach.{Chain, chain-from, reach-by, reach-few}
use Rattle.unit_checks.proofs.CallEdges.{IsCall, edge-calls, call-edge}

module _ (us : List (List Labelled)) where
  abbrev g : Graph
  g = call_graph us

  edge-is : (e : ℕ) → e < edge_count g → IsCall us (from g e) (to g e)
  unfolding from to
  edge-is e below = edge-calls us e below

  record IsEdge (j k : ℕ) : Type 0 where
    edge : ℕ
    exists : edge < edge_count g
    begins : from g edge ≡ j
    ends : to g edge ≡ k

  edge-of : (j k : ℕ) → IsCall us j k → IsEdge j k
  unfolding from to
  edge-of j k call = let h = call-edge us j k call in record { edge = h.edge; exists = h.exists; begins = h.begins; ends = h.ends }

  -- ---- from walks to calls

  pub first-call : (e j : ℕ) → e < edge_count g → from g e ≡ j → IsCall us j (to g e)
  first-call e j exists begins = subst (λ x. IsCall us x (to g e)) begins (edge-is e exists)

  pub walk-reaches : (w : List ℕ) (e j k : ℕ) → k < length us → Walk g j (e ∷ w) k → reaches us (suc (length w)) j k ≡ true
  walk-reaches [] e j k inside walk =
      let call : IsCall us j (to g e) = first-call e j walk.0 walk.1 in
      let same : to g e ≡ k = walk.2 in
      reach-by us 0 j k (record { unit = k; inside = inside; called = subst (λ x. calls us j x ≡ true) same call.called; rest = or-left (k == k) (reaches us 0 k k) (eq-eqb k k refl) })
  walk-reaches (f ∷ w) e j k inside walk =
      let call : IsCall us j (to g e) = first-call e j walk.0 walk.1 in
      let next : IsCall us (to g e) (to g f) = first-call f (to g e) walk.2.0 walk.2.1 in
      reach-by us (suc (length w)) j k (record { unit = to g e; inside = next.inside; called = call.called; rest = or-right (to g e == k) (reaches us (suc (length w)) (to g e) k) (walk-reaches w f (to g e) k inside walk.2) })

  pub cycle-recursion : (avoided : ℕ → Bool) (k : ℕ) → k < length us → IsOnCycle g avoided k → reaches us (length us) k k ≡ true
  cycle-recursion avoided k inside cycle = reach-few us (suc (length cycle.rest)) k k inside (walk-reaches cycle.rest cycle.first k k inside cycle.closed)

  -- ---- from calls to walks

  pub record HasWalk (j k : ℕ) : Type 0 where
    pub first : ℕ
    pub rest : List ℕ
    pub leads : Walk g j (first ∷ rest) k

  begun : (j m k : ℕ) → IsEdge j m → (m ≡ k) ⊎ HasWalk m k → HasWalk j k
  begun j m k e (inl same) = record { first = e.edge; rest = []; leads = (e.exists, e.begins, e.ends ∙ same) }
  begun j m k e (inr walk) = record { first = e.edge; rest = walk.first ∷ walk.rest; leads = (e.exists, e.begins, subst (λ x. Walk g x (walk.first ∷ walk.rest) k) (sym e.ends) walk.leads) }

  pub reach-walk : (d j k : ℕ) → j < length us → reaches us d j k ≡ true → HasWalk j k
  reach-walk zero j k inside is = let h : false ≡ true = is in absurd cc
  reach-walk (suc d) j k inside is =
      let chain : Chain us d j k = chain-from us d j k is in
      let e : IsEdge j chain.unit = edge-of j chain.unit (record { inside = inside; called = chain.called }) in
      begun j chain.unit k e (by (chain.unit == k) refl chain.rest (λ more. reach-walk d chain.unit k chain.inside more))
    where
      by : {m : ℕ} (b : Bool) → (m == k) ≡ b → (b || reaches us d m k) ≡ true → (reaches us d m k ≡ true → HasWalk m k) → (m ≡ k) ⊎ HasWalk m k
      by {m} true same either more = inl (eqb-true m k same)
      by {m} false apart either more = inr (more either)

  pub avoids-all : (avoided : ℕ → Bool) → ((e : ℕ) → avoided e ≡ false) → (w : List ℕ) → Avoids avoided w
  avoids-all avoided none [] = tt
  avoids-all avoided none (e ∷ w) = (none e, avoids-all avoided none w)

  pub recursion-cycle : (avoided : ℕ → Bool) → ((e : ℕ) → avoided e ≡ false) → (k : ℕ) → k < length us → reaches us (length us) k k ≡ true → IsOnCycle g avoided k
  recursion-cycle avoided none k inside is =
      let walk : HasWalk k k = reach-walk (length us) k k inside is in
      record { first = walk.first; rest = walk.rest; closed = walk.leads; avoids = avoids-all avoided none (walk.first ∷ walk.rest) }

  cycles-told : (avoided : ℕ → Bool) → ((e : ℕ) → avoided e ≡ false) → (k : ℕ) → k < length us → (reaches us (length us) k k ≡ true) ↔ IsOnCycle g avoided k
  cycles-told avoided none k inside = (recursion-cycle avoided none k inside, cycle-recursion avoided k inside)

  -- marks of the nodes on cycles tell which units call themselves
  pub marks-tell : (marks : List Bool) (avoided : ℕ → Bool) (h : Graph) → h ≡ g → ((e : ℕ) → avoided e ≡ false)
      → ((node : ℕ) → node < h.nodes → (slice_index_or marks node false ≡ true) ↔ IsOnCycle h avoided node)
      → (k : ℕ) → k < length us → slice_index_or marks k false ≡ reaches us (length us) k k
  marks-tell marks avoided h same none told k inside =
      let below : k < h.nodes = subst (λ (x : Graph). k < x.nodes) (sym same) (let e : k < length us + 1 = omega (arith, inside) in e) in
      same_from_decides (slice_index_or marks k false) (reaches us (length us) k k) (subst (λ (x : Graph). (slice_index_or marks k false ≡ true) ↔ IsOnCycle x avoided k) same (told k below)) (cycles-told avoided none k inside)

pub not_marked : (n e : ℕ) → slice_index_or (replicate n false) e false ≡ false
not_marked zero zero = refl
not_marked zero (suc e) = refl
not_marked (suc n) zero = refl
not_marked (suc n) (suc e) = not_marked n e
