-- A unit runs exactly where the main program reaches it in the graph of CALLs.
use Rattle.std.proofs.Common.{◌≡◌, ℕ, suc, ◌<◌, ◌==◌, ◌⊎◌, ◌↔◌, Bool, true, false, ◌||◌, List, [], ◌∷◌, length, slice_index_or, inl, inr, ⊎_elim, refl, sym, subst, arith}
use Rattle.std.proofs.lemmas.Bool.{eq-eqb, eqb-true}
use Rattle.std.proofs.lemmas.Bool.Decides.{same_from_decides}
use Rattle.closed_walks.specs.Graph.{Graph}
use Rattle.closed_walks.specs.Walk.{Walk, Reach, no_edge}
use Rattle.f77_tree.specs.declared.statements.Labelled.{Labelled}
use Rattle.program_units.specs.Units.{reaches, runs}
use Rattle.unit_checks.specs.CallGraph.{call_graph}
use Rattle.program_units.proofs.Counting.{or-left, or-right}
use Rattle.program_units.proofs.CallReach.{reach-few}
use Rattle.unit_checks.proofs.CallEdges.{IsCall}
use Rattle.unit_checks.proofs.CallCycles.{HasWalk, first-call, walk-reaches, reach-walk, avoids-all}

module _ (us : List (List Labelled)) where
  abbrev g : Graph
  g = call_graph us

  -- ---- from walks to calls

  runs-by : (w : List ℕ) (k : ℕ) → k < length us → Walk g 0 w k → runs us k ≡ true
  runs-by [] k inside walk = or-left (k == 0) (reaches us (length us) 0 k) (eq-eqb k 0 (sym walk))
  runs-by (e ∷ w) k inside walk =
      let main : IsCall us 0 _ = first-call us e 0 walk.0 walk.1 in
      or-right (k == 0) (reaches us (length us) 0 k) (reach-few us (suc (length w)) 0 k main.inside (walk-reaches us w e 0 k inside walk))

  -- ---- from calls to walks

  split : (a b : Bool) → (a || b) ≡ true → (a ≡ true) ⊎ (b ≡ true)
  split true b either = inl refl
  split false b either = inr either

  reach-main : (k : ℕ) → k < length us → runs us k ≡ true → Reach g no_edge 0 k
  reach-main k inside is = ⊎_elim
      (λ (same : (k == 0) ≡ true). record { walk = []; leads = sym (eqb-true k 0 same); avoids = tt })
      (λ (called : reaches us (length us) 0 k ≡ true).
      let walk : HasWalk us 0 k = reach-walk us (length us) 0 k (omega (arith, inside)) called in
      record { walk = walk.first ∷ walk.rest; leads = walk.leads; avoids = avoids-all us no_edge (λ e. refl) (walk.first ∷ walk.rest) })
      (split (k == 0) (reaches us (length us) 0 k) is)

  pub running-told : (marks : List Bool) (h : Graph) → h ≡ g → ((v : ℕ) → (slice_index_or marks v false ≡ true) ↔ Reach h no_edge 0 v) → (k : ℕ) → k < length us → slice_index_or marks k false ≡ runs us k
  running-told marks h same told k inside =
      same_from_decides (slice_index_or marks k false) (runs us k)
      (subst (λ (x : Graph). (slice_index_or marks k false ≡ true) ↔ Reach x no_edge 0 k) same (told k))
      (reach-main k inside, (λ (reach : Reach g no_edge 0 k). runs-by reach.walk k inside reach.leads))
