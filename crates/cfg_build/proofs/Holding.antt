-- What stays so while pieces get their holds, one after another.
use Rattle.std.proofs.Common.{◌≡◌, ℕ, ◌+◌, ◌<◌, ◌≤◌, List, [], ◌∷◌, fold, refl, subst, inl, inr, ⊎_elim, arith}
use Rattle.std.proofs.lemmas.Bool.{cases_lt}
use Rattle.closed_walks.specs.Graph.{Graph, IsGraph, edge_count, from, to}
use Rattle.cfg_build.specs.declared.pieces.Piece.{Piece}
use Rattle.cfg_build.specs.Joined.{FlowGraph}
use Rattle.cfg_build.specs.Holds.{with_hold}
use Rattle.list_laws.specs.Member.{Member}
use Rattle.cfg_build.proofs.ReachedNodes.{Reaches, join, along}
use Rattle.cfg_build.proofs.HeldEdges.{IsHoldEdge}
use Rattle.cfg_build.proofs.HoldSteps.{hold_graph, more_edges, from_old, to_other, to_hold, leaves, reach_kept, hold_sound}

module _ (g : Graph) (finish : ℕ) where
  -- a hold leads to the end, and is led to from a piece of g
  pub record IsHold (f : Graph) (v : ℕ) : Type 0 where
    pub leads : Reaches f v finish
    pub source : ℕ
    pub old : source < g.nodes
    pub led : Reaches f source v

  pub record IsHolding (f : Graph) : Type 0 where
    pub edges : edge_count g ≤ edge_count f
    pub nodes : g.nodes ≤ f.nodes
    pub sound : IsGraph f
    pub tails : (k : ℕ) → k < edge_count g → from f k ≡ from g k
    pub zero_to : to f 0 ≡ 0
    pub kept : (u v : ℕ) → Reaches g u v → Reaches f u v
    pub fresh : (v : ℕ) → g.nodes ≤ v → v < f.nodes → IsHold f v

  pub begun : IsGraph g → to g 0 ≡ 0 → IsHolding g
  begun sound zero_to = grind arith

  -- the pieces of the list have holds in `held`, which f lacks
  pub record AreHeld (f held : FlowGraph) (hs : List ℕ) : Type 0 where
    pub holding : IsHolding held.graph
    pub kept : (u v : ℕ) → Reaches f.graph u v → Reaches held.graph u v
    pub lead : (x : ℕ) → Member hs x → Reaches held.graph x finish

-- the edge for each piece, and the piece that the hold is made for
module _ (g : Graph) (finish : ℕ) (edge_of : ℕ → ℕ) (piece_of : ℕ → Piece) where
  abbrev pub step : FlowGraph → ℕ → FlowGraph
  step f x = with_hold finish f (edge_of x) (piece_of x)

  module _ (sound : IsGraph g) (end : finish < g.nodes) where
    module _ (f : Graph) (h : IsHolding g finish f) (x : ℕ) (e : IsHoldEdge g x (edge_of x)) where
      abbrev f' : Graph
      f' = hold_graph finish f (edge_of x)

      below : edge_of x < edge_count f
      below = let more : edge_count g ≤ edge_count f = h.edges in let has : edge_of x < edge_count g = e.exists in omega (arith, more, has)

      to_new : Reaches (hold_graph finish f (edge_of x)) (from f (edge_of x)) f.nodes
      to_new = along f' (from f (edge_of x)) f.nodes (to_hold finish f (edge_of x) below)

      new_leads : Reaches (hold_graph finish f (edge_of x)) f.nodes finish
      new_leads = along f' f.nodes finish (leaves finish f (edge_of x) below)

      pub kept_more : (u v : ℕ) → Reaches f u v → Reaches (hold_graph finish f (edge_of x)) u v
      kept_more u v r = reach_kept finish f (edge_of x) below u v r

      -- the piece itself comes to the end now
      pub leads_now : Reaches (hold_graph finish f (edge_of x)) x finish
      leads_now =
          grind (arith, kept_more x (from g (edge_of x)) (h.kept x (from g (edge_of x)) e.returns), join f' x (from f (edge_of x)) finish, join f' (from f (edge_of x)) f.nodes finish to_new new_leads, to_new, new_leads)

      fresh_now : (v : ℕ) → g.nodes ≤ v → v < f.nodes + 1 → IsHold g finish (hold_graph finish f (edge_of x)) v
      fresh_now v new node = ⊎_elim
          (λ (l : v < f.nodes).
          let r : IsHold g finish f v = h.fresh v new l in
          record { leads = kept_more v finish r.leads; source = r.source; old = r.old; led = kept_more r.source v r.led })
          (λ (l : f.nodes ≤ v).
          let is : f.nodes ≡ v = omega (arith, l, node) in
          let tail : from f (edge_of x) ≡ from g (edge_of x) = h.tails (edge_of x) e.exists in
          record {
            leads = subst (λ n. Reaches f' n finish) is new_leads;
            source = from g (edge_of x);
            old = sound.begins (edge_of x) e.exists;
            led = subst (λ n. Reaches f' n v) tail (subst (λ n. Reaches f' (from f (edge_of x)) n) is to_new);
          })
          (cases_lt v f.nodes)

      pub holding_more : IsHolding g finish (hold_graph finish f (edge_of x))
      holding_more =
          grind (arith, hold_graph finish f, more_edges finish f, below, hold_sound finish f, from_old finish f, to_other finish f, kept_more, fresh_now)

    -- ---- all holds

    pub all_held : (hs : List ℕ) (f : FlowGraph) → IsHolding g finish f.graph → ((x : ℕ) → Member hs x → IsHoldEdge g x (edge_of x)) → AreHeld g finish f (fold step f hs) hs
    all_held [] f h edges = record { holding = h; kept = λ u v r. r; lead = λ x m. absurd m }
    all_held (x ∷ hs) f h edges =
        let e : IsHoldEdge g x (edge_of x) = edges x (inl refl) in
        let next : IsHolding g finish (hold_graph finish f.graph (edge_of x)) = holding_more f.graph h x e in
        let rest : AreHeld g finish (step f x) (fold step (step f x) hs) hs = all_held hs (step f x) next (λ y m. edges y (inr m)) in
        record {
          holding = rest.holding;
          kept = λ u v r. rest.kept u v (kept_more f.graph h x e u v r);
          lead = λ y. ⊎_elim
              (λ (same : x ≡ y). subst (λ n. Reaches (fold step (step f x) hs).graph n finish) same (rest.kept x finish (leads_now f.graph h x e)))
              (λ (m : Member hs y). rest.lead y m);
        }
