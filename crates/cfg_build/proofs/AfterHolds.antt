-- Where each edge begins and ends after holds on different edges.
use Rattle.std.proofs.Common.{◌≡◌, ◌≢◌, ℕ, zero, suc, ◌+◌, ◌<◌, ◌≤◌, ◌⊎◌, List, length, get_or, take, fold, sym, ap, ◌∙◌, subst, ⊎_elim, arith}
use Rattle.std.proofs.lemmas.List.{take_all}
use Rattle.std.proofs.lemmas.List.Sums.{fold_more}
use Rattle.closed_walks.specs.Graph.{Graph, edge_count, from, to}
use Rattle.cfg_build.specs.declared.pieces.Piece.{Piece}
use Rattle.cfg_build.specs.Joined.{FlowGraph}
use Rattle.cfg_build.specs.Holds.{with_hold}
use Rattle.cfg_build.proofs.HoldSteps.{hold_graph, more_edges, from_old, to_other, to_held, from_new, to_stay, to_leave}

module _ (g : Graph) (finish : ℕ) (edge_of : ℕ → ℕ) (hs : List ℕ) where
  abbrev pub edge_at : ℕ → ℕ
  edge_at q = edge_of (get_or hs q 0)

  -- the first edge that leaves the hold with this number
  abbrev pub stay_of : ℕ → ℕ
  stay_of q = edge_count g + (q + q)

  -- after so many holds
  pub record AfterHolds (count : ℕ) (f : Graph) : Type 0 where
    pub nodes : f.nodes ≡ g.nodes + count
    pub edges : edge_count f ≡ edge_count g + (count + count)
    pub tails : (k : ℕ) → k < edge_count g → from f k ≡ from g k
    -- an edge without a hold leads where it led, and one with a hold to that
    pub free : (k : ℕ) → k < edge_count g → ((q : ℕ) → q < count → edge_at q ≢ k) → to f k ≡ to g k
    pub held : (q : ℕ) → q < count → to f (edge_at q) ≡ g.nodes + q
    -- two edges leave a hold: to where its edge led, and to the end
    pub from_stay : (q : ℕ) → q < count → from f (stay_of q) ≡ g.nodes + q
    pub from_leave : (q : ℕ) → q < count → from f (stay_of q + 1) ≡ g.nodes + q
    pub to_stay : (q : ℕ) → q < count → to f (stay_of q) ≡ to g (edge_at q)
    pub to_leave : (q : ℕ) → q < count → to f (stay_of q + 1) ≡ finish

  pub none : AfterHolds 0 g
  none = grind (arith, to_stay, to_leave)

  module _ (exist : (q : ℕ) → q < length hs → edge_at q < edge_count g) (apart : (q p : ℕ) → q < p → p < length hs → edge_at q ≢ edge_at p) where
    module _ (p : ℕ) (more : p < length hs) (f : Graph) (h : AfterHolds p f) where
      abbrev e : ℕ
      e = edge_at p

      abbrev f' : Graph
      f' = hold_graph finish f (edge_at p)

      old : edge_at p < edge_count g
      old = exist p more

      edge : edge_at p < edge_count f
      edge = omega (arith, old, h.edges)

      not_held : (q : ℕ) → q < p → edge_at q ≢ edge_at p
      not_held q less = apart q p less more

      cases_last : (q : ℕ) → q < p + 1 → (q < p) ⊎ (p ≡ q)
      cases_last q less = grind arith

      from_before : (k : ℕ) → k < edge_count f → from (hold_graph finish f (edge_at p)) k ≡ from f k
      from_before k below = from_old finish f e edge k below

      to_before : (k : ℕ) → edge_count g ≤ k → k < edge_count f → to (hold_graph finish f (edge_at p)) k ≡ to f k
      to_before k new below = to_other finish f e edge k below (λ (s : k ≡ e). omega (arith, s, new, old))

      stay_below : (q : ℕ) → q < p → stay_of q + 1 < edge_count f
      stay_below q less = omega (arith, less, h.edges)

      -- the new hold's edges
      place : (i q : ℕ) → p ≡ q → edge_count f + i ≡ stay_of q + i
      place i q is = omega (arith, is, h.edges)

      first_place : (q : ℕ) → p ≡ q → edge_count f + 0 ≡ stay_of q
      first_place q is = omega (arith, is, h.edges)

      node_is : (q : ℕ) → p ≡ q → f.nodes ≡ g.nodes + q
      node_is q is = omega (arith, is, h.nodes)

      pub one_more : AfterHolds (p + 1) (hold_graph finish f (edge_at p))
      one_more = record {
        nodes = omega (arith, h.nodes);
        edges = let m : edge_count (hold_graph finish f (edge_at p)) ≡ edge_count f + 2 = more_edges finish f e edge in omega (arith, m, h.edges);
        tails = λ k k_old. from_before k (omega (arith, k_old, h.edges)) ∙ h.tails k k_old;
        free = λ k k_old others.
            let other : e ≢ k = others p (omega arith) in
            to_other finish f e edge k (omega (arith, k_old, h.edges)) (λ (s : k ≡ e). other (sym s)) ∙ h.free k k_old (λ q less. others q (omega (arith, less)));
        held = λ q less. ⊎_elim
            (λ (l : q < p). let q_old : edge_at q < edge_count g = exist q (omega (arith, l, more)) in to_other finish f e edge (edge_at q) (omega (arith, q_old, h.edges)) (not_held q l) ∙ h.held q l)
            (λ (is : p ≡ q). subst (λ n. to f' (edge_at n) ≡ g.nodes + n) is (to_held finish f e edge ∙ h.nodes))
            (cases_last q less);
        from_stay = λ q less. ⊎_elim
            (λ (l : q < p). from_before (stay_of q) (omega (arith, stay_below q l)) ∙ h.from_stay q l)
            (λ (is : p ≡ q). ap (λ n. from f' n) (sym (first_place q is)) ∙ from_new finish f e edge 0 (omega arith) ∙ node_is q is)
            (cases_last q less);
        from_leave = λ q less. ⊎_elim
            (λ (l : q < p). from_before (stay_of q + 1) (stay_below q l) ∙ h.from_leave q l)
            (λ (is : p ≡ q). ap (λ n. from f' n) (sym (place 1 q is)) ∙ from_new finish f e edge 1 (omega arith) ∙ node_is q is)
            (cases_last q less);
        to_stay = λ q less. ⊎_elim
            (λ (l : q < p). to_before (stay_of q) (omega arith) (omega (arith, stay_below q l)) ∙ h.to_stay q l)
            (λ (is : p ≡ q). ap (λ n. to f' n) (sym (first_place q is)) ∙ to_stay finish f e edge ∙ h.free e old not_held ∙ ap (λ n. to g (edge_at n)) is)
            (cases_last q less);
        to_leave = λ q less. ⊎_elim
            (λ (l : q < p). to_before (stay_of q + 1) (omega arith) (stay_below q l) ∙ h.to_leave q l)
            (λ (is : p ≡ q). ap (λ n. to f' n) (sym (place 1 q is)) ∙ to_leave finish f e edge)
            (cases_last q less);
      }

    module _ (piece_of : ℕ → Piece) (f : FlowGraph) (is : f.graph ≡ g) where
      abbrev step : FlowGraph → ℕ → FlowGraph
      step f x = with_hold finish f (edge_of x) (piece_of x)

      after : (p : ℕ) → p ≤ length hs → AfterHolds p (fold step f (take p hs)).graph
      after zero few = subst (λ x. AfterHolds 0 x) (sym is) none
      after (suc p) few =
          let before : AfterHolds p (fold step f (take p hs)).graph = after p (omega (arith, few)) in
          let more : fold step f (take (p + 1) hs) ≡ step (fold step f (take p hs)) (get_or hs p 0) = fold_more step f hs p 0 (omega (arith, few)) in
          let next : suc p ≡ p + 1 = omega arith in
          subst (λ n. AfterHolds n (fold step f (take n hs)).graph) (sym next)
          (subst (λ x. AfterHolds (p + 1) x.graph) (sym more) (one_more p (omega (arith, few)) (fold step f (take p hs)).graph before))

      pub after_all : AfterHolds (length hs) (fold (λ f x. with_hold finish f (edge_of x) (piece_of x)) f hs).graph
      after_all = subst (λ xs. AfterHolds (length hs) (fold step f xs).graph) (take_all (length hs) hs (omega arith)) (after (length hs) (omega arith))
