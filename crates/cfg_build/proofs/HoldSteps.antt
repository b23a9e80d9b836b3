-- What a hold does to a graph: what was reached stays reached.
use Rattle.std.proofs.Common.{◌≡◌, ◌≢◌, ℕ, ◌+◌, ◌<◌, ◌⊎◌, List, [], ◌∷◌, ◌++◌, length, get_or, set, refl, sym, ap, ◌∙◌, subst, ⊎_elim, arith}
use Rattle.std.proofs.lemmas.Bool.{cases_eq}
use Rattle.std.proofs.lemmas.List.{length-append, length-set, get_or_append_left, get_or-append-add, get_or-set_same, get_or-set_other}
use Rattle.closed_walks.specs.Graph.{Graph, IsGraph, edge_count, from, to}
use Rattle.cfg_build.proofs.ReachedNodes.{Reaches, IsEdge, stay, join, along, kept}

-- the graph with a hold on an edge
abbrev pub hold_graph : (finish : ℕ) → Graph → (edge : ℕ) → Graph
hold_graph finish g edge = record { nodes = g.nodes + 1; edges = set g.edges edge (from g edge, g.nodes) ++ (g.nodes, to g edge) ∷ (g.nodes, finish) ∷ [] }

module _ (finish : ℕ) (g : Graph) (e : ℕ) (edge : e < edge_count g) where
  abbrev g' : Graph
  g' = hold_graph finish g e

  abbrev prefix : List (ℕ × ℕ)
  prefix = set g.edges e (from g e, g.nodes)

  abbrev back : List (ℕ × ℕ)
  back = (g.nodes, to g e) ∷ (g.nodes, finish) ∷ []

  prefix_length : length (set g.edges e (from g e, g.nodes)) ≡ edge_count g
  prefix_length = length-set g.edges e (from g e, g.nodes)

  pub more_edges : edge_count (hold_graph finish g e) ≡ edge_count g + 2
  more_edges = grind (arith, length-append prefix back, prefix_length)

  at_old : (k : ℕ) → k < edge_count g → get_or (prefix ++ back) k (0, 0) ≡ get_or prefix k (0, 0)
  at_old k old = get_or_append_left prefix back (0, 0) k (omega (arith, old, prefix_length))

  at_other : (k : ℕ) → k < edge_count g → k ≢ e → get_or (prefix ++ back) k (0, 0) ≡ get_or g.edges k (0, 0)
  at_other k old other = at_old k old ∙ get_or-set_other g.edges e k (from g e, g.nodes) (0, 0) other

  at_held : get_or (prefix ++ back) e (0, 0) ≡ (from g e, g.nodes)
  at_held = at_old e edge ∙ get_or-set_same g.edges e (from g e, g.nodes) (0, 0) edge

  at_new : (i : ℕ) → get_or (prefix ++ back) (edge_count g + i) (0, 0) ≡ get_or back i (0, 0)
  at_new i = ap (λ n. get_or (prefix ++ back) (n + i) (0, 0)) (sym prefix_length) ∙ get_or-append-add prefix back i (0, 0)

  -- ---- ends of edges

  pub from_other : (k : ℕ) → k < edge_count g → k ≢ e → from (hold_graph finish g e) k ≡ from g k
  unfolding from
  from_other k old other = ap (λ (p : ℕ × ℕ). p.0) (at_other k old other)

  pub from_held : from (hold_graph finish g e) e ≡ from g e
  unfolding from
  from_held = ap (λ (p : ℕ × ℕ). p.0) at_held

  pub from_old : (k : ℕ) → k < edge_count g → from (hold_graph finish g e) k ≡ from g k
  from_old k old = grind (arith, from_held, from_other)

  pub to_other : (k : ℕ) → k < edge_count g → k ≢ e → to (hold_graph finish g e) k ≡ to g k
  unfolding to
  to_other k old other = ap (λ (p : ℕ × ℕ). p.1) (at_other k old other)

  pub to_held : to (hold_graph finish g e) e ≡ g.nodes
  unfolding to
  to_held = ap (λ (p : ℕ × ℕ). p.1) at_held

  pub from_new : (i : ℕ) → i < 2 → from (hold_graph finish g e) (edge_count g + i) ≡ g.nodes
  unfolding from
  from_new h few = grind (arith, at_new)

  pub to_stay : to (hold_graph finish g e) (edge_count g + 0) ≡ to g e
  unfolding to
  to_stay = ap (λ (p : ℕ × ℕ). p.1) (at_new 0)

  pub to_leave : to (hold_graph finish g e) (edge_count g + 1) ≡ finish
  unfolding to
  to_leave = ap (λ (p : ℕ × ℕ). p.1) (at_new 1)

  -- ---- edges

  pub to_hold : IsEdge (hold_graph finish g e) (from g e) g.nodes
  to_hold = record { number = e; exists = omega (arith, edge, more_edges); begins = from_held; ends = to_held }

  pub stays : IsEdge (hold_graph finish g e) g.nodes (to g e)
  stays = record { number = edge_count g + 0; exists = omega (arith, more_edges); begins = from_new 0 (omega arith); ends = to_stay }

  pub leaves : IsEdge (hold_graph finish g e) g.nodes finish
  leaves = record { number = edge_count g + 1; exists = omega (arith, more_edges); begins = from_new 1 (omega arith); ends = to_leave }

  -- an old edge is one edge, or two
  pub edge_kept : (k : ℕ) → k < edge_count g → Reaches (hold_graph finish g e) (from g k) (to g k)
  edge_kept k old = ⊎_elim
      (λ (h : k ≡ e). subst (λ x. Reaches g' (from g x) (to g x)) (sym h)
      (join g' (from g e) g.nodes (to g e) (along g' (from g e) g.nodes to_hold) (along g' g.nodes (to g e) stays)))
      (λ (h : k ≡ e → ⊥). along g' (from g k) (to g k) (record { number = k; exists = omega (arith, old, more_edges); begins = from_other k old h; ends = to_other k old h }))
      (cases_eq k e)

  pub reach_kept : (u v : ℕ) → Reaches g u v → Reaches (hold_graph finish g e) u v
  reach_kept u v r = kept g (λ x. Reaches g' u x) (λ k old here. join g' u (from g k) (to g k) here (edge_kept k old)) u v r (stay g' u u refl)

  -- ---- soundness

  cases_edge : (k : ℕ) → k < edge_count g + 2 → (k < edge_count g) ⊎ ((k ≡ edge_count g + 0) ⊎ (k ≡ edge_count g + 1))
  cases_edge k below = grind arith

  pub hold_sound : IsGraph g → finish < g.nodes → IsGraph (hold_graph finish g e)
  hold_sound sound end = record {
    begins = λ k below. ⊎_elim
        (λ (old : k < edge_count g). let is : from g' k ≡ from g k = from_old k old in let less : from g k < g.nodes = sound.begins k old in omega (arith, is, less))
        (⊎_elim
        (λ (new : k ≡ edge_count g + 0). let is : from g' k ≡ g.nodes = ap (λ x. from g' x) new ∙ from_new 0 (omega arith) in omega (arith, is))
        (λ (new : k ≡ edge_count g + 1). let is : from g' k ≡ g.nodes = ap (λ x. from g' x) new ∙ from_new 1 (omega arith) in omega (arith, is)))
        (cases_edge k (omega (arith, below, more_edges)));
    ends = λ k below. ⊎_elim
        (λ (old : k < edge_count g). ⊎_elim
        (λ (h : k ≡ e). let is : to g' k ≡ g.nodes = ap (λ x. to g' x) h ∙ to_held in omega (arith, is))
        (λ (h : k ≡ e → ⊥). let is : to g' k ≡ to g k = to_other k old h in let less : to g k < g.nodes = sound.ends k old in omega (arith, is, less))
        (cases_eq k e))
        (⊎_elim
        (λ (new : k ≡ edge_count g + 0). let is : to g' k ≡ to g e = ap (λ x. to g' x) new ∙ to_stay in let less : to g e < g.nodes = sound.ends e edge in omega (arith, is, less))
        (λ (new : k ≡ edge_count g + 1). let is : to g' k ≡ finish = ap (λ x. to g' x) new ∙ to_leave in omega (arith, is, end)))
        (cases_edge k (omega (arith, below, more_edges)));
  }
