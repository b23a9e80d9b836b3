-- The walk, where it ends, and how many steps it takes.
use Rattle.std.proofs.Common.{◌≡◌, ◌≢◌, ℕ, zero, suc, ◌+◌, ◌*◌, ◌<◌, ◌≤◌, Bool, true, List, [], ◌∷◌, length, get_or, set, sum_by, slice_get, None, unwrap_or, refl, sym, ap, ◌∙◌, subst, ⊎_elim, arith, length-set}
use Rattle.std.proofs.lemmas.List.Sums.{sum_by-cons, sum_by-set}
use Rattle.closed_walks.specs.Graph.{Graph, edge_count, edges_at, touches}
use Rattle.closed_walks.specs.Walk.{IsStrong}
use Rattle.closed_walks.proofs.Degrees.{sum-edges_at}
use Rattle.cycle_equiv.specs.Walking.{IsTaken, IsTrail, earlier, unfound}
use Rattle.cycle_equiv.specs.CapLists.{caps_total}
use Rattle.cycle_equiv.specs.WalkSteps.{sum_to, how_many, goes_back, spent, saved}
use Rattle.std.proofs.lemmas.Bool.{cases_eq, ne_eqb, lt-ltb}
use Rattle.cycle_equiv.specs.WalkState.{IsWalk, AreNamesOf, left_weight, progress}
use Rattle.cycle_equiv.specs.declared.walk_tree.Mark.{Mark}
use Rattle.cycle_equiv.specs.declared.walk_tree.Mark.TheVariants.{New, Left}
use Rattle.cycle_equiv.specs.declared.walk.BracketWalk.{BracketWalk}
use Rattle.cycle_equiv.proofs.EdgeAt.{edge_at_none}
use Rattle.cycle_equiv.proofs.Ending.{all_found, all_taken}
use Rattle.cycle_equiv.proofs.EndedLists.{walk_names}
use Rattle.cycle_equiv.proofs.Spending.{one_if, one_most}
use Rattle.cycle_equiv.proofs.Steps.{joins_touches, joins_back}
use Rattle.cycle_equiv.proofs.Sums.{at_one, at_here, at_other, sum_least, sum_same, sum_plus, sum_ones, sum_one, sum_list}
use Rattle.cycle_equiv.proofs.Tables.{told_same}
use Rattle.cycle_equiv.proofs.WalkReads.{here_node, row, open_mark, taken_all}

weight_most : (m : Mark) → left_weight m ≤ 1
weight_most h = grind arith

left_most : (marks : List Mark) → sum_by left_weight marks ≤ length marks
left_most [] = omega arith
left_most (m ∷ marks) = grind (arith, weight_most m, left_most marks, sum_by-cons left_weight m marks)

unfound_none : (found : ℕ → Bool) (n : ℕ) → ((x : ℕ) → x < n → found x ≡ true) → unfound found n ≡ 0
unfound_none found zero all = refl
unfound_none found (suc n) all = rw (all n (omega arith)) (unfound_none found n (λ x less. all x (omega (arith, less))))

module _ (g : Graph) (c : BracketWalk) (u : ℕ) (h : IsWalk g c u) where
  -- each edge was taken twice at most, and the node at which the walk is wasn't left
  pub progress_most : progress c + 6 ≤ 4 * edge_count g + 6 * g.nodes
  progress_most =
      let nodes = h.kept.tree_table.taken.size in
      let takes = sum-edges_at g c.tree.taken.items
      (λ x inside. let few = h.few_taken x (omega (arith, inside, nodes)) in let is = h.kept.tree_table.taken.exact x (omega (arith, inside, nodes)) in omega (arith, few, is)) in
      let inside = (row g c u h u (here_node g c u h)).marks in
      let one_more = sum_by-set left_weight c.tree.marks.items u Left New inside in
      let stays = ap left_weight (open_mark g c u h) in
      let most = left_most (set c.tree.marks.items u Left) in
      let long = length-set c.tree.marks.items u Left in
      let marks = h.kept.tree_table.marks.size in
      omega (arith, takes, one_more, stays, most, long, marks)

  -- at the root, with no edge left
  module _ (root : u ≡ c.tree.root) (none : slice_get (edges_at g u) (get_or c.tree.taken.items u 0) ≡ None) (strong : IsStrong g) where
    at_root : u ≡ h.trail.tree.root
    at_root = root ∙ h.kept.tree_table.root

    trail : IsTrail g h.trail h.trail.tree.root
    trail = subst (λ n. IsTrail g h.trail n) at_root h.is_trail

    taken : (e : ℕ) → e < edge_count g → touches g h.trail.tree.root e ≡ true → IsTaken g h.trail h.trail.tree.root e
    taken e edge touched = grind (arith, at_root, edge_at_none g u (h.trail.taken u) e (taken_all g c u h none) edge, taken_all g c u h none)

    pub ended_names : AreNamesOf g c.names
    ended_names = record {
      tops = h.kept.top_table.size;
      sizes = h.kept.size_table.size;
      few = h.graph.few_edges;
      classes = λ a b a_edge b_edge.
          let same = walk_names g h.trail trail h.counted taken strong h.graph.sound h.reaches h.are_reaches h.final h.left_lists h.tops h.sizes h.named a b a_edge b_edge in
          let a_top = h.kept.top_table.exact a a_edge in
          let b_top = h.kept.top_table.exact b b_edge in
          let a_size = h.kept.size_table.exact a a_edge in
          let b_size = h.kept.size_table.exact b b_edge in (
            λ equivalent. let names = same.0 equivalent in (a_top ∙ ap (λ o. unwrap_or o 0) names.0 ∙ sym b_top, a_size ∙ names.1 ∙ sym b_size),
            λ equal.
                let sizes = sym a_size ∙ equal.1 ∙ b_size in
                same.1 (told_same (h.tops a) (h.tops b) (h.sizes a) (h.sizes b) (h.told a) (h.told b) sizes (sym a_top ∙ equal.0 ∙ b_top), sizes),
          );
    }

    -- ---- how many steps were taken

    takes_most : sum_to h.trail.taken g.nodes ≤ 2 * edge_count g
    takes_most =
        let nodes = h.kept.tree_table.taken.size in
        let takes = sum-edges_at g c.tree.taken.items
        (λ x inside. let few = h.few_taken x (omega (arith, inside, nodes)) in let is = h.kept.tree_table.taken.exact x (omega (arith, inside, nodes)) in omega (arith, few, is)) in
        let total = sum_list c.tree.taken.items in
        let long = ap (sum_to (λ k. get_or c.tree.taken.items k 0)) nodes in
        let same = sum_same (λ k. get_or c.tree.taken.items k 0) h.trail.taken g.nodes h.kept.tree_table.taken.exact in
        omega (arith, takes, total, long, same)

    -- the root stays
    left_few : how_many h.trail.left g.nodes + 1 ≤ g.nodes
    left_few =
        let most = sum_least (λ x. one_if (h.trail.left x) + at_one h.trail.tree.root x) (λ x. 1) g.nodes
        (λ x less. ⊎_elim
        (λ (same : x ≡ h.trail.tree.root).
        let stays = ap one_if (ap h.trail.left same ∙ trail.root_open.stays) in
        let here = at_here h.trail.tree.root x same in
        omega (arith, stays, here))
        (λ (apart : x ≢ h.trail.tree.root).
        let one = one_most (h.trail.left x) in
        let there = at_other h.trail.tree.root x apart in
        omega (arith, one, there))
        (cases_eq x h.trail.tree.root)) in
        let both = sum_plus (λ x. one_if (h.trail.left x)) (at_one h.trail.tree.root) g.nodes in
        let one = sum_one h.trail.tree.root g.nodes (trail.node h.trail.tree.root trail.root_open.found) in
        let all = sum_ones g.nodes in
        omega (arith, most, both, one, all)

    -- at each other node the edge was taken by which it was found
    back_at : (x : ℕ) → x < g.nodes → x ≢ h.trail.tree.root → one_if (goes_back g h.trail x) ≡ 1
    back_at x inside other =
        let found = all_found g h.trail trail h.counted taken strong x inside in
        let by = trail.by_edge x found other in
        let touched = joins_touches g (h.trail.tree.parent_edge x) x (h.trail.tree.parent x) (joins_back g (h.trail.tree.parent_edge x) (h.trail.tree.parent x) x by.ends) in
        let at_it = all_taken g h.trail trail h.counted taken x (h.trail.tree.parent_edge x) found by.taken.edge touched in
        rw (ne_eqb x h.trail.tree.root other, lt-ltb (earlier g x (h.trail.tree.parent_edge x)) (h.trail.taken x) at_it.early) refl

    back_all : g.nodes ≤ how_many (goes_back g h.trail) g.nodes + 1
    back_all =
        let least = sum_least (λ x. 1) (λ x. one_if (goes_back g h.trail x) + at_one h.trail.tree.root x) g.nodes
        (λ x less. ⊎_elim
        (λ (same : x ≡ h.trail.tree.root). let here = at_here h.trail.tree.root x same in omega (arith, here))
        (λ (apart : x ≢ h.trail.tree.root). let back = back_at x less apart in omega (arith, back))
        (cases_eq x h.trail.tree.root)) in
        let both = sum_plus (λ x. one_if (goes_back g h.trail x)) (at_one h.trail.tree.root) g.nodes in
        let one = sum_one h.trail.tree.root g.nodes (trail.node h.trail.tree.root trail.root_open.found) in
        let all = sum_ones g.nodes in
        omega (arith, least, both, one, all)

    pub steps_few : (start now : ℕ) → now + caps_total c.caps.items + saved g h.trail ≤ start + spent g.nodes h.trail h.reaches + 1 → now + 1 ≤ start + (4 * edge_count g + 3 * g.nodes)
    steps_few start now paid =
        grind (arith, takes_most, left_few, back_all, unfound_none h.trail.found g.nodes, all_found g h.trail trail h.counted taken strong, trail, taken)
