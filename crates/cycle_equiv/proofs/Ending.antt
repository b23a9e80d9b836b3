-- Where the walk took all edges of the root and is there again, its tree is a depth-first tree of all nodes.
use Rattle.std.proofs.Common.{◌≡◌, ◌≢◌, ℕ, zero, suc, ◌+◌, ◌<◌, ◌≤◌, ◌⊎◌, Bool, true, false, List, [], ◌∷◌, refl, sym, ap, ◌∙◌, subst, inl, ⊎_elim, arith}
use Rattle.std.proofs.lemmas.Bool.{cases_eq, cases_lt, cases_Bool}
use Rattle.closed_walks.specs.Graph.{Graph, IsGraph, edge_count, touches, to}
use Rattle.closed_walks.specs.Walk.{Walk, IsStrong}
use Rattle.cycle_equiv.specs.DepthFirst.{Joins, IsChild, IsBackEdge, IsBelow, IsDepthFirst}
use Rattle.cycle_equiv.specs.Walking.{Trail, IsTaken, IsOpen, IsTrail, IsCounted, unfound, put}
use Rattle.cycle_equiv.proofs.Steps.{put_same, put_other, joins_touches, two_ends}

-- ---- how many nodes weren't found

unfound_put : (f : ℕ → Bool) (v n : ℕ) → n ≤ v → unfound (put f v true) n ≡ unfound f n
unfound_put f v zero less = refl
unfound_put f v (suc n) less = rw (put_other f v true n (λ same. omega (arith, same, less)), unfound_put f v n (omega arith)) refl

-- one less once a node is found
pub unfound_find : (f : ℕ → Bool) (v n : ℕ) → v < n → f v ≡ false → unfound (put f v true) n + 1 ≡ unfound f n
unfound_find f v zero less hidden = absurd (omega (arith, less))
unfound_find f v (suc n) less hidden = ⊎_elim
    (λ (same : n ≡ v).
    let rest = unfound_put f v n (omega (arith, same)) in
    let here : f n ≡ false = ap f same ∙ hidden in
    rw (put_same f v true n same, here) (omega (arith, rest)))
    (λ (other : n ≢ v).
    let rest = unfound_find f v n (⊎_elim (λ (l : v < n). l) (λ (m : n ≤ v). absurd (other (omega (arith, m, less)))) (cases_lt v n)) hidden in
    ⊎_elim
    (λ (was : f n ≡ true). rw (put_other f v true n other, was) (omega (arith, rest)))
    (λ (not_yet : f n ≡ false). rw (put_other f v true n other, not_yet) (omega (arith, rest)))
    (cases_Bool (f n)))
    (cases_eq n v)

module _ (g : Graph) (w : Trail) (walk : IsTrail g w w.tree.root) (counted : IsCounted g w)
    (taken : (e : ℕ) → e < edge_count g → touches g w.tree.root e ≡ true → IsTaken g w w.tree.root e) where
  root_alone : (x : ℕ) → IsOpen w x → x ≡ w.tree.root
  root_alone x stands = grind arith

  -- the walk left all other nodes
  pub left_or_root : (x : ℕ) → w.found x ≡ true → (x ≡ w.tree.root) ⊎ (w.left x ≡ true)
  left_or_root x found = grind (arith, root_alone x)

  pub all_taken : (x e : ℕ) → w.found x ≡ true → e < edge_count g → touches g x e ≡ true → IsTaken g w x e
  all_taken x e found edge touched = grind (arith, left_or_root x found)

  found_along : (u v : ℕ) (path : List ℕ) → w.found u ≡ true → Walk g u path v → w.found v ≡ true
  found_along u v [] found leads = subst (λ n. w.found n ≡ true) leads found
  found_along u v (e ∷ path) found leads =
      let joins : Joins g e u (to g e) = inl (leads.1, refl) in
      found_along (to g e) v path
      (walk.ends_found u (to g e) e found (all_taken u e found leads.0 (joins_touches g e u (to g e) joins)) joins)
      leads.2

  module _ (strong : IsStrong g) where
    root_node : w.tree.root < g.nodes
    root_node = walk.node w.tree.root walk.root_open.found

    pub all_found : (x : ℕ) → x < g.nodes → w.found x ≡ true
    all_found x node = let way = strong w.tree.root x root_node node in found_along w.tree.root x way.walk walk.root_open.found way.leads

    left_finish : (x : ℕ) → w.found x ≡ true → w.tree.finish x ≤ w.count
    left_finish x found = grind (arith, left_or_root x found)

    few : w.count ≤ g.nodes
    few = let c = counted.count in omega (arith, c)

    nested : (c x : ℕ) → c < g.nodes → x < g.nodes → IsBelow w.tree c x → w.tree.finish x ≤ w.tree.finish c
    nested c x c_node x_node below =
        grind (arith, left_finish x (all_found x x_node), all_found x x_node, left_or_root c (all_found c c_node), all_found c c_node)

    left_later : (x : ℕ) → x < g.nodes → w.tree.preorder x < w.tree.finish x
    left_later x node = grind (arith, all_found x node, left_or_root x (all_found x node))

    module _ (sound : IsGraph g) where
      joined_node : (e u v : ℕ) → e < edge_count g → Joins g e u v → (u < g.nodes) × (v < g.nodes)
      joined_node e u v edge ends = grind arith

      back_ends : (e u v : ℕ) → IsBackEdge g w.tree e → Joins g e u v → w.tree.preorder u ≤ w.tree.preorder v → w.tree.preorder v < w.tree.finish u
      back_ends e u v back ends order =
          let nodes = joined_node e u v back.edge ends in
          ⊎_elim
          (λ (root : u ≡ w.tree.root).
          let finish = walk.open_finish w.tree.root walk.root_open in
          let here = ap w.tree.finish root in
          let inside = walk.in_range v (all_found v nodes.1) in
          omega (arith, finish, here, inside))
          (λ (left : w.left u ≡ true). walk.left_ends u v e left back.edge ends)
          (left_or_root u (all_found u nodes.0))

      one_child : (x y : ℕ) → IsChild g w.tree x → IsChild g w.tree y → w.tree.parent_edge x ≡ w.tree.parent_edge y → x ≡ y
      one_child x y x_child y_child same =
          let x_by = walk.by_edge x (all_found x x_child.node) x_child.other in
          let y_by = walk.by_edge y (all_found y y_child.node) y_child.other in
          let y_ends : Joins g (w.tree.parent_edge x) (w.tree.parent y) y = subst (λ n. Joins g n (w.tree.parent y) y) (sym same) y_by.ends in
          ⊎_elim
          (λ (crossed : (w.tree.parent x ≡ y) × (w.tree.parent y ≡ x)).
          let x_first = x_by.first in
          let y_first = y_by.first in
          let px = ap w.tree.preorder crossed.0 in
          let py = ap w.tree.preorder crossed.1 in
          absurd (omega (arith, x_first, y_first, px, py)))
          (λ (equal : x ≡ y). equal)
          (two_ends g (w.tree.parent_edge x) (w.tree.parent x) x (w.tree.parent y) y x_by.ends y_ends)

      pub walk_depth_first : IsDepthFirst g w.tree
      walk_depth_first = record {
        root_node = root_node;
        root_first = walk.root_first;
        root_last = λ x node. let finish = walk.open_finish w.tree.root walk.root_open in let inside = walk.in_range x (all_found x node) in omega (arith, finish, inside);
        in_range = λ x node. let inside = walk.in_range x (all_found x node) in let most = few in omega (arith, inside, most);
        one_place = λ x y x_node y_node. walk.one_place x y (all_found x x_node) (all_found y y_node);
        left_later = left_later;
        nested = nested;
        parent_node = λ x child. walk.node (w.tree.parent x) (walk.by_edge x (all_found x child.node) child.other).parent;
        parent_first = λ x child. (walk.by_edge x (all_found x child.node) child.other).first;
        tree_edge = λ x child. (walk.by_edge x (all_found x child.node) child.other).taken.edge;
        tree_ends = λ x child. (walk.by_edge x (all_found x child.node) child.other).ends;
        one_child = one_child;
        by_parent = λ c x c_node child apart. walk.by_parent c x (all_found c c_node) (all_found x child.node) child.other apart;
        back_ends = back_ends;
      }
