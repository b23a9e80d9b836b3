-- A depth-first walk goes on where it takes an edge to a node that was found before.
use Rattle.std.proofs.Common.{◌≡◌, ◌≢◌, ℕ, ◌<◌, ◌⊎◌, true, sym, subst, ⊎_elim, arith}
use Rattle.std.proofs.lemmas.Bool.{cases_eq}
use Rattle.closed_walks.specs.Graph.{Graph, edge_count, touches}
use Rattle.cycle_equiv.specs.DepthFirst.{Joins}
use Rattle.cycle_equiv.specs.Walking.{Trail, IsTaken, IsOpen, IsFoundBy, IsTrail, earlier, taking}
use Rattle.cycle_equiv.proofs.Steps.{joins_one, taken_still, taken_elsewhere, taken_here}

module _ (g : Graph) (w : Trail) (u : ℕ) (walk : IsTrail g w u) where
  -- the node at which the walk is has no open child
  pub no_open_child : (y : ℕ) → IsOpen w y → y ≢ w.tree.root → w.tree.parent y ≡ u → ⊥
  no_open_child y stands other parent = grind arith

  module _ (e v : ℕ) (edge : e < edge_count g) (touched : touches g u e ≡ true) (next : earlier g u e ≡ w.taken u) (ends : Joins g e u v) (found : w.found v ≡ true) where
    ends_found : (x y d : ℕ) → w.found x ≡ true → IsTaken g (taking w u) x d → Joins g d x y → w.found y ≡ true
    ends_found x y d x_found taken joins = ⊎_elim
        (λ (same : x ≡ u). ⊎_elim
        (λ (this : d ≡ e).
        let here : Joins g e u y = subst (λ n. Joins g e n y) same (subst (λ n. Joins g n x y) this joins) in
        subst (λ n. w.found n ≡ true) (sym (joins_one g e u v y ends here)) found)
        (λ (old : IsTaken g w u d). walk.ends_found u y d walk.here.found old (subst (λ n. Joins g d n y) same joins))
        (taken_here g w u e edge touched next d (subst (λ n. IsTaken g (taking w u) n d) same taken)))
        (λ (other : x ≢ u). walk.ends_found x y d x_found (taken_elsewhere g w u x d other taken) joins)
        (cases_eq x u)

    before : (x y z d : ℕ) → IsOpen w x → IsOpen w y → y ≢ w.tree.root → w.tree.parent y ≡ x → IsTaken g (taking w u) x d → Joins g d x z → (d ≡ w.tree.parent_edge y) ⊎ (w.tree.preorder z < w.tree.preorder y)
    before x y z d x_open y_open other parent taken joins = grind (arith, taken_elsewhere g w u x d, no_open_child y y_open other)

    by_edge : (x : ℕ) → w.found x ≡ true → x ≢ w.tree.root → IsFoundBy g (taking w u) x
    by_edge x x_found other =
        let h = walk.by_edge x x_found other in
        record { parent = h.parent; first = h.first; ends = h.ends; taken = taken_still g w u (w.tree.parent x) (w.tree.parent_edge x) h.taken }

    open_was : (x : ℕ) → IsOpen (taking w u) x → IsOpen w x
    open_was x h = record { found = h.found; stays = h.stays }

    pub take_trail : IsTrail g (taking w u) u
    take_trail = record {
      root_first = walk.root_first;
      root_open = record { found = walk.root_open.found; stays = walk.root_open.stays };
      here = record { found = walk.here.found; stays = walk.here.stays };
      last = λ y h. walk.last y (open_was y h);
      node = walk.node;
      in_range = walk.in_range;
      one_place = walk.one_place;
      by_edge = by_edge;
      by_parent = walk.by_parent;
      ends_found = ends_found;
      open_finish = λ x h. walk.open_finish x (open_was x h);
      before = λ x y z d x_open y_open. before x y z d (open_was x x_open) (open_was y y_open);
      left_found = walk.left_found;
      left_later = walk.left_later;
      left_finish = walk.left_finish;
      left_edges = λ x d left exists touching. taken_still g w u x d (walk.left_edges x d left exists touching);
      left_ends = walk.left_ends;
      left_above = λ x y d left stands. walk.left_above x y d left (open_was y stands);
      left_apart = λ x y left stands. walk.left_apart x y left (open_was y stands);
      nested_left = walk.nested_left;
      nested = walk.nested;
    }
