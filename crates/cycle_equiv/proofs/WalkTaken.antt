-- The walk goes on where it takes an edge to a node that was found before.
use Rattle.std.proofs.Common.{◌≡◌, ◌≢◌, ℕ, ◌+◌, ◌<◌, ◌≤◌, true, false, List, ◌∷◌, length, Option, Some, refl, sym, ap, ◌∙◌, subst, ⊎_elim, arith}
use Rattle.std.proofs.lemmas.Bool.{cases_lt}
use Rattle.brackets.specs.Brackets.{without}
use Rattle.closed_walks.specs.Graph.{Graph, edge_count, edges_at}
use Rattle.closed_walks.specs.Walk.{Holds}
use Rattle.cycle_equiv.specs.DepthFirst.{Joins}
use Rattle.cycle_equiv.specs.Walking.{Trail, IsOpen, earlier, put, taking}
use Rattle.cycle_equiv.specs.TrailReaches.{Reaches, IsUpwards, AreReaches, reaching}
use Rattle.cycle_equiv.specs.Pending.{AreOpenLists, AreNamed}
use Rattle.cycle_equiv.specs.CapLists.{caps_total}
use Rattle.cycle_equiv.specs.WalkState.{IsKept, IsWalk, IsPaidWalk, IsNextEdge, IsTold}
use Rattle.cycle_equiv.specs.WalkSteps.{spent, saved}
use Rattle.cycle_equiv.specs.declared.walk.BracketWalk.{BracketWalk}
use Rattle.cycle_equiv.proofs.Named.{take_named, put_named, not_found_by}
use Rattle.cycle_equiv.proofs.Ordered.{in_order_without, without_was, without_apart, without_still}
use Rattle.cycle_equiv.proofs.PendingSteps.{level_lists, root_lists, up_lists, not_listed, down_stands, down_lists, take_left_lists, take_caps}
use Rattle.cycle_equiv.proofs.ReachingSteps.{take_reaches, up_reaches}
use Rattle.cycle_equiv.proofs.Spending.{saved_take, saved_level, spent_take, few_caps_take}
use Rattle.cycle_equiv.proofs.Steps.{put_same, put_other, joins_one, joins_back, two_ends}
use Rattle.cycle_equiv.proofs.Tables.{told_put}
use Rattle.cycle_equiv.proofs.Taking.{take_trail}
use Rattle.cycle_equiv.proofs.WalkReads.{rank_is, still_few}

module _ (g : Graph) (c : BracketWalk) (u : ℕ) (h : IsWalk g c u) (e v : ℕ) (next : IsNextEdge g c u e) (ends : Joins g e u v) (known : h.trail.found v ≡ true) where
  abbrev w : Trail
  w = h.trail

  rank : earlier g u e ≡ w.taken u
  rank = rank_is g c u h e next

  none_taken : (x : ℕ) → w.found x ≡ false → put w.taken u (w.taken u + 1) x ≡ 0
  none_taken x hidden = grind (arith, put_other w.taken u (w.taken u + 1) x)

  few_taken : (x : ℕ) → x < g.nodes → put w.taken u (w.taken u + 1) x ≤ length (edges_at g x)
  few_taken x node = grind (arith, put_same w.taken, still_few g c, put_other w.taken)

  abbrev IsPaid : (start now : ℕ) → Type 0
  IsPaid start now = now + caps_total c.caps.items + saved g w ≤ start + spent g.nodes w h.reaches + 1

  abbrev HasSameCaps : BracketWalk → Type 0
  HasSameCaps new = caps_total new.caps.items ≡ caps_total c.caps.items

  -- What else is so after the edge was taken. The step before asked for it.
  pub taken_walk : (new : BracketWalk) (r : Reaches) (lists : ℕ → List ℕ) (tops : ℕ → Option ℕ) (sizes : ℕ → ℕ) (start now after : ℕ) → r.second ≡ h.reaches.second
      → IsPaid start now → after + saved g (taking w u) ≤ now + saved g w + 2 → HasSameCaps new
      → IsKept g new (taking w u) r lists h.caps tops sizes → AreReaches g (taking w u) r → AreOpenLists g (taking w u) r lists → AreNamed g (taking w u) h.final tops sizes → ((d : ℕ) → IsTold (tops d) (sizes d)) → IsPaidWalk g new u start after
  taken_walk new r lists tops sizes start now after same paid cost caps kept reaches open_lists named told = record {
    walk = record {
      trail = taking w u;
      reaches = r;
      lists = lists;
      caps = h.caps;
      final = h.final;
      tops = tops;
      sizes = sizes;
      kept = kept;
      graph = h.graph;
      is_trail = take_trail g w u h.is_trail e v next.edge next.touched rank ends known;
      counted = record { count = h.counted.count };
      places = λ k less. let p = h.places k less in record { node = p.node; found = p.found; exact = p.exact };
      none_taken = none_taken;
      few_taken = few_taken;
      are_reaches = reaches;
      open_lists = open_lists;
      left_lists = take_left_lists g w u h.is_trail h.reaches h.lists h.open_lists e v next.edge next.touched rank ends known r same h.final h.left_lists;
      are_caps = take_caps g w u h.is_trail h.reaches h.lists h.open_lists e v next.edge next.touched rank ends known r same h.caps h.are_caps;
      caps_once = h.caps_once;
      named = named;
      told = told;
      few_caps = few_caps_take g w u h.is_trail e v next.edge next.touched rank ends h.reaches r same h.few_caps;
    };
    paid = let more = spent_take g w u h.is_trail e v next.edge next.touched rank ends h.reaches r same in omega (arith, paid, cost, caps, more);
  }

  own_told : (d : ℕ) → IsTold (put h.tops e (Some e) d) (put h.sizes e 1 d)
  own_told = told_put h.tops h.sizes e (Some e) 1 (omega arith) h.told

  -- a step that costs nothing more, or one
  free_cost : (now after : ℕ) → after ≤ now + 1 → after + saved g (taking w u) ≤ now + saved g w + 2
  free_cost now after few = let most = saved_take g w u h.is_trail e v next.edge next.touched rank ends in omega (arith, few, most)

  one_cost : (now after : ℕ) → after ≤ now + 2 → (u ≢ w.tree.root → w.tree.parent_edge u ≢ e) → after + saved g (taking w u) ≤ now + saved g w + 2
  one_cost now after few not_back = let most = saved_level g w u h.is_trail e v next.edge next.touched rank ends not_back in omega (arith, few, most)

  -- ---- a loop

  module _ (loop : u ≡ v) where
    no_loop_up : (low z : ℕ) → IsUpwards g (taking w u) e low z → ⊥
    no_loop_up low z b = grind (arith, joins_one g e, joins_back g e, two_ends g e)

    loop_apart : (y : ℕ) → w.found y ≡ true → y ≢ w.tree.root → w.tree.parent_edge y ≢ e
    loop_apart =
        not_found_by g w u h.is_trail e v next.edge next.touched rank ends h.final h.tops h.sizes h.named
        (λ other same.
        let by = h.is_trail.by_edge u h.is_trail.here.found other in
        let first = by.first in
        let joins : Joins g e u (w.tree.parent u) = joins_back g e (w.tree.parent u) u (subst (λ n. Joins g n (w.tree.parent u) u) same by.ends) in
        let up : w.tree.parent u ≡ v = joins_one g e u v (w.tree.parent u) ends joins in
        let places = ap w.tree.preorder (up ∙ sym loop) in
        omega (arith, first, places))

    pub loop_walk : (new : BracketWalk) (start now after : ℕ) → IsPaid start now → after ≤ now + 1 → HasSameCaps new → IsKept g new (taking w u) h.reaches h.lists h.caps (put h.tops e (Some e)) (put h.sizes e 1) → IsPaidWalk g new u start after
    loop_walk new start now after paid few caps kept =
        taken_walk new h.reaches h.lists (put h.tops e (Some e)) (put h.sizes e 1) start now after refl paid (free_cost now after few) caps kept
        (take_reaches g w u h.is_trail h.reaches h.are_reaches e v next.edge next.touched rank ends known (λ b. no_loop_up u v b))
        (level_lists g w u h.is_trail h.reaches h.lists h.open_lists e v next.edge next.touched rank ends known no_loop_up)
        (put_named g w u h.is_trail e v next.edge next.touched rank ends h.final h.tops h.sizes h.named loop_apart)
        own_told

  -- ---- an edge to another open node

  module _ (apart : u ≢ v) (stands : IsOpen w v) where
    v_above : w.tree.preorder v < w.tree.preorder u
    v_above =
        let last = h.is_trail.last v stands in
        ⊎_elim
        (λ (less : w.tree.preorder v < w.tree.preorder u). less)
        (λ (more : w.tree.preorder u ≤ w.tree.preorder v). absurd (apart (h.is_trail.one_place u v h.is_trail.here.found known (omega (arith, last, more)))))
        (cases_lt (w.tree.preorder v) (w.tree.preorder u))

    not_root : u ≢ w.tree.root
    not_root same = let above = v_above in let zero_place = h.is_trail.root_first in let here = ap w.tree.preorder same in omega (arith, above, zero_place, here)

    -- back to the parent by the edge by which the node was found
    module _ (back : w.tree.parent_edge u ≡ e) where
      no_back_up : (low z : ℕ) → IsUpwards g (taking w u) e low z → ⊥
      no_back_up low z b = grind (arith, v_above, joins_one g e, joins_back g e, two_ends g e)

      pub back_walk : (new : BracketWalk) (start now after : ℕ) → IsPaid start now → after ≤ now + 1 → HasSameCaps new → IsKept g new (taking w u) h.reaches h.lists h.caps h.tops h.sizes → IsPaidWalk g new u start after
      back_walk new start now after paid few caps kept =
          taken_walk new h.reaches h.lists h.tops h.sizes start now after refl paid (free_cost now after few) caps kept
          (take_reaches g w u h.is_trail h.reaches h.are_reaches e v next.edge next.touched rank ends known (λ b. no_back_up u v b))
          (level_lists g w u h.is_trail h.reaches h.lists h.open_lists e v next.edge next.touched rank ends known no_back_up)
          (take_named g w u h.is_trail e v next.edge next.touched rank ends h.final h.tops h.sizes h.named (λ order none. none u h.is_trail.here.found not_root back))
          h.told

    -- up, by another edge
    module _ (other : w.tree.parent_edge u ≢ e) where
      pub up_walk : (new : BracketWalk) (start now after : ℕ) → IsPaid start now → after ≤ now + 2 → HasSameCaps new → IsKept g new (taking w u) (reaching h.reaches u (w.tree.preorder v)) (put h.lists (w.tree.parent_edge u) (e ∷ h.lists (w.tree.parent_edge u))) h.caps (put h.tops e (Some e)) (put h.sizes e 1) → IsPaidWalk g new u start after
      up_walk new start now after paid few caps kept =
          taken_walk new (reaching h.reaches u (w.tree.preorder v)) (put h.lists (w.tree.parent_edge u) (e ∷ h.lists (w.tree.parent_edge u))) (put h.tops e (Some e)) (put h.sizes e 1) start now after refl paid (one_cost now after few (λ any. other)) caps kept
          (up_reaches g w u h.is_trail h.reaches h.are_reaches e v next.edge next.touched rank ends known v_above (λ same. other (sym same)))
          (up_lists g w u h.is_trail h.reaches h.lists h.open_lists e v next.edge next.touched rank ends known v_above (λ same. other (sym same)))
          (put_named g w u h.is_trail e v next.edge next.touched rank ends h.final h.tops h.sizes h.named
          (not_found_by g w u h.is_trail e v next.edge next.touched rank ends h.final h.tops h.sizes h.named (λ any. other)))
          own_told

      -- the edge is in no list yet
      pub up_free : (l : ℕ) → Holds (h.lists l) e → ⊥
      up_free l = not_listed g w u h.is_trail h.reaches h.lists h.open_lists e v next.edge next.touched rank ends known v_above (λ same. other (sym same)) l

      pub up_edge : w.tree.parent_edge u < edge_count g
      up_edge = (h.is_trail.by_edge u h.is_trail.here.found not_root).taken.edge

  -- ---- an edge to a node that was left

  module _ (left : w.left v ≡ true) where
    v_below : w.tree.preorder u < w.tree.preorder v
    v_below = h.is_trail.left_above v u e left h.is_trail.here next.edge (joins_back g e u v ends)

    no_up : IsUpwards g (taking w u) e u v → ⊥
    no_up b = let above = b.above in let below = v_below in omega (arith, above, below)

    down_named : AreNamed g (taking w u) h.final h.tops h.sizes
    down_named = take_named g w u h.is_trail e v next.edge next.touched rank ends h.final h.tops h.sizes h.named (λ order none. let below = v_below in omega (arith, order, below))

    pub down_root : u ≡ w.tree.root → (new : BracketWalk) (start now after : ℕ) → IsPaid start now → after ≤ now + 1 → HasSameCaps new → IsKept g new (taking w u) h.reaches h.lists h.caps h.tops h.sizes → IsPaidWalk g new u start after
    down_root root new start now after paid few caps kept =
        taken_walk new h.reaches h.lists h.tops h.sizes start now after refl paid (free_cost now after few) caps kept
        (take_reaches g w u h.is_trail h.reaches h.are_reaches e v next.edge next.touched rank ends known no_up)
        (root_lists g w u h.is_trail h.reaches h.lists h.open_lists e v next.edge next.touched rank ends known root)
        down_named
        h.told

    -- it isn't the edge by which the node was found
    down_apart : u ≢ w.tree.root → w.tree.parent_edge u ≢ e
    down_apart other same =
        let by = h.is_trail.by_edge u h.is_trail.here.found other in
        let first = by.first in
        let joins : Joins g e u (w.tree.parent u) = joins_back g e (w.tree.parent u) u (subst (λ n. Joins g n (w.tree.parent u) u) same by.ends) in
        let up : w.tree.parent u ≡ v = joins_one g e u v (w.tree.parent u) ends joins in
        let places = ap w.tree.preorder up in
        let below = v_below in
        omega (arith, first, places, below)

    module _ (not_root : u ≢ w.tree.root) where
      pub down_edge : w.tree.parent_edge u < edge_count g
      down_edge = (h.is_trail.by_edge u h.is_trail.here.found not_root).taken.edge

      pub down_listed : Holds (h.lists (w.tree.parent_edge u)) e
      down_listed = down_stands g w u h.is_trail h.reaches h.lists h.open_lists e v next.edge next.touched rank ends known v_below not_root

      pub down_walk : (new : BracketWalk) (start now after : ℕ) → IsPaid start now → after ≤ now + 2 → HasSameCaps new → IsKept g new (taking w u) h.reaches (put h.lists (w.tree.parent_edge u) (without (h.lists (w.tree.parent_edge u)) e)) h.caps h.tops h.sizes → IsPaidWalk g new u start after
      down_walk new start now after paid few caps kept =
          let order = h.open_lists.in_order u h.is_trail.here not_root in
          taken_walk new h.reaches (put h.lists (w.tree.parent_edge u) (without (h.lists (w.tree.parent_edge u)) e)) h.tops h.sizes start now after refl paid (one_cost now after few down_apart) caps kept
          (take_reaches g w u h.is_trail h.reaches h.are_reaches e v next.edge next.touched rank ends known no_up)
          (down_lists g w u h.is_trail h.reaches h.lists h.open_lists e v next.edge next.touched rank ends known v_below not_root
          (without (h.lists (w.tree.parent_edge u)) e)
          (λ b. (
            λ holds. (without_was g w.tree (h.lists (w.tree.parent_edge u)) e b holds, without_apart g w.tree (h.lists (w.tree.parent_edge u)) e b order holds),
            λ both. without_still g w.tree (h.lists (w.tree.parent_edge u)) e b both.0 both.1,
          ))
          (in_order_without g w.tree (h.lists (w.tree.parent_edge u)) e order))
          down_named
          h.told
