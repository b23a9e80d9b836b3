-- The tables of the walk, where it leaves a node for its parent.
use Rattle.std.proofs.Common.{◌≡◌, ◌≢◌, ℕ, ◌+◌, ◌*◌, ◌<◌, ◌≤◌, true, false, ltb, Bool, if◌then◌else◌, List, [], ◌∷◌, ◌++◌, length, set, slice_get, Option, None, unwrap_or, refl, sym, ap, ◌∙◌, subst, ⊎_elim, arith}
use Rattle.std.proofs.lemmas.Bool.{cases_lt, lt-ltb, le-ltb}
use Rattle.brackets.specs.Brackets.{IsFree, list_at}
use Rattle.closed_walks.specs.Graph.{Graph, edge_count, edges_at}
use Rattle.cycle_equiv.specs.BracketLists.{top}
use Rattle.cycle_equiv.specs.CapLists.{HaveCaps, caps_at, ended_list, ended_caps}
use Rattle.cycle_equiv.specs.Walking.{Trail, put}
use Rattle.cycle_equiv.specs.TrailReaches.{highest, merging}
use Rattle.cycle_equiv.specs.WalkTables.{IsTable, IsReachTable}
use Rattle.cycle_equiv.specs.WalkState.{IsWalk}
use Rattle.cycle_equiv.specs.declared.walk.BracketWalk.{BracketWalk}
use Rattle.cycle_equiv.specs.declared.walk_reaches.ReachTable.{ReachTable}
use Rattle.cycle_equiv.proofs.Steps.{put_same, put_other}
use Rattle.cycle_equiv.proofs.Tables.{table_as, table_put, table_set, tops_put}
use Rattle.cycle_equiv.proofs.WalkLeft.{left_edge, parents_edge, parents_apart, have_caps, second_within, own_free, own_list, new_caps, joined_lists}
use Rattle.cycle_equiv.proofs.WalkReads.{list_is, free_of}

top_first : (xs : List ℕ) → slice_get xs 0 ≡ top xs
top_first [] = refl
top_first (x ∷ xs) = refl

twice : (b : Bool) → (if b then 2 else 0) ≡ 2 * (if b then 1 else 0)
twice true = refl
twice false = refl

module _ (g : Graph) (c : BracketWalk) (u : ℕ) (h : IsWalk g c u) (not_root : u ≢ h.trail.tree.root) (none : slice_get (edges_at g u) (h.trail.taken u) ≡ None) where
  abbrev w : Trail
  w = h.trail

  abbrev own_edge : ℕ
  own_edge = w.tree.parent_edge u

  abbrev ys : List ℕ
  ys = own_list g c u h not_root none

  pub place_inside : w.tree.preorder u < length c.caps.items
  place_inside = grind arith

  caps_is : (k : ℕ) → k ≤ w.tree.preorder u → caps_at c.caps.items k ≡ h.caps k
  caps_is k less = grind arith

  module _ (f place second edges : ℕ) (f_is : f ≡ own_edge) (place_is : place ≡ w.tree.preorder u) (second_is : second ≡ h.reaches.second u) (edges_is : edges ≡ edge_count g) where
    pub caps_have : HaveCaps edges (list_at c.lists f) (caps_at c.caps.items place)
    caps_have =
        grind (arith, list_is g c u h own_edge (left_edge g c u h not_root none), left_edge g c u h not_root none, caps_is (w.tree.preorder u), have_caps g c u h not_root none)

    pub cap_free : IsFree c.lists (edges + f)
    cap_free = rw (edges_is, f_is) (free_of g c u h (edge_count g + own_edge) (own_free g c u h not_root none))

    list_ended : ended_list edges c.lists c.caps.items f place second ≡ ys
    list_ended = rw (edges_is, f_is, place_is, second_is, list_is g c u h own_edge (left_edge g c u h not_root none), caps_is (w.tree.preorder u) (omega arith)) refl

    -- the lists, with the node's own
    pub ended_table : (new : List (List ℕ)) → new ≡ set c.lists f (ended_list edges c.lists c.caps.items f place second) → IsTable (edge_count g) new [] (put h.lists own_edge ys)
    ended_table new is =
        table_set (edge_count g) [] c.lists new h.lists own_edge ys (left_edge g c u h not_root none)
        (is ∙ ap (set c.lists f) list_ended ∙ ap (λ k. set c.lists k ys) f_is)
        h.kept.list_table

    emptied_table : IsTable g.nodes (set c.caps.items (w.tree.preorder u) []) [] (put h.caps (w.tree.preorder u) [])
    emptied_table = table_put g.nodes [] c.caps.items h.caps (w.tree.preorder u) [] place_inside h.kept.cap_table

    -- and the capping brackets
    caps_table : IsTable g.nodes (ended_caps c.caps.items own_edge (w.tree.preorder u) (h.reaches.second u)) [] (new_caps g c u h not_root none)
    caps_table = ⊎_elim
        (λ (above : h.reaches.second u < w.tree.preorder u).
        let less = place_inside in
        let long = h.kept.cap_table.size in
        rw (lt-ltb (h.reaches.second u) (w.tree.preorder u) above, caps_is (h.reaches.second u) (second_within g c u h not_root none))
        (table_as g.nodes [] (set (set c.caps.items (w.tree.preorder u) []) (h.reaches.second u) (h.caps (h.reaches.second u) ++ own_edge ∷ []))
        (put (put h.caps (w.tree.preorder u) []) (h.reaches.second u) (h.caps (h.reaches.second u) ++ own_edge ∷ [])) (new_caps g c u h not_root none)
        (λ k any. rw (lt-ltb (h.reaches.second u) (w.tree.preorder u) above) refl)
        (table_set g.nodes [] (set c.caps.items (w.tree.preorder u) []) (set (set c.caps.items (w.tree.preorder u) []) (h.reaches.second u) (h.caps (h.reaches.second u) ++ own_edge ∷ [])) (put h.caps (w.tree.preorder u) [])
        (h.reaches.second u) (h.caps (h.reaches.second u) ++ own_edge ∷ []) (omega (arith, less, long, above)) refl emptied_table)))
        (λ (level : w.tree.preorder u ≤ h.reaches.second u).
        rw (le-ltb (h.reaches.second u) (w.tree.preorder u) level)
        (table_as g.nodes [] (set c.caps.items (w.tree.preorder u) []) (put h.caps (w.tree.preorder u) []) (new_caps g c u h not_root none)
        (λ k any. rw (le-ltb (h.reaches.second u) (w.tree.preorder u) level) refl)
        emptied_table))
        (cases_lt (h.reaches.second u) (w.tree.preorder u))

    pub ended_caps_table : (new : List (List ℕ)) → new ≡ ended_caps c.caps.items f place second → IsTable g.nodes new [] (new_caps g c u h not_root none)
    ended_caps_table new is = rw (is, f_is, place_is, second_is) caps_table

    -- what its own capping bracket costs
    pub cap_cost : (if ltb second place then 2 else 0) ≡ 2 * (if ltb (h.reaches.second u) (w.tree.preorder u) then 1 else 0)
    cap_cost = rw (second_is, place_is) (twice (ltb (h.reaches.second u) (w.tree.preorder u)))

  -- ---- what is read of the lists then

  module _ (f : ℕ) (f_is : f ≡ own_edge) (lists : List (List ℕ)) (kept : IsTable (edge_count g) lists [] (put h.lists own_edge ys)) where
    own_is : list_at lists f ≡ ys
    own_is = ap (list_at lists) f_is ∙ kept.exact own_edge (left_edge g c u h not_root none) ∙ put_same h.lists own_edge ys own_edge refl

    pub top_table : (answer : Option ℕ) (value : ℕ) (new : List ℕ) → answer ≡ slice_get (list_at lists f) 0 → value ≡ unwrap_or answer 0 → new ≡ set c.names.tops.items f value → IsTable (edge_count g) new 0 (λ e. unwrap_or (put h.tops own_edge (top ys) e) 0)
    top_table answer value new answer_is value_is is =
        grind (arith, tops_put (edge_count g) c.names.tops.items new h.tops own_edge (top ys) (left_edge g c u h not_root none), left_edge g c u h not_root none, unwrap_or, own_is, top_first ys, unwrap_or (top ys) 0)

    pub size_table : (value : ℕ) (new : List ℕ) → value ≡ length (list_at lists f) → new ≡ set c.names.sizes.items f value → IsTable (edge_count g) new 0 (put h.sizes own_edge (length ys))
    size_table value new value_is is =
        grind (arith, table_set (edge_count g) 0 c.names.sizes.items new h.sizes own_edge (length ys) (left_edge g c u h not_root none), left_edge g c u h not_root none, own_is)

    module _ (above : ℕ) (other : w.tree.parent u ≢ w.tree.root) (above_is : above ≡ w.tree.parent_edge (w.tree.parent u)) where
      pub above_apart : above ≢ f
      above_apart same = parents_apart g c u h not_root none other (sym above_is ∙ same ∙ f_is)

      pub above_inside : above < length lists
      above_inside = grind (arith, parents_edge g c u h not_root none other)

      parents_is : list_at lists above ≡ h.lists (w.tree.parent_edge (w.tree.parent u))
      parents_is =
          grind (arith, parents_edge g c u h not_root none other, put_other h.lists own_edge ys (w.tree.parent_edge (w.tree.parent u)) (parents_apart g c u h not_root none other), parents_apart g c u h not_root none other)

      pub joined_table : (new : List (List ℕ)) → new ≡ set (set lists above (list_at lists above ++ list_at lists f)) f [] → IsTable (edge_count g) new [] (joined_lists g c u h not_root none)
      joined_table new is =
          let upper = w.tree.parent_edge (w.tree.parent u) in
          let both = h.lists upper ++ ys in
          table_set (edge_count g) [] (set lists upper both) new (put (put h.lists own_edge ys) upper both) own_edge [] (left_edge g c u h not_root none)
          (is
          ∙ ap (λ xs. set (set lists above (xs ++ list_at lists f)) f []) parents_is
          ∙ ap (λ xs. set (set lists above (h.lists upper ++ xs)) f []) own_is
          ∙ ap (λ k. set (set lists k both) f []) above_is
          ∙ ap (λ k. set (set lists upper both) k []) f_is)
          (table_set (edge_count g) [] lists (set lists upper both) (put h.lists own_edge ys) upper both (parents_edge g c u h not_root none other) refl kept)

  pub merged_table : (p k : ℕ) (new : ReachTable) → p ≡ w.tree.parent u → k ≡ highest h.reaches u → IsReachTable g.nodes new (merging h.reaches p k) → IsReachTable g.nodes new (merging h.reaches (w.tree.parent u) (highest h.reaches u))
  merged_table p k new p_is k_is t =
      subst (λ n. IsReachTable g.nodes new (merging h.reaches (w.tree.parent u) n)) k_is (subst (λ n. IsReachTable g.nodes new (merging h.reaches n k)) p_is t)
