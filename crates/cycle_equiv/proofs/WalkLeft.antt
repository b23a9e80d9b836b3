-- The walk goes on where it leaves a node for its parent.
use Rattle.std.proofs.Common.{◌≡◌, ◌≢◌, ℕ, ◌+◌, ◌*◌, ◌<◌, ◌≤◌, ◌⊎◌, ◌↔◌, true, if◌then◌else◌, ltb, List, [], ◌∷◌, ◌++◌, length, slice_get, None, refl, sym, ap, ◌∙◌, subst, inl, inr, ⊎_elim, arith}
use Rattle.std.proofs.lemmas.Bool.{cases_eq, cases_lt, lt-ltb, le-ltb}
use Rattle.brackets.specs.Brackets.{IsOnce}
use Rattle.brackets.proofs.ApartLemmas.{once_append}
use Rattle.closed_walks.specs.Graph.{Graph, edge_count, touches, edges_at}
use Rattle.closed_walks.specs.Walk.{Holds}
use Rattle.closed_walks.proofs.Walks.{Holds-left, Holds-right, Holds-append}
use Rattle.cycle_equiv.specs.BracketLists.{AreInOrder, top}
use Rattle.cycle_equiv.specs.CapLists.{HaveCaps, caps_total, ended}
use Rattle.cycle_equiv.specs.DepthFirst.{Tree}
use Rattle.cycle_equiv.specs.Walking.{Trail, IsTaken, IsOpen, HasPlace, put, leaving}
use Rattle.cycle_equiv.specs.TrailReaches.{Reaches, highest, merging}
use Rattle.cycle_equiv.specs.Pending.{IsCapping, HasCap, IsHeldNow}
use Rattle.cycle_equiv.specs.WalkState.{IsKept, IsWalk, IsPaidWalk}
use Rattle.cycle_equiv.specs.WalkSteps.{spent, saved}
use Rattle.cycle_equiv.specs.declared.walk.BracketWalk.{BracketWalk}
use Rattle.cycle_equiv.proofs.EdgeAt.{edge_at_none}
use Rattle.cycle_equiv.proofs.Leaving.{leave_trail, parent_open}
use Rattle.cycle_equiv.proofs.Named.{leave_named}
use Rattle.cycle_equiv.proofs.OpenPath.{one_edge}
use Rattle.cycle_equiv.proofs.Ordered.{in_order_without, without_was, without_apart, without_still}
use Rattle.cycle_equiv.proofs.PendingLeft.{held_with_cap, held_without_cap, own_over, leave_lists, leave_left_lists, leave_caps}
use Rattle.cycle_equiv.proofs.PendingSteps.{carrier_here}
use Rattle.cycle_equiv.proofs.Reaching.{leave_reaches}
use Rattle.cycle_equiv.proofs.SpendingLeft.{few_caps_leave, spent_leave}
use Rattle.cycle_equiv.proofs.Steps.{put_same, put_other}
use Rattle.cycle_equiv.proofs.Tables.{told_list, told_put}
use Rattle.cycle_equiv.proofs.WalkReads.{stands_holds, holds_stands}

-- ---- a list without the capping brackets that ended

module _ (g : Graph) (t : Tree) (edges : ℕ) (xs : List ℕ) (order : AreInOrder g t xs) where
  in_order_ended : (fs : List ℕ) → AreInOrder g t (ended edges xs fs)
  in_order_ended [] = order
  in_order_ended (f ∷ fs) = in_order_without g t (ended edges xs fs) (edges + f) (in_order_ended fs)

  ended_members : (fs : List ℕ) (b : ℕ) → Holds (ended edges xs fs) b ↔ (Holds xs b × ((f : ℕ) → Holds fs f → b ≢ edges + f))
  ended_members [] b = (λ holds. (holds, λ f none. absurd none), λ both. both.0)
  ended_members (f ∷ fs) b =
      let rest = ended_members fs b in (
        λ holds.
            let was = rest.0 (without_was g t (ended edges xs fs) (edges + f) b holds) in (
              was.0,
              λ d there. ⊎_elim
                  (λ (here : f ≡ d). subst (λ n. b ≢ edges + n) here (without_apart g t (ended edges xs fs) (edges + f) b (in_order_ended fs) holds))
                  (λ (later : Holds fs d). was.1 d later)
                  there,
            ),
        λ both. without_still g t (ended edges xs fs) (edges + f) b (rest.1 (both.0, λ d there. both.1 d (inr there))) (both.1 f (inl refl)),
      )

module _ (g : Graph) (c : BracketWalk) (u : ℕ) (h : IsWalk g c u) (not_root : u ≢ h.trail.tree.root) (none : slice_get (edges_at g u) (h.trail.taken u) ≡ None) where
  abbrev w : Trail
  w = h.trail

  abbrev r : Reaches
  r = h.reaches

  abbrev own_edge : ℕ
  own_edge = w.tree.parent_edge u

  abbrev parent : ℕ
  parent = w.tree.parent u

  abbrev place : ℕ
  place = w.tree.preorder u

  taken : (e : ℕ) → e < edge_count g → touches g u e ≡ true → IsTaken g w u e
  taken e edge touched = record { edge = edge; touched = touched; early = edge_at_none g u (w.taken u) e none edge touched }

  pub left_edge : own_edge < edge_count g
  left_edge = (h.is_trail.by_edge u h.is_trail.here.found not_root).taken.edge

  pub parent_node : parent < g.nodes
  parent_node = h.is_trail.node parent (h.is_trail.by_edge u h.is_trail.here.found not_root).parent

  pub parents_edge : parent ≢ w.tree.root → w.tree.parent_edge parent < edge_count g
  parents_edge other = (h.is_trail.by_edge parent (parent_open g w u h.is_trail not_root).found other).taken.edge

  pub parents_apart : parent ≢ w.tree.root → w.tree.parent_edge parent ≢ own_edge
  parents_apart other same =
      let by = h.is_trail.by_edge u h.is_trail.here.found not_root in
      let first = by.first in
      let equal = one_edge g w u h.is_trail parent u by.parent h.is_trail.here.found other not_root same in
      let places = ap w.tree.preorder equal in
      omega (arith, first, places)

  -- ---- the capping brackets that lead to the node

  cap_low : (f : ℕ) → Holds (h.caps place) f → HasCap g w r u f
  cap_low f holds = (h.are_caps.listed u f h.is_trail.here).0 holds

  pub have_caps : HaveCaps (edge_count g) (h.lists own_edge) (h.caps place)
  have_caps = record {
    once = h.caps_once place;
    stand = λ f stands.
        let cap = cap_low f (stands_holds (h.caps place) f stands) in
        let above = cap.cap.above in
        holds_stands (h.lists own_edge) (edge_count g + f) ((h.open_lists.listed u (edge_count g + f) h.is_trail.here not_root).1 (record {
          low = cap.low;
          pending = record { end = u; kind = inr (cap.cap, h.is_trail.here) };
          carrier = carrier_here g w u h.is_trail r cap.low (omega (arith, above));
        }));
    few = λ f stands.
        let cap = cap_low f (stands_holds (h.caps place) f stands) in
        let number = cap.cap.number in
        let edge = (h.is_trail.by_edge cap.low (h.is_trail.left_found cap.low cap.cap.left) cap.cap.other).taken.edge in
        let few_edges = h.graph.few_edges in
        omega (arith, number, edge, few_edges);
  }

  abbrev rest : List ℕ
  rest = ended (edge_count g) (h.lists own_edge) (h.caps place)

  own_order : AreInOrder g w.tree (h.lists own_edge)
  own_order = h.open_lists.in_order u h.is_trail.here not_root

  members : (b : ℕ) → Holds rest b ↔ (Holds (h.lists own_edge) b × ((f : ℕ) → Holds (h.caps place) f → b ≢ edge_count g + f))
  members = ended_members g w.tree (edge_count g) (h.lists own_edge) own_order (h.caps place)

  -- ---- its own

  pub second_within : r.second u ≤ place
  second_within = h.are_reaches.second_most u h.is_trail.here.found

  end_place : r.second u < place → HasPlace w (r.second u)
  end_place above = let inside = h.is_trail.in_range u h.is_trail.here.found in h.places (r.second u) (omega (arith, above, inside))

  end_open : (above : r.second u < place) → IsOpen w (end_place above).node
  end_open above = let p = end_place above in h.are_reaches.second_open u p.node h.is_trail.here p.found p.exact above

  -- no capping bracket has the edge's number yet
  no_cap : (low end : ℕ) → IsCapping g w r (edge_count g + own_edge) low end → ⊥
  no_cap low end cap = grind (arith, one_edge g w u h.is_trail low u (h.is_trail.left_found low cap.left) h.is_trail.here.found cap.other not_root)

  pub own_free : (l : ℕ) → Holds (h.lists l) (edge_count g + own_edge) → ⊥
  own_free l holds =
      let s = h.open_lists.bracket l (edge_count g + own_edge) holds in
      ⊎_elim
      (λ back. let edge = back.taken.edge in omega (arith, edge))
      (λ (cap : IsCapping g w r (edge_count g + own_edge) s.low s.end). no_cap s.low s.end cap)
      s.leads

  -- the list that the node has when it was left
  abbrev pub own_list : List ℕ
  own_list = if ltb (r.second u) place then (edge_count g + own_edge) ∷ rest else rest

  held : (b : ℕ) → Holds own_list b ↔ IsHeldNow g (leaving w u) (merging r parent (highest r u)) u b
  held b = ⊎_elim
      (λ (above : r.second u < place).
      let p = end_place above in
      rw (lt-ltb (r.second u) place above) (held_with_cap g w u h.is_trail r h.are_reaches not_root taken h.lists h.open_lists h.caps h.are_caps rest members p.node p.found p.exact above b))
      (λ (level : place ≤ r.second u).
      rw (le-ltb (r.second u) place level) (held_without_cap g w u h.is_trail r h.are_reaches not_root taken h.lists h.open_lists h.caps h.are_caps rest members level b))
      (cases_lt (r.second u) place)

  list_order : AreInOrder g w.tree own_list
  list_order = ⊎_elim
      (λ (above : r.second u < place).
      let p = end_place above in
      rw (lt-ltb (r.second u) place above) (
        own_over g w u h.is_trail r h.are_reaches not_root taken h.lists h.open_lists h.caps h.are_caps rest members p.node p.found p.exact above,
        in_order_ended g w.tree (edge_count g) (h.lists own_edge) own_order (h.caps place),
      ))
      (λ (level : place ≤ r.second u).
      rw (le-ltb (r.second u) place level) (in_order_ended g w.tree (edge_count g) (h.lists own_edge) own_order (h.caps place)))
      (cases_lt (r.second u) place)

  -- ---- the capping brackets, after

  abbrev pub new_caps : ℕ → List ℕ
  new_caps k = if ltb (r.second u) place then put (put h.caps place []) (r.second u) (h.caps (r.second u) ++ own_edge ∷ []) k else put h.caps place [] k

  caps_elsewhere : (k f : ℕ) → k ≢ place → Holds (new_caps k) f ↔ (Holds (h.caps k) f ⊎ ((k ≡ r.second u) × (r.second u < place) × (f ≡ own_edge)))
  caps_elsewhere k f apart = ⊎_elim
      (λ (above : r.second u < place).
      rw (lt-ltb (r.second u) place above)
      (⊎_elim
      (λ (here : k ≡ r.second u).
      let list : put (put h.caps place []) (r.second u) (h.caps (r.second u) ++ own_edge ∷ []) k ≡ h.caps (r.second u) ++ own_edge ∷ [] = put_same (put h.caps place []) (r.second u) (h.caps (r.second u) ++ own_edge ∷ []) k here in (
        λ holds. ⊎_elim
            (λ (old : Holds (h.caps (r.second u)) f). inl (subst (λ n. Holds (h.caps n) f) (sym here) old))
            (λ (new : Holds (own_edge ∷ []) f). inr (here, above, ⊎_elim (λ (same : own_edge ≡ f). sym same) (λ no. absurd no) new))
            (Holds-append (h.caps (r.second u)) (own_edge ∷ []) f (subst (λ xs. Holds xs f) list holds)),
        λ either. subst (λ xs. Holds xs f) (sym list) (⊎_elim
            (λ (old : Holds (h.caps k) f). Holds-left (h.caps (r.second u)) (own_edge ∷ []) f (subst (λ n. Holds (h.caps n) f) here old))
            (λ (new : (k ≡ r.second u) × (r.second u < place) × (f ≡ own_edge)). Holds-right (h.caps (r.second u)) (own_edge ∷ []) f (inl (sym new.2)))
            either),
      ))
      (λ (there : k ≢ r.second u).
      let list : put (put h.caps place []) (r.second u) (h.caps (r.second u) ++ own_edge ∷ []) k ≡ h.caps k =
      put_other (put h.caps place []) (r.second u) (h.caps (r.second u) ++ own_edge ∷ []) k there ∙ put_other h.caps place [] k apart in (
        λ holds. inl (subst (λ xs. Holds xs f) list holds),
        λ either. subst (λ xs. Holds xs f) (sym list) (⊎_elim
            (λ (old : Holds (h.caps k) f). old)
            (λ (new : (k ≡ r.second u) × (r.second u < place) × (f ≡ own_edge)). absurd (there new.0))
            either),
      ))
      (cases_eq k (r.second u))))
      (λ (level : place ≤ r.second u).
      rw (le-ltb (r.second u) place level)
      (let list : put h.caps place [] k ≡ h.caps k = put_other h.caps place [] k apart in (
        λ holds. inl (subst (λ xs. Holds xs f) list holds),
        λ either. subst (λ xs. Holds xs f) (sym list) (⊎_elim
            (λ (old : Holds (h.caps k) f). old)
            (λ (new : (k ≡ r.second u) × (r.second u < place) × (f ≡ own_edge)). let above = new.1 in absurd (omega (arith, above, level)))
            either),
      )))
      (cases_lt (r.second u) place)

  none_here : (f : ℕ) → Holds (new_caps place) f → ⊥
  none_here f = ⊎_elim
      (λ (above : r.second u < place).
      rw (lt-ltb (r.second u) place above)
      (λ holds. subst (λ xs. Holds xs f)
      (put_other (put h.caps place []) (r.second u) (h.caps (r.second u) ++ own_edge ∷ []) place (λ same. omega (arith, same, above)) ∙ put_same h.caps place [] place refl)
      holds))
      (λ (level : place ≤ r.second u).
      rw (le-ltb (r.second u) place level) (λ holds. subst (λ xs. Holds xs f) (put_same h.caps place [] place refl) holds))
      (cases_lt (r.second u) place)

  emptied_once : (k : ℕ) → IsOnce (put h.caps place [] k)
  emptied_once k = grind (arith, put_same h.caps, put_other h.caps)

  second_once : (above : r.second u < place) → IsOnce (h.caps (r.second u) ++ own_edge ∷ [])
  second_once above =
      let p = end_place above in
      once_append (h.caps (r.second u)) (own_edge ∷ []) (h.caps_once (r.second u)) (λ no. no, tt)
      (λ f old new.
      let same : own_edge ≡ f = ⊎_elim (λ (is : own_edge ≡ f). is) (λ no. absurd no) new in
      let cap = (h.are_caps.listed p.node f (end_open above)).0 (subst (λ k. Holds (h.caps k) f) (sym p.exact) (stands_holds (h.caps (r.second u)) f old)) in
      no_cap cap.low p.node (subst (λ n. IsCapping g w r (edge_count g + n) cap.low p.node) (sym same) cap.cap))

  caps_once : (k : ℕ) → IsOnce (new_caps k)
  caps_once k = ⊎_elim
      (λ (above : r.second u < place).
      rw (lt-ltb (r.second u) place above)
      (⊎_elim
      (λ (here : k ≡ r.second u). subst IsOnce (sym (put_same (put h.caps place []) (r.second u) (h.caps (r.second u) ++ own_edge ∷ []) k here)) (second_once above))
      (λ (there : k ≢ r.second u). subst IsOnce (sym (put_other (put h.caps place []) (r.second u) (h.caps (r.second u) ++ own_edge ∷ []) k there)) (emptied_once k))
      (cases_eq k (r.second u))))
      (λ (level : place ≤ r.second u). rw (le-ltb (r.second u) place level) (emptied_once k))
      (cases_lt (r.second u) place)

  -- ---- the walk, after

  abbrev IsPaid : (start now : ℕ) → Type 0
  IsPaid start now = now + caps_total c.caps.items + saved g w ≤ start + spent g.nodes w r + 1

  -- four steps, and two for a capping bracket
  abbrev IsCost : (now after : ℕ) → BracketWalk → Type 0
  IsCost now after new = after + caps_total new.caps.items ≤ now + caps_total c.caps.items + 4 + 2 * (if ltb (r.second u) place then 1 else 0)

  left_walk : (new : BracketWalk) (joined : ℕ → List ℕ) → (parent ≢ w.tree.root → joined (w.tree.parent_edge parent) ≡ h.lists (w.tree.parent_edge parent) ++ own_list)
      → ((b : ℕ) → Holds (joined own_edge) b → Holds own_list b)
      → ((l : ℕ) → l ≢ own_edge → (parent ≢ w.tree.root → l ≢ w.tree.parent_edge parent) → joined l ≡ h.lists l)
      → IsKept g new (leaving w u) (merging r parent (highest r u)) joined new_caps (put h.tops own_edge (top own_list)) (put h.sizes own_edge (length own_list))
      → (start now after : ℕ) → IsPaid start now → IsCost now after new → IsPaidWalk g new parent start after
  left_walk new joined at_parent at_own elsewhere kept start now after paid cost = record {
    walk = record {
      trail = leaving w u;
      reaches = merging r parent (highest r u);
      lists = joined;
      caps = new_caps;
      final = put h.final u own_list;
      tops = put h.tops own_edge (top own_list);
      sizes = put h.sizes own_edge (length own_list);
      kept = kept;
      graph = h.graph;
      is_trail = leave_trail g w u h.is_trail not_root taken;
      counted = record { count = h.counted.count };
      places = λ k less. let p = h.places k less in record { node = p.node; found = p.found; exact = p.exact };
      none_taken = h.none_taken;
      few_taken = h.few_taken;
      are_reaches = leave_reaches g w u h.is_trail r h.are_reaches not_root;
      open_lists = leave_lists g w u h.is_trail r h.are_reaches not_root taken h.lists h.open_lists own_list held list_order joined at_parent at_own elsewhere;
      left_lists = leave_left_lists g w u h.is_trail r h.are_reaches not_root taken h.final h.left_lists own_list held list_order;
      are_caps = leave_caps g w u h.is_trail r h.are_reaches not_root taken h.caps h.are_caps new_caps caps_elsewhere none_here;
      caps_once = caps_once;
      named = leave_named g w u h.is_trail not_root h.final h.tops h.sizes own_list h.named;
      told = told_put h.tops h.sizes own_edge (top own_list) (length own_list) (told_list own_list) h.told;
      few_caps = few_caps_leave g w u h.is_trail r h.are_reaches not_root h.few_caps;
    };
    paid = let spend = spent_leave g w u h.is_trail r h.are_reaches not_root in omega (arith, paid, cost, spend);
  }

  -- where the parent is the root, the list stays
  pub root_walk : parent ≡ w.tree.root → (new : BracketWalk) → IsKept g new (leaving w u) (merging r parent (highest r u)) (put h.lists own_edge own_list) new_caps (put h.tops own_edge (top own_list)) (put h.sizes own_edge (length own_list)) → (start now after : ℕ) → IsPaid start now → IsCost now after new → IsPaidWalk g new parent start after
  root_walk root new kept start now after paid cost =
      left_walk new (put h.lists own_edge own_list)
      (λ other. absurd (other root))
      (λ b holds. subst (λ xs. Holds xs b) (put_same h.lists own_edge own_list own_edge refl) holds)
      (λ l apart any. put_other h.lists own_edge own_list l apart)
      kept start now after paid cost

  -- else it goes under the parent's
  abbrev pub joined_lists : ℕ → List ℕ
  joined_lists = put (put (put h.lists own_edge own_list) (w.tree.parent_edge parent) (h.lists (w.tree.parent_edge parent) ++ own_list)) own_edge []

  pub inner_walk : parent ≢ w.tree.root → (new : BracketWalk) → IsKept g new (leaving w u) (merging r parent (highest r u)) joined_lists new_caps (put h.tops own_edge (top own_list)) (put h.sizes own_edge (length own_list)) → (start now after : ℕ) → IsPaid start now → IsCost now after new → IsPaidWalk g new parent start after
  inner_walk other new kept start now after paid cost =
      left_walk new joined_lists
      (λ any. put_other (put (put h.lists own_edge own_list) (w.tree.parent_edge parent) (h.lists (w.tree.parent_edge parent) ++ own_list)) own_edge [] (w.tree.parent_edge parent) (parents_apart other)
      ∙ put_same (put h.lists own_edge own_list) (w.tree.parent_edge parent) (h.lists (w.tree.parent_edge parent) ++ own_list) (w.tree.parent_edge parent) refl)
      (λ b holds. absurd (subst (λ xs. Holds xs b) (put_same (put (put h.lists own_edge own_list) (w.tree.parent_edge parent) (h.lists (w.tree.parent_edge parent) ++ own_list)) own_edge [] own_edge refl) holds))
      (λ l apart any. put_other (put (put h.lists own_edge own_list) (w.tree.parent_edge parent) (h.lists (w.tree.parent_edge parent) ++ own_list)) own_edge [] l apart
      ∙ put_other (put h.lists own_edge own_list) (w.tree.parent_edge parent) (h.lists (w.tree.parent_edge parent) ++ own_list) l (any other)
      ∙ put_other h.lists own_edge own_list l apart)
      kept start now after paid cost
