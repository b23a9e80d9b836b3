-- Lists of brackets that are the same: by their names, or by the back edges in them.
use Rattle.std.proofs.Common.{◌≡◌, ◌≢◌, ℕ, ◌+◌, ◌<◌, ◌≤◌, ◌⊎◌, ◌↔◌, List, [], ◌∷◌, length, Some, refl, sym, ◌∙◌, subst, inl, inr, ⊎_elim, arith}
use Rattle.std.proofs.lemmas.Bool.{cases_eq}
use Rattle.closed_walks.specs.Graph.{Graph, IsGraph}
use Rattle.closed_walks.specs.Walk.{Holds, IsStrong}
use Rattle.cycle_equiv.specs.DepthFirst.{Tree, IsChild, IsBelow, IsDepthFirst, IsBracket}
use Rattle.cycle_equiv.specs.BracketLists.{Brackets, LeadsAbove, IsBackBracket, IsCap, IsHeld, place, AreInOrder, AreBracketLists, top}
use Rattle.cycle_equiv.proofs.Trees.{below_on, below_either, not_nested, children_apart}
use Rattle.cycle_equiv.proofs.Ordered.{IsWithin, same_list, one_list, first_least}
use Rattle.cycle_equiv.proofs.Held.{has_bracket, lower_node, leads_up, leads_more, leads_bracket, held_place, held_node, held_more, bracket_held, held_bracket, child_under}
use Rattle.cycle_equiv.proofs.Upwards.{up_the_tree}

-- a list with a bracket has a top
pub record HasTop (xs : List ℕ) : Type 0 where
  pub bracket : ℕ
  pub first : top xs ≡ Some bracket

pub some_top : (xs : List ℕ) (z : ℕ) → Holds xs z → HasTop xs
some_top [] z h = absurd h
some_top (x ∷ xs) z h = record { bracket = x; first = refl }

pub top_held : (xs : List ℕ) (b : ℕ) → top xs ≡ Some b → Holds xs b
top_held [] b h = absurd cc
top_held (x ∷ xs) b h = let same : x ≡ b = cc in inl same

pub top_least : (g : Graph) (t : Tree) (xs : List ℕ) (b : ℕ) → AreInOrder g t xs → top xs ≡ Some b → (z : ℕ) → Holds xs z → place g t b ≤ place g t z
top_least g t [] b order first z h = absurd h
top_least g t (x ∷ xs) b order first z h = let same : x ≡ b = cc in subst (λ y. place g t y ≤ place g t z) same (first_least g t x xs order z h)

module _ (g : Graph) (t : Tree) (tree : IsDepthFirst g t) (s : Brackets) (lists : AreBracketLists g t s) where
  -- ---- lists with one top and one length

  module _ (c d b : ℕ) (c_child : IsChild g t c) (d_child : IsChild g t d) (c_top : top (s.list c) ≡ Some b) (d_top : top (s.list d) ≡ Some b) where
    c_held : IsHeld g t s (t.preorder c) c b
    c_held = (lists.listed c c_child b).0 (top_held (s.list c) b c_top)

    d_held : IsHeld g t s (t.preorder d) d b
    d_held = (lists.listed d d_child b).0 (top_held (s.list d) b d_top)

    one_low : c_held.low ≡ d_held.low
    one_low =
        grind (arith, held_node g t tree s (t.preorder c) c b c_held, c_held, held_node g t tree s (t.preorder d) d b d_held, d_held, held_place g t tree s (t.preorder c) c b c_held, held_place g t tree s (t.preorder d) d b d_held)

    pub nested_by_top : IsBelow t c d ⊎ IsBelow t d c
    nested_by_top = below_either g t tree c d c_held.low c_held.below (subst (λ x. IsBelow t d x) (sym one_low) d_held.below)

    -- the list of the ancestor is within that of the descendant
    pub within_by_top : IsBelow t c d → IsWithin (s.list c) (s.list d)
    within_by_top under z h =
        let held : IsHeld g t s (t.preorder c) d b = record {
          low = c_held.low;
          reach = c_held.reach;
          bracket = c_held.bracket;
          below = subst (λ x. IsBelow t d x) (sym one_low) d_held.below;
          above = c_held.above;
        } in
        let z_held : IsHeld g t s (t.preorder c) d z = up_the_tree g t tree s lists c b c_child.node
        (λ e e_held. top_least g t (s.list c) b (lists.in_order c c_child) c_top e ((lists.listed c c_child e).1 e_held))
        d d_child.node under held z ((lists.listed c c_child z).0 h) in
        (lists.listed d d_child z).1 (held_more g t tree s (t.preorder c) (t.preorder d) d z under.after z_held)

  -- Two lists with the same top and as many brackets are the same.
  pub same_by_names : (c d b : ℕ) → IsChild g t c → IsChild g t d → top (s.list c) ≡ Some b → top (s.list d) ≡ Some b → length (s.list c) ≡ length (s.list d) → s.list c ≡ s.list d
  same_by_names c d b c_child d_child c_top d_top long = ⊎_elim
      (λ (under : IsBelow t c d). same_list g t (s.list c) (s.list d) (lists.in_order c c_child) (lists.in_order d d_child)
      (within_by_top c d b c_child d_child c_top d_top under) long)
      (λ (under : IsBelow t d c). sym (same_list g t (s.list d) (s.list c) (lists.in_order d d_child) (lists.in_order c c_child)
      (within_by_top d c b d_child c_child d_top c_top under) (sym long)))
      (nested_by_top c d b c_child d_child c_top d_top)

  -- ---- lists with the same back edges

  module _ (sound : IsGraph g) (c d : ℕ) (c_child : IsChild g t c) (d_child : IsChild g t d) (under : IsBelow t c d)
      (alike : (e : ℕ) → IsBracket g t c e ↔ IsBracket g t d e) where
    -- a child of x leads to what reaches above c, and so is in one line with d
    to_line : (x k e : ℕ) → IsChild g t x → IsBracket g t d e → LeadsAbove g t x k e → IsBelow t d x ⊎ IsBelow t x d
    to_line x k e x_child b leads = grind (arith, lower_node g t tree sound e b.back.edge, below_either g t tree d x)

    -- a capping bracket of the lower edge's list is one of the upper edge's
    cap_up : (b low reach : ℕ) → IsCap g t s b low reach → IsBelow t d low → reach < t.preorder d → IsHeld g t s (t.preorder c) c b
    cap_up b low reach cap below above =
        let r = lists.reached low cap.child cap.above in
        let reaches = cap.reaches in
        let exact = r.exact in
        let inside : IsBelow t d r.second = child_under g t tree s d low r.second d_child.node r.second_child r.second_parent below in
        let leads : LeadsAbove g t d (t.preorder d) r.second_edge =
        leads_up g t tree d r.second (t.preorder d) r.second_edge d_child.node r.second_child.node inside
        (leads_more g t tree r.second (s.second_reach low + 1) (t.preorder d) r.second_edge (omega (arith, above, reaches)) r.second_leads) in
        let b_above = ((alike r.second_edge).1 (leads_bracket g t tree d (t.preorder d) r.second_edge (omega arith) leads)).above in
        record {
          low = low;
          reach = reach;
          bracket = inr cap;
          below = below_on g t tree c d low c_child.node d_child.node under below;
          above = omega (arith, b_above, exact, reaches);
        }

    -- a bracket of the upper edge that a child of x leads to
    is_bracket : (x low k e : ℕ) → IsChild g t x → t.parent x ≡ low → IsBelow t c low → k ≤ t.preorder c → LeadsAbove g t x k e → IsBracket g t d e
    is_bracket x low k e x_child parent below few leads =
        (alike e).0 (leads_bracket g t tree c k e few
        (leads_up g t tree c x k e c_child.node x_child.node (child_under g t tree s c low x c_child.node x_child parent below) leads))

    up_to : (x low : ℕ) → IsChild g t x → t.parent x ≡ low → d ≢ x → IsBelow t d x → IsBelow t d low
    up_to x low x_child parent apart below = subst (λ p. IsBelow t d p) parent ((tree.by_parent d x d_child.node x_child apart).1 below)

    -- a capping bracket of the upper edge's list is one of the lower edge's
    cap_under : (b low reach : ℕ) → IsCap g t s b low reach → IsBelow t c low → reach < t.preorder c → IsBelow t d low
    cap_under b low reach cap below above =
        let r = lists.reached low cap.child cap.above in
        let reaches = cap.reaches in
        let few : s.second_reach low + 1 ≤ t.preorder c = omega (arith, above, reaches) in
        let parents : t.parent r.first ≡ t.parent r.second = r.first_parent ∙ sym r.second_parent in
        let one = is_bracket r.first low (s.second_reach low + 1) r.first_edge r.first_child r.first_parent below few r.first_leads in
        let two = is_bracket r.second low (s.second_reach low + 1) r.second_edge r.second_child r.second_parent below few r.second_leads in
        ⊎_elim
        (λ (first : IsBelow t d r.first). ⊎_elim
        (λ (second : IsBelow t d r.second). ⊎_elim
        (λ (same : d ≡ r.first). up_to r.second low r.second_child r.second_parent (λ equal. r.apart (sym same ∙ equal)) second)
        (λ (apart : d ≢ r.first). up_to r.first low r.first_child r.first_parent apart first)
        (cases_eq d r.first))
        (λ (second : IsBelow t r.second d). absurd (not_nested g t tree r.second r.first r.second_child r.first_child (sym parents) (λ equal. r.apart (sym equal))
        (below_on g t tree r.second d r.first r.second_child.node d_child.node second first)))
        (to_line r.second (s.second_reach low + 1) r.second_edge r.second_child two r.second_leads))
        (λ (first : IsBelow t r.first d). ⊎_elim
        (λ (second : IsBelow t d r.second). absurd (not_nested g t tree r.first r.second r.first_child r.second_child parents r.apart
        (below_on g t tree r.first d r.second r.first_child.node d_child.node first second)))
        (λ (second : IsBelow t r.second d). absurd (children_apart g t tree r.first r.second d r.first_child r.second_child parents r.apart first second))
        (to_line r.second (s.second_reach low + 1) r.second_edge r.second_child two r.second_leads))
        (to_line r.first (s.second_reach low + 1) r.first_edge r.first_child one r.first_leads)

    held_down : (b : ℕ) → IsHeld g t s (t.preorder c) c b → IsHeld g t s (t.preorder d) d b
    held_down b h = ⊎_elim
        (λ (e : IsBackBracket g t b h.low h.reach). bracket_held g t tree s sound d b ((alike b).0 (held_bracket g t tree s c b e.back.edge h)))
        (λ (e : IsCap g t s b h.low h.reach).
        let above = h.above in
        let order = under.after in
        record { low = h.low; reach = h.reach; bracket = h.bracket; below = cap_under b h.low h.reach e h.below h.above; above = omega (arith, above, order) })
        h.bracket

    held_back : (b : ℕ) → IsHeld g t s (t.preorder d) d b → IsHeld g t s (t.preorder c) c b
    held_back b h = ⊎_elim
        (λ (e : IsBackBracket g t b h.low h.reach). bracket_held g t tree s sound c b ((alike b).1 (held_bracket g t tree s d b e.back.edge h)))
        (λ (e : IsCap g t s b h.low h.reach). cap_up b h.low h.reach e h.below h.above)
        h.bracket

    same_under : s.list c ≡ s.list d
    same_under = one_list g t (s.list c) (s.list d) (lists.in_order c c_child) (lists.in_order d d_child)
        (λ z h. (lists.listed d d_child z).1 (held_down z ((lists.listed c c_child z).0 h)))
        (λ z h. (lists.listed c c_child z).1 (held_back z ((lists.listed d d_child z).0 h)))

  -- Tree edges with the same brackets have the same lists, with the capping brackets.
  pub same_by_brackets : IsGraph g → IsStrong g → (c d : ℕ) → IsChild g t c → IsChild g t d → ((e : ℕ) → IsBracket g t c e ↔ IsBracket g t d e) → s.list c ≡ s.list d
  same_by_brackets sound strong c d c_child d_child alike =
      let some = has_bracket g t tree sound strong c c_child in
      let l = lower_node g t tree sound some.edge some.bracket.back.edge in
      let one = some.bracket in
      let two = (alike some.edge).0 one in
      let in_c : IsBelow t c l.low = record { after = subst (λ p. t.preorder c ≤ p) (sym l.lower) one.after; before = subst (λ p. p < t.finish c) (sym l.lower) one.before } in
      let in_d : IsBelow t d l.low = record { after = subst (λ p. t.preorder d ≤ p) (sym l.lower) two.after; before = subst (λ p. p < t.finish d) (sym l.lower) two.before } in
      ⊎_elim
      (λ (under : IsBelow t c d). same_under sound c d c_child d_child under alike)
      (λ (under : IsBelow t d c). sym (same_under sound d c d_child c_child under (λ e. ((alike e).1, (alike e).0))))
      (below_either g t tree c d l.low in_c in_d)

  -- the brackets of a list are its back edges
  pub brackets_by_list : IsGraph g → (c d : ℕ) → IsChild g t c → IsChild g t d → s.list c ≡ s.list d → (e : ℕ) → IsBracket g t c e → IsBracket g t d e
  brackets_by_list sound c d c_child d_child same e b = held_bracket g t tree s d e b.back.edge
      ((lists.listed d d_child e).0 (subst (λ xs. Holds xs e) same ((lists.listed c c_child e).1 (bracket_held g t tree s sound c e b))))
