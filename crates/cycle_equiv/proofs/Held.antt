-- Which brackets lead from below a node to above a place.
use Rattle.std.proofs.Common.{◌≡◌, ℕ, zero, suc, ◌+◌, ◌-◌, ◌<◌, ◌≤◌, ◌⊎◌, ltb, if◌then◌else◌, refl, sym, ap, ◌∙◌, subst, inl, inr, ⊎_elim, arith}
use Rattle.std.proofs.lemmas.Bool.{cases_lt, lt-ltb, le-ltb}
use Rattle.closed_walks.specs.Graph.{Graph, IsGraph, edge_count, from, to}
use Rattle.closed_walks.specs.Walk.{Reach, only, IsStrong}
use Rattle.closed_walks.proofs.Cuts.{before_first}
use Rattle.closed_walks.proofs.Reaching.{same_along}
use Rattle.std.proofs.lemmas.Bool.{eqb-false}
use Rattle.cycle_equiv.specs.DepthFirst.{Tree, IsChild, IsBackEdge, IsBelow, IsDepthFirst, IsBracket, upper_end, lower_end}
use Rattle.cycle_equiv.specs.BracketLists.{Brackets, LeadsAbove, IsBackBracket, IsCap, IsHeld, place, AreBracketLists}
use Rattle.cycle_equiv.proofs.Trees.{below_on, parent_above}
use Rattle.cycle_equiv.proofs.TreeChanges.{below, edge_along, IsFound, cases_tree, same_at_child, changes_at_own, along_edge, cases_bracket, same_without_bracket}

module _ (g : Graph) (t : Tree) (tree : IsDepthFirst g t) where
  -- ---- every tree edge has a bracket

  pub record HasBracket (c : ℕ) : Type 0 where
    pub edge : ℕ
    pub bracket : IsBracket g t c edge

  has_below : (c k : ℕ) → k ≤ edge_count g → HasBracket c ⊎ ((e : ℕ) → e < k → IsBracket g t c e → ⊥)
  has_below c zero few = inr (λ e h b. absurd (omega (arith, h)))
  has_below c (suc k) few = ⊎_elim
      (λ (found : HasBracket c). inl found)
      (λ (none : (e : ℕ) → e < k → IsBracket g t c e → ⊥). ⊎_elim
      (λ (b : IsBracket g t c k). inl (record { edge = k; bracket = b }))
      (λ (not_last : IsBracket g t c k → ⊥). inr (λ e h. ⊎_elim
      (λ (less : e < k). none e less)
      (λ (more : k ≤ e). let here : k ≡ e = omega (arith, h) in subst (λ y. IsBracket g t c y → ⊥) here not_last)
      (cases_lt e k)))
      (⊎_elim
      (λ (f : IsFound g t tree k). inr (λ (b : IsBracket g t c k). b.back.found_none f.child f.is_child f.by_edge))
      (λ (back : IsBackEdge g t k). cases_bracket g t tree c k back)
      (cases_tree g t tree k few)))
      (has_below c k (omega arith))

  module _ (sound : IsGraph g) (strong : IsStrong g) (c : ℕ) (child : IsChild g t c) where
    -- without a bracket the descendants of c are left by the one edge alone
    no_way_back : ((e : ℕ) → e < edge_count g → IsBracket g t c e → ⊥) → ⊥
    no_way_back none =
        let edge = tree.tree_edge c child in
        let round : Reach g (only (t.parent_edge c)) (to g (t.parent_edge c)) (from g (t.parent_edge c)) =
        before_first g (t.parent_edge c) (to g (t.parent_edge c)) (strong (to g (t.parent_edge c)) (from g (t.parent_edge c)) (sound.ends (t.parent_edge c) edge) (sound.begins (t.parent_edge c) edge)) in
        let same : below t c (to g (t.parent_edge c)) ≡ below t c (from g (t.parent_edge c)) =
        same_along g (only (t.parent_edge c)) (below t c)
        (λ e e_edge free. ⊎_elim
        (λ (f : IsFound g t tree e). subst (λ x. below t c (from g x) ≡ below t c (to g x)) f.by_edge
        (along_edge g (below t c) (t.parent_edge f.child) (t.parent f.child) f.child (tree.tree_ends f.child f.is_child)
        (same_at_child g t tree c f.child child f.is_child (λ here. eqb-false e (t.parent_edge c) free (sym f.by_edge ∙ sym (ap t.parent_edge here))))))
        (λ (back : IsBackEdge g t e). same_without_bracket g t tree sound c e child.node back (none e e_edge))
        (cases_tree g t tree e e_edge))
        (to g (t.parent_edge c)) (from g (t.parent_edge c)) round in
        changes_at_own g t tree c child (edge_along g (below t c) (t.parent_edge c) (t.parent c) c (tree.tree_ends c child) (sym same))

    pub has_bracket : HasBracket c
    has_bracket = grind (arith, no_way_back, has_below)

  -- ---- the places of brackets

  pub back_place : (b : ℕ) → b < edge_count g → place g t b ≡ lower_end g t b
  back_place b edge = ap (λ test. lower_end g t (if test then b else b - edge_count g)) (lt-ltb b (edge_count g) edge)

  pub tree_lower : (x : ℕ) → IsChild g t x → lower_end g t (t.parent_edge x) ≡ t.preorder x
  tree_lower x child = grind arith

  pub cap_place : (b x : ℕ) → IsChild g t x → b ≡ edge_count g + t.parent_edge x → place g t b ≡ t.preorder x
  cap_place b x child number = grind (arith, ltb, le-ltb b (edge_count g), tree_lower x child)

  -- the node at the lower end of an edge
  pub record HasLower (e : ℕ) : Type 0 where
    pub low : ℕ
    pub node : low < g.nodes
    pub lower : t.preorder low ≡ lower_end g t e

  pub lower_node : IsGraph g → (e : ℕ) → e < edge_count g → HasLower e
  lower_node sound e edge = grind (arith, sound.ends e edge, sound.begins e edge, cases_lt (t.preorder (from g e)) (t.preorder (to g e)))

  -- what leads above a place from below a node does so from below its ancestors
  pub leads_up : (c d k e : ℕ) → c < g.nodes → d < g.nodes → IsBelow t c d → LeadsAbove g t d k e → LeadsAbove g t c k e
  leads_up c d k e c_node d_node up leads = grind arith

  pub leads_more : (c k l e : ℕ) → k ≤ l → LeadsAbove g t c k e → LeadsAbove g t c l e
  leads_more c k l e few leads = let above = leads.above in record { back = leads.back; after = leads.after; before = leads.before; above = omega (arith, few, above) }

  pub leads_bracket : (c k e : ℕ) → k ≤ t.preorder c → LeadsAbove g t c k e → IsBracket g t c e
  leads_bracket c k e few leads = let above = leads.above in record { back = leads.back; after = leads.after; before = leads.before; above = omega (arith, few, above) }

  module _ (s : Brackets) where
    pub held_place : (k c b : ℕ) (h : IsHeld g t s k c b) → place g t b ≡ t.preorder h.low
    held_place k c b h = ⊎_elim
        (λ (e : IsBackBracket g t b h.low h.reach). back_place b e.back.edge ∙ sym e.lower)
        (λ (e : IsCap g t s b h.low h.reach). cap_place b h.low e.child e.number)
        h.bracket

    pub held_node : (k c b : ℕ) (h : IsHeld g t s k c b) → h.low < g.nodes
    held_node k c b h = grind arith

    -- a bracket that leads from below a node leads from below its ancestors
    pub held_up : (k c d b : ℕ) → c < g.nodes → d < g.nodes → IsBelow t c d → IsHeld g t s k d b → IsHeld g t s k c b
    held_up k c d b c_node d_node up h = record { low = h.low; reach = h.reach; bracket = h.bracket; below = below_on g t tree c d h.low c_node d_node up h.below; above = h.above }

    pub held_more : (k l c b : ℕ) → k ≤ l → IsHeld g t s k c b → IsHeld g t s l c b
    held_more k l c b few h = let above = h.above in record { low = h.low; reach = h.reach; bracket = h.bracket; below = h.below; above = omega (arith, few, above) }

    -- a bracket of a tree edge is held by it
    pub bracket_held : IsGraph g → (c e : ℕ) → IsBracket g t c e → IsHeld g t s (t.preorder c) c e
    bracket_held sound c e b =
        let l = lower_node sound e b.back.edge in
        record {
          low = l.low;
          reach = upper_end g t e;
          bracket = inl (record { back = b.back; node = l.node; lower = l.lower; upper = refl });
          below = record { after = subst (λ k. t.preorder c ≤ k) (sym l.lower) b.after; before = subst (λ k. k < t.finish c) (sym l.lower) b.before };
          above = b.above;
        }

    -- what is held and is an edge is a bracket
    pub held_bracket : (c e : ℕ) → e < edge_count g → IsHeld g t s (t.preorder c) c e → IsBracket g t c e
    held_bracket c e edge h = ⊎_elim
        (λ (b : IsBackBracket g t e h.low h.reach). record {
          back = b.back;
          after = subst (λ k. t.preorder c ≤ k) b.lower h.below.after;
          before = subst (λ k. k < t.finish c) b.lower h.below.before;
          above = subst (λ k. k < t.preorder c) (sym b.upper) h.above;
        })
        (λ (b : IsCap g t s e h.low h.reach). let number = b.number in absurd (omega (arith, number, edge)))
        h.bracket

    -- ---- a bracket that is held is witnessed by a back edge

    pub record IsWitness (k c : ℕ) : Type 0 where
      pub edge : ℕ
      pub leads : LeadsAbove g t c k edge

    -- a child of a node below c is below c, but for c itself
    pub child_under : (c x d : ℕ) → c < g.nodes → IsChild g t d → t.parent d ≡ x → IsBelow t c x → IsBelow t c d
    child_under c x d c_node child parent under = grind (arith, parent_above g t tree d child)

    pub witness : AreBracketLists g t s → (k c b : ℕ) → c < g.nodes → IsHeld g t s k c b → IsWitness k c
    witness lists k c b c_node h = ⊎_elim
        (λ (e : IsBackBracket g t b h.low h.reach). record {
          edge = b;
          leads = record {
            back = e.back;
            after = subst (λ p. t.preorder c ≤ p) e.lower h.below.after;
            before = subst (λ p. p < t.finish c) e.lower h.below.before;
            above = subst (λ p. p < k) (sym e.upper) h.above;
          };
        })
        (λ (e : IsCap g t s b h.low h.reach).
        let r = lists.reached h.low e.child e.above in
        let above = h.above in
        let reaches = e.reaches in
        record {
          edge = r.second_edge;
          leads = leads_up c r.second k r.second_edge c_node r.second_child.node
              (child_under c h.low r.second c_node r.second_child r.second_parent h.below)
              (leads_more r.second (s.second_reach h.low + 1) k r.second_edge (omega (arith, above, reaches)) r.second_leads);
        })
        h.bracket
