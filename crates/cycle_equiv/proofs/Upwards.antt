-- A list that begins with a bracket of a descendant has no bracket but those of the descendant.
use Rattle.std.proofs.Common.{◌≡◌, ◌≢◌, ℕ, zero, suc, ◌+◌, ◌<◌, ◌≤◌, refl, sym, ap, ◌∙◌, subst, inr, ⊎_elim, arith}
use Rattle.std.proofs.lemmas.Bool.{cases_eq}
use Rattle.closed_walks.specs.Graph.{Graph, edge_count}
use Rattle.cycle_equiv.specs.DepthFirst.{Tree, IsChild, IsBelow, IsDepthFirst}
use Rattle.cycle_equiv.specs.BracketLists.{Brackets, IsHeld, place, AreBracketLists}
use Rattle.cycle_equiv.proofs.Trees.{cases_below, below_itself, child_below, IsThrough, through}
use Rattle.cycle_equiv.proofs.Held.{cap_place, held_place, held_node, held_up, witness}

module _ (g : Graph) (t : Tree) (tree : IsDepthFirst g t) (s : Brackets) (lists : AreBracketLists g t s) where
  -- the capping bracket of a node whose second reach is before k
  cap_child : (k p : ℕ) → p < g.nodes → k ≤ t.preorder p → s.second_reach p < k → IsChild g t p
  cap_child k p node few second = record { node = node; other = λ same. let place = ap t.preorder same ∙ tree.root_first in omega (arith, place, few, second) }

  cap_held : (k p : ℕ) → p < g.nodes → k ≤ t.preorder p → s.second_reach p < k → IsHeld g t s k p (edge_count g + t.parent_edge p)
  cap_held k p node few second = record {
    low = p;
    reach = s.second_reach p;
    bracket = inr (record {
      child = cap_child k p node few second;
      number = refl;
      reaches = refl;
      above = omega (arith, few, second);
    });
    below = below_itself g t tree p node;
    above = second;
  }

  module _ (k c b : ℕ) (child : IsChild g t c) (few : k ≤ t.preorder (t.parent c)) (held : IsHeld g t s k c b)
      (least : (e : ℕ) → IsHeld g t s k (t.parent c) e → place g t b ≤ place g t e) where
    parent_node : t.parent c < g.nodes
    parent_node = tree.parent_node c child

    -- the bracket doesn't lead from the parent
    not_lower : (e : ℕ) → IsHeld g t s k (t.parent c) e → place g t e ≡ t.preorder (t.parent c) → ⊥
    not_lower e h at_parent =
        let here = held_place g t tree s k c b held in
        let after = held.below.after in
        let first = tree.parent_first c child in
        let order = least e h in
        omega (arith, here, after, first, order, at_parent)

    -- the brackets of other children
    other_child : (e : ℕ) (h : IsHeld g t s k (t.parent c) e) → (IsBelow t c h.low → ⊥) → IsThrough g t tree (t.parent c) h.low → ⊥
    other_child e h outside d =
        let apart : c ≢ d.child = λ same. outside (subst (λ x. IsBelow t x h.low) (sym same) d.below) in
        let other : IsHeld g t s k d.child e = record { low = h.low; reach = h.reach; bracket = h.bracket; below = d.below; above = h.above } in
        let one = witness g t tree s lists k c b child.node held in
        let two = witness g t tree s lists k d.child e d.is_child.node other in
        let second : s.second_reach (t.parent c) < k = lists.as_near k c d.child one.edge two.edge child d.is_child (sym d.parent) apart few one.leads two.leads in
        let own = edge_count g + t.parent_edge (t.parent c) in
        not_lower own (cap_held k (t.parent c) parent_node few second) (cap_place g t tree own (t.parent c) (cap_child k (t.parent c) parent_node few second) refl)

    -- Where no bracket of the parent stands above b, a bracket of c, those of the parent are brackets of c.
    pub one_step : (e : ℕ) → IsHeld g t s k (t.parent c) e → IsHeld g t s k c e
    one_step e h = ⊎_elim
        (λ (inside : IsBelow t c h.low). record { low = h.low; reach = h.reach; bracket = h.bracket; below = inside; above = h.above })
        (λ (outside : IsBelow t c h.low → ⊥). ⊎_elim
        (λ (same : h.low ≡ t.parent c). absurd (not_lower e h (held_place g t tree s k (t.parent c) e h ∙ ap t.preorder same)))
        (λ (apart : h.low ≢ t.parent c). absurd (other_child e h outside
        (through g t tree (t.parent c) h.low parent_node (held_node g t tree s k (t.parent c) e h) h.below apart)))
        (cases_eq h.low (t.parent c)))
        (cases_below t c h.low)

  -- The same for any ancestor in place of the parent.
  module _ (a b : ℕ) (a_node : a < g.nodes) (least : (e : ℕ) → IsHeld g t s (t.preorder a) a e → place g t b ≤ place g t e) where
    steps_up : (n c : ℕ) → t.preorder c < n → c < g.nodes → IsBelow t a c → IsHeld g t s (t.preorder a) c b → (e : ℕ) → IsHeld g t s (t.preorder a) a e → IsHeld g t s (t.preorder a) c e
    steps_up zero c few node under held e h = absurd (omega (arith, few))
    steps_up (suc n) c few node under held e h = ⊎_elim
        (λ (same : a ≡ c). subst (λ x. IsHeld g t s (t.preorder a) x e) same h)
        (λ (apart : a ≢ c).
        let c_child : IsChild g t c = record {
          node = node;
          other = λ root. apart (tree.one_place a c a_node node
              (let place = ap t.preorder root ∙ tree.root_first in let after = under.after in omega (arith, place, after)));
        } in
        let first = tree.parent_first c c_child in
        let p_node = tree.parent_node c c_child in
        let above : IsBelow t a (t.parent c) = (tree.by_parent a c a_node c_child apart).1 under in
        let after = above.after in
        let parent_held : IsHeld g t s (t.preorder a) (t.parent c) b = held_up g t tree s (t.preorder a) (t.parent c) c b p_node node (child_below g t tree c c_child) held in
        one_step (t.preorder a) c b c_child after held
        (λ f f_held. least f (held_up g t tree s (t.preorder a) a (t.parent c) f a_node p_node above f_held))
        e
        (steps_up n (t.parent c) (omega (arith, few, first)) p_node above parent_held e h))
        (cases_eq a c)

    pub up_the_tree : (c : ℕ) → c < g.nodes → IsBelow t a c → IsHeld g t s (t.preorder a) c b → (e : ℕ) → IsHeld g t s (t.preorder a) a e → IsHeld g t s (t.preorder a) c e
    up_the_tree c node under held = steps_up (suc (t.preorder c)) c (omega arith) node under held
