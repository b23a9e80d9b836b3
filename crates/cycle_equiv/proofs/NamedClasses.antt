-- Two edges are cycle equivalent exactly where they have one name.
use Rattle.std.proofs.Common.{◌≡◌, ℕ, ◌+◌, ◌<◌, ◌≤◌, ◌↔◌, List, [], ◌∷◌, length, Option, Some, refl, sym, ap, ◌∙◌, subst, inl, ⊎_elim, arith}
use Rattle.closed_walks.specs.Graph.{Graph, IsGraph}
use Rattle.closed_walks.specs.Walk.{Holds, IsStrong, IsCycleEquivalent}
use Rattle.closed_walks.proofs.Classes.{equivalent_back}
use Rattle.cycle_equiv.specs.DepthFirst.{Tree, IsChild, IsBackEdge, IsBelow, IsDepthFirst, IsBracket, AreToldByBrackets}
use Rattle.cycle_equiv.specs.BracketLists.{Brackets, LeadsAbove, IsBackBracket, IsCap, AreBracketLists, top, AreNames, AreClassNames, NamesTellClasses}
use Rattle.cycle_equiv.proofs.BracketClasses.{classes_by_brackets}
use Rattle.cycle_equiv.proofs.Trees.{children_apart}
use Rattle.cycle_equiv.proofs.TreeChanges.{IsFound, cases_tree}
use Rattle.cycle_equiv.proofs.Ordered.{single}
use Rattle.cycle_equiv.proofs.Held.{has_bracket, lower_node, leads_up, leads_bracket, bracket_held, held_bracket, child_under}
use Rattle.cycle_equiv.proofs.SameLists.{some_top, same_by_names, same_by_brackets, brackets_by_list}

-- a list of one
single_top : (xs : List ℕ) (b : ℕ) → top xs ≡ Some b → length xs ≡ 1 → xs ≡ b ∷ []
single_top [] b first long = absurd (omega (arith, long))
single_top (x ∷ []) b first long = let same : x ≡ b = cc in ap (λ y. y ∷ []) same
single_top (x ∷ (y ∷ ys)) b first long = absurd (omega (arith, long))

module _ (g : Graph) (t : Tree) (tree : IsDepthFirst g t) (s : Brackets) (lists : AreBracketLists g t s) (sound : IsGraph g) (strong : IsStrong g) where
  told : AreToldByBrackets g t
  told = classes_by_brackets g t tree sound strong

  -- ---- tree edges with one bracket

  module _ (c b : ℕ) (child : IsChild g t c) (back : IsBackEdge g t b) where
    -- an edge with one bracket has no capping bracket: that stands for two
    no_cap : ((e : ℕ) → IsBracket g t c e ↔ (e ≡ b)) → (z low reach : ℕ) → IsCap g t s z low reach → IsBelow t c low → reach < t.preorder c → ⊥
    no_cap alone z low reach cap below above =
        let r = lists.reached low cap.child cap.above in
        let reaches = cap.reaches in
        let few : s.second_reach low + 1 ≤ t.preorder c = omega (arith, above, reaches) in
        let one : IsBracket g t c r.first_edge = leads_bracket g t tree c (s.second_reach low + 1) r.first_edge few
        (leads_up g t tree c r.first (s.second_reach low + 1) r.first_edge child.node r.first_child.node
        (child_under g t tree s c low r.first child.node r.first_child r.first_parent below) r.first_leads) in
        let two : IsBracket g t c r.second_edge = leads_bracket g t tree c (s.second_reach low + 1) r.second_edge few
        (leads_up g t tree c r.second (s.second_reach low + 1) r.second_edge child.node r.second_child.node
        (child_under g t tree s c low r.second child.node r.second_child r.second_parent below) r.second_leads) in
        let same : r.second_edge ≡ r.first_edge = (alone r.second_edge).0 two ∙ sym ((alone r.first_edge).0 one) in
        let second : LeadsAbove g t r.second (s.second_reach low + 1) r.first_edge = subst (λ e. LeadsAbove g t r.second (s.second_reach low + 1) e) same r.second_leads in
        let first = r.first_leads in
        let l = lower_node g t tree sound r.first_edge first.back.edge in
        children_apart g t tree r.first r.second l.low r.first_child r.second_child (r.first_parent ∙ sym r.second_parent) r.apart
        (record { after = subst (λ p. t.preorder r.first ≤ p) (sym l.lower) first.after; before = subst (λ p. p < t.finish r.first) (sym l.lower) first.before })
        (record { after = subst (λ p. t.preorder r.second ≤ p) (sym l.lower) second.after; before = subst (λ p. p < t.finish r.second) (sym l.lower) second.before })

    pub alone_list : ((e : ℕ) → IsBracket g t c e ↔ (e ≡ b)) → s.list c ≡ b ∷ []
    alone_list alone = single g t (s.list c) b (lists.in_order c child)
        ((lists.listed c child b).1 (bracket_held g t tree s sound c b ((alone b).1 refl)))
        (λ z holds.
        let h = (lists.listed c child z).0 holds in
        ⊎_elim
        (λ (e : IsBackBracket g t z h.low h.reach). (alone z).0 (held_bracket g t tree s c z e.back.edge h))
        (λ (e : IsCap g t s z h.low h.reach). absurd (no_cap alone z h.low h.reach e h.below h.above))
        h.bracket)

    pub list_alone : s.list c ≡ b ∷ [] → (e : ℕ) → IsBracket g t c e ↔ (e ≡ b)
    list_alone same e = (
      λ bracket. ⊎_elim
          (λ (here : b ≡ e). sym here)
          (λ none. absurd none)
          (subst (λ xs. Holds xs e) same ((lists.listed c child e).1 (bracket_held g t tree s sound c e bracket))),
      λ here. subst (λ x. IsBracket g t c x) (sym here)
          (held_bracket g t tree s c b back.edge ((lists.listed c child b).0 (subst (λ xs. Holds xs b) (sym same) (inl refl)))),
    )

  -- ---- the names

  module _ (tops : ℕ → Option ℕ) (sizes : ℕ → ℕ) (names : AreNames g t s tops sizes) where
    abbrev HaveOneName : ℕ → ℕ → Type 0
    HaveOneName a b = (tops a ≡ tops b) × (sizes a ≡ sizes b)

    tree_trees : (c d : ℕ) → IsChild g t c → IsChild g t d → IsCycleEquivalent g (t.parent_edge c) (t.parent_edge d) ↔ HaveOneName (t.parent_edge c) (t.parent_edge d)
    tree_trees c d c_child d_child = (
      λ equivalent.
          let same : s.list c ≡ s.list d = same_by_brackets g t tree s lists sound strong c d c_child d_child ((told.tree_edges c d c_child d_child).0 equivalent) in
          (names.tree_top c c_child ∙ ap top same ∙ sym (names.tree_top d d_child), names.tree_size c c_child ∙ ap length same ∙ sym (names.tree_size d d_child)),
      λ named.
          let some = has_bracket g t tree sound strong c c_child in
          let first = some_top (s.list c) some.edge ((lists.listed c c_child some.edge).1 (bracket_held g t tree s sound c some.edge some.bracket)) in
          let d_first : top (s.list d) ≡ Some first.bracket = sym (names.tree_top d d_child) ∙ sym named.0 ∙ names.tree_top c c_child ∙ first.first in
          let same : s.list c ≡ s.list d = same_by_names g t tree s lists c d first.bracket c_child d_child first.first d_first
          (sym (names.tree_size c c_child) ∙ named.1 ∙ names.tree_size d d_child) in
          (told.tree_edges c d c_child d_child).1
          (λ e. (brackets_by_list g t tree s lists sound c d c_child d_child same e, brackets_by_list g t tree s lists sound d c d_child c_child (sym same) e)),
    )

    tree_backs : (c b : ℕ) → IsChild g t c → IsBackEdge g t b → IsCycleEquivalent g (t.parent_edge c) b ↔ HaveOneName (t.parent_edge c) b
    tree_backs c b child back = (
      λ equivalent.
          let same : s.list c ≡ b ∷ [] = alone_list c b child back ((told.tree_and_back c b child back).0 equivalent) in
          (names.tree_top c child ∙ ap top same ∙ sym (names.back_top b back), names.tree_size c child ∙ ap length same ∙ sym (names.back_size b back)),
      λ named.
          let same : s.list c ≡ b ∷ [] = single_top (s.list c) b
          (sym (names.tree_top c child) ∙ named.0 ∙ names.back_top b back)
          (sym (names.tree_size c child) ∙ named.1 ∙ names.back_size b back) in
          (told.tree_and_back c b child back).1 (list_alone c b child back same),
    )

    back_backs : (a b : ℕ) → IsBackEdge g t a → IsBackEdge g t b → IsCycleEquivalent g a b ↔ HaveOneName a b
    back_backs a b a_back b_back = (
      λ equivalent. let same : a ≡ b = (told.back_edges a b a_back b_back).0 equivalent in (ap tops same, ap sizes same),
      λ named.
          let some : Some a ≡ Some b = sym (names.back_top a a_back) ∙ named.0 ∙ names.back_top b b_back in
          let same : a ≡ b = cc in
          (told.back_edges a b a_back b_back).1 same,
    )

    turned : (a b : ℕ) → IsCycleEquivalent g a b ↔ HaveOneName a b → IsCycleEquivalent g b a ↔ HaveOneName b a
    turned a b h = grind (arith, equivalent_back g b a, equivalent_back g a b)

    -- Two edges are cycle equivalent exactly where they have one name.
    pub classes_by_names : AreClassNames g tops sizes
    classes_by_names a b a_edge b_edge = ⊎_elim
        (λ (f : IsFound g t tree a). ⊎_elim
        (λ (h : IsFound g t tree b). subst (λ x. IsCycleEquivalent g x b ↔ HaveOneName x b) f.by_edge
        (subst (λ y. IsCycleEquivalent g (t.parent_edge f.child) y ↔ HaveOneName (t.parent_edge f.child) y) h.by_edge
        (tree_trees f.child h.child f.is_child h.is_child)))
        (λ (back : IsBackEdge g t b). subst (λ x. IsCycleEquivalent g x b ↔ HaveOneName x b) f.by_edge (tree_backs f.child b f.is_child back))
        (cases_tree g t tree b b_edge))
        (λ (back : IsBackEdge g t a). ⊎_elim
        (λ (h : IsFound g t tree b). subst (λ y. IsCycleEquivalent g a y ↔ HaveOneName a y) h.by_edge
        (turned (t.parent_edge h.child) a (tree_backs h.child a h.is_child back)))
        (λ (b_back : IsBackEdge g t b). back_backs a b back b_back)
        (cases_tree g t tree b b_edge))
        (cases_tree g t tree a a_edge)

-- the law
pub names_tell_classes : NamesTellClasses
names_tell_classes g t s tops sizes sound strong tree lists names = classes_by_names g t tree s lists sound strong tops sizes names
