-- Along which edges a walk comes to a node's descendants, or leaves them.
use Rattle.std.proofs.Common.{◌≡◌, ◌≢◌, ℕ, zero, suc, ◌<◌, ◌≤◌, ◌⊎◌, ◌↔◌, Bool, true, false, ◌&&◌, leb, ltb, sym, ap, ◌∙◌, subst, inl, inr, ⊎_elim, arith}
use Rattle.std.proofs.lemmas.Bool.{cases_eq, cases_lt, le-leb, lt-ltb, leb-true, ltb-true, and_from, false_from_ne_true, false≢true}
use Rattle.closed_walks.specs.Graph.{Graph, IsGraph, edge_count, from, to}
use Rattle.cycle_equiv.specs.DepthFirst.{Tree, Joins, IsChild, IsBackEdge, IsBelow, IsDepthFirst, IsBracket, upper_end, lower_end}
use Rattle.cycle_equiv.proofs.Trees.{below_itself, parent_above}

-- whether x is c or a descendant of c
abbrev pub below : Tree → (c x : ℕ) → Bool
below t c x = leb (t.preorder c) (t.preorder x) && ltb (t.preorder x) (t.finish c)

module _ (t : Tree) (c : ℕ) where
  pub below-true : (x : ℕ) → IsBelow t c x → below t c x ≡ true
  below-true x h = and_from (leb (t.preorder c) (t.preorder x)) (ltb (t.preorder x) (t.finish c))
      (le-leb (t.preorder c) (t.preorder x) h.after)
      (lt-ltb (t.preorder x) (t.finish c) h.before)

  pub true-below : (x : ℕ) → below t c x ≡ true → IsBelow t c x
  true-below x h =
      grind (arith, leb (t.preorder c) (t.preorder x), ltb (t.preorder x) (t.finish c), leb-true (t.preorder c) (t.preorder x), ltb-true (t.preorder x) (t.finish c))

  pub below-false : (x : ℕ) → (IsBelow t c x → ⊥) → below t c x ≡ false
  below-false x none = false_from_ne_true (below t c x) (λ h. none (true-below x h))

  pub below-same : (x y : ℕ) → IsBelow t c x ↔ IsBelow t c y → below t c x ≡ below t c y
  below-same x y h = grind (arith, below-true, below-true y, below-false, below-false y)

  pub below-apart : (x y : ℕ) → (IsBelow t c x → ⊥) → IsBelow t c y → below t c x ≢ below t c y
  below-apart x y outside inside same = false≢true (sym (below-false x outside) ∙ same ∙ below-true y inside)

-- a test that is the same at both ends of an edge
module _ (g : Graph) (test : ℕ → Bool) (e u v : ℕ) (ends : Joins g e u v) where
  pub along_edge : test u ≡ test v → test (from g e) ≡ test (to g e)
  along_edge same = grind arith

  pub edge_along : test (from g e) ≡ test (to g e) → test u ≡ test v
  edge_along same = grind arith

module _ (g : Graph) (t : Tree) (tree : IsDepthFirst g t) where
  -- ---- the edge of a tree by which a node was found

  pub record IsFound (e : ℕ) : Type 0 where
    pub child : ℕ
    pub is_child : IsChild g t child
    pub by_edge : t.parent_edge child ≡ e

  found_below : (e k : ℕ) → k ≤ g.nodes → IsFound e ⊎ ((x : ℕ) → x < k → IsChild g t x → t.parent_edge x ≢ e)
  found_below e zero few = inr (λ x h child. absurd (omega (arith, h)))
  found_below e (suc k) few = ⊎_elim
      (λ found. inl found)
      (λ (none : (x : ℕ) → x < k → IsChild g t x → t.parent_edge x ≢ e). ⊎_elim
      (λ (root : k ≡ t.root). inr (λ x h child. ⊎_elim
      (λ (less : x < k). none x less child)
      (λ (more : k ≤ x). absurd (child.other (let here : x ≡ k = omega (arith, h) in here ∙ root)))
      (cases_lt x k)))
      (λ (other : k ≢ t.root). ⊎_elim
      (λ (same : t.parent_edge k ≡ e). inl (record { child = k; is_child = record { node = few; other = other }; by_edge = same }))
      (λ (differs : t.parent_edge k ≢ e). inr (λ x h child. ⊎_elim
      (λ (less : x < k). none x less child)
      (λ (more : k ≤ x). let here : k ≡ x = omega (arith, h) in subst (λ y. t.parent_edge y ≢ e) here differs)
      (cases_lt x k)))
      (cases_eq (t.parent_edge k) e))
      (cases_eq k t.root))
      (found_below e k (omega arith))

  -- an edge is a tree edge or a back edge
  pub cases_tree : (e : ℕ) → e < edge_count g → IsFound e ⊎ IsBackEdge g t e
  cases_tree e edge = grind (arith, found_below e g.nodes)

  -- ---- a tree edge leads to the descendants of the one node that was found by it

  pub same_at_child : (c x : ℕ) → IsChild g t c → IsChild g t x → c ≢ x → below t c (t.parent x) ≡ below t c x
  same_at_child c x c_child child apart = below-same t c (t.parent x) x (tree.by_parent c x c_child.node child apart)

  pub changes_at_own : (c : ℕ) → IsChild g t c → below t c (t.parent c) ≢ below t c c
  changes_at_own c child = below-apart t c (t.parent c) c (parent_above g t tree c child) (below_itself g t tree c child.node)

  -- ---- a back edge leads to the descendants of c where it is a bracket of c

  pub cases_bracket : (c e : ℕ) → IsBackEdge g t e → IsBracket g t c e ⊎ (IsBracket g t c e → ⊥)
  cases_bracket c e back = ⊎_elim
      (λ (early : lower_end g t e < t.preorder c). inr (λ (b : IsBracket g t c e). let after = b.after in omega (arith, after, early)))
      (λ (after : t.preorder c ≤ lower_end g t e). ⊎_elim
      (λ (before : lower_end g t e < t.finish c). ⊎_elim
      (λ (above : upper_end g t e < t.preorder c). inl (record { back = back; after = after; before = before; above = above }))
      (λ (low : t.preorder c ≤ upper_end g t e). inr (λ (b : IsBracket g t c e). let above = b.above in omega (arith, above, low)))
      (cases_lt (upper_end g t e) (t.preorder c)))
      (λ (past : t.finish c ≤ lower_end g t e). inr (λ (b : IsBracket g t c e). let before = b.before in omega (arith, before, past)))
      (cases_lt (lower_end g t e) (t.finish c)))
      (cases_lt (lower_end g t e) (t.preorder c))

  module _ (c e u v : ℕ) (c_node : c < g.nodes) (u_node : u < g.nodes) (back : IsBackEdge g t e) (ends : Joins g e u v)
      (order : t.preorder u ≤ t.preorder v) (upper : upper_end g t e ≡ t.preorder u) (lower : lower_end g t e ≡ t.preorder v) where
    bracket_apart : IsBracket g t c e → below t c u ≢ below t c v
    bracket_apart b =
        let after : t.preorder c ≤ t.preorder v = subst (λ k. t.preorder c ≤ k) lower b.after in
        let before : t.preorder v < t.finish c = subst (λ k. k < t.finish c) lower b.before in
        let above : t.preorder u < t.preorder c = subst (λ k. k < t.preorder c) upper b.above in
        below-apart t c u v (λ (h : IsBelow t c u). omega arith) (record { after = after; before = before })

    down : IsBelow t c u → IsBelow t c v
    down h =
        let inside = tree.back_ends e u v back ends order in
        let end = tree.nested c u c_node u_node h in
        record { after = omega arith; before = omega arith }

    bracket_since : IsBelow t c v → (IsBelow t c u → ⊥) → IsBracket g t c e
    bracket_since inside outside = ⊎_elim
        (λ (above : t.preorder u < t.preorder c). record {
          back = back;
          after = subst (λ k. t.preorder c ≤ k) (sym lower) inside.after;
          before = subst (λ k. k < t.finish c) (sym lower) inside.before;
          above = subst (λ k. k < t.preorder c) (sym upper) above;
        })
        (λ (late : t.preorder c ≤ t.preorder u). absurd (outside (record { after = late; before = omega arith })))
        (cases_lt (t.preorder u) (t.preorder c))

    none_same : (IsBracket g t c e → ⊥) → below t c u ≡ below t c v
    none_same none = grind (arith, below-same, down, bracket_since)

  module _ (sound : IsGraph g) (c e : ℕ) (c_node : c < g.nodes) (back : IsBackEdge g t e) where
    from_node : from g e < g.nodes
    from_node = sound.begins e back.edge

    to_node : to g e < g.nodes
    to_node = sound.ends e back.edge

    pub bracket_changes : IsBracket g t c e → below t c (from g e) ≢ below t c (to g e)
    bracket_changes b =
        grind (arith, bracket_apart c e (from g e) (to g e) c_node from_node back, from_node, bracket_apart c e (to g e) (from g e) c_node to_node back, to_node, cases_lt (t.preorder (from g e)) (t.preorder (to g e)))

    pub same_without_bracket : (IsBracket g t c e → ⊥) → below t c (from g e) ≡ below t c (to g e)
    same_without_bracket none =
        grind (arith, none_same c e (from g e) (to g e) c_node from_node back, from_node, none_same c e (to g e) (from g e) c_node to_node back, to_node, cases_lt (t.preorder (from g e)) (t.preorder (to g e)))

    pub changes_by_bracket : below t c (from g e) ≢ below t c (to g e) → IsBracket g t c e
    changes_by_bracket apart = grind (arith, same_without_bracket)

  -- ---- tests that don't change along the tree edges

  module _ (test : ℕ → Bool) (steady : (x : ℕ) → IsChild g t x → test (t.parent x) ≡ test x) where
    as_root_below : (k x : ℕ) → t.preorder x < k → x < g.nodes → test x ≡ test t.root
    as_root_below zero x few node = absurd (omega (arith, few))
    as_root_below (suc k) x few node = ⊎_elim
        (λ (same : x ≡ t.root). ap test same)
        (λ (other : x ≢ t.root).
        let child : IsChild g t x = record { node = node; other = other } in
        let first = tree.parent_first x child in
        sym (steady x child) ∙ as_root_below k (t.parent x) (omega (arith, few, first)) (tree.parent_node x child))
        (cases_eq x t.root)

    pub one_value : (u v : ℕ) → u < g.nodes → v < g.nodes → test u ≡ test v
    one_value u v u_node v_node = as_root_below (suc (t.preorder u)) u (omega arith) u_node ∙ sym (as_root_below (suc (t.preorder v)) v (omega arith) v_node)
