-- Which edges are cycle equivalent, by the brackets of the edges of a depth-first tree.
use Rattle.std.proofs.Common.{◌≡◌, ◌≢◌, ℕ, ◌<◌, ◌↔◌, Bool, refl, sym, ap, ◌∙◌, subst, ⊎_elim}
use Rattle.std.proofs.Math.Bool.{xor}
use Rattle.std.proofs.lemmas.Bool.{cases_eq}
use Rattle.closed_walks.specs.Graph.{Graph, IsGraph, edge_count, from, to}
use Rattle.closed_walks.specs.Walk.{IsStrong, IsCycleEquivalent, IsCut}
use Rattle.closed_walks.proofs.Classes.{equivalent_same}
use Rattle.closed_walks.proofs.Cuts.{class_is_cut}
use Rattle.cycle_equiv.specs.DepthFirst.{Tree, Joins, IsChild, IsBackEdge, IsDepthFirst, IsBracket, AreToldByBrackets, BracketsTellClasses}
use Rattle.cycle_equiv.proofs.Changes.{xor_since, xor_first, xor_second}
use Rattle.cycle_equiv.proofs.TreeChanges.{below, along_edge, edge_along, IsFound, cases_tree, same_at_child, changes_at_own, bracket_changes, same_without_bracket, changes_by_bracket, one_value}

module _ (g : Graph) (t : Tree) (tree : IsDepthFirst g t) (sound : IsGraph g) where
  tree_joins : (x : ℕ) → IsChild g t x → Joins g (t.parent_edge x) (t.parent x) x
  tree_joins x child = tree.tree_ends x child

  -- a test that is the same at a child and at its parent is so along the edge between them, and the other way round
  along_tree : (test : ℕ → Bool) (x : ℕ) → IsChild g t x → test (t.parent x) ≡ test x → test (from g (t.parent_edge x)) ≡ test (to g (t.parent_edge x))
  along_tree test x child same = along_edge g test (t.parent_edge x) (t.parent x) x (tree_joins x child) same

  tree_along : (test : ℕ → Bool) (x : ℕ) → IsChild g t x → test (from g (t.parent_edge x)) ≡ test (to g (t.parent_edge x)) → test (t.parent x) ≡ test x
  tree_along test x child same = edge_along g test (t.parent_edge x) (t.parent x) x (tree_joins x child) same

  -- two tests that change along the same tree edges change along the same edges
  module _ (one two : ℕ → Bool) (alike : (x : ℕ) → IsChild g t x → (one (t.parent x) ≡ one x) ↔ (two (t.parent x) ≡ two x)) where
    steady : (e : ℕ) → e < edge_count g → xor (one (from g e)) (two (from g e)) ≡ xor (one (to g e)) (two (to g e))
    steady e edge = one_value g t tree (λ x. xor (one x) (two x))
        (λ x child. xor_since (one (t.parent x)) (two (t.parent x)) (one x) (two x) (alike x child))
        (from g e) (to g e) (sound.begins e edge) (sound.ends e edge)

    second_same : (e : ℕ) → e < edge_count g → one (from g e) ≡ one (to g e) → two (from g e) ≡ two (to g e)
    second_same e edge same = xor_second (one (from g e)) (two (from g e)) (one (to g e)) (two (to g e)) (steady e edge) same

    first_same : (e : ℕ) → e < edge_count g → two (from g e) ≡ two (to g e) → one (from g e) ≡ one (to g e)
    first_same e edge same = xor_first (one (from g e)) (two (from g e)) (one (to g e)) (two (to g e)) (steady e edge) same

  -- ---- two tree edges

  module _ (c d : ℕ) (c_child : IsChild g t c) (d_child : IsChild g t d) (apart : c ≢ d) where
    apart_back : d ≢ c
    apart_back same = apart (sym same)

    -- below one of the two nodes alone
    abbrev between : ℕ → Bool
    between x = xor (below t c x) (below t d x)

    edges_apart : t.parent_edge c ≢ t.parent_edge d
    edges_apart same = apart (tree.one_child c d c_child d_child same)

    between_at_first : between (t.parent c) ≢ between c
    between_at_first same = changes_at_own g t tree c c_child (xor_first (below t c (t.parent c)) (below t d (t.parent c)) (below t c c) (below t d c) same
        (same_at_child g t tree d c d_child c_child apart_back))

    between_at_second : between (t.parent d) ≢ between d
    between_at_second same = changes_at_own g t tree d d_child (xor_second (below t c (t.parent d)) (below t d (t.parent d)) (below t c d) (below t d d) same
        (same_at_child g t tree c d c_child d_child apart))

    between_at_others : (x : ℕ) → IsChild g t x → c ≢ x → d ≢ x → between (t.parent x) ≡ between x
    between_at_others x child not_c not_d = xor_since (below t c (t.parent x)) (below t d (t.parent x)) (below t c x) (below t d x)
        (λ same. same_at_child g t tree d x d_child child not_d, λ same. same_at_child g t tree c x c_child child not_c)

    module _ (alike : (e : ℕ) → IsBracket g t c e ↔ IsBracket g t d e) where
      between_along_back : (e : ℕ) → IsBackEdge g t e → between (from g e) ≡ between (to g e)
      between_along_back e back = xor_since (below t c (from g e)) (below t d (from g e)) (below t c (to g e)) (below t d (to g e)) (
        λ same. same_without_bracket g t tree sound d e d_child.node back (λ b. bracket_changes g t tree sound c e c_child.node back ((alike e).1 b) same),
        λ same. same_without_bracket g t tree sound c e c_child.node back (λ b. bracket_changes g t tree sound d e d_child.node back ((alike e).0 b) same),
      )

      same_brackets_cut : IsCut g between (t.parent_edge c) (t.parent_edge d)
      same_brackets_cut = record {
        first = λ same. between_at_first (tree_along between c c_child same);
        second = λ same. between_at_second (tree_along between d d_child same);
        others = λ e edge not_c not_d. ⊎_elim
            (λ (f : IsFound g t tree e). subst (λ x. between (from g x) ≡ between (to g x)) f.by_edge (along_tree between f.child f.is_child
            (between_at_others f.child f.is_child
            (λ same. not_c (sym f.by_edge ∙ sym (ap t.parent_edge same)))
            (λ same. not_d (sym f.by_edge ∙ sym (ap t.parent_edge same))))))
            (λ (back : IsBackEdge g t e). between_along_back e back)
            (cases_tree g t tree e edge);
      }

    module _ (test : ℕ → Bool) (cut : IsCut g test (t.parent_edge c) (t.parent_edge d)) where
      cut_at_others : (x : ℕ) → IsChild g t x → c ≢ x → d ≢ x → test (t.parent x) ≡ test x
      cut_at_others x child not_c not_d = tree_along test x child (cut.others (t.parent_edge x) (tree.tree_edge x child)
          (λ same. not_c (sym (tree.one_child x c child c_child same)))
          (λ same. not_d (sym (tree.one_child x d child d_child same))))

      not_first : (x : ℕ) → test (t.parent x) ≡ test x → c ≢ x
      not_first x same here = cut.first (along_tree test c c_child (subst (λ y. test (t.parent y) ≡ test y) (sym here) same))

      not_second : (x : ℕ) → test (t.parent x) ≡ test x → d ≢ x
      not_second x same here = cut.second (along_tree test d d_child (subst (λ y. test (t.parent y) ≡ test y) (sym here) same))

      cut_alike : (x : ℕ) → IsChild g t x → (test (t.parent x) ≡ test x) ↔ (between (t.parent x) ≡ between x)
      cut_alike x child = (
        λ same. between_at_others x child (not_first x same) (not_second x same),
        λ same. cut_at_others x child
            (λ here. between_at_first (subst (λ y. between (t.parent y) ≡ between y) (sym here) same))
            (λ here. between_at_second (subst (λ y. between (t.parent y) ≡ between y) (sym here) same)),
      )

      cut_between : (e : ℕ) → IsBackEdge g t e → between (from g e) ≡ between (to g e)
      cut_between e back = second_same test between cut_alike e back.edge
          (cut.others e back.edge (λ same. back.found_none c c_child (sym same)) (λ same. back.found_none d d_child (sym same)))

      cut_brackets : (e : ℕ) → IsBracket g t c e ↔ IsBracket g t d e
      cut_brackets e = (
        λ b. changes_by_bracket g t tree sound d e d_child.node b.back (λ same. bracket_changes g t tree sound c e c_child.node b.back b
            (xor_first (below t c (from g e)) (below t d (from g e)) (below t c (to g e)) (below t d (to g e)) (cut_between e b.back) same)),
        λ b. changes_by_bracket g t tree sound c e c_child.node b.back (λ same. bracket_changes g t tree sound d e d_child.node b.back b
            (xor_second (below t c (from g e)) (below t d (from g e)) (below t c (to g e)) (below t d (to g e)) (cut_between e b.back) same)),
      )

  -- ---- a tree edge and a back edge

  module _ (c b : ℕ) (c_child : IsChild g t c) (back : IsBackEdge g t b) where
    abbrev under : ℕ → Bool
    under x = below t c x

    tree_not_back : (x : ℕ) → IsChild g t x → t.parent_edge x ≢ b
    tree_not_back x child = back.found_none x child

    module _ (alone : (e : ℕ) → IsBracket g t c e ↔ (e ≡ b)) where
      one_bracket_cut : IsCut g under (t.parent_edge c) b
      one_bracket_cut = record {
        first = λ same. changes_at_own g t tree c c_child (tree_along under c c_child same);
        second = bracket_changes g t tree sound c b c_child.node back ((alone b).1 refl);
        others = λ e edge not_c not_b. ⊎_elim
            (λ (f : IsFound g t tree e). subst (λ x. under (from g x) ≡ under (to g x)) f.by_edge (along_tree under f.child f.is_child
            (same_at_child g t tree c f.child c_child f.is_child (λ same. not_c (sym f.by_edge ∙ sym (ap t.parent_edge same))))))
            (λ (e_back : IsBackEdge g t e). same_without_bracket g t tree sound c e c_child.node e_back (λ h. not_b ((alone e).0 h)))
            (cases_tree g t tree e edge);
      }

    module _ (test : ℕ → Bool) (cut : IsCut g test (t.parent_edge c) b) where
      under_alike : (x : ℕ) → IsChild g t x → (test (t.parent x) ≡ test x) ↔ (under (t.parent x) ≡ under x)
      under_alike x child = (
        λ same. same_at_child g t tree c x c_child child
            (λ here. cut.first (along_tree test c c_child (subst (λ y. test (t.parent y) ≡ test y) (sym here) same))),
        λ same. tree_along test x child (cut.others (t.parent_edge x) (tree.tree_edge x child)
            (λ equal. changes_at_own g t tree c c_child (subst (λ y. under (t.parent y) ≡ under y) (tree.one_child x c child c_child equal) same))
            (tree_not_back x child)),
      )

      cut_one_bracket : (e : ℕ) → IsBracket g t c e ↔ (e ≡ b)
      cut_one_bracket e = (
        λ h. ⊎_elim
            (λ (same : e ≡ b). same)
            (λ (other : e ≢ b). absurd (bracket_changes g t tree sound c e c_child.node h.back h
            (second_same test under under_alike e h.back.edge (cut.others e h.back.edge (λ same. h.back.found_none c c_child (sym same)) other))))
            (cases_eq e b),
        λ same. subst (λ x. IsBracket g t c x) (sym same) (changes_by_bracket g t tree sound c b c_child.node back
            (λ flat. cut.second (first_same test under under_alike b back.edge flat))),
      )

  -- ---- two back edges

  back_apart : (a b : ℕ) → IsBackEdge g t a → IsBackEdge g t b → (test : ℕ → Bool) → IsCut g test a b → ⊥
  back_apart a b a_back b_back test cut = cut.first (one_value g t tree test
      (λ x child. tree_along test x child (cut.others (t.parent_edge x) (tree.tree_edge x child) (a_back.found_none x child) (b_back.found_none x child)))
      (from g a) (to g a) (sound.begins a a_back.edge) (sound.ends a a_back.edge))

  -- ---- the classes

  module _ (strong : IsStrong g) where
    tree_edges : (c d : ℕ) → IsChild g t c → IsChild g t d → IsCycleEquivalent g (t.parent_edge c) (t.parent_edge d) ↔ ((e : ℕ) → IsBracket g t c e ↔ IsBracket g t d e)
    tree_edges c d c_child d_child = ⊎_elim
        (λ (same : c ≡ d). (
          λ equivalent e. subst (λ x. IsBracket g t c e ↔ IsBracket g t x e) same (λ h. h, λ h. h),
          λ alike. equivalent_same g (t.parent_edge c) (t.parent_edge d) (ap t.parent_edge same),
        ))
        (λ (apart : c ≢ d).
        let cuts = class_is_cut g sound strong (t.parent_edge c) (t.parent_edge d) (tree.tree_edge c c_child) (tree.tree_edge d d_child) (edges_apart c d c_child d_child apart) in (
          λ equivalent. let cut = cuts.0 equivalent in cut_brackets c d c_child d_child apart cut.0 cut.1,
          λ alike. cuts.1 (between c d c_child d_child apart, same_brackets_cut c d c_child d_child apart alike),
        ))
        (cases_eq c d)

    tree_and_back : (c b : ℕ) → IsChild g t c → IsBackEdge g t b → IsCycleEquivalent g (t.parent_edge c) b ↔ ((e : ℕ) → IsBracket g t c e ↔ (e ≡ b))
    tree_and_back c b c_child back =
        let cuts = class_is_cut g sound strong (t.parent_edge c) b (tree.tree_edge c c_child) back.edge (back.found_none c c_child) in (
          λ equivalent. let cut = cuts.0 equivalent in cut_one_bracket c b c_child back cut.0 cut.1,
          λ alone. cuts.1 (under c b c_child back, one_bracket_cut c b c_child back alone),
        )

    back_edges : (a b : ℕ) → IsBackEdge g t a → IsBackEdge g t b → IsCycleEquivalent g a b ↔ (a ≡ b)
    back_edges a b a_back b_back = (
      λ equivalent. ⊎_elim
          (λ (same : a ≡ b). same)
          (λ (apart : a ≢ b). let cut = (class_is_cut g sound strong a b a_back.edge b_back.edge apart).0 equivalent in absurd (back_apart a b a_back b_back cut.0 cut.1))
          (cases_eq a b),
      equivalent_same g a b,
    )

    -- the brackets of the tree edges say which edges are cycle equivalent
    pub classes_by_brackets : AreToldByBrackets g t
    classes_by_brackets = record { tree_edges = tree_edges; tree_and_back = tree_and_back; back_edges = back_edges }

-- the law
pub brackets_tell_classes : BracketsTellClasses
brackets_tell_classes g t sound strong tree = classes_by_brackets g t tree sound strong
