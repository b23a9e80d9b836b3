-- The lists of brackets, where the walk is at its end.
use Rattle.std.proofs.Common.{◌≡◌, ℕ, ◌<◌, ◌≤◌, true, List, Option, Some, sym, ap, ◌∙◌, subst, inl, inr, ⊎_elim, arith}
use Rattle.closed_walks.specs.Graph.{Graph, IsGraph, edge_count, touches, from, to}
use Rattle.closed_walks.specs.Walk.{IsStrong}
use Rattle.cycle_equiv.specs.DepthFirst.{Joins, IsChild, IsBackEdge, IsBelow, IsDepthFirst}
use Rattle.cycle_equiv.specs.BracketLists.{Brackets, IsBackBracket, IsCap, IsHeld, AreBracketLists, AreNames, AreClassNames}
use Rattle.cycle_equiv.specs.Walking.{Trail, IsTaken, IsTrail, IsCounted}
use Rattle.cycle_equiv.specs.TrailReaches.{Reaches, IsUpwards, AreReaches}
use Rattle.cycle_equiv.specs.Pending.{IsCapping, IsHeldNow, AreLeftLists, AreNamed}
use Rattle.std.proofs.lemmas.Bool.{cases_lt}
use Rattle.cycle_equiv.proofs.NamedClasses.{names_tell_classes}
use Rattle.cycle_equiv.proofs.Steps.{joins_touches}
use Rattle.cycle_equiv.proofs.Ending.{all_found, all_taken, left_or_root, walk_depth_first}
use Rattle.cycle_equiv.proofs.Reached.{upper_is, ends_of, upwards_back, back_upwards, highest_some, as_near, reached}

module _ (g : Graph) (w : Trail) (walk : IsTrail g w w.tree.root) (counted : IsCounted g w)
    (taken : (e : ℕ) → e < edge_count g → touches g w.tree.root e ≡ true → IsTaken g w w.tree.root e) (strong : IsStrong g) (sound : IsGraph g)
    (r : Reaches) (reaches : AreReaches g w r) (final : ℕ → List ℕ) (lists : AreLeftLists g w r final) where
  abbrev brackets : Brackets
  brackets = record { second_reach = r.second; list = final }

  tree : IsDepthFirst g w.tree
  tree = walk_depth_first g w walk counted taken strong sound

  found : (x : ℕ) → x < g.nodes → w.found x ≡ true
  found x node = all_found g w walk counted taken strong x node

  left : (x : ℕ) → IsChild g w.tree x → w.left x ≡ true
  left x child = ⊎_elim (λ (root : x ≡ w.tree.root). absurd (child.other root)) (λ (is : w.left x ≡ true). is) (left_or_root g w walk counted taken x (found x child.node))

  now_held : (c b : ℕ) → IsHeldNow g w r c b → IsHeld g w.tree brackets (w.tree.preorder c) c b
  now_held c b h = record {
    low = h.low;
    reach = w.tree.preorder h.end;
    bracket = ⊎_elim
        (λ (back : IsUpwards g w b h.low h.end).
        let places = upper_is g w.tree b h.low h.end back.joins back.above in
        inl (record {
          back = upwards_back g w walk counted taken strong sound b h.low h.end back;
          node = walk.node h.low back.found;
          lower = sym places.1;
          upper = places.0;
        }))
        (λ (cap : IsCapping g w r b h.low h.end).
        let exact = cap.exact in
        let above = cap.above in
        inr (record {
          child = record { node = walk.node h.low (walk.left_found h.low cap.left); other = cap.other };
          number = cap.number;
          reaches = sym cap.exact;
          above = omega (arith, exact, above);
        }))
        h.leads;
    below = h.below;
    above = h.above;
  }

  held_now : (c b : ℕ) → IsHeld g w.tree brackets (w.tree.preorder c) c b → IsHeldNow g w r c b
  held_now c b h =
      let above = h.above in
      let after = h.below.after in
      ⊎_elim
      (λ (bracket : IsBackBracket g w.tree b h.low h.reach).
      let upper = bracket.upper in
      let lower = bracket.lower in
      let e = ends_of g w.tree b (omega (arith, upper, lower, above, after)) in
      let places = upper_is g w.tree b e.low e.high e.ends e.above in
      let low_node : e.low < g.nodes = ⊎_elim
      (λ (j : (from g b ≡ e.low) × (to g b ≡ e.high)). subst (λ n. n < g.nodes) j.0 (sound.begins b bracket.back.edge))
      (λ (j : (from g b ≡ e.high) × (to g b ≡ e.low)). subst (λ n. n < g.nodes) j.1 (sound.ends b bracket.back.edge))
      e.ends in
      let same : h.low ≡ e.low = tree.one_place h.low e.low bracket.node low_node (lower ∙ places.1) in
      let high = places.0 in
      record {
        low = e.low;
        end = e.high;
        leads = inl (back_upwards g w walk counted taken strong sound b e.low e.high low_node bracket.back e.ends e.above);
        below = subst (IsBelow w.tree c) same h.below;
        above = omega (arith, high, upper, above);
      })
      (λ (cap : IsCap g w.tree brackets b h.low h.reach).
      let cap_above = cap.above in
      let cap_reaches = cap.reaches in
      let s = reaches.second_some h.low (found h.low cap.child.node) cap.above in
      let child : IsChild g w.tree s.other = record { node = walk.node s.other (walk.left_found s.other s.other_child.left); other = s.other_child.other } in
      let first = tree.parent_first s.other child in
      let up = ap w.tree.preorder s.other_child.parent in
      let exact = s.exact in
      let l = highest_some g w walk counted taken strong sound r reaches s.other child.node (omega (arith, exact, cap_above, first, up)) in
      let high = l.exact in
      record {
        low = h.low;
        end = l.high;
        leads = inr (record {
          left = left h.low cap.child;
          other = cap.child.other;
          number = cap.number;
          found = walk.ends_found l.low l.high l.edge l.upwards.found l.upwards.taken l.upwards.joins;
          exact = l.exact ∙ s.exact;
          above = omega (arith, high, exact, cap_above);
        });
        below = h.below;
        above = omega (arith, high, exact, cap_reaches, above);
      })
      h.bracket

  -- The walk leaves the lists of brackets of its tree.
  pub walk_lists : AreBracketLists g w.tree (record { second_reach = r.second; list = final })
  walk_lists = record {
    as_near = as_near g w walk counted taken strong sound r reaches;
    reached = reached g w walk counted taken strong sound r reaches final;
    listed = λ c child b. (
      λ holds. now_held c b ((lists.listed c b (left c child) child.other).0 holds),
      λ h. (lists.listed c b (left c child) child.other).1 (held_now c b h),
    );
    in_order = λ c child. lists.in_order c (left c child) child.other;
  }

  -- And the names tell the classes.
  module _ (tops : ℕ → Option ℕ) (sizes : ℕ → ℕ) (named : AreNamed g w final tops sizes) where
    back_named : (b x z : ℕ) → x < g.nodes → IsBackEdge g w.tree b → Joins g b x z → w.tree.preorder z ≤ w.tree.preorder x → (tops b ≡ Some b) × (sizes b ≡ 1)
    back_named b x z node back ends order = named.back_edge b x z (found x node)
        (all_taken g w walk counted taken x b (found x node) back.edge (joins_touches g b x z ends)) ends order
        (λ y y_found other. back.found_none y (record { node = walk.node y y_found; other = other }))

    back_name : (b : ℕ) → IsBackEdge g w.tree b → (tops b ≡ Some b) × (sizes b ≡ 1)
    back_name b back =
        grind (arith, back_named b (to g b) (from g b) (sound.ends b back.edge) back, back_named b (from g b) (to g b) (sound.begins b back.edge) back, cases_lt (w.tree.preorder (from g b)) (w.tree.preorder (to g b)))

    names : AreNames g w.tree (record { second_reach = r.second; list = final }) tops sizes
    names = record {
      tree_top = λ c child. (named.tree_edge c (left c child) child.other).0;
      tree_size = λ c child. (named.tree_edge c (left c child) child.other).1;
      back_top = λ b back. (back_name b back).0;
      back_size = λ b back. (back_name b back).1;
    }

    pub walk_names : AreClassNames g tops sizes
    walk_names = names_tell_classes g w.tree (record { second_reach = r.second; list = final }) tops sizes sound strong tree walk_lists names
