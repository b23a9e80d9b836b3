-- What the walk spends and saves where it takes an edge.
use Rattle.std.proofs.Common.{◌≡◌, ◌≢◌, ℕ, ◌+◌, ◌<◌, ◌≤◌, Bool, true, false, ◌==◌, ◌&&◌, not, ltb, if◌then◌else◌, refl, sym, ap, ◌∙◌, subst, ⊎_elim, arith}
use Rattle.std.proofs.lemmas.Bool.{cases_eq, cases_lt, false≢true, eq-eqb, lt-ltb, le-ltb}
use Rattle.closed_walks.specs.Graph.{Graph, edge_count, touches}
use Rattle.cycle_equiv.specs.DepthFirst.{Joins}
use Rattle.cycle_equiv.specs.Walking.{Trail, IsTrail, earlier, put, taking, finding}
use Rattle.cycle_equiv.specs.TrailReaches.{Reaches, starting}
use Rattle.cycle_equiv.specs.WalkSteps.{HasFewCaps, sum_to, how_many, goes_back, has_cap, left_alone, spent, saved}
use Rattle.cycle_equiv.proofs.Steps.{put_same, put_other, joins_touches, joins_back, joins_one, earlier_one}
use Rattle.cycle_equiv.proofs.Sums.{at_one, at_here, sum_least, sum_same, sum_plus, sum_one, sum_more}

abbrev pub one_if : Bool → ℕ
one_if b = if b then 1 else 0

pub one_most : (b : Bool) → one_if b ≤ 1
one_most true = omega arith
one_most false = omega arith

pub and_same : (a b c : Bool) → (a ≡ true → b ≡ c) → one_if (a && b) ≡ one_if (a && c)
and_same true b c same = ap one_if (same refl)
and_same false b c same = refl

and_least : (a b c : Bool) → (a ≡ true → one_if b ≤ one_if c) → one_if (a && b) ≤ one_if (a && c)
and_least true b c less = less refl
and_least false b c less = omega arith

and_none : (a b : Bool) → b ≡ false → one_if (a && b) ≡ 0
and_none true b none = ap one_if none
and_none false b none = refl

not_other : (x y : ℕ) → not (x == y) ≡ true → x ≢ y
not_other x y differs same = let h : not (x == y) ≡ false = rw (eq-eqb x y same) refl in false≢true (sym h ∙ differs)

module _ (g : Graph) (w : Trail) (u : ℕ) (walk : IsTrail g w u) (e v : ℕ) (edge : e < edge_count g) (touched : touches g u e ≡ true)
    (next : earlier g u e ≡ w.taken u) (ends : Joins g e u v) where
  node : u < g.nodes
  node = walk.node u walk.here.found

  back_elsewhere : (x : ℕ) → x ≢ u → goes_back g (taking w u) x ≡ goes_back g w x
  back_elsewhere x apart = ap (λ n. not (x == w.tree.root) && ltb (earlier g x (w.tree.parent_edge x)) n) (put_other w.taken u (w.taken u + 1) x apart)

  -- one is saved more at most
  pub saved_take : saved g (taking w u) ≤ saved g w + 1
  saved_take =
      let most = sum_least (λ x. one_if (goes_back g (taking w u) x)) (λ x. one_if (goes_back g w x) + at_one u x) g.nodes
      (λ x less. ⊎_elim
      (λ (same : x ≡ u). let here = at_here u x same in let one = one_most (goes_back g (taking w u) x) in omega (arith, here, one))
      (λ (apart : x ≢ u). let as_it_was = ap one_if (back_elsewhere x apart) in omega (arith, as_it_was))
      (cases_eq x u)) in
      let both = sum_plus (λ x. one_if (goes_back g w x)) (at_one u) g.nodes in
      let one = sum_one u g.nodes node in
      omega (arith, most, both, one)

  -- where it isn't the edge by which the node was found, nothing is
  module _ (not_back : u ≢ w.tree.root → w.tree.parent_edge u ≢ e) where
    back_here : u ≢ w.tree.root → one_if (ltb (earlier g u (w.tree.parent_edge u)) (w.taken u + 1)) ≤ one_if (ltb (earlier g u (w.tree.parent_edge u)) (w.taken u))
    back_here other =
        let by = walk.by_edge u walk.here.found other in
        let parent_touched = joins_touches g (w.tree.parent_edge u) u (w.tree.parent u) (joins_back g (w.tree.parent_edge u) (w.tree.parent u) u by.ends) in
        ⊎_elim
        (λ (less : earlier g u (w.tree.parent_edge u) < w.taken u).
        rw (lt-ltb (earlier g u (w.tree.parent_edge u)) (w.taken u) less) (one_most (ltb (earlier g u (w.tree.parent_edge u)) (w.taken u + 1))))
        (λ (more : w.taken u ≤ earlier g u (w.tree.parent_edge u)).
        let apart : earlier g u (w.tree.parent_edge u) ≢ w.taken u = λ same. not_back other (earlier_one g u (w.tree.parent_edge u) e parent_touched touched (same ∙ sym next)) in
        rw (le-ltb (earlier g u (w.tree.parent_edge u)) (w.taken u + 1) (omega (arith, more, apart))) (omega arith))
        (cases_lt (earlier g u (w.tree.parent_edge u)) (w.taken u))

    back_least : (x : ℕ) → one_if (goes_back g (taking w u) x) ≤ one_if (goes_back g w x)
    back_least x = grind (arith, and_least, ltb, put_same w.taken, back_here, not_other, back_elsewhere)

    pub saved_level : saved g (taking w u) ≤ saved g w
    saved_level = grind (arith, sum_least, back_least)

  takes_more : sum_to (put w.taken u (w.taken u + 1)) g.nodes ≡ sum_to w.taken g.nodes + 1
  takes_more =
      grind (arith, sum_more w.taken (put w.taken u (w.taken u + 1)) u 1 g.nodes node, node, put_same w.taken u (w.taken u + 1) u, put_other w.taken u (w.taken u + 1))

  module _ (r : Reaches) where
    caps_as : (s : Reaches) → s.second ≡ r.second → how_many (has_cap w s) g.nodes ≡ how_many (has_cap w r) g.nodes
    caps_as s same = ap (λ (f : ℕ → ℕ). how_many (λ x. w.left x && ltb (f x) (w.tree.preorder x)) g.nodes) same

    pub spent_take : (s : Reaches) → s.second ≡ r.second → spent g.nodes (taking w u) s ≡ spent g.nodes w r + 2
    spent_take s same = let takes = takes_more in let caps = caps_as s same in omega (arith, takes, caps)

    pub few_caps_take : (s : Reaches) → s.second ≡ r.second → HasFewCaps g.nodes w r → HasFewCaps g.nodes (taking w u) s
    few_caps_take s same few = let caps = caps_as s same in let most = few.caps in record { caps = omega (arith, caps, most) }

  -- ---- a node was found

  module _ (inside : v < g.nodes) (hidden : w.found v ≡ false) (none_yet : (taking w u).taken v ≡ 0) where
    abbrev after : Trail
    after = finding w u e v

    not_back : u ≢ w.tree.root → w.tree.parent_edge u ≢ e
    not_back other same = grind (arith, joins_back g e (w.tree.parent u) u, joins_one g e u v (w.tree.parent u) ends)

    back_found : (x : ℕ) → one_if (goes_back g after x) ≤ one_if (goes_back g w x)
    back_found x =
        grind (arith, put_same (put w.taken u (w.taken u + 1)), and_none, ltb, le-ltb, put_other w.tree.parent_edge, put_other (put w.taken u (w.taken u + 1)), back_least not_back, not_back)

    pub saved_find : saved g (finding w u e v) ≤ saved g w + 1
    saved_find = grind (arith, sum_least, back_found)

    takes_found : sum_to after.taken g.nodes ≡ sum_to w.taken g.nodes + 1
    takes_found =
        sum_same after.taken (put w.taken u (w.taken u + 1)) g.nodes
        (λ x less. ⊎_elim
        (λ (new : x ≡ v). put_same (put w.taken u (w.taken u + 1)) v 0 x new ∙ sym none_yet ∙ ap (put w.taken u (w.taken u + 1)) (sym new))
        (λ (old : x ≢ v). put_other (put w.taken u (w.taken u + 1)) v 0 x old)
        (cases_eq x v))
        ∙ takes_more

    left_apart : (x : ℕ) → w.left x ≡ true → x ≢ v
    left_apart x left same = false≢true (sym hidden ∙ subst (λ n. w.found n ≡ true) same (walk.left_found x left))

    module _ (r : Reaches) where
      caps_found : how_many (has_cap after (starting r v w.count)) g.nodes ≡ how_many (has_cap w r) g.nodes
      caps_found =
          sum_same (λ x. one_if (has_cap after (starting r v w.count) x)) (λ x. one_if (has_cap w r x)) g.nodes
          (λ x less. and_same (w.left x) (ltb (put r.second v w.count x) (put w.tree.preorder v w.count x)) (ltb (r.second x) (w.tree.preorder x))
          (λ left.
          let old = left_apart x left in
          ap (λ n. ltb n (put w.tree.preorder v w.count x)) (put_other r.second v w.count x old) ∙ ap (λ n. ltb (r.second x) n) (put_other w.tree.preorder v w.count x old)))

      alone_found : how_many (left_alone after) g.nodes ≡ how_many (left_alone w) g.nodes
      alone_found =
          sum_same (λ x. one_if (left_alone after x)) (λ x. one_if (left_alone w x)) g.nodes
          (λ x less. and_same (w.left x) (not (w.left (put w.tree.parent v u x))) (not (w.left (w.tree.parent x)))
          (λ left. ap (λ p. not (w.left p)) (put_other w.tree.parent v u x (left_apart x left))))

      pub spent_find : spent g.nodes (finding w u e v) (starting r v w.count) ≡ spent g.nodes w r + 2
      spent_find = let takes = takes_found in let caps = caps_found in omega (arith, takes, caps)

      pub few_caps_find : HasFewCaps g.nodes w r → HasFewCaps g.nodes (finding w u e v) (starting r v w.count)
      few_caps_find few = let caps = caps_found in let alone = alone_found in let most = few.caps in record { caps = omega (arith, caps, alone, most) }
