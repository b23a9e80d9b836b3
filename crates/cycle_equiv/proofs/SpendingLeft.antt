-- What the walk spends where it leaves a node.
use Rattle.std.proofs.Common.{◌≡◌, ◌≢◌, ℕ, ◌+◌, ◌*◌, ◌<◌, ◌≤◌, Bool, true, ◌&&◌, not, ltb, min, max, refl, sym, ap, ◌∙◌, subst, ⊎_elim, arith}
use Rattle.std.proofs.lemmas.Bool.{cases_eq, cases_lt, false≢true, lt-ltb, le-ltb}
use Rattle.closed_walks.specs.Graph.{Graph}
use Rattle.cycle_equiv.specs.Walking.{Trail, IsOpen, IsTrail, leaving}
use Rattle.cycle_equiv.specs.TrailReaches.{Reaches, AreReaches, IsLeftChild, HasChildren, highest, merging}
use Rattle.cycle_equiv.specs.WalkSteps.{HasFewCaps, how_many, has_cap, left_alone, spent}
use Rattle.cycle_equiv.proofs.Leaving.{parent_open}
use Rattle.cycle_equiv.proofs.Spending.{one_if, one_most, and_same}
use Rattle.cycle_equiv.proofs.Steps.{put_same, put_other}
use Rattle.cycle_equiv.proofs.Sums.{at_one, at_here, at_other, sum_least, sum_plus, sum_one, sum_more}

module _ (g : Graph) (w : Trail) (u : ℕ) (walk : IsTrail g w u) (r : Reaches) (reaches : AreReaches g w r) (not_root : u ≢ w.tree.root) where
  abbrev after : Trail
  after = leaving w u

  abbrev merged : Reaches
  merged = merging r (w.tree.parent u) (highest r u)

  abbrev capped : Bool
  capped = ltb (r.second u) (w.tree.preorder u)

  node : u < g.nodes
  node = walk.node u walk.here.found

  up : IsOpen w (w.tree.parent u)
  up = parent_open g w u walk not_root

  u_apart : u ≢ w.tree.parent u
  u_apart same = let first = (walk.by_edge u walk.here.found not_root).first in let places = ap w.tree.preorder same in omega (arith, first, places)

  second_as : (x : ℕ) → x ≢ w.tree.parent u → merged.second x ≡ r.second x
  second_as x apart = put_other r.second (w.tree.parent u) (min (r.second (w.tree.parent u)) (max (r.first (w.tree.parent u)) (highest r u))) x apart

  left_more : how_many after.left g.nodes ≡ how_many w.left g.nodes + 1
  left_more =
      sum_more (λ x. one_if (w.left x)) (λ x. one_if (after.left x)) u 1 g.nodes node
      (ap one_if (put_same w.left u true u refl) ∙ sym (ap (λ b. one_if b + 1) walk.here.stays))
      (λ x less apart. ap one_if (put_other w.left u true x apart))

  caps_more : how_many (has_cap after merged) g.nodes ≡ how_many (has_cap w r) g.nodes + one_if capped
  caps_more =
      let none : one_if (has_cap w r u) ≡ 0 = ap (λ b. one_if (b && ltb (r.second u) (w.tree.preorder u))) walk.here.stays in
      let own : one_if (has_cap after merged u) ≡ one_if capped =
      ap (λ b. one_if (b && ltb (merged.second u) (w.tree.preorder u))) (put_same w.left u true u refl)
      ∙ ap (λ n. one_if (ltb n (w.tree.preorder u))) (second_as u u_apart) in
      sum_more (λ x. one_if (has_cap w r x)) (λ x. one_if (has_cap after merged x)) u (one_if capped) g.nodes node
      (omega (arith, none, own))
      (λ x less apart.
      ap (λ b. one_if (b && ltb (merged.second x) (w.tree.preorder x))) (put_other w.left u true x apart)
      ∙ and_same (w.left x) (ltb (merged.second x) (w.tree.preorder x)) (ltb (r.second x) (w.tree.preorder x))
      (λ left. ap (λ n. ltb n (w.tree.preorder x)) (second_as x (λ same. false≢true (sym up.stays ∙ subst (λ n. w.left n ≡ true) same left)))))

  pub spent_leave : spent g.nodes (leaving w u) merged ≡ spent g.nodes w r + 4 + 2 * one_if capped
  spent_leave = let left = left_more in let caps = caps_more in omega (arith, left, caps)

  -- ---- nodes that were left, and their parents weren't

  stays_left : (x : ℕ) → one_if (not (after.left x)) ≤ one_if (not (w.left x))
  stays_left x = grind (arith, put_same w.left, one_if, put_other w.left)

  alone_elsewhere : (x : ℕ) → x ≢ u → one_if (left_alone after x) ≤ one_if (left_alone w x)
  alone_elsewhere x apart = grind (arith, one_if, put_other w.left u, stays_left (w.tree.parent x))

  -- one more at most
  alone_more : how_many (left_alone after) g.nodes ≤ how_many (left_alone w) g.nodes + 1
  alone_more =
      let most = sum_least (λ x. one_if (left_alone after x)) (λ x. one_if (left_alone w x) + at_one u x) g.nodes
      (λ x less. ⊎_elim
      (λ (same : x ≡ u). let here = at_here u x same in let one = one_most (left_alone after x) in omega (arith, here, one))
      (λ (apart : x ≢ u). let least = alone_elsewhere x apart in omega (arith, least))
      (cases_eq x u)) in
      let both = sum_plus (λ x. one_if (left_alone w x)) (at_one u) g.nodes in
      let one = sum_one u g.nodes node in
      omega (arith, most, both, one)

  child_apart : (c : ℕ) → IsLeftChild w u c → c ≢ u
  child_apart c child same = false≢true (sym walk.here.stays ∙ subst (λ n. w.left n ≡ true) same child.left)

  child_was : (c : ℕ) → IsLeftChild w u c → one_if (left_alone w c) ≡ 1
  child_was c child = cc

  child_now : (c : ℕ) → IsLeftChild w u c → one_if (left_alone after c) ≡ 0
  child_now c child = grind (arith, one_if, put_other w.left u true c (child_apart c child), child_apart c child, put_same w.left u true u)

  -- one less, where the node had two children
  alone_less : (k : ℕ) → HasChildren w r u k → how_many (left_alone after) g.nodes + 1 ≤ how_many (left_alone w) g.nodes
  alone_less k two =
      let most = sum_least (λ x. one_if (left_alone after x) + (at_one two.one x + at_one two.other x)) (λ x. one_if (left_alone w x) + at_one u x) g.nodes (λ x less. each x) in
      let sums = sum_plus (λ x. one_if (left_alone after x)) (λ x. at_one two.one x + at_one two.other x) g.nodes in
      let pair = sum_plus (at_one two.one) (at_one two.other) g.nodes in
      let both = sum_plus (λ x. one_if (left_alone w x)) (at_one u) g.nodes in
      let here = sum_one u g.nodes node in
      let first = sum_one two.one g.nodes (walk.node two.one (walk.left_found two.one two.one_child.left)) in
      let second = sum_one two.other g.nodes (walk.node two.other (walk.left_found two.other two.other_child.left)) in
      omega (arith, most, sums, pair, both, here, first, second)
    where
      child : (c x : ℕ) → IsLeftChild w u c → x ≡ c → (one_if (left_alone after x) ≡ 0) × (one_if (left_alone w x) ≡ 1)
      child c x is same = (ap (λ n. one_if (left_alone after n)) same ∙ child_now c is, ap (λ n. one_if (left_alone w n)) same ∙ child_was c is)

      each : (x : ℕ) → one_if (left_alone after x) + (at_one two.one x + at_one two.other x) ≤ one_if (left_alone w x) + at_one u x
      each x = ⊎_elim
          (λ (is_one : x ≡ two.one).
          let now = child two.one x two.one_child is_one in
          let none = now.0 in
          let was = now.1 in
          let one = at_here two.one x is_one in
          let other = at_other two.other x (λ same. two.apart (sym is_one ∙ same)) in
          omega (arith, none, was, one, other))
          (λ (not_one : x ≢ two.one).
          let one = at_other two.one x not_one in
          ⊎_elim
          (λ (is_other : x ≡ two.other).
          let now = child two.other x two.other_child is_other in
          let none = now.0 in
          let was = now.1 in
          let other = at_here two.other x is_other in
          omega (arith, none, was, one, other))
          (λ (not_other : x ≢ two.other).
          let other = at_other two.other x not_other in
          ⊎_elim
          (λ (same : x ≡ u). let here = at_here u x same in let most = one_most (left_alone after x) in omega (arith, one, other, here, most))
          (λ (apart : x ≢ u). let least = alone_elsewhere x apart in omega (arith, one, other, least))
          (cases_eq x u))
          (cases_eq x two.other))
          (cases_eq x two.one)

  pub few_caps_leave : HasFewCaps g.nodes w r → HasFewCaps g.nodes (leaving w u) merged
  few_caps_leave few =
      let was = few.caps in
      let left = left_more in
      let caps = caps_more in
      ⊎_elim
      (λ (above : r.second u < w.tree.preorder u).
      let one = ap one_if (lt-ltb (r.second u) (w.tree.preorder u) above) in
      let alone = alone_less (r.second u) (reaches.second_some u walk.here.found above) in
      record { caps = omega (arith, was, left, caps, one, alone) })
      (λ (level : w.tree.preorder u ≤ r.second u).
      let none = ap one_if (le-ltb (r.second u) (w.tree.preorder u) level) in
      let alone = alone_more in
      record { caps = omega (arith, was, left, caps, none, alone) })
      (cases_lt (r.second u) (w.tree.preorder u))
