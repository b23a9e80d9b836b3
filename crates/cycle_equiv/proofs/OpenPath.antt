-- The open nodes of a depth-first walk, from the root to where the walk is.
use Rattle.std.proofs.Common.{◌≡◌, ◌≢◌, ℕ, zero, suc, ◌<◌, ◌≤◌, true, false, sym, ap, ◌∙◌, subst, ⊎_elim, arith}
use Rattle.std.proofs.lemmas.Bool.{cases_eq, cases_lt, cases_Bool}
use Rattle.closed_walks.specs.Graph.{Graph}
use Rattle.cycle_equiv.specs.DepthFirst.{Joins}
use Rattle.cycle_equiv.specs.Walking.{Trail, IsTaken, IsOpen, IsFoundBy, IsTrail}
use Rattle.cycle_equiv.proofs.Steps.{joins_back, two_ends}

module _ (g : Graph) (w : Trail) (u : ℕ) (walk : IsTrail g w u) where
  -- no two nodes were found by one edge
  pub one_edge : (x y : ℕ) → w.found x ≡ true → w.found y ≡ true → x ≢ w.tree.root → y ≢ w.tree.root → w.tree.parent_edge x ≡ w.tree.parent_edge y → x ≡ y
  one_edge x y x_found y_found x_other y_other same = grind (arith, two_ends g)

  -- the parent of an open node is open
  pub open_parent : (x : ℕ) → IsOpen w x → x ≢ w.tree.root → IsOpen w (w.tree.parent x)
  open_parent x stands other =
      let by = walk.by_edge x stands.found other in
      record {
        found = by.parent;
        stays = ⊎_elim
            (λ (left : w.left (w.tree.parent x) ≡ true).
            let later = walk.left_later (w.tree.parent x) left in
            let first = by.first in
            absurd (walk.left_apart (w.tree.parent x) x left stands
            ((walk.by_parent (w.tree.parent x) x by.parent stands.found other (λ same. let places = ap w.tree.preorder same in omega (arith, first, places))).0
            (record { after = omega arith; before = later }))))
            (λ (stays : w.left (w.tree.parent x) ≡ false). stays)
            (cases_Bool (w.left (w.tree.parent x)));
      }

  -- the open child of v that is an ancestor of x, or x
  pub record IsNext (v x : ℕ) : Type 0 where
    pub child : ℕ
    pub stands : IsOpen w child
    pub other : child ≢ w.tree.root
    pub parent : w.tree.parent child ≡ v
    pub no_later : w.tree.preorder child ≤ w.tree.preorder x

  next_below : (k v x : ℕ) → w.tree.preorder x < k → IsOpen w v → IsOpen w x → w.tree.preorder v < w.tree.preorder x → IsNext v x
  next_below zero v x few v_open x_open less = absurd (omega (arith, few))
  next_below (suc k) v x few v_open x_open less = ⊎_elim
      (λ (same : w.tree.parent x ≡ v). record { child = x; stands = x_open; other = other; parent = same; no_later = omega arith })
      (λ (apart : w.tree.parent x ≡ v → ⊥).
      let rest = next_below k v (w.tree.parent x) (omega (arith, first, few)) v_open (open_parent x x_open other)
      (⊎_elim
      (λ (l : w.tree.preorder v < w.tree.preorder (w.tree.parent x)). l)
      (λ (m : w.tree.preorder (w.tree.parent x) ≤ w.tree.preorder v). absurd (apart (walk.one_place (w.tree.parent x) v by.parent v_open.found (omega (arith, m, up)))))
      (cases_lt (w.tree.preorder v) (w.tree.preorder (w.tree.parent x)))) in
      let no_later = rest.no_later in
      record { child = rest.child; stands = rest.stands; other = rest.other; parent = rest.parent; no_later = omega (arith, no_later, first) })
      (cases_eq (w.tree.parent x) v)
    where
      other : x ≢ w.tree.root
      other same = let place = ap w.tree.preorder same in let zero_place = walk.root_first in omega (arith, place, zero_place, less)

      by : IsFoundBy g w x
      by = walk.by_edge x x_open.found other

      first : w.tree.preorder (w.tree.parent x) < w.tree.preorder x
      first = by.first

      up : w.tree.preorder v ≤ w.tree.preorder (w.tree.parent x)
      up =
          let finish = walk.open_finish v v_open in
          let inside = walk.in_range x x_open.found in
          ((walk.by_parent v x v_open.found x_open.found other (λ same. let places = ap w.tree.preorder same in omega (arith, places, less))).1
          (record { after = omega (arith, less); before = omega (arith, finish, inside) })).after

  pub next_open : (v x : ℕ) → IsOpen w v → IsOpen w x → w.tree.preorder v < w.tree.preorder x → IsNext v x
  next_open v x v_open x_open less = next_below (suc (w.tree.preorder x)) v x (omega arith) v_open x_open less

  -- An edge that leads up from u to an open node wasn't taken there, but for the edge by which u was found.
  pub not_taken_above : (e v : ℕ) → Joins g e u v → IsOpen w v → w.tree.preorder v < w.tree.preorder u → e ≢ w.tree.parent_edge u → IsTaken g w v e → ⊥
  not_taken_above e v ends v_open above other taken =
      let n = next_open v u v_open walk.here above in
      let no_later = n.no_later in
      ⊎_elim
      (λ (by_edge : e ≡ w.tree.parent_edge n.child).
      let by = walk.by_edge n.child n.stands.found n.other in
      let first = by.first in
      ⊎_elim
      (λ (crossed : (w.tree.parent n.child ≡ u) × (v ≡ n.child)).
      let up = ap w.tree.preorder n.parent in
      let down = ap w.tree.preorder crossed.1 in
      omega (arith, first, up, down))
      (λ (here : n.child ≡ u). other (by_edge ∙ ap w.tree.parent_edge here))
      (two_ends g e (w.tree.parent n.child) n.child v u (subst (λ d. Joins g d (w.tree.parent n.child) n.child) (sym by_edge) by.ends) (joins_back g e u v ends)))
      (λ (less : w.tree.preorder u < w.tree.preorder n.child). omega (arith, less, no_later))
      (walk.before v n.child u e v_open n.stands n.other n.parent taken (joins_back g e u v ends))
