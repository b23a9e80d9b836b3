-- Where a child is left, its parent's reaches take in the child's.
use Rattle.std.proofs.Common.{◌≡◌, ◌≢◌, ℕ, ◌<◌, ◌≤◌, ◌⊎◌, true, min, max, refl, sym, ap, ◌∙◌, subst, ⊎_elim, arith}
use Rattle.std.proofs.lemmas.Bool.{cases_eq, cases_lt, false≢true}
use Rattle.closed_walks.specs.Graph.{Graph}
use Rattle.cycle_equiv.specs.DepthFirst.{IsBelow}
use Rattle.cycle_equiv.specs.Walking.{Trail, IsOpen, IsTrail, put, leaving}
use Rattle.cycle_equiv.specs.TrailReaches.{Reaches, IsUpwards, IsLeftChild, highest, HasChild, HasChildren, AreReaches, merging}
use Rattle.cycle_equiv.proofs.Steps.{put_same, put_other}
use Rattle.cycle_equiv.proofs.Leaving.{open_above, parent_open}

module _ (g : Graph) (w : Trail) (u : ℕ) (walk : IsTrail g w u) (r : Reaches) (reaches : AreReaches g w r) (other : u ≢ w.tree.root) where
  abbrev after : Reaches
  after = merging r (w.tree.parent u) (highest r u)

  up : IsOpen w (w.tree.parent u)
  up = parent_open g w u walk other

  up_first : w.tree.preorder (w.tree.parent u) < w.tree.preorder u
  up_first = (walk.by_edge u walk.here.found other).first

  apart_from_parent : (x : ℕ) → w.left x ≡ true → x ≢ w.tree.parent u
  apart_from_parent x left same = false≢true (sym up.stays ∙ subst (λ n. w.left n ≡ true) same left)

  u_apart : u ≢ w.tree.parent u
  u_apart same = let places = ap w.tree.preorder same in let first = up_first in omega (arith, places, first)

  first_other : (x : ℕ) → x ≢ w.tree.parent u → after.first x ≡ r.first x
  first_other x apart = put_other r.first (w.tree.parent u) (min (r.first (w.tree.parent u)) (highest r u)) x apart

  second_other : (x : ℕ) → x ≢ w.tree.parent u → after.second x ≡ r.second x
  second_other x apart = put_other r.second (w.tree.parent u) (min (r.second (w.tree.parent u)) (max (r.first (w.tree.parent u)) (highest r u))) x apart

  first_at : (x : ℕ) → x ≡ w.tree.parent u → after.first x ≡ min (r.first x) (highest r u)
  first_at x same = put_same r.first (w.tree.parent u) (min (r.first (w.tree.parent u)) (highest r u)) x same ∙ ap (λ n. min (r.first n) (highest r u)) (sym same)

  second_at : (x : ℕ) → x ≡ w.tree.parent u → after.second x ≡ min (r.second x) (max (r.first x) (highest r u))
  second_at x same = put_same r.second (w.tree.parent u) (min (r.second (w.tree.parent u)) (max (r.first (w.tree.parent u)) (highest r u))) x same
      ∙ ap (λ n. min (r.second n) (max (r.first n) (highest r u))) (sym same)

  highest_other : (x : ℕ) → x ≢ w.tree.parent u → highest after x ≡ highest r x
  highest_other x apart = ap (λ n. min n (r.own x)) (first_other x apart)

  highest_left : (x : ℕ) → w.left x ≡ true → highest after x ≡ highest r x
  highest_left x left = highest_other x (apart_from_parent x left)

  -- ---- the children that were left

  child_still : (x c : ℕ) → IsLeftChild w x c → IsLeftChild (leaving w u) x c
  child_still x c child = grind (arith, put_same w.left, put_other w.left)

  child_new : (x : ℕ) → x ≡ w.tree.parent u → IsLeftChild (leaving w u) x u
  child_new x same = record { left = put_same w.left u true u refl; other = other; parent = sym same }

  child_was : (x c : ℕ) → IsLeftChild (leaving w u) x c → ((c ≡ u) × (x ≡ w.tree.parent u)) ⊎ IsLeftChild w x c
  child_was x c child = grind (arith, put_other w.left)

  u_apart_from : (x c : ℕ) → IsLeftChild w x c → c ≢ u
  u_apart_from x c child same = false≢true (sym walk.here.stays ∙ subst (λ n. w.left n ≡ true) same child.left)

  upwards_was : (e x z : ℕ) → IsUpwards g (leaving w u) e x z → IsUpwards g w e x z
  upwards_was e x z b = grind arith

  upwards_still : (e x z : ℕ) → IsUpwards g w e x z → IsUpwards g (leaving w u) e x z
  upwards_still e x z b = grind arith

  highest_child : (x c : ℕ) → IsLeftChild w x c → highest after c ≡ highest r c
  highest_child x c child = highest_left c child.left

  highest_u : highest after u ≡ highest r u
  highest_u = highest_other u u_apart

  -- ---- the two reaches of the parent

  first_least : (x c : ℕ) → IsLeftChild (leaving w u) x c → after.first x ≤ highest after c
  first_least x c child = ⊎_elim
      (λ (new : (c ≡ u) × (x ≡ w.tree.parent u)).
      let f = first_at x new.1 in
      let k : highest after c ≡ highest r u = ap (highest after) new.0 ∙ highest_u in
      omega (arith, f, k))
      (λ (old : IsLeftChild w x c).
      let less = reaches.first_least x c old in
      let k = highest_child x c old in
      ⊎_elim
      (λ (same : x ≡ w.tree.parent u). let f = first_at x same in omega (arith, f, k, less))
      (λ (apart : x ≢ w.tree.parent u). let f = first_other x apart in omega (arith, f, k, less))
      (cases_eq x (w.tree.parent u)))
      (child_was x c child)

  second_least : (x c d k : ℕ) → IsLeftChild (leaving w u) x c → IsLeftChild (leaving w u) x d → c ≢ d → highest after c < k → highest after d < k → after.second x < k
  second_least x c d k c_child d_child apart c_less d_less = ⊎_elim
      (λ (c_new : (c ≡ u) × (x ≡ w.tree.parent u)).
      let s = second_at x c_new.1 in
      let hc : highest after c ≡ highest r u = ap (highest after) c_new.0 ∙ highest_u in
      ⊎_elim
      (λ (d_new : (d ≡ u) × (x ≡ w.tree.parent u)). absurd (apart (c_new.0 ∙ sym d_new.0)))
      (λ (d_old : IsLeftChild w x d).
      let hd = highest_child x d d_old in
      let less = reaches.first_least x d d_old in
      omega (arith, s, hc, hd, less, c_less, d_less))
      (child_was x d d_child))
      (λ (c_old : IsLeftChild w x c).
      let hc = highest_child x c c_old in
      ⊎_elim
      (λ (d_new : (d ≡ u) × (x ≡ w.tree.parent u)).
      let s = second_at x d_new.1 in
      let hd : highest after d ≡ highest r u = ap (highest after) d_new.0 ∙ highest_u in
      let less = reaches.first_least x c c_old in
      omega (arith, s, hc, hd, less, c_less, d_less))
      (λ (d_old : IsLeftChild w x d).
      let hd = highest_child x d d_old in
      let less = reaches.second_least x c d k c_old d_old apart (omega (arith, hc, c_less)) (omega (arith, hd, d_less)) in
      ⊎_elim
      (λ (same : x ≡ w.tree.parent u). let s = second_at x same in omega (arith, s, less))
      (λ (other_node : x ≢ w.tree.parent u). let s = second_other x other_node in omega (arith, s, less))
      (cases_eq x (w.tree.parent u)))
      (child_was x d d_child))
      (child_was x c c_child)

  some_still : (x k : ℕ) → HasChild w r x k → HasChild (leaving w u) after x k
  some_still x k s = record { child = s.child; is_child = child_still x s.child s.is_child; exact = highest_child x s.child s.is_child ∙ s.exact }

  first_some : (x : ℕ) → w.found x ≡ true → after.first x < w.tree.preorder x → HasChild (leaving w u) after x (after.first x)
  first_some x found less = ⊎_elim
      (λ (same : x ≡ w.tree.parent u).
      let f = first_at x same in
      ⊎_elim
      (λ (new : highest r u < r.first x). record { child = u; is_child = child_new x same; exact = highest_u ∙ (let e : highest r u ≡ after.first x = omega (arith, f, new) in e) })
      (λ (old : r.first x ≤ highest r u).
      let e : after.first x ≡ r.first x = omega (arith, f, old) in
      subst (HasChild (leaving w u) after x) (sym e) (some_still x (r.first x) (reaches.first_some x found (omega (arith, e, less)))))
      (cases_lt (highest r u) (r.first x)))
      (λ (apart : x ≢ w.tree.parent u).
      let e = first_other x apart in
      subst (HasChild (leaving w u) after x) (sym e) (some_still x (r.first x) (reaches.first_some x found (omega (arith, e, less)))))
      (cases_eq x (w.tree.parent u))

  two_still : (x k : ℕ) → HasChildren w r x k → HasChildren (leaving w u) after x k
  two_still x k s =
      let one = highest_child x s.one s.one_child in
      let less = s.one_reach in
      record {
        one = s.one;
        other = s.other;
        one_child = child_still x s.one s.one_child;
        other_child = child_still x s.other s.other_child;
        apart = s.apart;
        one_reach = omega (arith, one, less);
        exact = highest_child x s.other s.other_child ∙ s.exact;
      }

  -- the second reach of the parent is what it was, or that of the child that was first till then, or that of the new child
  second_new : (x : ℕ) → x ≡ w.tree.parent u → w.found x ≡ true → after.second x < w.tree.preorder x → after.second x < r.second x → HasChildren (leaving w u) after x (after.second x)
  second_new x same found less nearer =
      let s = second_at x same in
      let s_max : after.second x ≡ max (r.first x) (highest r u) = omega (arith, s, nearer) in
      let some = reaches.first_some x found (omega (arith, s_max, less)) in
      let child = highest_child x some.child some.is_child in
      let exact = some.exact in
      let here = highest_u in
      ⊎_elim
      (λ (farther : highest r u < r.first x). record {
        one = u;
        other = some.child;
        one_child = child_new x same;
        other_child = child_still x some.child some.is_child;
        apart = λ e. u_apart_from x some.child some.is_child (sym e);
        one_reach = omega (arith, here, farther, s_max);
        exact = omega (arith, child, exact, farther, s_max);
      })
      (λ (as_far : r.first x ≤ highest r u). record {
        one = some.child;
        other = u;
        one_child = child_still x some.child some.is_child;
        other_child = child_new x same;
        apart = u_apart_from x some.child some.is_child;
        one_reach = omega (arith, child, exact, as_far, s_max);
        exact = omega (arith, here, as_far, s_max);
      })
      (cases_lt (highest r u) (r.first x))

  second_some : (x : ℕ) → w.found x ≡ true → after.second x < w.tree.preorder x → HasChildren (leaving w u) after x (after.second x)
  second_some x found less = ⊎_elim
      (λ (same : x ≡ w.tree.parent u).
      let s = second_at x same in
      ⊎_elim
      (λ (nearer : after.second x < r.second x). second_new x same found less nearer)
      (λ (old : r.second x ≤ after.second x).
      let e : after.second x ≡ r.second x = omega (arith, s, old) in
      subst (HasChildren (leaving w u) after x) (sym e) (two_still x (r.second x) (reaches.second_some x found (omega (arith, e, less)))))
      (cases_lt (after.second x) (r.second x)))
      (λ (apart : x ≢ w.tree.parent u).
      let e = second_other x apart in
      subst (HasChildren (leaving w u) after x) (sym e) (two_still x (r.second x) (reaches.second_some x found (omega (arith, e, less)))))
      (cases_eq x (w.tree.parent u))

  order : (x : ℕ) → w.found x ≡ true → after.first x ≤ after.second x
  order x found =
      let less = reaches.order x found in
      ⊎_elim
      (λ (same : x ≡ w.tree.parent u). let f = first_at x same in let s = second_at x same in omega (arith, f, s, less))
      (λ (apart : x ≢ w.tree.parent u). let f = first_other x apart in let s = second_other x apart in omega (arith, f, s, less))
      (cases_eq x (w.tree.parent u))

  second_most : (x : ℕ) → w.found x ≡ true → after.second x ≤ w.tree.preorder x
  second_most x found =
      let less = reaches.second_most x found in
      ⊎_elim
      (λ (same : x ≡ w.tree.parent u). let s = second_at x same in omega (arith, s, less))
      (λ (apart : x ≢ w.tree.parent u). let s = second_other x apart in omega (arith, s, less))
      (cases_eq x (w.tree.parent u))

  -- ---- the places to which they lead

  open_was : (x : ℕ) → IsOpen (leaving w u) x → (x ≢ u) × IsOpen w x
  open_was x stands = grind (arith, put_same w.left u true x, put_other w.left u true x)

  -- an open node that was found before another open one stays open
  stays_open : (x z : ℕ) → IsOpen (leaving w u) x → IsOpen w z → w.tree.preorder z < w.tree.preorder x → IsOpen (leaving w u) z
  stays_open x z x_open z_open less = grind (arith, open_was x x_open, put_other w.left u true z)

  reach_open : (z : ℕ) → w.found z ≡ true → w.tree.preorder z ≡ highest r u → highest r u < w.tree.preorder u → IsOpen w z
  reach_open z found exact less = grind (arith, cases_lt (r.own u) (r.first u))

  first_open : (x z : ℕ) → IsOpen (leaving w u) x → w.found z ≡ true → w.tree.preorder z ≡ after.first x → after.first x < w.tree.preorder x → IsOpen (leaving w u) z
  first_open x z x_open found exact less =
      let was = (open_was x x_open).1 in
      let first = up_first in
      stays_open x z x_open
      (⊎_elim
      (λ (same : x ≡ w.tree.parent u).
      let f = first_at x same in
      let place = ap w.tree.preorder same in
      ⊎_elim
      (λ (new : highest r u < r.first x). reach_open z found (omega (arith, f, new, exact)) (omega (arith, f, new, less, place, first)))
      (λ (old : r.first x ≤ highest r u). reaches.first_open x z was found (omega (arith, f, old, exact)) (omega (arith, f, old, less)))
      (cases_lt (highest r u) (r.first x)))
      (λ (apart : x ≢ w.tree.parent u).
      let f = first_other x apart in
      reaches.first_open x z was found (omega (arith, f, exact)) (omega (arith, f, less)))
      (cases_eq x (w.tree.parent u)))
      (omega (arith, exact, less))

  second_open_parent : (x z : ℕ) → x ≡ w.tree.parent u → IsOpen w x → w.found z ≡ true → w.tree.preorder z ≡ after.second x → after.second x < w.tree.preorder x → IsOpen w z
  second_open_parent x z same was found exact less =
      grind (arith, second_at x same, up_first, reach_open z found, cases_lt (highest r u), cases_lt (after.second x) (r.second x))

  second_open : (x z : ℕ) → IsOpen (leaving w u) x → w.found z ≡ true → w.tree.preorder z ≡ after.second x → after.second x < w.tree.preorder x → IsOpen (leaving w u) z
  second_open x z x_open found exact less =
      let was = (open_was x x_open).1 in
      stays_open x z x_open
      (⊎_elim
      (λ (same : x ≡ w.tree.parent u). second_open_parent x z same was found exact less)
      (λ (apart : x ≢ w.tree.parent u).
      let s = second_other x apart in
      reaches.second_open x z was found (omega (arith, s, exact)) (omega (arith, s, less)))
      (cases_eq x (w.tree.parent u)))
      (omega (arith, exact, less))

  second_above : (x z : ℕ) → put w.left u true x ≡ true → w.found z ≡ true → w.tree.preorder z ≡ after.second x → after.second x < w.tree.preorder x → IsBelow w.tree z x
  second_above x z left found exact less = grind (arith, second_other, u_apart, open_above g w, put_other w.left, apart_from_parent)

  pub leave_reaches : AreReaches g (leaving w u) (merging r (w.tree.parent u) (highest r u))
  leave_reaches = record {
    own_most = reaches.own_most;
    own_least = λ e x z b. reaches.own_least e x z (upwards_was e x z b);
    own_some = λ x found less. let s = reaches.own_some x found less in record { edge = s.edge; end = s.end; upwards = upwards_still s.edge x s.end s.upwards; exact = s.exact };
    order = order;
    second_most = second_most;
    first_least = first_least;
    second_least = second_least;
    first_some = first_some;
    second_some = second_some;
    own_open = λ x z x_open found exact less. stays_open x z x_open (reaches.own_open x z (open_was x x_open).1 found exact less) (omega (arith, exact, less));
    first_open = first_open;
    second_open = second_open;
    second_above = second_above;
  }
