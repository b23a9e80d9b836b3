-- A depth-first walk goes on where it leaves a node, all of whose edges were taken, for the parent.
use Rattle.std.proofs.Common.{◌≡◌, ◌≢◌, ℕ, ◌<◌, ◌≤◌, ◌⊎◌, true, false, sym, ap, ◌∙◌, subst, ⊎_elim, arith}
use Rattle.std.proofs.lemmas.Bool.{cases_lt, cases_Bool, false≢true}
use Rattle.closed_walks.specs.Graph.{Graph, edge_count, touches}
use Rattle.cycle_equiv.specs.DepthFirst.{Joins, IsBelow}
use Rattle.cycle_equiv.specs.Walking.{Trail, IsTaken, IsOpen, IsFoundBy, IsTrail, put, leaving}
use Rattle.cycle_equiv.proofs.Steps.{put_same, put_other, joins_touches}

module _ (g : Graph) (w : Trail) (u : ℕ) (walk : IsTrail g w u) where
  -- open nodes are above the one at which the walk is
  pub open_above : (y : ℕ) → IsOpen w y → IsBelow w.tree y u
  open_above y stands = grind arith

  module _ (other : u ≢ w.tree.root) where
    up : IsFoundBy g w u
    up = walk.by_edge u walk.here.found other

    pub parent_open : IsOpen w (w.tree.parent u)
    parent_open = record {
      found = up.parent;
      stays = ⊎_elim
          (λ (left : w.left (w.tree.parent u) ≡ true).
          let later = walk.left_later (w.tree.parent u) left in
          let first = up.first in
          absurd (walk.left_apart (w.tree.parent u) u left walk.here
          ((walk.by_parent (w.tree.parent u) u up.parent walk.here.found other (λ same. let places = ap w.tree.preorder same in omega (arith, first, places))).0
          (record { after = omega arith; before = later }))))
          (λ (stays : w.left (w.tree.parent u) ≡ false). stays)
          (cases_Bool (w.left (w.tree.parent u)));
    }

    left_other : (x : ℕ) → x ≢ u → put w.left u true x ≡ w.left x
    left_other x differs = put_other w.left u true x differs

    -- a node that was left is this one, or was left before
    left_was : (x : ℕ) → put w.left u true x ≡ true → (x ≡ u) ⊎ (w.left x ≡ true)
    left_was x left = grind (arith, left_other)

    left_still : (x : ℕ) → w.left x ≡ true → put w.left u true x ≡ true
    left_still x left = grind (arith, put_same w.left, left_other)

    apart : (x : ℕ) → IsOpen (leaving w u) x → x ≢ u
    apart x h same = false≢true (sym h.stays ∙ put_same w.left u true x same)

    open_was : (x : ℕ) → IsOpen (leaving w u) x → IsOpen w x
    open_was x h = record { found = h.found; stays = sym (left_other x (apart x h)) ∙ h.stays }

    open_still : (x : ℕ) → x ≢ u → IsOpen w x → IsOpen (leaving w u) x
    open_still x differs h = record { found = h.found; stays = left_other x differs ∙ h.stays }

    -- the other open nodes were found before
    open_first : (x : ℕ) → IsOpen (leaving w u) x → w.tree.preorder x < w.tree.preorder u
    open_first x h = grind (arith, open_was x h, apart x h, cases_lt (w.tree.preorder x) (w.tree.preorder u))

    module _ (taken : (e : ℕ) → e < edge_count g → touches g u e ≡ true → IsTaken g w u e) where
      taken_same : (x e : ℕ) → IsTaken g w x e → IsTaken g (leaving w u) x e
      taken_same x e h = record { edge = h.edge; touched = h.touched; early = h.early }

      taken_was : (x e : ℕ) → IsTaken g (leaving w u) x e → IsTaken g w x e
      taken_was x e h = record { edge = h.edge; touched = h.touched; early = h.early }

      last : (y : ℕ) → IsOpen (leaving w u) y → w.tree.preorder y ≤ w.tree.preorder (w.tree.parent u)
      last y h = ((walk.by_parent y u h.found walk.here.found other (apart y h)).1 (open_above y (open_was y h))).after

      by_edge : (x : ℕ) → w.found x ≡ true → x ≢ w.tree.root → IsFoundBy g (leaving w u) x
      by_edge x found not_root = grind (arith, taken_same (w.tree.parent x) (w.tree.parent_edge x))

      u_found : (x : ℕ) → x ≡ u → w.found x ≡ true
      u_found x same = subst (λ n. w.found n ≡ true) (sym same) walk.here.found

      left_found : (x : ℕ) → put w.left u true x ≡ true → w.found x ≡ true
      left_found x left = ⊎_elim (u_found x) (λ (old : w.left x ≡ true). walk.left_found x old) (left_was x left)

      left_later : (x : ℕ) → put w.left u true x ≡ true → w.tree.preorder x < w.tree.finish x
      left_later x left = grind (arith, open_above, left_was)

      left_finish : (x : ℕ) → put w.left u true x ≡ true → w.tree.finish x ≤ w.count
      left_finish x left = grind (arith, left_was)

      left_edges : (x e : ℕ) → put w.left u true x ≡ true → e < edge_count g → touches g x e ≡ true → IsTaken g (leaving w u) x e
      left_edges x e left edge touched = grind (arith, taken_same, left_was)

      left_ends : (x y e : ℕ) → put w.left u true x ≡ true → e < edge_count g → Joins g e x y → w.tree.preorder y < w.tree.finish x
      left_ends x y e left edge joins = ⊎_elim
          (λ (same : x ≡ u).
          let found = walk.ends_found x y e (u_found x same) (taken_was x e (left_edges x e left edge (joins_touches g e x y joins))) joins in
          let place = walk.in_range y found in
          let finish = walk.open_finish u walk.here in
          let here = ap w.tree.finish same in
          omega (arith, place, finish, here))
          (λ (old : w.left x ≡ true). walk.left_ends x y e old edge joins)
          (left_was x left)

      left_above : (x y e : ℕ) → put w.left u true x ≡ true → IsOpen (leaving w u) y → e < edge_count g → Joins g e x y → w.tree.preorder y < w.tree.preorder x
      left_above x y e left stands edge joins = ⊎_elim
          (λ (same : x ≡ u). subst (λ n. w.tree.preorder y < w.tree.preorder n) (sym same) (open_first y stands))
          (λ (old : w.left x ≡ true). walk.left_above x y e old (open_was y stands) edge joins)
          (left_was x left)

      left_apart : (x y : ℕ) → put w.left u true x ≡ true → IsOpen (leaving w u) y → IsBelow w.tree x y → ⊥
      left_apart x y left stands below = grind (arith, open_first y stands, open_was y stands, left_was)

      -- the nodes below this one are left
      under : (x : ℕ) → w.found x ≡ true → IsBelow w.tree u x → put w.left u true x ≡ true
      under x found below = grind (arith, open_first x)

      nested_left : (c x : ℕ) → put w.left u true c ≡ true → w.found x ≡ true → IsBelow w.tree c x → put w.left u true x ≡ true
      nested_left c x left found below = grind (arith, under x found, left_still x, left_was)

      nested : (c x : ℕ) → put w.left u true c ≡ true → w.found x ≡ true → IsBelow w.tree c x → w.tree.finish x ≤ w.tree.finish c
      nested c x left found below = grind (arith, left_finish x, nested_left, left_was)

      pub leave_trail : IsTrail g (leaving w u) (w.tree.parent u)
      leave_trail = record {
        root_first = walk.root_first;
        root_open = open_still w.tree.root (λ same. other (sym same)) walk.root_open;
        here = open_still (w.tree.parent u) (λ same. let first = up.first in let places = ap w.tree.preorder same in omega (arith, first, places)) parent_open;
        last = last;
        node = walk.node;
        in_range = walk.in_range;
        one_place = walk.one_place;
        by_edge = by_edge;
        by_parent = walk.by_parent;
        ends_found = λ x y e found h. walk.ends_found x y e found (taken_was x e h);
        open_finish = λ x h. walk.open_finish x (open_was x h);
        before = λ x y z e x_open y_open not_root parent h. walk.before x y z e (open_was x x_open) (open_was y y_open) not_root parent (taken_was x e h);
        left_found = left_found;
        left_later = left_later;
        left_finish = left_finish;
        left_edges = left_edges;
        left_ends = left_ends;
        left_above = left_above;
        left_apart = left_apart;
        nested_left = nested_left;
        nested = nested;
      }
