-- A depth-first walk goes on where it takes an edge to a node that wasn't found before.
use Rattle.std.proofs.Common.{◌≡◌, ◌≢◌, ℕ, ◌+◌, ◌<◌, ◌≤◌, ◌⊎◌, ◌↔◌, true, false, refl, sym, ap, ◌∙◌, subst, inl, inr, ⊎_elim, arith}
use Rattle.std.proofs.lemmas.Bool.{cases_eq, cases_Bool, false≢true}
use Rattle.closed_walks.specs.Graph.{Graph, edge_count, touches}
use Rattle.cycle_equiv.specs.DepthFirst.{Joins, IsBelow}
use Rattle.cycle_equiv.specs.Walking.{Trail, IsTaken, IsOpen, IsFoundBy, IsTrail, earlier, put, taking, finding}
use Rattle.cycle_equiv.proofs.Steps.{put_same, put_other, joins_one, joins_touches, taken_still, taken_elsewhere, taken_now, taken_here}
use Rattle.cycle_equiv.proofs.Taking.{no_open_child}

module _ (g : Graph) (w : Trail) (u : ℕ) (walk : IsTrail g w u) (e v : ℕ) (edge : e < edge_count g) (touched : touches g u e ≡ true)
    (next : earlier g u e ≡ w.taken u) (ends : Joins g e u v) (node : v < g.nodes) (hidden : w.found v ≡ false) where
  abbrev after : Trail
  after = finding w u e v

  -- ---- what is told of the new node, and what stays of the others

  pub known : (x : ℕ) → w.found x ≡ true → x ≢ v
  known x found same = false≢true (sym (subst (λ n. w.found n ≡ false) (sym same) hidden) ∙ found)

  pub place_new : (x : ℕ) → x ≡ v → after.tree.preorder x ≡ w.count
  place_new x same = put_same w.tree.preorder v w.count x same

  pub place_old : (x : ℕ) → w.found x ≡ true → after.tree.preorder x ≡ w.tree.preorder x
  place_old x found = put_other w.tree.preorder v w.count x (known x found)

  pub found_still : (x : ℕ) → w.found x ≡ true → after.found x ≡ true
  found_still x found = put_other w.found v true x (known x found) ∙ found

  pub found_was : (x : ℕ) → after.found x ≡ true → (x ≡ v) ⊎ (w.found x ≡ true)
  found_was x found = grind (arith, put_other w.found)

  pub parent_old : (x : ℕ) → x ≢ v → after.tree.parent x ≡ w.tree.parent x
  parent_old x other = put_other w.tree.parent v u x other

  parent_new : (x : ℕ) → x ≡ v → after.tree.parent x ≡ u
  parent_new x same = put_same w.tree.parent v u x same

  pub edge_old : (x : ℕ) → x ≢ v → after.tree.parent_edge x ≡ w.tree.parent_edge x
  edge_old x other = put_other w.tree.parent_edge v e x other

  pub edge_new : (x : ℕ) → x ≡ v → after.tree.parent_edge x ≡ e
  edge_new x same = put_same w.tree.parent_edge v e x same

  finish_left : (x : ℕ) → w.left x ≡ true → after.tree.finish x ≡ w.tree.finish x
  finish_left x left = rw left refl

  finish_open : (x : ℕ) → w.left x ≡ false → after.tree.finish x ≡ w.count + 1
  finish_open x stays = rw stays refl

  stays_new : w.left v ≡ false
  stays_new = grind arith

  pub open_was : (x : ℕ) → IsOpen after x → (x ≡ v) ⊎ IsOpen w x
  open_was x h = grind (arith, found_was)

  pub open_still : (x : ℕ) → IsOpen w x → IsOpen after x
  open_still x h = record { found = found_still x h.found; stays = h.stays }

  pub new_open : IsOpen after v
  new_open = record { found = put_same w.found v true v refl; stays = stays_new }

  pub root_apart : v ≢ w.tree.root
  root_apart same = known w.tree.root walk.root_open.found (sym same)

  -- ---- the edges that were taken

  taken_as : (x d : ℕ) → x ≢ v → IsTaken g (taking w u) x d → IsTaken g after x d
  taken_as x d other h = grind (arith, put_other (put w.taken u (w.taken u + 1)) v 0 x other)

  pub taken_back : (x d : ℕ) → IsTaken g after x d → (x ≢ v) × IsTaken g (taking w u) x d
  taken_back x d h = grind (arith, put_same (put w.taken u (w.taken u + 1)), put_other (put w.taken u (w.taken u + 1)))

  pub taken_on : (x d : ℕ) → w.found x ≡ true → IsTaken g w x d → IsTaken g after x d
  taken_on x d found h = taken_as x d (known x found) (taken_still g w u x d h)

  -- where the edge was taken now, or before
  pub taken_was : (x d : ℕ) → IsTaken g after x d → ((x ≡ u) × (d ≡ e)) ⊎ IsTaken g w x d
  taken_was x d h =
      let back = taken_back x d h in
      ⊎_elim
      (λ (same : x ≡ u). ⊎_elim
      (λ (this : d ≡ e). inl (same, this))
      (λ (old : IsTaken g w u d). inr (subst (λ n. IsTaken g w n d) (sym same) old))
      (taken_here g w u e edge touched next d (subst (λ n. IsTaken g (taking w u) n d) same back.1)))
      (λ (other : x ≢ u). inr (taken_elsewhere g w u x d other back.1))
      (cases_eq x u)

  -- ---- below

  -- nodes that were found before are below one another as they were
  pub below_as : (c x : ℕ) → w.found c ≡ true → w.found x ≡ true → IsBelow w.tree c x → IsBelow after.tree c x
  below_as c x c_found x_found h =
      let pc = place_old c c_found in
      let px = place_old x x_found in
      let up = h.after in
      let down = h.before in
      let inside = walk.in_range x x_found in
      ⊎_elim
      (λ (left : w.left c ≡ true). let f = finish_left c left in record { after = omega (arith, pc, px, up); before = omega (arith, px, f, down) })
      (λ (stays : w.left c ≡ false). let f = finish_open c stays in record { after = omega (arith, pc, px, up); before = omega (arith, px, f, inside) })
      (cases_Bool (w.left c))

  pub below_was : (c x : ℕ) → w.found c ≡ true → w.found x ≡ true → IsBelow after.tree c x → IsBelow w.tree c x
  below_was c x c_found x_found h =
      let pc = place_old c c_found in
      let px = place_old x x_found in
      let up = h.after in
      let down = h.before in
      let inside = walk.in_range x x_found in
      ⊎_elim
      (λ (left : w.left c ≡ true). let f = finish_left c left in record { after = omega (arith, pc, px, up); before = omega (arith, px, f, down) })
      (λ (stays : w.left c ≡ false).
      let f = walk.open_finish c (record { found = c_found; stays = stays }) in
      record { after = omega (arith, pc, px, up); before = omega (arith, f, inside) })
      (cases_Bool (w.left c))

  -- the new node is below no node that was left
  new_outside : (c : ℕ) → w.left c ≡ true → IsBelow after.tree c v → ⊥
  new_outside c left h = grind (arith, finish_left c left, place_new v)

  new_inside : (c : ℕ) → IsOpen w c → IsBelow after.tree c v
  new_inside c stands = grind (arith, finish_open c stands.stays, place_new v, place_old c stands.found)

  -- no node is below the new one
  none_under : (x : ℕ) → w.found x ≡ true → IsBelow after.tree v x → ⊥
  none_under x found h = grind (arith, place_new v, place_old x found)

  -- ---- the walk

  module _ (c x : ℕ) (c_found : w.found c ≡ true) (x_found : w.found x ≡ true) (not_root : x ≢ w.tree.root) (apart : c ≢ x) where
    by_parent_old : IsBelow after.tree c (w.tree.parent x) ↔ IsBelow after.tree c x
    by_parent_old =
        let up = (walk.by_edge x x_found not_root).parent in
        let both = walk.by_parent c x c_found x_found not_root apart in (
          λ h. below_as c x c_found x_found (both.0 (below_was c (w.tree.parent x) c_found up h)),
          λ h. below_as c (w.tree.parent x) c_found up (both.1 (below_was c x c_found x_found h)),
        )

  by_parent_new : (c : ℕ) → w.found c ≡ true → IsBelow after.tree c u ↔ IsBelow after.tree c v
  by_parent_new c found = ⊎_elim
      (λ (left : w.left c ≡ true). (
        λ h. absurd (walk.left_apart c u left walk.here (below_was c u found walk.here.found h)),
        λ h. absurd (new_outside c left h),
      ))
      (λ (stays : w.left c ≡ false).
      let stands : IsOpen w c = record { found = found; stays = stays } in
      let last = walk.last c stands in
      let finish = walk.open_finish c stands in
      let inside = walk.in_range u walk.here.found in (
        λ h. new_inside c stands,
        λ h. below_as c u found walk.here.found (record { after = last; before = omega (arith, finish, inside) }),
      ))
      (cases_Bool (w.left c))

  by_parent : (c x : ℕ) → after.found c ≡ true → after.found x ≡ true → x ≢ w.tree.root → c ≢ x → IsBelow after.tree c (after.tree.parent x) ↔ IsBelow after.tree c x
  by_parent c x c_found x_found not_root apart = ⊎_elim
      (λ (x_new : x ≡ v). ⊎_elim
      (λ (c_new : c ≡ v). absurd (apart (c_new ∙ sym x_new)))
      (λ (c_old : w.found c ≡ true). subst (λ p. IsBelow after.tree c p ↔ IsBelow after.tree c x) (sym (parent_new x x_new))
      (subst (λ n. IsBelow after.tree c u ↔ IsBelow after.tree c n) (sym x_new) (by_parent_new c c_old)))
      (found_was c c_found))
      (λ (x_old : w.found x ≡ true). subst (λ p. IsBelow after.tree c p ↔ IsBelow after.tree c x) (sym (parent_old x (known x x_old)))
      (⊎_elim
      (λ (c_new : c ≡ v). (
        λ h. absurd (none_under (w.tree.parent x) (walk.by_edge x x_old not_root).parent (subst (λ n. IsBelow after.tree n (w.tree.parent x)) c_new h)),
        λ h. absurd (none_under x x_old (subst (λ n. IsBelow after.tree n x) c_new h)),
      ))
      (λ (c_old : w.found c ≡ true). by_parent_old c x c_old x_old not_root apart)
      (found_was c c_found)))
      (found_was x x_found)

  by_edge_new : (x : ℕ) → x ≡ v → IsFoundBy g after x
  by_edge_new x same =
      grind (arith, parent_new x same, edge_new x same, place_new x same, place_old u walk.here.found, found_still u walk.here.found, taken_as u e (known u walk.here.found) (taken_now g w u e edge touched next), known u walk.here.found, taken_now g w u e edge touched next)

  by_edge_old : (x : ℕ) → w.found x ≡ true → x ≢ w.tree.root → IsFoundBy g after x
  by_edge_old x found not_root =
      let h = walk.by_edge x found not_root in
      let up = parent_old x (known x found) in
      let by = edge_old x (known x found) in
      let place = place_old x found in
      let up_place : after.tree.preorder (after.tree.parent x) ≡ w.tree.preorder (w.tree.parent x) = ap after.tree.preorder up ∙ place_old (w.tree.parent x) h.parent in
      let first = h.first in
      record {
        parent = subst (λ p. after.found p ≡ true) (sym up) (found_still (w.tree.parent x) h.parent);
        first = omega (arith, place, up_place, first);
        ends = subst (λ n. Joins g n (after.tree.parent x) x) (sym by) (subst (λ p. Joins g (w.tree.parent_edge x) p x) (sym up) h.ends);
        taken = subst (λ n. IsTaken g after (after.tree.parent x) n) (sym by) (subst (λ p. IsTaken g after p (w.tree.parent_edge x)) (sym up)
            (taken_on (w.tree.parent x) (w.tree.parent_edge x) h.parent h.taken));
      }

  one_place : (x y : ℕ) → after.found x ≡ true → after.found y ≡ true → after.tree.preorder x ≡ after.tree.preorder y → x ≡ y
  one_place x y x_found y_found same = ⊎_elim
      (λ (x_new : x ≡ v). ⊎_elim
      (λ (y_new : y ≡ v). x_new ∙ sym y_new)
      (λ (y_old : w.found y ≡ true).
      let px = place_new x x_new in let py = place_old y y_old in let inside = walk.in_range y y_old in absurd (omega (arith, px, py, inside, same)))
      (found_was y y_found))
      (λ (x_old : w.found x ≡ true). ⊎_elim
      (λ (y_new : y ≡ v).
      let py = place_new y y_new in let px = place_old x x_old in let inside = walk.in_range x x_old in absurd (omega (arith, px, py, inside, same)))
      (λ (y_old : w.found y ≡ true). walk.one_place x y x_old y_old (sym (place_old x x_old) ∙ same ∙ place_old y y_old))
      (found_was y y_found))
      (found_was x x_found)

  ends_found : (x y d : ℕ) → after.found x ≡ true → IsTaken g after x d → Joins g d x y → after.found y ≡ true
  ends_found x y d found taken joins = ⊎_elim
      (λ (now : (x ≡ u) × (d ≡ e)).
      let here : Joins g e u y = subst (λ n. Joins g e n y) now.0 (subst (λ n. Joins g n x y) now.1 joins) in
      put_same w.found v true y (joins_one g e u v y ends here))
      (λ (old : IsTaken g w x d). ⊎_elim
      (λ (new : x ≡ v). absurd ((taken_back x d taken).0 new))
      (λ (x_old : w.found x ≡ true). found_still y (walk.ends_found x y d x_old old joins))
      (found_was x found))
      (taken_was x d taken)

  before : (x y z d : ℕ) → IsOpen after x → IsOpen after y → y ≢ w.tree.root → after.tree.parent y ≡ x → IsTaken g after x d → Joins g d x z → (d ≡ after.tree.parent_edge y) ⊎ (after.tree.preorder z < after.tree.preorder y)
  before x y z d x_open y_open not_root parent taken joins = ⊎_elim
      (λ (y_new : y ≡ v). ⊎_elim
      (λ (now : (x ≡ u) × (d ≡ e)). inl (now.1 ∙ sym (edge_new y y_new)))
      (λ (old : IsTaken g w x d).
      let x_found : w.found x ≡ true = subst (λ n. w.found n ≡ true) (sym (parent_new y y_new) ∙ parent) walk.here.found in
      let z_found = walk.ends_found x z d x_found old joins in
      let pz = place_old z z_found in
      let py = place_new y y_new in
      let inside = walk.in_range z z_found in
      inr (omega (arith, pz, py, inside)))
      (taken_was x d taken))
      (λ (y_old : IsOpen w y).
      let parent_was : w.tree.parent y ≡ x = sym (parent_old y (known y y_old.found)) ∙ parent in
      let x_found : w.found x ≡ true = subst (λ n. w.found n ≡ true) parent_was (walk.by_edge y y_old.found not_root).parent in
      ⊎_elim
      (λ (now : (x ≡ u) × (d ≡ e)). absurd (no_open_child g w u walk y y_old not_root (parent_was ∙ now.0)))
      (λ (old : IsTaken g w x d). ⊎_elim
      (λ (by : d ≡ w.tree.parent_edge y). inl (by ∙ sym (edge_old y (known y y_old.found))))
      (λ (less : w.tree.preorder z < w.tree.preorder y).
      let pz = place_old z (walk.ends_found x z d x_found old joins) in
      let py = place_old y y_old.found in
      inr (omega (arith, pz, py, less)))
      (walk.before x y z d (record { found = x_found; stays = x_open.stays }) y_old not_root parent_was old joins))
      (taken_was x d taken))
      (open_was y y_open)

  -- the ends of the edges of a node that was left are known
  left_known : (x y d : ℕ) → w.left x ≡ true → d < edge_count g → Joins g d x y → w.found y ≡ true
  left_known x y d left exists joins = walk.ends_found x y d (walk.left_found x left) (walk.left_edges x d left exists (joins_touches g d x y joins)) joins

  place_left : (x : ℕ) → w.left x ≡ true → after.tree.preorder x ≡ w.tree.preorder x
  place_left x left = place_old x (walk.left_found x left)

  left_later : (x : ℕ) → w.left x ≡ true → after.tree.preorder x < after.tree.finish x
  left_later x left = let p = place_left x left in let f = finish_left x left in let later = walk.left_later x left in omega (arith, p, f, later)

  left_finish : (x : ℕ) → w.left x ≡ true → after.tree.finish x ≤ w.count + 1
  left_finish x left = let f = finish_left x left in let most = walk.left_finish x left in omega (arith, f, most)

  left_ends : (x y d : ℕ) → w.left x ≡ true → d < edge_count g → Joins g d x y → after.tree.preorder y < after.tree.finish x
  left_ends x y d left exists joins =
      let p = place_old y (left_known x y d left exists joins) in
      let f = finish_left x left in
      let less = walk.left_ends x y d left exists joins in
      omega (arith, p, f, less)

  left_above : (x y d : ℕ) → w.left x ≡ true → IsOpen after y → d < edge_count g → Joins g d x y → after.tree.preorder y < after.tree.preorder x
  left_above x y d left y_open exists joins =
      let found = left_known x y d left exists joins in
      let py = place_old y found in
      let px = place_left x left in
      let less = walk.left_above x y d left (record { found = found; stays = y_open.stays }) exists joins in
      omega (arith, py, px, less)

  left_apart : (x y : ℕ) → w.left x ≡ true → IsOpen after y → IsBelow after.tree x y → ⊥
  left_apart x y left y_open below = grind (arith, new_outside x left, below_was x, open_was)

  under_left : (c x : ℕ) → w.left c ≡ true → after.found x ≡ true → IsBelow after.tree c x → w.found x ≡ true
  under_left c x left found below = grind (arith, new_outside c left, found_was)

  nested_left : (c x : ℕ) → w.left c ≡ true → after.found x ≡ true → IsBelow after.tree c x → w.left x ≡ true
  nested_left c x left found below = grind (arith, under_left c x left found below, below_was c x (walk.left_found c left))

  nested : (c x : ℕ) → w.left c ≡ true → after.found x ≡ true → IsBelow after.tree c x → after.tree.finish x ≤ after.tree.finish c
  nested c x left found below =
      grind (arith, under_left c x left found below, below_was c x (walk.left_found c left), finish_left c left, finish_left x (nested_left c x left found below), nested_left c x left found below)

  last : (y : ℕ) → IsOpen after y → after.tree.preorder y ≤ after.tree.preorder v
  last y y_open = grind (arith, place_new, place_old, open_was)

  in_range : (x : ℕ) → after.found x ≡ true → after.tree.preorder x < w.count + 1
  in_range x found = grind (arith, place_new, place_old, found_was)

  pub find_trail : IsTrail g (finding w u e v) v
  find_trail = record {
    root_first = place_old w.tree.root walk.root_open.found ∙ walk.root_first;
    root_open = open_still w.tree.root walk.root_open;
    here = new_open;
    last = last;
    node = λ x found. ⊎_elim (λ (same : x ≡ v). subst (λ n. n < g.nodes) (sym same) node) (λ (old : w.found x ≡ true). walk.node x old) (found_was x found);
    in_range = in_range;
    one_place = one_place;
    by_edge = λ x found not_root. ⊎_elim (λ (same : x ≡ v). by_edge_new x same) (λ (old : w.found x ≡ true). by_edge_old x old not_root) (found_was x found);
    by_parent = by_parent;
    ends_found = ends_found;
    open_finish = λ x h. finish_open x h.stays;
    before = before;
    left_found = λ x left. found_still x (walk.left_found x left);
    left_later = left_later;
    left_finish = left_finish;
    left_edges = λ x d left exists touching. taken_on x d (walk.left_found x left) (walk.left_edges x d left exists touching);
    left_ends = left_ends;
    left_above = left_above;
    left_apart = left_apart;
    nested_left = nested_left;
    nested = nested;
  }
