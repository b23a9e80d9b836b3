-- How far back edges lead, where the walk finds a node.
use Rattle.std.proofs.Common.{◌≡◌, ◌≢◌, ℕ, ◌<◌, ◌≤◌, ◌⊎◌, true, false, sym, ◌∙◌, subst, ⊎_elim, arith}
use Rattle.closed_walks.specs.Graph.{Graph, edge_count, touches}
use Rattle.cycle_equiv.specs.DepthFirst.{Joins, IsBelow}
use Rattle.cycle_equiv.specs.Walking.{Trail, IsTaken, IsOpen, IsTrail, earlier, taking, finding}
use Rattle.cycle_equiv.specs.TrailReaches.{Reaches, IsUpwards, IsLeftChild, highest, LeadsTo, HasChild, HasChildren, AreReaches, starting}
use Rattle.cycle_equiv.proofs.Steps.{put_same, put_other, joins_one}
use Rattle.cycle_equiv.proofs.Finding as finding_trail

module _ (g : Graph) (w : Trail) (u : ℕ) (walk : IsTrail g w u) (e v : ℕ) (edge : e < edge_count g) (touched : touches g u e ≡ true)
    (next : earlier g u e ≡ w.taken u) (ends : Joins g e u v) (node : v < g.nodes) (hidden : w.found v ≡ false) where
  abbrev after : Trail
  after = finding w u e v

  -- ---- of the trail

  known : (x : ℕ) → w.found x ≡ true → x ≢ v
  known = finding_trail.known g w u walk e v edge touched next ends node hidden

  place_new : (x : ℕ) → x ≡ v → after.tree.preorder x ≡ w.count
  place_new = finding_trail.place_new g w u walk e v edge touched next ends node hidden

  place_old : (x : ℕ) → w.found x ≡ true → after.tree.preorder x ≡ w.tree.preorder x
  place_old = finding_trail.place_old g w u walk e v edge touched next ends node hidden

  found_still : (x : ℕ) → w.found x ≡ true → after.found x ≡ true
  found_still = finding_trail.found_still g w u walk e v edge touched next ends node hidden

  found_was : (x : ℕ) → after.found x ≡ true → (x ≡ v) ⊎ (w.found x ≡ true)
  found_was = finding_trail.found_was g w u walk e v edge touched next ends node hidden

  parent_old : (x : ℕ) → x ≢ v → after.tree.parent x ≡ w.tree.parent x
  parent_old = finding_trail.parent_old g w u walk e v edge touched next ends node hidden

  edge_old : (x : ℕ) → x ≢ v → after.tree.parent_edge x ≡ w.tree.parent_edge x
  edge_old = finding_trail.edge_old g w u walk e v edge touched next ends node hidden

  open_was : (x : ℕ) → IsOpen after x → (x ≡ v) ⊎ IsOpen w x
  open_was = finding_trail.open_was g w u walk e v edge touched next ends node hidden

  open_still : (x : ℕ) → IsOpen w x → IsOpen after x
  open_still = finding_trail.open_still g w u walk e v edge touched next ends node hidden

  taken_back : (x d : ℕ) → IsTaken g after x d → (x ≢ v) × IsTaken g (taking w u) x d
  taken_back = finding_trail.taken_back g w u walk e v edge touched next ends node hidden

  taken_on : (x d : ℕ) → w.found x ≡ true → IsTaken g w x d → IsTaken g after x d
  taken_on = finding_trail.taken_on g w u walk e v edge touched next ends node hidden

  taken_was : (x d : ℕ) → IsTaken g after x d → ((x ≡ u) × (d ≡ e)) ⊎ IsTaken g w x d
  taken_was = finding_trail.taken_was g w u walk e v edge touched next ends node hidden

  below_as : (c x : ℕ) → w.found c ≡ true → w.found x ≡ true → IsBelow w.tree c x → IsBelow after.tree c x
  below_as = finding_trail.below_as g w u walk e v edge touched next ends node hidden

  -- ---- how far back edges lead

  pub upwards_still : (d x z : ℕ) → IsUpwards g w d x z → IsUpwards g after d x z
  upwards_still d x z b =
      grind (arith, place_old x b.found, place_old z (walk.ends_found x z d b.found b.taken b.joins), found_still x b.found, taken_on x d b.found b.taken, edge_old x (known x b.found), known x b.found)

  pub upwards_was : (d x z : ℕ) → IsUpwards g after d x z → IsUpwards g w d x z
  upwards_was d x z b =
      let apart = (taken_back x d b.taken).0 in
      let above = b.above in
      ⊎_elim
      (λ (new : x ≡ v). absurd (apart new))
      (λ (x_old : w.found x ≡ true).
      let px = place_old x x_old in
      let inside = walk.in_range x x_old in
      ⊎_elim
      (λ (now : (x ≡ u) × (d ≡ e)).
      let here : Joins g e u z = subst (λ n. Joins g e n z) now.0 (subst (λ n. Joins g n x z) now.1 b.joins) in
      let pz = place_new z (joins_one g e u v z ends here) in
      absurd (omega (arith, above, px, pz, inside)))
      (λ (old : IsTaken g w x d).
      let pz = place_old z (walk.ends_found x z d x_old old b.joins) in
      record {
        found = x_old;
        taken = old;
        joins = b.joins;
        above = omega (arith, px, pz, above);
        other = λ same. b.other (same ∙ sym (edge_old x apart));
      })
      (taken_was x d b.taken))
      (found_was x b.found)

  module _ (r : Reaches) (reaches : AreReaches g w r) where
    abbrev begun : Reaches
    begun = starting r v w.count

    own_old : (x : ℕ) → x ≢ v → begun.own x ≡ r.own x
    own_old x apart = put_other r.own v w.count x apart

    first_old : (x : ℕ) → x ≢ v → begun.first x ≡ r.first x
    first_old x apart = put_other r.first v w.count x apart

    pub second_old : (x : ℕ) → x ≢ v → begun.second x ≡ r.second x
    second_old x apart = put_other r.second v w.count x apart

    own_new : (x : ℕ) → x ≡ v → begun.own x ≡ w.count
    own_new x same = put_same r.own v w.count x same

    first_new : (x : ℕ) → x ≡ v → begun.first x ≡ w.count
    first_new x same = put_same r.first v w.count x same

    second_new : (x : ℕ) → x ≡ v → begun.second x ≡ w.count
    second_new x same = put_same r.second v w.count x same

    highest_left : (c : ℕ) → w.left c ≡ true → highest begun c ≡ highest r c
    highest_left c left = grind (arith, known c (walk.left_found c left), first_old c, own_old c)

    child_was : (x c : ℕ) → IsLeftChild after x c → IsLeftChild w x c
    child_was x c h = record { left = h.left; other = h.other; parent = sym (parent_old c (known c (walk.left_found c h.left))) ∙ h.parent }

    child_still : (x c : ℕ) → IsLeftChild w x c → IsLeftChild after x c
    child_still x c h = record { left = h.left; other = h.other; parent = parent_old c (known c (walk.left_found c h.left)) ∙ h.parent }

    -- a node with a child was found before
    with_child : (x c : ℕ) → IsLeftChild w x c → x ≢ v
    with_child x c h = known x (subst (λ n. w.found n ≡ true) h.parent (walk.by_edge c (walk.left_found c h.left) h.other).parent)

    some_still : (x k : ℕ) → HasChild w r x k → HasChild after begun x k
    some_still x k h = record { child = h.child; is_child = child_still x h.child h.is_child; exact = highest_left h.child h.is_child.left ∙ h.exact }

    two_still : (x k : ℕ) → HasChildren w r x k → HasChildren after begun x k
    two_still x k h =
        let one = highest_left h.one h.one_child.left in
        let less = h.one_reach in
        record {
          one = h.one;
          other = h.other;
          one_child = child_still x h.one h.one_child;
          other_child = child_still x h.other h.other_child;
          apart = h.apart;
          one_reach = omega (arith, one, less);
          exact = highest_left h.other h.other_child.left ∙ h.exact;
        }

    -- the node at a place above a node that was found before was found before
    pub old_place : (x z : ℕ) → w.found x ≡ true → after.found z ≡ true → after.tree.preorder z < w.tree.preorder x → w.found z ≡ true
    old_place x z x_found z_found less = grind (arith, place_new, found_was)

    module _ (x : ℕ) (found : after.found x ≡ true) where
      own_some : begun.own x < after.tree.preorder x → LeadsTo g after x (begun.own x)
      own_some less = ⊎_elim
          (λ (new : x ≡ v). let o = own_new x new in let px = place_new x new in absurd (omega (arith, o, px, less)))
          (λ (old : w.found x ≡ true).
          let o = own_old x (known x old) in
          let px = place_old x old in
          let s = reaches.own_some x old (omega (arith, o, px, less)) in
          record {
            edge = s.edge;
            end = s.end;
            upwards = upwards_still s.edge x s.end s.upwards;
            exact = place_old s.end (walk.ends_found x s.end s.edge old s.upwards.taken s.upwards.joins) ∙ s.exact ∙ sym o;
          })
          (found_was x found)

      first_some : begun.first x < after.tree.preorder x → HasChild after begun x (begun.first x)
      first_some less = ⊎_elim
          (λ (new : x ≡ v). let o = first_new x new in let px = place_new x new in absurd (omega (arith, o, px, less)))
          (λ (old : w.found x ≡ true).
          let o = first_old x (known x old) in
          let px = place_old x old in
          subst (HasChild after begun x) (sym o) (some_still x (r.first x) (reaches.first_some x old (omega (arith, o, px, less)))))
          (found_was x found)

      second_some : begun.second x < after.tree.preorder x → HasChildren after begun x (begun.second x)
      second_some less = ⊎_elim
          (λ (new : x ≡ v). let o = second_new x new in let px = place_new x new in absurd (omega (arith, o, px, less)))
          (λ (old : w.found x ≡ true).
          let o = second_old x (known x old) in
          let px = place_old x old in
          subst (HasChildren after begun x) (sym o) (two_still x (r.second x) (reaches.second_some x old (omega (arith, o, px, less)))))
          (found_was x found)

      own_most : begun.own x ≤ after.tree.preorder x
      own_most = grind (arith, own_new, place_new, own_old, known, place_old, found_was)

      second_most : begun.second x ≤ after.tree.preorder x
      second_most = grind (arith, second_new, place_new, second_old, known, place_old, found_was)

      order : begun.first x ≤ begun.second x
      order = grind (arith, first_new, second_new, first_old, known, second_old, found_was)

    module _ (x z : ℕ) (stands : IsOpen after x) (found : after.found z ≡ true) where
      own_open : after.tree.preorder z ≡ begun.own x → begun.own x < after.tree.preorder x → IsOpen after z
      own_open exact less = grind (arith, own_new, place_new, own_old, known, place_old, old_place, place_old z, open_still z, open_was)

      first_open : after.tree.preorder z ≡ begun.first x → begun.first x < after.tree.preorder x → IsOpen after z
      first_open exact less = grind (arith, first_new, place_new, first_old, known, place_old, old_place, place_old z, open_still z, open_was)

      second_open : after.tree.preorder z ≡ begun.second x → begun.second x < after.tree.preorder x → IsOpen after z
      second_open exact less = grind (arith, second_new, place_new, second_old, known, place_old, old_place, place_old z, open_still z, open_was)

    second_above : (x z : ℕ) → w.left x ≡ true → after.found z ≡ true → after.tree.preorder z ≡ begun.second x → begun.second x < after.tree.preorder x → IsBelow after.tree z x
    second_above x z left found exact less =
        let x_old = walk.left_found x left in
        let o = second_old x (known x x_old) in
        let px = place_old x x_old in
        let z_old = old_place x z x_old found (omega (arith, exact, less, px)) in
        let pz = place_old z z_old in
        below_as z x z_old x_old (reaches.second_above x z left z_old (omega (arith, exact, pz, o)) (omega (arith, o, px, less)))

    own_least : (d x z : ℕ) → IsUpwards g after d x z → begun.own x ≤ after.tree.preorder z
    own_least d x z b =
        let old = upwards_was d x z b in
        let o = own_old x (known x old.found) in
        let pz = place_old z (walk.ends_found x z d old.found old.taken old.joins) in
        let less = reaches.own_least d x z old in
        omega (arith, o, pz, less)

    pub find_reaches : AreReaches g (finding w u e v) (starting r v w.count)
    find_reaches = record {
      own_most = own_most;
      own_least = own_least;
      own_some = own_some;
      order = order;
      second_most = second_most;
      first_least = λ x c child.
          let old = child_was x c child in
          let f = first_old x (with_child x c old) in
          let hc = highest_left c old.left in
          let less = reaches.first_least x c old in
          omega (arith, f, hc, less);
      second_least = λ x c d k c_child d_child apart c_less d_less.
          let c_old = child_was x c c_child in
          let d_old = child_was x d d_child in
          let s = second_old x (with_child x c c_old) in
          let hc = highest_left c c_old.left in
          let hd = highest_left d d_old.left in
          let less = reaches.second_least x c d k c_old d_old apart (omega (arith, hc, c_less)) (omega (arith, hd, d_less)) in
          omega (arith, s, less);
      first_some = first_some;
      second_some = second_some;
      own_open = own_open;
      first_open = first_open;
      second_open = second_open;
      second_above = second_above;
    }
