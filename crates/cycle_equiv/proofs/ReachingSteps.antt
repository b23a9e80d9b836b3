-- How far back edges lead, where the walk takes an edge.
use Rattle.std.proofs.Common.{◌≡◌, ◌≢◌, ℕ, ◌<◌, ◌≤◌, ◌⊎◌, true, min, refl, sym, ap, ◌∙◌, subst, inl, inr, ⊎_elim, arith}
use Rattle.std.proofs.lemmas.Bool.{cases_eq, cases_lt, false≢true}
use Rattle.closed_walks.specs.Graph.{Graph, edge_count, touches}
use Rattle.cycle_equiv.specs.DepthFirst.{Joins}
use Rattle.cycle_equiv.specs.Walking.{Trail, IsTaken, IsOpen, IsTrail, earlier, taking}
use Rattle.cycle_equiv.specs.TrailReaches.{Reaches, IsUpwards, IsLeftChild, highest, LeadsTo, HasChild, HasChildren, AreReaches, reaching}
use Rattle.cycle_equiv.proofs.Steps.{put_same, put_other, joins_one, taken_still, taken_elsewhere, taken_now, taken_here}

module _ (g : Graph) (w : Trail) (u : ℕ) (walk : IsTrail g w u) (r : Reaches) (reaches : AreReaches g w r)
    (e v : ℕ) (edge : e < edge_count g) (touched : touches g u e ≡ true) (next : earlier g u e ≡ w.taken u) (ends : Joins g e u v) (known : w.found v ≡ true) where
  open_was : (x : ℕ) → IsOpen (taking w u) x → IsOpen w x
  open_was x h = record { found = h.found; stays = h.stays }

  open_still : (x : ℕ) → IsOpen w x → IsOpen (taking w u) x
  open_still x h = record { found = h.found; stays = h.stays }

  child_was : (x c : ℕ) → IsLeftChild (taking w u) x c → IsLeftChild w x c
  child_was x c h = record { left = h.left; other = h.other; parent = h.parent }

  child_still : (x c : ℕ) → IsLeftChild w x c → IsLeftChild (taking w u) x c
  child_still x c h = record { left = h.left; other = h.other; parent = h.parent }

  upwards_still : (d x z : ℕ) → IsUpwards g w d x z → IsUpwards g (taking w u) d x z
  upwards_still d x z b = record { found = b.found; taken = taken_still g w u x d b.taken; joins = b.joins; above = b.above; other = b.other }

  -- an edge that leads upwards did so before, or is the one that was taken now
  upwards_was : (d x z : ℕ) → IsUpwards g (taking w u) d x z → ((d ≡ e) × (x ≡ u) × (z ≡ v)) ⊎ IsUpwards g w d x z
  upwards_was d x z b = ⊎_elim
      (λ (same : x ≡ u). ⊎_elim
      (λ (this : d ≡ e). inl (this, same, joins_one g e u v z ends (subst (λ n. Joins g e n z) same (subst (λ n. Joins g n x z) this b.joins))))
      (λ (old : IsTaken g w u d). inr (record { found = b.found; taken = subst (λ n. IsTaken g w n d) (sym same) old; joins = b.joins; above = b.above; other = b.other }))
      (taken_here g w u e edge touched next d (subst (λ n. IsTaken g (taking w u) n d) same b.taken)))
      (λ (apart : x ≢ u). inr (record { found = b.found; taken = taken_elsewhere g w u x d apart b.taken; joins = b.joins; above = b.above; other = b.other }))
      (cases_eq x u)

  own_still : (x k : ℕ) → LeadsTo g w x k → LeadsTo g (taking w u) x k
  own_still x k s = record { edge = s.edge; end = s.end; upwards = upwards_still s.edge x s.end s.upwards; exact = s.exact }

  some_still : (s : Reaches) (x k : ℕ) → ((c : ℕ) → w.left c ≡ true → highest s c ≡ highest r c) → HasChild w r x k → HasChild (taking w u) s x k
  some_still s x k same h = record { child = h.child; is_child = child_still x h.child h.is_child; exact = same h.child h.is_child.left ∙ h.exact }

  two_still : (s : Reaches) (x k : ℕ) → ((c : ℕ) → w.left c ≡ true → highest s c ≡ highest r c) → HasChildren w r x k → HasChildren (taking w u) s x k
  two_still s x k same h =
      let one = same h.one h.one_child.left in
      let less = h.one_reach in
      record {
        one = h.one;
        other = h.other;
        one_child = child_still x h.one h.one_child;
        other_child = child_still x h.other h.other_child;
        apart = h.apart;
        one_reach = omega (arith, one, less);
        exact = same h.other h.other_child.left ∙ h.exact;
      }

  -- ---- an edge that doesn't lead upwards

  module _ (level : IsUpwards g (taking w u) e u v → ⊥) where
    same_upwards : (d x z : ℕ) → IsUpwards g (taking w u) d x z → IsUpwards g w d x z
    same_upwards d x z b = ⊎_elim
        (λ (now : (d ≡ e) × (x ≡ u) × (z ≡ v)).
        absurd (level (subst (λ n. IsUpwards g (taking w u) e u n) now.2 (subst (λ n. IsUpwards g (taking w u) e n z) now.1 (subst (λ n. IsUpwards g (taking w u) n x z) now.0 b)))))
        (λ (old : IsUpwards g w d x z). old)
        (upwards_was d x z b)

    pub take_reaches : AreReaches g (taking w u) r
    take_reaches = record {
      own_most = reaches.own_most;
      own_least = λ d x z b. reaches.own_least d x z (same_upwards d x z b);
      own_some = λ x found less. own_still x (r.own x) (reaches.own_some x found less);
      order = reaches.order;
      second_most = reaches.second_most;
      first_least = λ x c child. reaches.first_least x c (child_was x c child);
      second_least = λ x c d k c_child d_child. reaches.second_least x c d k (child_was x c c_child) (child_was x d d_child);
      first_some = λ x found less. some_still r x (r.first x) (λ c left. refl) (reaches.first_some x found less);
      second_some = λ x found less. two_still r x (r.second x) (λ c left. refl) (reaches.second_some x found less);
      own_open = λ x z stands found exact less. open_still z (reaches.own_open x z (open_was x stands) found exact less);
      first_open = λ x z stands found exact less. open_still z (reaches.first_open x z (open_was x stands) found exact less);
      second_open = λ x z stands found exact less. open_still z (reaches.second_open x z (open_was x stands) found exact less);
      second_above = reaches.second_above;
    }

  -- ---- an edge that leads upwards

  module _ (above : w.tree.preorder v < w.tree.preorder u) (other : e ≢ w.tree.parent_edge u) where
    abbrev after : Reaches
    after = reaching r u (w.tree.preorder v)

    -- it is a new edge that leads upwards
    pub upwards_now : IsUpwards g (taking w u) e u v
    upwards_now = record { found = walk.here.found; taken = taken_now g w u e edge touched next; joins = ends; above = above; other = other }

    -- the node to which it leads is open
    pub above_open : IsOpen w v
    above_open = grind arith

    own_at : (x : ℕ) → x ≡ u → after.own x ≡ min (r.own x) (w.tree.preorder v)
    own_at x same = put_same r.own u (min (r.own u) (w.tree.preorder v)) x same ∙ ap (λ n. min (r.own n) (w.tree.preorder v)) (sym same)

    own_other : (x : ℕ) → x ≢ u → after.own x ≡ r.own x
    own_other x apart = put_other r.own u (min (r.own u) (w.tree.preorder v)) x apart

    highest_left : (c : ℕ) → w.left c ≡ true → highest after c ≡ highest r c
    highest_left c left = ap (λ n. min (r.first c) n) (own_other c (λ same. false≢true (sym walk.here.stays ∙ subst (λ n. w.left n ≡ true) same left)))

    own_less : (x : ℕ) → after.own x ≤ r.own x
    own_less x = grind (arith, own_at, own_other)

    own_least : (d x z : ℕ) → IsUpwards g (taking w u) d x z → after.own x ≤ w.tree.preorder z
    own_least d x z b = ⊎_elim
        (λ (now : (d ≡ e) × (x ≡ u) × (z ≡ v)). let o = own_at x now.1 in let place = ap w.tree.preorder now.2 in omega (arith, o, place))
        (λ (old : IsUpwards g w d x z). let o = own_less x in let less = reaches.own_least d x z old in omega (arith, o, less))
        (upwards_was d x z b)

    own_some : (x : ℕ) → w.found x ≡ true → after.own x < w.tree.preorder x → LeadsTo g (taking w u) x (after.own x)
    own_some x found less = ⊎_elim
        (λ (nearer : after.own x < r.own x). ⊎_elim
        (λ (same : x ≡ u).
        let o = own_at x same in
        record { edge = e; end = v; upwards = subst (λ n. IsUpwards g (taking w u) e n v) (sym same) upwards_now; exact = omega (arith, o, nearer) })
        (λ (apart : x ≢ u). let o = own_other x apart in absurd (omega (arith, o, nearer)))
        (cases_eq x u))
        (λ (old : r.own x ≤ after.own x).
        let o = own_less x in
        let same : after.own x ≡ r.own x = omega (arith, o, old) in
        subst (LeadsTo g (taking w u) x) (sym same) (own_still x (r.own x) (reaches.own_some x found (omega (arith, same, less)))))
        (cases_lt (after.own x) (r.own x))

    own_open : (x z : ℕ) → IsOpen (taking w u) x → w.found z ≡ true → w.tree.preorder z ≡ after.own x → after.own x < w.tree.preorder x → IsOpen (taking w u) z
    own_open x z stands found exact less = ⊎_elim
        (λ (nearer : after.own x < r.own x). ⊎_elim
        (λ (same : x ≡ u).
        let o = own_at x same in
        subst (IsOpen (taking w u)) (walk.one_place v z known found (omega (arith, o, nearer, exact))) (open_still v above_open))
        (λ (apart : x ≢ u). let o = own_other x apart in absurd (omega (arith, o, nearer)))
        (cases_eq x u))
        (λ (old : r.own x ≤ after.own x).
        let o = own_less x in
        open_still z (reaches.own_open x z (open_was x stands) found (omega (arith, o, old, exact)) (omega (arith, o, old, less))))
        (cases_lt (after.own x) (r.own x))

    pub up_reaches : AreReaches g (taking w u) (reaching r u (w.tree.preorder v))
    up_reaches = record {
      own_most = λ x found. let most = reaches.own_most x found in let o = own_less x in omega (arith, most, o);
      own_least = own_least;
      own_some = own_some;
      order = reaches.order;
      second_most = reaches.second_most;
      first_least = λ x c child. let less = reaches.first_least x c (child_was x c child) in let same = highest_left c child.left in omega (arith, less, same);
      second_least = λ x c d k c_child d_child apart c_less d_less.
          let hc = highest_left c c_child.left in
          let hd = highest_left d d_child.left in
          reaches.second_least x c d k (child_was x c c_child) (child_was x d d_child) apart (omega (arith, hc, c_less)) (omega (arith, hd, d_less));
      first_some = λ x found less. some_still after x (r.first x) highest_left (reaches.first_some x found less);
      second_some = λ x found less. two_still after x (r.second x) highest_left (reaches.second_some x found less);
      own_open = own_open;
      first_open = λ x z stands found exact less. open_still z (reaches.first_open x z (open_was x stands) found exact less);
      second_open = λ x z stands found exact less. open_still z (reaches.second_open x z (open_was x stands) found exact less);
      second_above = reaches.second_above;
    }
