-- What the reaches tell of back edges, where the walk is at its end.
use Rattle.std.proofs.Common.{◌≡◌, ◌≢◌, ℕ, zero, suc, ◌+◌, ◌<◌, ◌≤◌, true, List, refl, sym, ap, ◌∙◌, subst, ⊎_elim, arith}
use Rattle.std.proofs.lemmas.Bool.{cases_eq, cases_lt}
use Rattle.closed_walks.specs.Graph.{Graph, IsGraph, edge_count, touches, from, to}
use Rattle.closed_walks.specs.Walk.{IsStrong}
use Rattle.cycle_equiv.specs.DepthFirst.{Tree, Joins, IsChild, IsBackEdge, IsBelow, IsDepthFirst, upper_end, lower_end}
use Rattle.cycle_equiv.specs.BracketLists.{LeadsAbove, IsReached}
use Rattle.cycle_equiv.specs.Walking.{Trail, IsTaken, IsTrail, IsCounted}
use Rattle.cycle_equiv.specs.TrailReaches.{Reaches, IsUpwards, IsLeftChild, highest, AreReaches}
use Rattle.cycle_equiv.proofs.Steps.{joins_touches, joins_back, two_ends}
use Rattle.cycle_equiv.proofs.Trees.{through, child_below, below_on}
use Rattle.cycle_equiv.proofs.Ending.{all_found, all_taken, left_or_root, walk_depth_first}

-- the places of an edge's ends, where it leads up
pub upper_is : (g : Graph) (t : Tree) (e x z : ℕ) → Joins g e x z → t.preorder z < t.preorder x → (upper_end g t e ≡ t.preorder z) × (lower_end g t e ≡ t.preorder x)
upper_is g t e x z ends above = grind arith

-- the two ends of an edge, the upper one last
pub record HasEnds (g : Graph) (t : Tree) (e : ℕ) : Type 0 where
  pub low : ℕ
  pub high : ℕ
  pub ends : Joins g e low high
  pub above : t.preorder high < t.preorder low

pub ends_of : (g : Graph) (t : Tree) (e : ℕ) → upper_end g t e < lower_end g t e → HasEnds g t e
ends_of g t e less = grind (arith, t.preorder (to g e), t.preorder (from g e), cases_lt (t.preorder (from g e)) (t.preorder (to g e)))

module _ (g : Graph) (w : Trail) (walk : IsTrail g w w.tree.root) (counted : IsCounted g w)
    (taken : (e : ℕ) → e < edge_count g → touches g w.tree.root e ≡ true → IsTaken g w w.tree.root e) (strong : IsStrong g) (sound : IsGraph g) where
  tree : IsDepthFirst g w.tree
  tree = walk_depth_first g w walk counted taken strong sound

  found : (x : ℕ) → x < g.nodes → w.found x ≡ true
  found x node = all_found g w walk counted taken strong x node

  left_child : (x : ℕ) → IsChild g w.tree x → IsLeftChild w (w.tree.parent x) x
  left_child x child = record {
    left = ⊎_elim (λ (root : x ≡ w.tree.root). absurd (child.other root)) (λ (left : w.left x ≡ true). left) (left_or_root g w walk counted taken x (found x child.node));
    other = child.other;
    parent = refl;
  }

  is_child : (x c : ℕ) → IsLeftChild w x c → IsChild g w.tree c
  is_child x c h = record { node = walk.node c (walk.left_found c h.left); other = h.other }

  -- the back edges are those that lead upwards, but for edges from a node to itself
  pub upwards_back : (e x z : ℕ) → IsUpwards g w e x z → IsBackEdge g w.tree e
  upwards_back e x z b = record {
    edge = b.taken.edge;
    found_none = λ y child same.
        let by = walk.by_edge y (found y child.node) child.other in
        let above = b.above in
        let first = by.first in
        ⊎_elim
        (λ (crossed : (w.tree.parent y ≡ x) × (z ≡ y)).
        let px = ap w.tree.preorder crossed.0 in
        let pz = ap w.tree.preorder crossed.1 in
        absurd (omega (arith, above, first, px, pz)))
        (λ (equal : y ≡ x). b.other (sym same ∙ ap w.tree.parent_edge equal))
        (two_ends g e (w.tree.parent y) y z x (subst (λ n. Joins g n (w.tree.parent y) y) same by.ends) (joins_back g e x z b.joins));
  }

  pub back_upwards : (e x z : ℕ) → x < g.nodes → IsBackEdge g w.tree e → Joins g e x z → w.tree.preorder z < w.tree.preorder x → IsUpwards g w e x z
  back_upwards e x z node back ends above =
      grind (arith, found, found x node, all_taken g w walk counted taken x e (found x node) back.edge (joins_touches g e x z ends), joins_touches g e x z ends, back.found_none x)

  module _ (r : Reaches) (reaches : AreReaches g w r) where
    highest_below : (k c e x z : ℕ) → w.count ≤ w.tree.preorder c + k → c < g.nodes → IsUpwards g w e x z → IsBelow w.tree c x → highest r c ≤ w.tree.preorder z
    highest_below zero c e x z far node b below = let inside = walk.in_range c (found c node) in absurd (omega (arith, far, inside))
    highest_below (suc k) c e x z far node b below = ⊎_elim
        (λ (same : x ≡ c).
        let own = reaches.own_least e x z b in
        let here = ap r.own same in
        omega (arith, own, here))
        (λ (apart : x ≢ c).
        let t = through g w.tree tree c x node (walk.node x b.found) below apart in
        let first = tree.parent_first t.child t.is_child in
        let up = ap w.tree.preorder t.parent in
        let rest = highest_below k t.child e x z (omega (arith, far, first, up)) t.is_child.node b t.below in
        let least = reaches.first_least c t.child (subst (λ p. IsLeftChild w p t.child) t.parent (left_child t.child t.is_child)) in
        omega (arith, rest, least))
        (cases_eq x c)

    -- an edge that leads upwards from c or below leads no higher than c reaches
    pub highest_least : (c e x z : ℕ) → c < g.nodes → IsUpwards g w e x z → IsBelow w.tree c x → highest r c ≤ w.tree.preorder z
    highest_least c e x z node b below = highest_below w.count c e x z (omega arith) node b below

    pub record Leads (c : ℕ) : Type 0 where
      pub edge : ℕ
      pub low : ℕ
      pub high : ℕ
      pub upwards : IsUpwards g w edge low high
      pub below : IsBelow w.tree c low
      pub exact : w.tree.preorder high ≡ highest r c

    leads_below : (k c : ℕ) → w.count ≤ w.tree.preorder c + k → c < g.nodes → highest r c < w.tree.preorder c → Leads c
    leads_below zero c far node less = let inside = walk.in_range c (found c node) in absurd (omega (arith, far, inside))
    leads_below (suc k) c far node less = ⊎_elim
        (λ (own : r.own c < r.first c).
        let s = reaches.own_some c (found c node) (omega (arith, less, own)) in
        let exact = s.exact in
        record {
          edge = s.edge;
          low = c;
          high = s.end;
          upwards = s.upwards;
          below = record { after = omega arith; before = tree.left_later c node };
          exact = omega (arith, exact, own);
        })
        (λ (first : r.first c ≤ r.own c).
        let s = reaches.first_some c (found c node) (omega (arith, less, first)) in
        let child = is_child c s.child s.is_child in
        let later = tree.parent_first s.child child in
        let up = ap w.tree.preorder s.is_child.parent in
        let exact = s.exact in
        let rest = leads_below k s.child (omega (arith, far, later, up)) child.node (omega (arith, exact, less, later, up, first)) in
        let rest_exact = rest.exact in
        record {
          edge = rest.edge;
          low = rest.low;
          high = rest.high;
          upwards = rest.upwards;
          below = below_on g w.tree tree c s.child rest.low node child.node (subst (λ p. IsBelow w.tree p s.child) s.is_child.parent (child_below g w.tree tree s.child child)) rest.below;
          exact = omega (arith, rest_exact, exact, first);
        })
        (cases_lt (r.own c) (r.first c))

    -- and some edge does lead so high
    pub highest_some : (c : ℕ) → c < g.nodes → highest r c < w.tree.preorder c → Leads c
    highest_some c node less = leads_below w.count c (omega arith) node less

    highest_leads : (c k e : ℕ) → c < g.nodes → k ≤ w.tree.preorder c → LeadsAbove g w.tree c k e → highest r c < k
    highest_leads c k e node few l =
        let above = l.above in
        let after = l.after in
        let before = l.before in
        let h = ends_of g w.tree e (omega (arith, above, after, few)) in
        let places = upper_is g w.tree e h.low h.high h.ends h.above in
        let upper = places.0 in
        let lower = places.1 in
        let low_node : h.low < g.nodes = ⊎_elim
        (λ (j : (from g e ≡ h.low) × (to g e ≡ h.high)). subst (λ n. n < g.nodes) j.0 (sound.begins e l.back.edge))
        (λ (j : (from g e ≡ h.high) × (to g e ≡ h.low)). subst (λ n. n < g.nodes) j.1 (sound.ends e l.back.edge))
        h.ends in
        let least = highest_least c e h.low h.high node (back_upwards e h.low h.high low_node l.back h.ends h.above) (record { after = omega (arith, lower, after); before = omega (arith, lower, before) }) in
        omega (arith, least, upper, above)

    pub as_near : (k c d e f : ℕ) → IsChild g w.tree c → IsChild g w.tree d → w.tree.parent c ≡ w.tree.parent d → c ≢ d → k ≤ w.tree.preorder (w.tree.parent c) → LeadsAbove g w.tree c k e → LeadsAbove g w.tree d k f → r.second (w.tree.parent c) < k
    as_near k c d e f c_child d_child same apart few c_leads d_leads =
        let c_first = tree.parent_first c c_child in
        let d_first = tree.parent_first d d_child in
        let up = ap w.tree.preorder same in
        reaches.second_least (w.tree.parent c) c d k (left_child c c_child) (subst (λ p. IsLeftChild w p d) (sym same) (left_child d d_child)) apart
        (highest_leads c k e c_child.node (omega (arith, few, c_first)) c_leads)
        (highest_leads d k f d_child.node (omega (arith, few, d_first, up)) d_leads)

    leads_above : (c k : ℕ) (l : Leads c) → highest r c < k → LeadsAbove g w.tree c k l.edge
    leads_above c k l less =
        grind (arith, upper_is g w.tree l.edge l.low l.high l.upwards.joins l.upwards.above, upwards_back l.edge l.low l.high l.upwards)

    pub reached : (lists : ℕ → List ℕ) (x : ℕ) → IsChild g w.tree x → r.second x < w.tree.preorder x → IsReached g w.tree (record { second_reach = r.second; list = lists }) x
    reached lists x child less =
        let s = reaches.second_some x (found x child.node) less in
        let one_child = is_child x s.one s.one_child in
        let other_child = is_child x s.other s.other_child in
        let one_first = tree.parent_first s.one one_child in
        let other_first = tree.parent_first s.other other_child in
        let one_up = ap w.tree.preorder s.one_child.parent in
        let other_up = ap w.tree.preorder s.other_child.parent in
        let one_reach = s.one_reach in
        let other_reach = s.exact in
        let one = highest_some s.one one_child.node (omega (arith, one_reach, less, one_first, one_up)) in
        let other = highest_some s.other other_child.node (omega (arith, other_reach, less, other_first, other_up)) in
        let other_exact = other.exact in
        let upper = (upper_is g w.tree other.edge other.low other.high other.upwards.joins other.upwards.above).0 in
        record {
          first = s.one;
          second = s.other;
          first_child = one_child;
          second_child = other_child;
          first_parent = s.one_child.parent;
          second_parent = s.other_child.parent;
          apart = s.apart;
          first_edge = one.edge;
          second_edge = other.edge;
          first_leads = leads_above s.one (r.second x + 1) one (omega (arith, one_reach));
          second_leads = leads_above s.other (r.second x + 1) other (omega (arith, other_reach));
          exact = omega (arith, upper, other_exact, other_reach);
        }
