-- The walk goes on where it takes an edge to a node that wasn't found before.
use Rattle.std.proofs.Common.{◌≡◌, ◌≢◌, ℕ, ◌+◌, ◌-◌, ◌^◌, ◌<◌, ◌≤◌, true, false, length, sym, ◌∙◌, subst, ⊎_elim, arith}
use Rattle.std.proofs.lemmas.Bool.{cases_eq, false≢true}
use Rattle.closed_walks.specs.Graph.{Graph, edges_at}
use Rattle.cycle_equiv.specs.DepthFirst.{Joins}
use Rattle.cycle_equiv.specs.Walking.{Trail, earlier, put, taking, finding}
use Rattle.cycle_equiv.specs.TrailReaches.{starting}
use Rattle.cycle_equiv.specs.CapLists.{caps_total}
use Rattle.cycle_equiv.specs.WalkState.{IsKept, IsWalk, IsPaidWalk, IsNextEdge}
use Rattle.cycle_equiv.specs.WalkSteps.{spent, saved}
use Rattle.cycle_equiv.specs.declared.walk.BracketWalk.{BracketWalk}
use Rattle.cycle_equiv.proofs.Beginning.{find_places}
use Rattle.cycle_equiv.proofs.Ending.{unfound_find}
use Rattle.cycle_equiv.proofs.Finding.{find_trail, new_open}
use Rattle.cycle_equiv.proofs.FindingLists.{find_lists}
use Rattle.cycle_equiv.proofs.FindingReaches.{find_reaches}
use Rattle.cycle_equiv.proofs.LeftLists.{find_left_lists, find_caps}
use Rattle.cycle_equiv.proofs.Named.{find_named}
use Rattle.cycle_equiv.proofs.Spending.{saved_find, spent_find, few_caps_find}
use Rattle.cycle_equiv.proofs.Steps.{put_same, put_other}
use Rattle.cycle_equiv.proofs.WalkReads.{rank_is, still_few}

module _ (g : Graph) (c : BracketWalk) (u : ℕ) (h : IsWalk g c u) (e v : ℕ) (next : IsNextEdge g c u e) (ends : Joins g e u v) (node : v < g.nodes) (hidden : h.trail.found v ≡ false) where
  abbrev w : Trail
  w = h.trail

  rank : earlier g u e ≡ w.taken u
  rank = rank_is g c u h e next

  apart : v ≢ u
  apart same = false≢true (sym hidden ∙ subst (λ n. w.found n ≡ true) (sym same) h.is_trail.here.found)

  pub none_yet : (taking w u).taken v ≡ 0
  none_yet = put_other w.taken u (w.taken u + 1) v apart ∙ h.none_taken v hidden

  pub not_left : w.left v ≡ false
  not_left = (new_open g w u h.is_trail e v next.edge next.touched rank ends node hidden).stays

  -- there is room for one node more
  pub find_room : w.count < 2 ^ 32 - 1
  find_room = grind (arith, unfound_find w.found v g.nodes node hidden)

  none_taken : (x : ℕ) → put w.found v true x ≡ false → put (put w.taken u (w.taken u + 1)) v 0 x ≡ 0
  none_taken x unfound = ⊎_elim
      (λ (same : x ≡ v). put_same (put w.taken u (w.taken u + 1)) v 0 x same)
      (λ (other : x ≢ v).
      let was : w.found x ≡ false = sym (put_other w.found v true x other) ∙ unfound in
      put_other (put w.taken u (w.taken u + 1)) v 0 x other
      ∙ put_other w.taken u (w.taken u + 1) x (λ same. false≢true (sym was ∙ subst (λ n. w.found n ≡ true) (sym same) h.is_trail.here.found))
      ∙ h.none_taken x was)
      (cases_eq x v)

  few_taken : (x : ℕ) → x < g.nodes → put (put w.taken u (w.taken u + 1)) v 0 x ≤ length (edges_at g x)
  few_taken x inside = grind (arith, put_same, put_other, put_same w.taken, still_few g c, put_other w.taken)

  pub find_walk : (new : BracketWalk) (start now after : ℕ) → now + caps_total c.caps.items + saved g w ≤ start + spent g.nodes w h.reaches + 1 → after ≤ now + 1 → caps_total new.caps.items ≡ caps_total c.caps.items
      → IsKept g new (finding w u e v) (starting h.reaches v w.count) h.lists h.caps h.tops h.sizes → IsPaidWalk g new v start after
  find_walk new start now after paid few caps kept = record {
    walk = record {
      trail = finding w u e v;
      reaches = starting h.reaches v w.count;
      lists = h.lists;
      caps = h.caps;
      final = h.final;
      tops = h.tops;
      sizes = h.sizes;
      kept = kept;
      graph = h.graph;
      is_trail = find_trail g w u h.is_trail e v next.edge next.touched rank ends node hidden;
      counted = record { count = let one = unfound_find w.found v g.nodes node hidden in let count = h.counted.count in omega (arith, one, count) };
      places = find_places w u e v hidden h.places;
      none_taken = none_taken;
      few_taken = few_taken;
      are_reaches = find_reaches g w u h.is_trail e v next.edge next.touched rank ends node hidden h.reaches h.are_reaches;
      open_lists = find_lists g w u h.is_trail e v next.edge next.touched rank ends node hidden h.reaches h.are_reaches h.lists h.open_lists;
      left_lists = find_left_lists g w u h.is_trail e v next.edge next.touched rank ends node hidden h.reaches h.are_reaches h.final h.left_lists;
      are_caps = find_caps g w u h.is_trail e v next.edge next.touched rank ends node hidden h.reaches h.are_reaches h.caps h.are_caps;
      caps_once = h.caps_once;
      named = find_named g w u h.is_trail e v next.edge next.touched rank ends node hidden h.final h.tops h.sizes h.named;
      told = h.told;
      few_caps = few_caps_find g w u h.is_trail e v next.edge next.touched rank ends node hidden none_yet h.reaches h.few_caps;
    };
    paid =
        let save = saved_find g w u h.is_trail e v next.edge next.touched rank ends node hidden none_yet in
        let spend = spent_find g w u h.is_trail e v next.edge next.touched rank ends node hidden none_yet h.reaches in
        omega (arith, paid, few, caps, save, spend);
  }
