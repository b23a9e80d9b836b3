use Rattle.std.proofs.Common.{ℕ, inl, inr, ⊎_elim, arith}
use Rattle.dep_routing.specs.Quiet.{IsFree, IsLargest}
use Rattle.dep_routing.specs.Routing.{next_at}
use Rattle.constant_laws.proofs.facts.place_facts.Goals as goal

pub returns : goal.returns
returns c = λ g tree touches lines r strong is_tree routing.
    let count = routing.count in
    record {
      flow = strong;
      cases = λ line node inside. ⊎_elim
          (λ (free : IsFree g tree touches line node). inl free)
          (λ (some : (q : ℕ) × IsLargest g tree touches line node q). inr (λ free. let largest = some.1 in free (record { region = some.0; quiet = largest.quiet; holds = largest.holds })))
          (c.largest_quiet_regions.ensures.some g tree touches line node strong is_tree inside);
      touching = λ line node is. c.free_nodes.ensures.touching g tree touches line node is;
      start = λ line. c.free_nodes.ensures.start g tree touches line strong is_tree;
      exists = λ line d h edge at. c.places.ensures.exists g tree touches line d h strong is_tree edge at;
      arrives = λ line e edge free. c.places_over_a_pass.ensures.arrives g tree touches line e strong is_tree edge free;
      departs = λ line d h l edge free at. c.next_edges.ensures.one g tree touches line d h (next_at r line d) strong is_tree ((c.places_over_a_pass.ensures.departs g tree touches line d h strong is_tree free).0 at) (routing.next line d (omega (arith, l, count)) edge);
      stays = λ line e d h edge next_edge begins held at. (c.places_over_a_pass.ensures.stays g tree touches line e d h strong is_tree edge next_edge begins held).0 at;
      wire = λ line e l edge free. (routing.wire line e (omega (arith, l, count)) edge).1 free;
      passed = λ line node a b one later free. c.free_passed_nodes.ensures g tree touches line node a b strong is_tree one later free;
    }
