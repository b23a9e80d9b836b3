-- Where lines stand before any firing, and that no value is given.
use Rattle.std.specs.Prelude.{◌≡◌, ◌≤◌, false, [], All, length, map, replicate, None, vec_capacity}
use Rattle.net_board.specs.Nodes.{all_lines, nodes_of}
use Rattle.net_board.specs.Tokens.{led_from}
use Rattle.op_board.specs.OperationNets.{OperationNet}
use Rattle.operation_places.specs.declared.leads.Lead.{Lead}
use Rattle.operation_places.specs.declared.places.Places.{Places}
use Rattle.operation_tables.specs.Waits.{node_total}

-- Each line stands where it is led from the edge that leaves the start, and has passed no operation; no edge is left for any switch, no
-- value is given, nothing is counted, and nothing is remembered.
pub record AreFirstPlaces (x : OperationNet) (s : Places) : Type 0 where
  pub lines : s.lines.items ≡ map (led_from x.net 1) (all_lines x.net)
  pub passed : s.passed.items ≡ replicate x.net.routing.lines 0
  pub edges : s.edges.items ≡ replicate (length (nodes_of x.net)) None
  pub values : s.values.items ≡ replicate (node_total x) None
  pub counted : s.counted ≡ false
  pub counts : s.counts.items ≡ []
  pub marks : s.set ≡ replicate (node_total x) false
  pub room : node_total x ≤ vec_capacity s.counts
  pub leads : All (λ (lead : Lead). x.net.routing.lines ≤ lead.line) s.leads.items
