use Rattle.std.proofs.Common.{◌≡◌, length}
use Rattle.closed_walks.specs.Graph.{edge_count, edges_at}
use Rattle.closed_walks.specs.Reversed.{turned}
use Rattle.closed_walks.proofs.Searches.{IsVisiting}
use Rattle.closed_walks.proofs.search_back.mark_before.Given as goal

abbrev pub invariant-loop-e : goal.invariant-loop-e
invariant-loop-e l = record {
  edges : l.e-items ≡ edges_at l.g l.node;
  visiting : IsVisiting (turned l.g) (edge_count l.g) l.node l.e-items l.e-index l.fn.marks.items l.fn.frontier.items l.marks.items l.frontier.items;
  nodes : length l.marks.items ≡ length l.fn.marks.items;
}
