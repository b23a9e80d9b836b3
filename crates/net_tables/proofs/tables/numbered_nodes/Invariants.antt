use Rattle.std.proofs.Common.{◌≡◌, ◌<◌, ◌^◌, ◌+◌, length, map}
use Rattle.std.specs.List.{range_with_len}
use Rattle.net_board.specs.Nodes.{nodes_below, first_node}
use Rattle.net_tables.specs.PartsView.{net_in}
use Rattle.net_tables.proofs.tables.numbered_nodes.Given as goal

abbrev pub invariant-loop-piece : goal.invariant-loop-piece
invariant-loop-piece g l = record {
  names : l.names ≡ nodes_below (net_in l.plan) l.piece;
  few : length l.names < 2 ^ 32;
  firsts : l.firsts.items ≡ map (first_node (net_in l.plan)) (range_with_len 0 (l.piece + 1));
}
