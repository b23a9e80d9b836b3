use Rattle.std.proofs.Common.{◌≡◌, ◌<◌, ℕ, false, length, take, slice_index_or}
use Rattle.std.specs.List.{list_any}
use Rattle.graph_dependences.specs.Dependences.{leads}
use Rattle.graph_dependences.proofs.control.leading.Given as goal

abbrev pub invariant-loop-edge : goal.invariant-loop-edge
invariant-loop-edge l = record {
  pieces : length l.some.items ≡ length l.flow.pieces.items;
  edges : (piece : ℕ) → piece < length l.flow.pieces.items → slice_index_or l.some.items piece false ≡ list_any (leads l.marks l.wanted piece) (take l.edge-index l.flow.edges.items);
}
