use Rattle.std.proofs.Common.{◌≡◌, ℕ, ◌+◌, ◌<◌, ◌≤◌, length, take, fold, slice_get}
use Rattle.cfg_build.specs.Flow.{piece_at}
use Rattle.cfg_build.specs.Holds.{held_edge, with_hold}
use Rattle.cfg_build.specs.Tables.{drawn_as}
use Rattle.cfg_build.proofs.holds.put_holds.Given as goal

abbrev pub invariant-loop-x : goal.invariant-loop-x
invariant-loop-x l = record {
  is : drawn_as l.drawing ≡ fold (λ f x. with_hold l.finish f (held_edge l.g x (piece_at l.initial.drawing.pieces.items x).kind) (piece_at l.initial.drawing.pieces.items x)) (drawn_as l.initial.drawing) (take l.x-index l.held);
  pieces : length l.drawing.pieces.items ≡ length l.initial.drawing.pieces.items + l.x-index;
  edges : length l.initial.drawing.edges.items ≤ length l.drawing.edges.items;
  same : (k : ℕ) → k < length l.initial.drawing.pieces.items → slice_get l.drawing.pieces.items k ≡ slice_get l.initial.drawing.pieces.items k;
}
