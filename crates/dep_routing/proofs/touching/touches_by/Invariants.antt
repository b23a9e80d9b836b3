use Rattle.std.proofs.Common.{◌≡◌, length}
use Rattle.dep_routing.specs.PieceLines.{TellBelow}
use Rattle.dep_routing.specs.Touches.{IsFlagged}
use Rattle.dep_routing.proofs.touching.touches_by.Given as goal

abbrev pub invariant-loop-node : goal.invariant-loop-node
invariant-loop-node g l = record {
  count : length l.list ≡ l.node;
  tell : TellBelow l.p l.c (IsFlagged l.may_trap) l.list l.node;
}
