use Rattle.std.proofs.Common.{◌≡◌, length}
use Rattle.cfg_build.specs.Tables.{AreHeldBelow, AreClosedBack}
use Rattle.cfg_build.proofs.holds.held_pieces.Given as goal

abbrev pub invariant-loop-x : goal.invariant-loop-x
invariant-loop-x l = record {
  nodes : length l.leaving.items ≡ l.g.nodes;
  closed : AreClosedBack l.g l.leaving.items;
  held : AreHeldBelow l.g l.finish l.x l.held.items l.leaving.items;
}
