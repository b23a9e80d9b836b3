use Rattle.std.proofs.Common.{◌≡◌, ◌≤◌, ◌+◌, ◌*◌, drop}
use Rattle.f77_tree.specs.Line.{line_room}
use Rattle.f77_meaning.proofs.room.room_of_line.Given as goal

abbrev pub invariant-loop-item : goal.invariant-loop-item
invariant-loop-item l = record {
  is : l.room + line_room (drop l.item-index l.items) ≡ line_room l.items;
  few : l.room ≤ 4294967296 * l.item-index;
}
