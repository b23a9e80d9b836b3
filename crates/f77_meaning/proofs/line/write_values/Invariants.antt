use Rattle.std.proofs.Common.{◌≡◌, ◌+◌, ◌≤◌, ◌++◌, drop, vec_len, vec_capacity, All}
use Rattle.f77_tree.specs.CanRun.{CanPrint}
use Rattle.f77_tree.specs.Line.{line_with, line_room}
use Rattle.f77_meaning.proofs.line.write_values.Given as goal

abbrev pub invariant-loop-item : goal.invariant-loop-item
invariant-loop-item l = record {
  all : All (CanPrint l.names) l.item-items;
  room : vec_len l.line + line_room (drop l.item-index l.item-items) ≤ vec_capacity l.line;
  capacity : vec_capacity l.fn.line ≤ vec_capacity l.line;
  line : l.line.items ++ line_with l.names (drop l.item-index l.item-items) l.rest ≡ line_with l.names l.items l.values;
}
