use Rattle.std.proofs.Common.{◌≡◌, ◌+◌, ◌≤◌, map, drop, vec_len, vec_capacity, All}
use Rattle.f77_tree.specs.CanRun.{CanPrint}
use Rattle.f77_tree.specs.Line.{item_text, line_of_texts, line_room}
use Rattle.f77_meaning.specs.Room.{line_after}
use Rattle.f77_meaning.proofs.line.write_line.Given as goal

abbrev pub invariant-loop-item : goal.invariant-loop-item
invariant-loop-item l = record {
  all : All (CanPrint l.names) l.item-items;
  room : vec_len l.line + line_room (drop l.item-index l.item-items) ≤ vec_capacity l.line;
  capacity : vec_capacity l.fn.line ≤ vec_capacity l.line;
  line : line_after l.line.items (line_of_texts (map (item_text l.names l.store.items) (drop l.item-index l.item-items))) ≡ line_of_texts (map (item_text l.names l.store.items) l.items);
}
