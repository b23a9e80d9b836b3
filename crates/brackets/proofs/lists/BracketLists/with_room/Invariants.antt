use Rattle.std.proofs.Common.{◌≡◌, ◌<◌, ℕ, IsSome}
use Rattle.slab.specs.Slab.{get, slab_len}
use Rattle.brackets.proofs.lists.BracketLists.with_room.Given as goal

abbrev pub invariant-cells : goal.invariant-cells
invariant-cells l = record {
  made : slab_len l.cells ≡ l._made;
  room : l.cells.capacity ≡ l.capacity;
  below : (x : ℕ) → IsSome (get l.cells x) → x < l.capacity;
}
