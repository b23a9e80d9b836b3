use Rattle.std.proofs.Common.{◌≡◌, ◌+◌, length, set, vec_len}
use Rattle.brackets.specs.Brackets.{list_at}
use Rattle.cycle_equiv.specs.CapLists.{HaveCaps, ended}
use Rattle.cycle_equiv.proofs.walk_caps.Caps.end.Given as goal

abbrev pub invariant-caps : goal.invariant-caps
invariant-caps g l = record {
  have : HaveCaps l.edges (list_at l.lists l.list) l.self-inside.edges.items;
  lists : set l.lists l.list (ended l.edges (list_at l.lists l.list) l.self-inside.edges.items) ≡ set l.fn.lists l.list (ended l.edges (list_at l.fn.lists l.list) l.fn.self);
  steps : l.steps + length l.self-inside.edges.items ≡ l.fn.steps + length l.fn.self;
}

abbrev pub decreases-caps : goal.decreases-caps
decreases-caps g l = vec_len l.self-inside.edges
