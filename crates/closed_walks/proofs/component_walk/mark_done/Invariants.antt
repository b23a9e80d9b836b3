use Rattle.std.proofs.Common.{◌≤◌, ℕ, take}
use Rattle.closed_walks.specs.Component.{AreDone, left}
use Rattle.closed_walks.proofs.component_walk.mark_done.Given as goal

abbrev pub invariant-loop-node : goal.invariant-loop-node
invariant-loop-node l = record {
  done : AreDone (take l.node-index l.nodes) l.on_cycle l.fn.stages.items l.fn.marks.items l.stages.items l.marks.items;
  left : (room : ℕ) → left room l.stages.items ≤ left room l.fn.stages.items;
}
