use Rattle.std.proofs.Common.{arith}
use Rattle.control_structure.proofs.OpenCounts.{AreCounted-popped, counted_top, top_within, AreCounted-unloop, AreCounted-unblock}
use Rattle.control_structure.proofs.open_stack.OpenStack.pop.Goals as goal

pub index_mut-requires : goal.index_mut-requires
index_mut-requires c =
    let less = top_within c.in_ok-entry.entry _ c.self.inside.loops.items c.in-Loop.label c.in-Loop.is (AreCounted-popped _ _ _ _ c.in_ok-entry.ensures.items c.self.invariant) in
    omega (arith, less, c.self.inside.loops.ok.0)

pub overflow_sub-index_mut : goal.overflow_sub-index_mut
overflow_sub-index_mut c = counted_top c.in_ok-entry.entry _ c.self.inside.loops.items c.in-Loop.label c.index_mut.result.now c.index_mut.ensures.value c.in-Loop.is (AreCounted-popped _ _ _ _ c.in_ok-entry.ensures.items c.self.invariant)

pub invariant_of-self-in-Loop : goal.invariant_of-self-in-Loop
invariant_of-self-in-Loop c = AreCounted-unloop c.in_ok-entry.entry _ c.self.inside.loops.items c.in-Loop.label c.index_mut.result.now c.index_mut.ensures.value c.in-Loop.is (AreCounted-popped _ _ _ _ c.in_ok-entry.ensures.items c.self.invariant)

pub invariant_of-self-in_default : goal.invariant_of-self-in_default
invariant_of-self-in_default c = AreCounted-unblock c.in_ok-entry.entry _ c.self.inside.loops.items c.in_default.field-0 c.in_default.is (AreCounted-popped _ _ _ _ c.in_ok-entry.ensures.items c.self.invariant)
