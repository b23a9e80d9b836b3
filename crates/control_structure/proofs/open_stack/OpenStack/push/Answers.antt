use Rattle.std.proofs.Common.{arith}
use Rattle.std.proofs.lemmas.List.{length-reverse}
use Rattle.control_structure.specs.declared.open_stack.Entry.{Entry}
use Rattle.control_structure.proofs.OpenCounts.{AreCounted-alike, count-le}
use Rattle.control_structure.proofs.open_stack.OpenStack.push.Goals as goal

pub overflow_add-index_mut : goal.overflow_add-index_mut
overflow_add-index_mut c =
    let are = AreCounted-alike _ c.self.inside.loops.items c.make_room.new.table.items c.in_ok-make_room-in-Loop.ensures.entries c.self.invariant in
    let le = count-le _ c.make_room.new.table.items c.in-Loop.label c.index_mut.result.now c.in_ok-make_room-in-Loop.ensures.within c.index_mut.ensures.value are in
    omega (arith, le, length-reverse {A = Entry} c.self.inside.entries.items, c.self.inside.entries.small, c.self.inside.entries.ok)
