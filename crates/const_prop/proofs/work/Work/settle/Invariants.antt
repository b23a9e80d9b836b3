use Rattle.dep_routing.specs.Touch.{touches_in}
use Rattle.const_prop.specs.Work.{IsSettling, work_left, no_line, no_piece}
use Rattle.const_prop.proofs.work.Work.settle.Given as goal

abbrev pub invariant-settling : goal.invariant-settling
invariant-settling g l = IsSettling l.s.program.now l.s.flow.now l.s.classes.now (touches_in l.s.touch.now) l.s.lines.now no_line no_piece l.self

abbrev pub decreases-settling : goal.decreases-settling
decreases-settling g l = work_left l.s.flow.now l.s.lines.now.lines l.self
