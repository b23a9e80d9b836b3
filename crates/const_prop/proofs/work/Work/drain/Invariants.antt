use Rattle.std.proofs.Common.{◌<◌}
use Rattle.dep_routing.specs.Touch.{touches_in}
use Rattle.const_prop.specs.Work.{IsSettling, work_left, no_line, no_piece}
use Rattle.const_prop.proofs.work.Work.drain.Given as goal

abbrev pub invariant-again : goal.invariant-again
invariant-again g l = record {
  settling : IsSettling l.s.program.now l.s.flow.now l.s.classes.now (touches_in l.s.touch.now) l.s.lines.now no_line no_piece l.self;
  less : work_left l.s.flow.now l.s.lines.now.lines l.self < work_left l.s.flow.now l.s.lines.now.lines l.fn.self;
}

abbrev pub decreases-again : goal.decreases-again
decreases-again g l = work_left l.s.flow.now l.s.lines.now.lines l.self
