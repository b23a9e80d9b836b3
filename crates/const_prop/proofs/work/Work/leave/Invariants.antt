use Rattle.std.proofs.Common.{◌≡◌, ◌≤◌, ◌⊎◌, true}
use Rattle.dep_routing.specs.Touch.{touches_in}
use Rattle.const_prop.specs.Closed.{IsReady}
use Rattle.const_prop.specs.Work.{so_far, is_waiting, work_left, IsSeenFor, IsSettling, no_line, this_piece}
use Rattle.const_prop.proofs.Leaving.{Among}
use Rattle.const_prop.proofs.work.Work.leave.Given as goal

abbrev pub invariant-loop-line : goal.invariant-loop-line
invariant-loop-line g l = record {
  settling : IsSettling l.s.program.now l.s.flow.now l.s.classes.now (touches_in l.s.touch.now) l.s.lines.now no_line (this_piece l.edge) l.self;
  ready : IsReady l.s.flow.now (touches_in l.s.touch.now) l.s.lines.now.lines (so_far l.self) l.edge;
  bounded : work_left l.s.flow.now l.s.lines.now.lines l.self ≤ work_left l.s.flow.now l.s.lines.now.lines l.fn.self;
  seen : (is_waiting l.self l.edge ≡ true) ⊎ IsSeenFor l.s.program.now l.s.flow.now l.s.classes.now (touches_in l.s.touch.now) l.s.lines.now (Among l.line-items l.line-index) (so_far l.self) l.edge;
}
