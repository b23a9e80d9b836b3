use Rattle.std.proofs.Common.{◌≡◌, ◌<◌, ◌≤◌, ◌^◌, ℕ, false, true}
use Rattle.std.specs.Prelude.{IfSome}
use Rattle.closed_walks.specs.Graph.{edge_count}
use Rattle.dep_routing.specs.Touch.{touches_in}
use Rattle.const_prop.specs.Work.{IsSettling, is_waiting, work_left, no_line, no_piece}
use Rattle.const_prop.proofs.Going.{IsBefore, numbers_left}
use Rattle.const_prop.proofs.work.Work.sweep.Given as goal

abbrev pub invariant-sweep : goal.invariant-sweep
invariant-sweep g l = record {
  settling : IsSettling l.s.program.now l.s.flow.now l.s.classes.now (touches_in l.s.touch.now) l.s.lines.now no_line no_piece l.self;
  bounded : work_left l.s.flow.now l.s.lines.now.lines l.self ≤ work_left l.s.flow.now l.s.lines.now.lines l.fn.self;
  less : l.some ≡ true → work_left l.s.flow.now l.s.lines.now.lines l.self < work_left l.s.flow.now l.s.lines.now.lines l.fn.self;
  next : IfSome l.next (λ m. (m < edge_count l.s.flow.now.graph) × (is_waiting l.self m ≡ true));
  few : IfSome l.next (λ m. m < 2 ^ 31);
  rests : l.some ≡ false → (e : ℕ) → e < edge_count l.s.flow.now.graph → IsBefore l.next e → is_waiting l.self e ≡ false;
}

abbrev pub decreases-sweep : goal.decreases-sweep
decreases-sweep g l = numbers_left (edge_count l.s.flow.now.graph) l.next
