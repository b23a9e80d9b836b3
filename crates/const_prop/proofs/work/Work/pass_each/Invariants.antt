use Rattle.std.proofs.Common.{◌≡◌, ◌<◌, ◌*◌, ℕ, true}
use Rattle.std.specs.Prelude.{IfSome}
use Rattle.class_set.specs.ClassSet.{holds}
use Rattle.dep_routing.specs.Routing.{next_at}
use Rattle.dep_routing.specs.Touch.{touches_in}
use Rattle.const_prop.specs.Known.{AtMost}
use Rattle.const_prop.specs.Work.{Rises, IsFound, so_far}
use Rattle.const_prop.proofs.Going.{IsBefore, IsMember, numbers_left}
use Rattle.const_prop.proofs.work.Work.pass_each.Given as goal

abbrev pub invariant-each : goal.invariant-each
invariant-each g l = record {
  rises : Rises l.s.flow.now l.s.lines.now.lines l.fn.self l.self;
  found : IsFound l.s.program.now l.s.flow.now l.s.classes.now (touches_in l.s.touch.now) l.s.lines.now (so_far l.self);
  member : IsMember (holds l.lines) l.next;
  within : IfSome l.next (λ m. m < 64 * g.row.W);
  passed : (k : ℕ) → holds l.lines k ≡ true → IsBefore l.next k → AtMost ((so_far l.fn.self).value k l.edge) ((so_far l.self).value k (next_at l.s.lines.now k l.out));
}

abbrev pub decreases-each : goal.decreases-each
decreases-each g l = numbers_left (64 * g.row.W) l.next
