use Rattle.std.proofs.Common.{◌≡◌, ◌<◌, ℕ, true}
use Rattle.class_set.specs.ClassSet.{holds}
use Rattle.dep_routing.specs.Touch.{touches_in}
use Rattle.const_prop.specs.Closed.{KindAllows, led_to}
use Rattle.const_prop.specs.Known.{AtMost}
use Rattle.const_prop.specs.Work.{Rises, IsFound, so_far}
use Rattle.const_prop.proofs.work.Work.pass.Given as goal

abbrev pub invariant-ways : goal.invariant-ways
invariant-ways g l = record {
  rises : Rises l.s.flow.now l.s.lines.now.lines l.fn.self l.self;
  found : IsFound l.s.program.now l.s.flow.now l.s.classes.now (touches_in l.s.touch.now) l.s.lines.now (so_far l.self);
  passed : (k : ℕ) → k < l.i → KindAllows l.kind l.decision k → (line : ℕ) → holds l.lines line ≡ true → AtMost ((so_far l.fn.self).value line l.edge) ((so_far l.self).value line (led_to l.s.flow.now l.s.lines.now l.edge line k));
}
