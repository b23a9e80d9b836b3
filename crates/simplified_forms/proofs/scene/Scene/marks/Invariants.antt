use Rattle.std.proofs.Common.{◌≡◌, ◌<◌, take, map, length, All}
use Rattle.const_prop.specs.Table.{knowns_of}
use Rattle.simplified_forms.specs.Plans.{mark_in}
use Rattle.simplified_forms.proofs.scene.Scene.marks.Given as goal

abbrev pub invariant-loop-target : goal.invariant-loop-target
invariant-loop-target g l = record {
  targets : All (λ k. k < length l.self.p.now.execs) l.target-items;
  marks : l.all ≡ map (mark_in l.self.p.now (knowns_of l.self.t.now) l.self.plan.now) (take l.target-index l.target-items);
}
