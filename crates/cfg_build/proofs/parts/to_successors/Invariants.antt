use Rattle.std.proofs.Common.{◌≡◌, take, map}
use Rattle.cfg_build.specs.declared.parts.Target.TheVariants.{First}
use Rattle.cfg_build.proofs.parts.to_successors.Given as goal

abbrev pub invariant-loop-head : goal.invariant-loop-head
invariant-loop-head l = l.outs ≡ map First (take l.head-index l.head-items)
