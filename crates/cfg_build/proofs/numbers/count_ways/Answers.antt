use Rattle.std.proofs.Common.{◌+◌, ◌∙◌, ap}
use Rattle.cfg_build.specs.declared.parts.Target.TheVariants.{Start}
use Rattle.cfg_build.proofs.BuildingTables.{count-step}
use Rattle.cfg_build.proofs.numbers.count_ways.Goals as goal
use Rattle.std.proofs.Common.{arith}

pub get-count-requires : goal.get-count-requires
get-count-requires c = grind (arith, c.requires.targets c.loop-target.target-index Start c.loop-target-test.true)

pub set-requires : goal.set-requires
set-requires c = grind (arith, c.requires.targets c.loop-target.target-index Start c.loop-target-test.true)

pub loop-target-preserved : goal.loop-target-preserved
loop-target-preserved c =
    let i = c.loop-target.target-index in
    let outs = c.args.outs.now in
    record {
      room = λ execs room. c.set.ensures.room execs (c.loop-target.invariant.room execs room);
      within = λ target in'. c.set.ensures.within target (c.loop-target.invariant.within target in');
      counts = λ target.
          count-step outs i Start target c.loop-target.ways c.set.new.self _ c.loop-target-test.true (c.requires.others i Start c.loop-target-test.true)
          (c.loop-target.invariant.counts target)
          (λ other. c.set.ensures.here other ∙ ap (λ n. n + 1) c.get-count.ensures)
          c.set.ensures.others;
    }
