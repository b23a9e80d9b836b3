use Rattle.std.proofs.Common.{sym, subst}
use Rattle.firing.specs.Marks.{DifferAt}
use Rattle.sample_nets.specs.Counting.{is_ready, woken_by}
use Rattle.sample_nets.proofs.counters.Counters.retest.Goals as goal

pub returns-then-self-clause-marks : goal.returns-then-self-clause-marks
returns-then-self-clause-marks c = λ kept before are differ.
    c.retest_fired.ensures.marks before are (subst (λ j. DifferAt 4 c.args.k (woken_by j) before (is_ready c.args.self.now.counts)) (sym c.requires.fired) differ)
