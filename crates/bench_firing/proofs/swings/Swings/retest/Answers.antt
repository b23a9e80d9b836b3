use Rattle.std.proofs.Common.{◌*◌, ◌<◌, List, ℕ, All, sym, subst}
use Rattle.firing.specs.Marks.{DifferAt}
use Rattle.bench_firing.specs.SwingLaws.{wakes_other}
use Rattle.bench_firing.specs.Swinging.{is_ready}
use Rattle.bench_firing.specs.SwingsView.{pairs_of}
use Rattle.bench_firing.proofs.swings.Swings.retest.Goals as goal

pub retest_fired-requires-clause-woken : goal.retest_fired-requires-clause-woken
retest_fired-requires-clause-woken c =
    subst (λ (nodes : List ℕ). All (λ j. j < 2 * c.args.self.now.count) nodes) (sym c.requires.woken) ((wakes_other (pairs_of c.args.self.now) c.args.self.now.even_has.items c.args.k c.requires.node).are_nodes)

pub returns-then-self-clause-marks : goal.returns-then-self-clause-marks
returns-then-self-clause-marks c = λ kept before are differ.
    c.retest_fired.ensures.marks before are (subst (λ (nodes : List ℕ). DifferAt (2 * c.args.self.now.count) c.args.k nodes before (is_ready (pairs_of c.args.self.now) c.args.self.now.even_has.items)) (sym c.requires.woken) differ)
