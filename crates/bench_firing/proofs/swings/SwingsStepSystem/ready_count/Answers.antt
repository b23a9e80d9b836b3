use Rattle.std.proofs.Common.{◌∙◌}
use Rattle.firing.proofs.ChosenLemmas.{marked_count}
use Rattle.bench_firing.specs.Swinging.{swing_moves}
use Rattle.bench_firing.specs.SwingsView.{pairs_of}
use Rattle.bench_firing.proofs.swings.SwingsStepSystem.ready_count.Goals as goal

pub returns : goal.returns
returns c = c.len.ensures ∙ marked_count (swing_moves (pairs_of c.args.self.now)) c.args.self.now.even_has.items c.requires.keeps.marks
