use Rattle.std.proofs.Common.{◌<◌, sym, subst}
use Rattle.firing.proofs.ChosenLemmas.{marked_count, marked_place}
use Rattle.bench_firing.specs.Swinging.{swing_moves}
use Rattle.bench_firing.specs.SwingsView.{pairs_of}
use Rattle.bench_firing.proofs.swings.SwingsStepSystem.ready_at.Goals as goal

pub at-requires : goal.at-requires
at-requires c =
    let all = marked_count (swing_moves (pairs_of c.args.self.now)) c.args.self.now.even_has.items c.requires.keeps.marks in
    subst (λ n. c.args.nth < n) (sym all) c.requires.some

pub returns : goal.returns
returns c = marked_place (swing_moves (pairs_of c.args.self.now)) c.args.self.now.even_has.items c.requires.keeps.marks c.args.nth c.at.result c.at.ensures
