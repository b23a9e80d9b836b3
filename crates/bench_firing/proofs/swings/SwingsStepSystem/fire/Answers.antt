use Rattle.std.proofs.Common.{◌*◌, [], ◌∷◌, refl, sym, ap, subst, ◌∙◌}
use Rattle.firing.specs.Marks.{AreMarks}
use Rattle.firing.specs.Moves.{CanFire}
use Rattle.firing.proofs.ChosenLemmas.{woken_differ}
use Rattle.bench_firing.specs.SwingLaws.{swing_laws, wakes_other}
use Rattle.bench_firing.specs.Swinging.{has_pairs, is_ready, other_node, swing_moves}
use Rattle.bench_firing.specs.SwingsView.{Unmarked, pairs_of}
use Rattle.bench_firing.proofs.swings.SwingsStepSystem.fire.Goals as goal

pub returns-clause-keeps : goal.returns-clause-keeps
returns-clause-keeps c = λ keeps.
    let s = c.args.self.now in
    let pairs = pairs_of s in
    let m = s.even_has.items in
    let k = c.args.k in
    let can : CanFire (swing_moves pairs) m k = record { going = refl; node = c.requires.node; ready = c.requires.ready } in
    let differ = woken_differ (has_pairs pairs) (swing_moves pairs) (swing_laws pairs) m c.requires.sound k can refl (other_node k ∷ []) (wakes_other pairs m k c.requires.node) in
    let rest = c.retest.ensures.rest in
    record {
      kept = ap (λ (u : Unmarked). u.kept) rest ∙ keeps.kept;
      marks = subst (λ (u : Unmarked). AreMarks (2 * u.pairs.count) (is_ready u.pairs u.even_has) c.retest.new.self.set) (sym rest) (c.retest.ensures.marks keeps.kept (is_ready pairs m) keeps.marks differ);
    }
