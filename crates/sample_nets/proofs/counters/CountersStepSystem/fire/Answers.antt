use Rattle.std.proofs.Common.{◌≡◌, true, sym, ap, subst, ◌∙◌}
use Rattle.firing.specs.Marks.{AreMarks, DifferAt}
use Rattle.firing.specs.Moves.{CanFire}
use Rattle.sample_nets.specs.Counting.{after_node, counter_moves, is_ready, woken_by}
use Rattle.sample_nets.specs.CountersView.{Unmarked}
use Rattle.sample_nets.proofs.WakeLemmas.{marks_next}
use Rattle.sample_nets.proofs.counters.CountersStepSystem.fire.Goals as goal

pub returns-clause-keeps : goal.returns-clause-keeps
returns-clause-keeps c = λ keeps.
    let m = c.args.self.now.counts in
    let k = c.args.k in
    let kept : c.spell.new.self.kept ≡ true = c.spell.ensures.kept ∙ keeps.kept in
    let after : c.fire-fired.new.self ≡ after_node m k = c.fire-fired.ensures.after ∙ ap (λ x. after_node x k) c.spell.ensures.counts in
    let same : c.retest.new.self.counts ≡ after_node m k = ap (λ (u : Unmarked). u.counts) c.retest.ensures.rest ∙ after in
    let can : CanFire counter_moves m k = record { going = c.requires.going; node = c.requires.node; ready = c.requires.ready } in
    record {
      kept = ap (λ (u : Unmarked). u.kept) c.retest.ensures.rest ∙ kept;
      marks = λ none.
          subst (λ x. AreMarks 4 (is_ready x) c.retest.new.self.set) (sym same)
          (marks_next m k c.requires.sound can (ap counter_moves.trap (sym same) ∙ none) c.args.self.now.set c.retest.new.self.set (keeps.marks c.requires.going)
          (λ before are differ.
          subst (λ x. AreMarks 4 (is_ready x) c.retest.new.self.set) after
          (c.retest.ensures.marks kept before
          (subst (AreMarks 4 before) (sym c.spell.ensures.set) are)
          (subst (λ x. DifferAt 4 k (woken_by k) before (is_ready x)) (sym after) differ))));
    }
