use Rattle.std.proofs.Common.{ap, ◌∙◌}
use Rattle.declared_names.specs.declared.appearances.Appeared.{Appeared}
use Rattle.declared_names.specs.Noting.{noted}
use Rattle.layout_rules.proofs.NamesIn.{noted_more}
use Rattle.declared_names.proofs.appearances.Appeared.note_members.Goals as goal

pub loop-member-preserved : goal.loop-member-preserved
loop-member-preserved c =
    c.in_ok-note.ensures
    ∙ ap (λ (seen : Appeared). noted c.args.declared.now seen c.member-item.result.name) c.loop-member.invariant
    ∙ noted_more (noted c.args.declared.now) (λ item. item.name) c.args.self.now c.args.members.now c.loop-member.member-index c.member-item.result c.loop-member-test.true c.member-item.is
