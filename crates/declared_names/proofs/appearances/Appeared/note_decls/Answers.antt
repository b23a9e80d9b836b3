use Rattle.std.proofs.Common.{ap, ◌∙◌}
use Rattle.declared_names.specs.declared.appearances.Appeared.{Appeared}
use Rattle.declared_names.specs.Noting.{noted}
use Rattle.layout_rules.proofs.NamesIn.{noted_more}
use Rattle.declared_names.proofs.appearances.Appeared.note_decls.Goals as goal

pub loop-decl-preserved : goal.loop-decl-preserved
loop-decl-preserved c =
    c.in_ok-note.ensures
    ∙ ap (λ (seen : Appeared). noted c.args.declared.now seen c.decl-item.result.name) c.loop-decl.invariant
    ∙ noted_more (noted c.args.declared.now) (λ item. item.name) c.args.self.now c.args.decls.now c.loop-decl.decl-index c.decl-item.result c.loop-decl-test.true c.decl-item.is
