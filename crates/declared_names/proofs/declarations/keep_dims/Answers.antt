use Rattle.std.proofs.Common.{ap, ◌∙◌}
use Rattle.std.specs.Prelude.{bytes_eq}
use Rattle.indexmap.specs.IndexMap.{get}
use Rattle.layout_rules.specs.Faults.{answer_or}
use Rattle.layout_rules.specs.Declarations.{dims_told}
use Rattle.layout_rules.proofs.FirstLine.{first_answer-more}
use Rattle.declared_names.proofs.declarations.keep_dims.Goals as goal

pub loop-decl-preserved : goal.loop-decl-preserved
loop-decl-preserved c = λ name.
    c.in_ok-keep_dims_of.ensures name
    ∙ ap (λ kept. answer_or kept (dims_told name c.decl-item.result)) (c.loop-decl.invariant name)
    ∙ first_answer-more (dims_told name) (get bytes_eq c.args.dims.now name) c.args.decls.now c.loop-decl.decl-index c.decl-item.result c.loop-decl-test.true c.decl-item.is
