use Rattle.std.proofs.Common.{ap, ◌∙◌, List}
use Rattle.std.specs.Prelude.{bytes_eq}
use Rattle.indexmap.specs.IndexMap.{get}
use Rattle.f77_tree.specs.declared.declarations.Decl.{Decl}
use Rattle.layout_rules.specs.Faults.{answer_or, first_answer}
use Rattle.layout_rules.specs.Declarations.{dims_told}
use Rattle.layout_rules.proofs.FirstLine.{first_answer-flat_more}
use Rattle.declared_names.proofs.declarations.keep_dims_in_common.Goals as goal

pub loop-part-preserved : goal.loop-part-preserved
loop-part-preserved c = λ name.
    c.in_ok-keep_dims.ensures name
    ∙ ap (λ (decls : List Decl). answer_or (get bytes_eq c.loop-part.dims name) (first_answer (dims_told name) decls)) c.as_slice.ensures.items
    ∙ ap (λ kept. answer_or kept (first_answer (dims_told name) c.part-item.result.decls)) (c.loop-part.invariant name)
    ∙ first_answer-flat_more (dims_told name) (λ part. part.decls) (get bytes_eq c.args.dims.now name) c.args.parts.now c.loop-part.part-index c.part-item.result c.loop-part-test.true c.part-item.is
