use Rattle.std.proofs.Common.{ap, sym, ◌∙◌, true≢false}
use Rattle.f77_tree.specs.Value.{kind_in}
use Rattle.operation_effects.proofs.TaskShapes.{loads_at, loads_by_place}
use Rattle.operation_effects.proofs.tasks.load_of.Goals as goal

pub returns-else-is_empty-clause-task : goal.returns-else-is_empty-clause-task
returns-else-is_empty-clause-task c =
    loads_at c.args.p.now.names c.args.access.now.name c.word_of-else-is_empty.result c.words_of.result c.word_of-else-is_empty.ensures.word c.words_of.ensures.size c.args.access.now.subs c.at.result.now.kind (λ none. true≢false (sym (c.is_empty.ensures.1 none) ∙ c.if-is_empty.false)) (ap kind_in (sym c.at.ensures.item))

pub returns-else-is_empty-clause-operands : goal.returns-else-is_empty-clause-operands
returns-else-is_empty-clause-operands c = λ count has. loads_by_place c.args.access.now.name c.args.access.now.subs count (λ none. true≢false (sym (c.is_empty.ensures.1 none) ∙ c.if-is_empty.false)) has
