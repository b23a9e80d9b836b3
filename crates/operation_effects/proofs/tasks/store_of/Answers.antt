use Rattle.std.proofs.Common.{sym, ◌∙◌, true≢false}
use Rattle.operation_effects.proofs.TaskShapes.{stores_at, stores_by_place}
use Rattle.operation_effects.proofs.tasks.store_of.Goals as goal

pub returns-else-is_empty-clause-task : goal.returns-else-is_empty-clause-task
returns-else-is_empty-clause-task c =
    stores_at c.args.p.now.names c.args.access.now.name c.word_of-else-is_empty.result c.words_of.result c.word_of-else-is_empty.ensures.word c.words_of.ensures.size c.args.access.now.subs (λ none. true≢false (sym (c.is_empty.ensures.1 none) ∙ c.if-is_empty.false))

pub returns-else-is_empty-clause-operands : goal.returns-else-is_empty-clause-operands
returns-else-is_empty-clause-operands c = λ count has. stores_by_place c.args.access.now.name c.args.access.now.subs count (λ none. true≢false (sym (c.is_empty.ensures.1 none) ∙ c.if-is_empty.false)) has
