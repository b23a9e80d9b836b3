use Rattle.std.proofs.Common.{All, sym, subst}
use Rattle.operation_lists.specs.CanPerform.{CanPerform}
use Rattle.operation_lists.proofs.ListLemmas.{All-last}
use Rattle.operation_lists.proofs.operations.push_operation.Goals as goal

pub returns-clause-can : goal.returns-clause-can
returns-clause-can c = λ p all can. subst (All (CanPerform p)) (sym c.in_ok-push.ensures.items) (All-last (CanPerform p) c.args.done.now.items _ all (record { work = can; few = c.requires.short }))
