use Rattle.operation_lists.proofs.ListLemmas.{OnOk-then}
use Rattle.operation_lists.proofs.operators.operate.Goals as goal

pub returns-in-None-clause-can : goal.returns-in-None-clause-can
returns-in-None-clause-can c = OnOk-then c.push_operation.result (λ next p all. next p all c.requires.arity) c.push_operation.ensures.can
