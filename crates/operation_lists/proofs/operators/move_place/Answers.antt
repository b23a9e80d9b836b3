use Rattle.operation_lists.proofs.ListLemmas.{OnOk-then}
use Rattle.operation_lists.proofs.operators.move_place.Goals as goal

pub returns-clause-can : goal.returns-clause-can
returns-clause-can c = OnOk-then c.operate-2.result (λ next p all. next p (c.in_ok-offset.ensures.can p all)) c.operate-2.ensures.can
