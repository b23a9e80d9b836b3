use Rattle.std.proofs.Common.{append_assoc}
use Rattle.std.proofs.Output.{has_written_of_eq}
use Rattle.kind_causes.proofs.kind_cause.KindCauseDisplay.fmt.Goals as goal

pub returns-in-RealName-clause-writes : goal.returns-in-RealName-clause-writes
returns-in-RealName-clause-writes g c =
    rw c.in-RealName.is c.write.ensures.writes

pub returns-in-TypedTwice-clause-writes : goal.returns-in-TypedTwice-clause-writes
returns-in-TypedTwice-clause-writes g c =
    rw c.in-TypedTwice.is c.write-in-TypedTwice.ensures.writes

pub returns-in-SubscriptCount-clause-writes : goal.returns-in-SubscriptCount-clause-writes
returns-in-SubscriptCount-clause-writes g c =
    rw c.in-SubscriptCount.is (λ plain ok. has_written_of_eq _ _ _ _ _ (simp append_assoc) (c.write-in-SubscriptCount.ensures.writes plain ok))

pub returns-in-NoFunction-clause-writes : goal.returns-in-NoFunction-clause-writes
returns-in-NoFunction-clause-writes g c =
    rw c.in-NoFunction.is c.write-in-NoFunction.ensures.writes

pub returns-in-FunctionAssigned-clause-writes : goal.returns-in-FunctionAssigned-clause-writes
returns-in-FunctionAssigned-clause-writes g c =
    rw c.in-FunctionAssigned.is c.write-in-FunctionAssigned.ensures.writes
