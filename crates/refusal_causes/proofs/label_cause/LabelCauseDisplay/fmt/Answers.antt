use Rattle.std.proofs.Common.{append_assoc}
use Rattle.std.proofs.Output.{has_written_of_eq}
use Rattle.refusal_causes.proofs.label_cause.LabelCauseDisplay.fmt.Goals as goal

pub returns-in-LabelTwice-clause-writes : goal.returns-in-LabelTwice-clause-writes
returns-in-LabelTwice-clause-writes g c =
    rw c.in-LabelTwice.is (λ plain ok. has_written_of_eq _ _ _ _ _ (simp append_assoc) (c.write.ensures.writes plain ok))
