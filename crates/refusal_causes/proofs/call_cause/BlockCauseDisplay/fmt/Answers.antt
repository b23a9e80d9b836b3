use Rattle.std.proofs.Common.{append_assoc}
use Rattle.std.proofs.Output.{has_written_of_eq}
use Rattle.refusal_causes.proofs.call_cause.BlockCauseDisplay.fmt.Goals as goal

pub returns-in-BlockLength-clause-writes : goal.returns-in-BlockLength-clause-writes
returns-in-BlockLength-clause-writes g c =
    rw c.in-BlockLength.is (λ plain ok. has_written_of_eq _ _ _ _ _ (simp append_assoc) (c.write.ensures.writes plain ok))

pub returns-in-BlockMember-clause-writes : goal.returns-in-BlockMember-clause-writes
returns-in-BlockMember-clause-writes g c =
    rw c.in-BlockMember.is (λ plain ok. has_written_of_eq _ _ _ _ _ (simp append_assoc) (c.write-in-BlockMember.ensures.writes plain ok))
