use Rattle.std.proofs.Common.{append_assoc}
use Rattle.std.proofs.Output.{has_written_of_eq}
use Rattle.refusal_causes.proofs.call_cause.CallCauseDisplay.fmt.Goals as goal

pub returns-in-ArgumentCount-clause-writes : goal.returns-in-ArgumentCount-clause-writes
returns-in-ArgumentCount-clause-writes g c =
    rw c.in-ArgumentCount.is (λ plain ok. has_written_of_eq _ _ _ _ _ (simp append_assoc) (c.write.ensures.writes plain ok))

pub returns-in-RealArgument-clause-writes : goal.returns-in-RealArgument-clause-writes
returns-in-RealArgument-clause-writes g c =
    rw c.in-RealArgument.is (λ plain ok. has_written_of_eq _ _ _ _ _ (simp append_assoc) (c.write-in-RealArgument.ensures.writes plain ok))

pub returns-in-ArgumentKind-clause-writes : goal.returns-in-ArgumentKind-clause-writes
returns-in-ArgumentKind-clause-writes g c =
    rw c.in-ArgumentKind.is (λ plain ok. has_written_of_eq _ _ _ _ _ (simp append_assoc) (c.write-in-ArgumentKind.ensures.writes plain ok))

pub returns-in-ArgumentBounds-clause-writes : goal.returns-in-ArgumentBounds-clause-writes
returns-in-ArgumentBounds-clause-writes g c =
    rw c.in-ArgumentBounds.is (λ plain ok. has_written_of_eq _ _ _ _ _ (simp append_assoc) (c.write-in-ArgumentBounds.ensures.writes plain ok))

pub returns-in-DummyTwice-clause-writes : goal.returns-in-DummyTwice-clause-writes
returns-in-DummyTwice-clause-writes g c =
    rw c.in-DummyTwice.is (λ plain ok. has_written_of_eq _ _ _ _ _ (simp append_assoc) (c.write-in-DummyTwice.ensures.writes plain ok))

pub returns-in-DummyStored-clause-writes : goal.returns-in-DummyStored-clause-writes
returns-in-DummyStored-clause-writes g c =
    rw c.in-DummyStored.is (λ plain ok. has_written_of_eq _ _ _ _ _ (simp append_assoc) (c.write-in-DummyStored.ensures.writes plain ok))
