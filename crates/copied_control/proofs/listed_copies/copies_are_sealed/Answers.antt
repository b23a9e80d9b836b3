use Rattle.copied_control.proofs.ClosedUnits.{accepted-closed}
use Rattle.copied_control.proofs.SealedCopies.{copy-closed, call-closed, passed-over}
use Rattle.copied_control.proofs.listed_copies.copies_are_sealed.Goals as goal

pub returns : goal.returns
returns c = record { accepted = accepted-closed; copies = copy-closed; called = call-closed; passed = passed-over }
