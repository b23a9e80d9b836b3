use Rattle.unit_laws.proofs.Settled.{widths_settle, labels_settle}
use Rattle.unit_laws.proofs.SettledCopies.{copies_settle}
use Rattle.unit_laws.proofs.copies.copies_settle.Goals as goal

pub returns : goal.returns
returns c = record { statements = widths_settle; labels = labels_settle; copies = copies_settle }
