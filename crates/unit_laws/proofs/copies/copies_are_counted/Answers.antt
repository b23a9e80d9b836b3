use Rattle.unit_laws.proofs.CopyLabels.{copy_labels}
use Rattle.unit_laws.proofs.CopyWidths.{copy_length, whole_length}
use Rattle.unit_laws.proofs.copies.copies_are_counted.Goals as goal

pub returns : goal.returns
returns c = record { statements = copy_length; labels = copy_labels; whole = whole_length }
