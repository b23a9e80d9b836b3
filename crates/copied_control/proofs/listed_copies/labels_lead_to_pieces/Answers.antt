use Rattle.copied_control.proofs.LabelPlaces.{first-leads, last-leads, closed-leads}
use Rattle.copied_control.proofs.listed_copies.labels_lead_to_pieces.Goals as goal

pub returns : goal.returns
returns c = record { first = first-leads; last = last-leads; closed = closed-leads }
