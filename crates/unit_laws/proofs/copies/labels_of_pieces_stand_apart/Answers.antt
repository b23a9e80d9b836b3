use Rattle.unit_laws.proofs.PieceLabels.{piece-labels, number-apart, number-above, number-within, whole-labels}
use Rattle.unit_laws.proofs.copies.labels_of_pieces_stand_apart.Goals as goal

pub returns : goal.returns
returns c = record { pieces = piece-labels; apart = number-apart; above = number-above; within = number-within; whole = whole-labels }
