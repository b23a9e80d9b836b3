use Rattle.f77_expr.proofs.Pieces.{piece_spelled, no_apostrophe, brackets_close}
use Rattle.f77_expr.proofs.laws.piece_of_reading.Goals as goal

-- src/laws.rt:18:1
pub returns-clause-whole : goal.returns-clause-whole
returns-clause-whole c = piece_spelled

-- src/laws.rt:18:1
pub returns-clause-apostrophes : goal.returns-clause-apostrophes
returns-clause-apostrophes c = no_apostrophe

-- src/laws.rt:18:1
pub returns-clause-brackets : goal.returns-clause-brackets
returns-clause-brackets c = brackets_close
