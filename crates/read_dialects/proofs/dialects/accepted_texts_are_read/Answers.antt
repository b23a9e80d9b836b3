use Rattle.read_dialects.proofs.AcceptedTexts.{accepted-read}
use Rattle.read_dialects.proofs.dialects.accepted_texts_are_read.Goals as goal

pub returns : goal.returns
returns c = accepted-read
