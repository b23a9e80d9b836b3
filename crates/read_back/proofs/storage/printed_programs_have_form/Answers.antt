use Rattle.read_back.proofs.ReadPrograms.{form_again}
use Rattle.read_back.proofs.storage.printed_programs_have_form.Goals as goal

pub returns : goal.returns
returns c = λ p flat is. form_again p flat (c.printed_programs_can_be_read.ensures p flat is).text is
