use Rattle.rewritten_texts.proofs.ReadRuns.{read_alike}
use Rattle.rewritten_texts.proofs.runs.rewritten_texts_print_alike.Goals as goal

pub returns : goal.returns
returns c = read_alike c.rewritten_texts_are_read_back.ensures c.rewritten_programs_print_alike.ensures.alike
