use Rattle.rewritten_texts.proofs.AgainRuns.{again_alike}
use Rattle.rewritten_texts.proofs.runs.programs_read_again_print_alike.Goals as goal

pub returns : goal.returns
returns c = again_alike
