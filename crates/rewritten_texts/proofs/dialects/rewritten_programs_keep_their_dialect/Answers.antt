use Rattle.rewritten_texts.proofs.RewrittenDialects.{rewritten_dialect}
use Rattle.rewritten_texts.proofs.dialects.rewritten_programs_keep_their_dialect.Goals as goal

pub returns : goal.returns
returns c = λ p checked s all is. rewritten_dialect c.executables_stand_in_order.ensures.first c.executables_stand_in_order.ensures.only checked p s all is
