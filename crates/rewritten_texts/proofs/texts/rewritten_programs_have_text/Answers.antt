use Rattle.rewritten_texts.proofs.RewrittenTexts.{rewritten_text}
use Rattle.rewritten_texts.proofs.texts.rewritten_programs_have_text.Goals as goal

pub returns : goal.returns
returns c = rewritten_text c.executables_tell_statements.ensures.one c.shared_programs_are_flat.ensures c.shared_statements_are_flat.ensures
