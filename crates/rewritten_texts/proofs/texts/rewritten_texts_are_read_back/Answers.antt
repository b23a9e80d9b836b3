use Rattle.rewritten_texts.proofs.RewrittenTexts.{text_read_back}
use Rattle.rewritten_texts.proofs.texts.rewritten_texts_are_read_back.Goals as goal

pub returns : goal.returns
returns c = text_read_back c.rewritten_programs_have_text.ensures c.rewritten_programs_keep_their_dialect.ensures c.printed_text_is_read_back.ensures
