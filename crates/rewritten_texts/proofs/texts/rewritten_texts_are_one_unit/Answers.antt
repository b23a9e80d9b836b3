use Rattle.rewritten_texts.proofs.RewrittenTexts.{text_one_unit}
use Rattle.rewritten_texts.proofs.texts.rewritten_texts_are_one_unit.Goals as goal

pub returns : goal.returns
returns c = text_one_unit c.executables_tell_statements.ensures.one c.shared_programs_are_flat.ensures c.shared_statements_are_flat.ensures c.executables_tell_statements.ensures.proper c.printed_programs_have_their_statements.ensures c.printed_programs_are_one_unit.ensures.unit c.printed_programs_are_one_unit.ensures.plain
