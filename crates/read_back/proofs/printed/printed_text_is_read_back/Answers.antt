use Rattle.read_back.proofs.ReadPrograms.{read_back}
use Rattle.read_back.proofs.printed.printed_text_is_read_back.Goals as goal

pub returns : goal.returns
returns c = λ p flat checked is dialect.
    let given = c.printed_programs_can_be_read.ensures p flat is in
    let stand = c.executables_stand_in_order.ensures in
    read_back p flat given.text is checked stand.first stand.only (c.printed_programs_have_their_statements.ensures p flat given.text) dialect
