use Rattle.f77_meaning.proofs.Words.{taken_if_ok}
use Rattle.f77_meaning.proofs.executing.value_of.Goals as goal

pub returns-clause-data : goal.returns-clause-data
returns-clause-data c =
    taken_if_ok c.args.names.now _ c.args.input.now.items c.args.taken c.next_word.result c.args.e.now c.evaluate.result c.requires.data c.next_word.ensures c.evaluate.ensures
