use Rattle.operation_effects.proofs.ArraySizes.{placed_name}
use Rattle.operation_effects.proofs.tasks.word_of.Goals as goal

pub returns-clause-inside : goal.returns-clause-inside
returns-clause-inside c = (placed_name c.args.p.now.names c.args.p.now.words c.args.name c.at.result.now c.requires.places c.requires.name c.at.ensures.lookup).word
