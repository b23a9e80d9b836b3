use Rattle.simplified_laws.proofs.FlatResult.{simplified-flat}
use Rattle.simplified_laws.proofs.flat_laws.simplified_programs_are_flat.Goals as goal

pub returns : goal.returns
returns c = simplified-flat c.simplified_statements_are_flat.ensures c.known_values_are_words.ensures c.flat_statements_make_programs.ensures.program
