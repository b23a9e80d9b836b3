use Rattle.flat_programs.specs.Text.{text}
use Rattle.read_back.specs.SourceStatements.{statements_read}
use Rattle.read_back.proofs.SourceStatements.{has_statements}
use Rattle.read_back.proofs.programs.printed_programs_have_their_statements.Goals as goal

pub returns : goal.returns
returns c = λ q flat given. has_statements (text q flat) (statements_read q flat) (c.printed_programs_are_read_by_statements.ensures q flat given)
