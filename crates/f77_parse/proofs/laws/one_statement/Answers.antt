use Rattle.f77_parse.proofs.FormsReadsWhole.{one_written_statement}
use Rattle.f77_parse.proofs.laws.one_statement.Goals as goal

-- src/laws.rt:9:1
pub returns : goal.returns
returns c = one_written_statement
