use Rattle.flat_programs.proofs.FlatRecovered.{recovered-is}
use Rattle.flat_programs.proofs.FlatProper.{only-one, proper-of}
use Rattle.flat_programs.proofs.laws.executables_tell_statements.Goals as goal

pub returns-clause-recovered : goal.returns-clause-recovered
returns-clause-recovered c = recovered-is

pub returns-clause-one : goal.returns-clause-one
returns-clause-one c = only-one

pub returns-clause-proper : goal.returns-clause-proper
returns-clause-proper c p flat right of = proper-of p flat of right
