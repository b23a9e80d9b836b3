use Rattle.f77_tree.proofs.DialectLaws.{Apply-dialect, Read-dialect, value-never}
use Rattle.f77_tree.proofs.PlainRuns.{run-never}
use Rattle.f77_tree.proofs.expression_laws.dialects_settle_operators.Goals as goal

pub returns-clause-operations : goal.returns-clause-operations
returns-clause-operations c = Apply-dialect

pub returns-clause-reads : goal.returns-clause-reads
returns-clause-reads c = Read-dialect

pub returns-clause-plain : goal.returns-clause-plain
returns-clause-plain c = value-never

pub returns-clause-runs : goal.returns-clause-runs
returns-clause-runs c = λ p input n line has. run-never p input has n line
