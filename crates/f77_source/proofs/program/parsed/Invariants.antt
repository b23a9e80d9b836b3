use Rattle.f77_source.proofs.Statements.{AreRead}
use Rattle.f77_source.proofs.program.parsed.Given as goal

abbrev pub invariant-loop-raw : goal.invariant-loop-raw
invariant-loop-raw l = AreRead l.raw-items l.raw-index l.stmts
