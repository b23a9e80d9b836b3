use Rattle.std.proofs.Common.{◌≡◌, ◌++◌, drop}
use Rattle.refusal_reports.specs.Statements.{parsed}
use Rattle.refusal_reports.proofs.statements.parsed.Given as goal

abbrev pub invariant-loop-raw : goal.invariant-loop-raw
invariant-loop-raw l = l.stmts.items ++ parsed (drop l.raw-index l.raws) ≡ parsed l.raws
