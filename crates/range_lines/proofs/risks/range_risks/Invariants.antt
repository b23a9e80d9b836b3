use Rattle.range_lines.specs.RangeRisks.{MayTrapInRuns}
use Rattle.range_lines.specs.Ranges.{IsCurrent}
use Rattle.range_lines.proofs.RiskFlags.{TellRisks}
use Rattle.range_lines.proofs.risks.range_risks.Given as goal

abbrev pub invariant-loop-k : goal.invariant-loop-k
invariant-loop-k g l = record {
  risks : TellRisks (MayTrapInRuns l.p l.c) l.k l.flags.items;
  current : IsCurrent l.p l.c l.k l.current.items;
}
