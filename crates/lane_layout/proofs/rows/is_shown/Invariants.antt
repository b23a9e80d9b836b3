use Rattle.std.proofs.Common.{◌≡◌, drop, map}
use Rattle.lane_layout.specs.Rows.{holds, line_of}
use Rattle.lane_layout.proofs.rows.is_shown.Given as goal

abbrev pub invariant-loop-statement : goal.invariant-loop-statement
invariant-loop-statement l = holds l.line (map line_of (drop l.statement-index l.statements)) ≡ holds l.line (map line_of l.statements)
