use Rattle.std.proofs.Common.{◌≡◌, ◌-◌}
use Rattle.view_output.specs.Lines.{line_after}
use Rattle.view_output.proofs.lines.line_of.Given as goal

abbrev pub invariant-loop-skipped : goal.invariant-loop-skipped
invariant-loop-skipped l = line_after (l.number - l.skipped) l.rest ≡ line_after (l.number - 1) l.text
