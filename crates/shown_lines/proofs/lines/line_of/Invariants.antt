use Rattle.std.proofs.Common.{◌≡◌}
use Rattle.shown_lines.specs.Lines.{after_lines}
use Rattle.shown_lines.proofs.lines.line_of.Given as goal

abbrev pub invariant-loop-k : goal.invariant-loop-k
invariant-loop-k l = l.rest ≡ after_lines l.k l.text
