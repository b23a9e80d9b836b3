use Rattle.std.proofs.Common.{◌*◌}
use Rattle.flat_programs.specs.Lines.{columns}
use Rattle.flat_programs.proofs.LineLemmas.{rest_of_line}
use Rattle.flat_programs.proofs.lines.line_end.Goals as goal

pub returns-then-text-line-clause-characters : goal.returns-then-text-line-clause-characters
returns-then-text-line-clause-characters c = rest_of_line c.args.text.now (columns * c.args.line) c.if-text-line.true
