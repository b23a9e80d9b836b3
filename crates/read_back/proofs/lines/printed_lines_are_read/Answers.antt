use Rattle.read_back.proofs.PrintedRead.{printed_read}
use Rattle.read_back.proofs.lines.printed_lines_are_read.Goals as goal

pub returns : goal.returns
returns c = printed_read
