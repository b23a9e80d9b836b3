use Rattle.view_output.proofs.Pieces.{told_piece}
use Rattle.view_output.proofs.output.Output.bytes.Goals as goal

pub returns : goal.returns
returns g c = told_piece g.K.Sink.got c.args.self.now (record { buffer = c.append.new.self; sink = c.append.new.sink }) c.args.bytes.now c.in_ok-append.ensures.text
