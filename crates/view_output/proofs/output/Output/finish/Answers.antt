use Rattle.view_output.proofs.Pieces.{told_all}
use Rattle.view_output.proofs.output.Output.finish.Goals as goal

pub returns : goal.returns
returns g c = told_all g.K.Sink.got c.args.self.now (record { buffer = c.write_out.new.self; sink = c.write_out.new.sink }) c.in_ok-write_out.ensures.all
