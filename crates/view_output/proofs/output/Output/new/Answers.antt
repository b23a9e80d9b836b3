use Rattle.std.proofs.Common.{refl}
use Rattle.view_output.proofs.Pieces.{told_none}
use Rattle.view_output.proofs.output.Output.new.Goals as goal

pub returns : goal.returns
returns g c = told_none g.K.Sink.got c.args.sink (record { buffer = c.in_ok-new.field-0; sink = c.args.sink }) refl c.in_ok-new.ensures
