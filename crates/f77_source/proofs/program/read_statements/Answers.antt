use Rattle.f77_source.proofs.Lines.{accepted}
use Rattle.f77_source.proofs.program.read_statements.Goals as goal

pub parsed-requires-clause-accepted : goal.parsed-requires-clause-accepted
parsed-requires-clause-accepted c = accepted c.args.bytes.now c.in-Ok.raws c.in-Ok.ensures.accepted
