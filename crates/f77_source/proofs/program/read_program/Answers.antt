use Rattle.f77_source.proofs.Lines.{accepted}
use Rattle.f77_source.proofs.program.read_program.Goals as goal

-- src/program.rt:32:21
pub program_of-requires-clause-accepted : goal.program_of-requires-clause-accepted
program_of-requires-clause-accepted c = accepted c.args.bytes.now c.in-Ok.raws c.in-Ok.ensures.accepted
