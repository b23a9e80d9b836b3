use Rattle.program_nets.proofs.NetParts.{found_operation_parts}
use Rattle.program_nets.proofs.net_parts.are_net_parts.Goals as goal

pub returns : goal.returns
returns c = found_operation_parts c.args.program.now c.args.found.now c.args.found.now.flow c.requires.found.own_flow c.requires.program c.requires.found
