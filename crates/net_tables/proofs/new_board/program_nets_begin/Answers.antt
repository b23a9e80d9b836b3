use Rattle.net_board.specs.NetParts.{net_with}
use Rattle.net_tables.proofs.new_board.program_nets_begin.Goals as goal

pub returns-clause-sound : goal.returns-clause-sound
returns-clause-sound c = λ p f touches routing input parts words.
    c.nets_begin_soundly.ensures (net_with p input touches routing) (c.parts_make_nets.ensures p f touches routing input parts words)

pub returns-clause-in_lockstep : goal.returns-clause-in_lockstep
returns-clause-in_lockstep c = λ p f touches routing input parts words.
    c.nets_simulate_programs.ensures.begins (net_with p input touches routing) (c.parts_make_nets.ensures p f touches routing input parts words)
